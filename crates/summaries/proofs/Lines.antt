-- The pieces of a line put one behind another, the totals with a file, and what the calls leave. Assumes nothing.
use mathlib.Core.Path.{◌≡◌, ap}
use mathlib.Core.List.{List, ◌++◌}
use Prim.Native.Nat.{ℕ, ◌+◌, ◌^◌, ◌≤◌, ◌<◌}
use native.Mathlib.Omega.{arith}
use lib.ListN.{length, set, take, drop, length-set}
use lib.Seq.{drop-drop}
use Rattle.lists.specs.Lists.{overwrite}
use Rattle.decimal.specs.Decimal.{decimal, field}
use Rattle.decimal.specs.Placed.{Placed}
use Rattle.decimal.proofs.Decimals.{decimal_long, decimal_byte}
use Rattle.decimal.proofs.Places.{placed_byte, placed_join}
use Rattle.decimal.proofs.Numbers.{field-length}
use Rattle.std.specs.Prelude.{Ok, Err}
use Rattle.summary.specs.declared.Summary.{Summary}
use Rattle.summaries.specs.Run.{summing_text}
use Rattle.line_buffer.specs.Lines.{pasted}

-- ---- a line

pub field_most : (n : ℕ) → n < 2 ^ 64 → length (field (decimal n)) ≤ 21
field_most n h = omega (arith, field-length (decimal n), decimal_long n h)

-- what is known of the lengths that a line is made of
pub ruleset widths = (decimal_long, decimal_byte, field_most, length-set)

pub numbers_placed : (x : Summary) {at e₁ e₂ e₃ e₄ : ℕ} {out b₁ b₂ b₃ b₄ : List ℕ}
    → Placed (decimal x.sum) at out e₁ b₁ → Placed (field (decimal x.pairs)) e₁ b₁ e₂ b₂ → Placed (field (decimal x.quotient)) e₂ b₂ e₃ b₃ → Placed (field (decimal x.remainder)) e₃ b₃ e₄ b₄
    → at ≤ length out → e₄ < length b₄ → Placed (summing_text (Ok x)) at out (e₄ + 1) (set b₄ e₄ 10)
unfolding summing_text
numbers_placed x {e₄ = e₄} {b₄ = b₄} a b c d h l = placed_join (placed_join (placed_join (placed_join a b h) c h) d h) (placed_byte e₄ b₄ 10 l) h

pub refusal_placed : (n at : ℕ) (out : List ℕ) {end : ℕ} {new : List ℕ} → Placed (decimal n) (at + 1) (set out at 82) end new
    → at < length out → end < length new → Placed (summing_text (Err n)) at out (end + 1) (set new end 10)
unfolding summing_text
refusal_placed n at out {end} {new} w h l = placed_join (placed_join (placed_byte at out 82 h) w (omega arith)) (placed_byte end new 10 l) (omega arith)

-- ---- the calls

-- a text pasted, as it stands where it is `Placed`
pub pasted_text : (text : List ℕ) (at : ℕ) (out : List ℕ) → pasted text at out ≡ take at out ++ (text ++ drop (at + length text) out)
unfolding pasted overwrite
pasted_text text at out = ap (λ (r : List ℕ). take at out ++ (text ++ r)) (drop-drop (length text) at out)
