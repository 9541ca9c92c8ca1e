-- THE LINE BUFFER: the bytes of a piece up to the end of a line. Assumes nothing.
use mathlib.Core.Path.{◌≡◌, refl, sym, ap, ◌∙◌}
use mathlib.Core.Bool.{Bool, true, false, cond}
use mathlib.Core.List.{List, [], ◌∷◌}
use Prim.Native.Nat.{ℕ, suc, ◌+◌, ◌≤◌, ◌<◌}
use native.Mathlib.Numerals.{add-one}
use native.Mathlib.Omega.{arith}
use lib.Dec.{eqb, ltb}
use lib.ListN.{length, get_or, set, drop, drop_of_length-le}
use lib.Seq.{drop-cons}
use borrow.Author.Tests.{eq-eqb, ne_eqb, lt-ltb, le-ltb, ltb-true}
use Rattle.notice.specs.Lines.{line_limit, line_end}
use Rattle.line_buffer.specs.Lines.{Holding, holding, hold_byte, PartLeft, part_from}

-- ---- the bytes of a piece from a place on, which end at e: none is left, the next ends the line, or it does not

pub part_out : (at : ℕ) (h : Holding) (piece : List ℕ) {out : ℕ} {e : PartLeft} → part_from at h (drop at piece) ≡ e → length piece ≤ at → out ≡ at
    → record { at = out; ended = false; buffer = h } ≡ e
unfolding part_from
part_out at h piece v l q = rw q (rw (drop_of_length-le piece l) at v)

byte_here : (at : ℕ) (h : Holding) (piece : List ℕ) → at < length piece → get_or piece at 0 ≡ line_end
    → record { at = at + 1; ended = true; buffer = hold_byte (get_or piece at 0) h } ≡ part_from at h (drop at piece)
unfolding part_from
byte_here at h piece l e = rw (drop-cons piece at 0 l, eq-eqb (get_or piece at 0) line_end e) refl

part_step : (at : ℕ) (h : Holding) (x : ℕ) (xs : List ℕ) → (x ≡ line_end → ⊥) → part_from (at + 1) (hold_byte x h) xs ≡ part_from at h (x ∷ xs)
unfolding part_from
part_step at h x xs n = rw (ne_eqb x line_end n)

byte_on : (at : ℕ) (h : Holding) (piece : List ℕ) → at < length piece → (get_or piece at 0 ≡ line_end → ⊥)
    → part_from (at + 1) (hold_byte (get_or piece at 0) h) (drop (at + 1) piece) ≡ part_from at h (drop at piece)
byte_on at h piece l n =
    ap (λ (k : ℕ). part_from (at + 1) (hold_byte (get_or piece at 0) h) (drop k piece)) (add-one at)
    ∙ part_step at h (get_or piece at 0) (drop (suc at) piece) n
    ∙ sym (ap (part_from at h) (drop-cons piece at 0 l))

-- ---- where bytes are kept

kept : (line : List ℕ) (held b : ℕ) → held < line_limit → holding (set line held b) (held + 1) ≡ hold_byte b (holding line held)
unfolding hold_byte
kept line held b k = rw (lt-ltb held line_limit k) refl

pub part_here : (at : ℕ) (line : List ℕ) (held : ℕ) (piece : List ℕ) {e : PartLeft} → part_from at (holding line held) (drop at piece) ≡ e
    → held < line_limit → at < length piece → get_or piece at 0 ≡ line_end
    → record { at = at + 1; ended = true; buffer = holding (set line held (get_or piece at 0)) (held + 1) } ≡ e
part_here at line held piece v k l e =
    ap (λ (g : Holding). record { at = at + 1; ended = true; buffer = g }) (kept line held (get_or piece at 0) k) ∙ byte_here at (holding line held) piece l e ∙ v

pub part_on : (at : ℕ) (line : List ℕ) (held : ℕ) (piece : List ℕ) {e : PartLeft} → part_from at (holding line held) (drop at piece) ≡ e
    → held < line_limit → at < length piece → (get_or piece at 0 ≡ line_end → ⊥)
    → part_from (at + 1) (holding (set line held (get_or piece at 0)) (held + 1)) (drop (at + 1) piece) ≡ e
part_on at line held piece v k l n =
    ap (λ (g : Holding). part_from (at + 1) g (drop (at + 1) piece)) (kept line held (get_or piece at 0) k) ∙ byte_on at (holding line held) piece l n ∙ v

-- ---- where none is

past : (line : List ℕ) (held b : ℕ) → line_limit ≤ held → holding line held ≡ hold_byte b (holding line held)
unfolding hold_byte
past line held b k = rw (le-ltb held line_limit k) refl

pub past_here : (at : ℕ) (line : List ℕ) (held : ℕ) (piece : List ℕ) {e : PartLeft} → part_from at (holding line held) (drop at piece) ≡ e
    → line_limit ≤ held → at < length piece → get_or piece at 0 ≡ line_end
    → record { at = at + 1; ended = true; buffer = holding line held } ≡ e
past_here at line held piece v k l e =
    ap (λ (g : Holding). record { at = at + 1; ended = true; buffer = g }) (past line held (get_or piece at 0) k) ∙ byte_here at (holding line held) piece l e ∙ v

pub past_on : (at : ℕ) (line : List ℕ) (held : ℕ) (piece : List ℕ) {e : PartLeft} → part_from at (holding line held) (drop at piece) ≡ e
    → line_limit ≤ held → at < length piece → (get_or piece at 0 ≡ line_end → ⊥)
    → part_from (at + 1) (holding line held) (drop (at + 1) piece) ≡ e
past_on at line held piece v k l n =
    ap (λ (g : Holding). part_from (at + 1) g (drop (at + 1) piece)) (past line held (get_or piece at 0) k) ∙ byte_on at (holding line held) piece l n ∙ v

-- ---- a part holds at most a line

hold_most : (b : ℕ) (h : Holding) → h.held ≤ line_limit → (hold_byte b h).held ≤ line_limit
unfolding hold_byte
hold_most b h l = go (ltb h.held line_limit) refl
  where
    go : (x : Bool) → ltb h.held line_limit ≡ x → (cond x (holding (set h.line h.held b) (h.held + 1)) h).held ≤ line_limit
    go true e = omega (arith, ltb-true h.held line_limit e)
    go false e = l

pub part_most : (at : ℕ) (h : Holding) (bs : List ℕ) → h.held ≤ line_limit → (part_from at h bs).buffer.held ≤ line_limit
unfolding part_from
part_most at h [] l = l
part_most at h (b ∷ bs) l = go (eqb b line_end) (hold_most b h l) (part_most (at + 1) (hold_byte b h) bs (hold_most b h l))
  where
    go : (x : Bool) → (hold_byte b h).held ≤ line_limit → (part_from (at + 1) (hold_byte b h) bs).buffer.held ≤ line_limit
        → (cond x (record { at = at + 1; ended = true; buffer = hold_byte b h }) (part_from (at + 1) (hold_byte b h) bs)).buffer.held ≤ line_limit
    go true p q = p
    go false p q = q
