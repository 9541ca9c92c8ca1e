-- A STEP THAT NOTHING REFUSES: every test passed. Assumes nothing.
use mathlib.Core.Path.{◌≡◌, refl, sym}
use mathlib.Core.Bool.{Bool, true, false, cond, ◌||◌}
use mathlib.Core.List.{List}
use Prim.Native.Nat.{ℕ, ◌≤◌}
use native.Mathlib.Nat.{lt_irrefl}
use native.Mathlib.Omega.{arith}
use lib.Dec.{ltb}
use lib.ListN.{length}
use borrow.Author.Tests.{ltb-false}
use Rattle.map.specs.Memory.{base}
use Rattle.map.specs.Room.{Sizes}
use Rattle.notice.specs.Lines.{line_limit}
use Rattle.report.specs.Line.{buffer_limit}
use Rattle.update.specs.Steps.{map_refusal}
use Rattle.c_values.specs.Words.{record_words, record_of}
use Rattle.c_values.specs.Refusal.{step_refusal}

module _ (l links pairs : List ℕ) (z : Sizes) (line out held : ℕ) where
  abbrev said : ℕ
  said = step_refusal l links pairs z line out held

  pub step_granted : said ≡ 0 → (record_words ≤ length l) × (line_limit ≤ line) × (held ≤ line_limit) × (map_refusal base (record_of l) links pairs z ≡ 0)
  unfolding step_refusal
  step_granted e = go (ltb (length l) record_words) (ltb line line_limit) (ltb out buffer_limit) (ltb line_limit held) refl refl refl e
    where
      go : (s t u v : Bool) → ltb (length l) record_words ≡ s → ltb line line_limit ≡ t → ltb line_limit held ≡ v → cond (s || t || u || v) 1 (map_refusal base (record_of l) links pairs z) ≡ 0
          → (record_words ≤ length l) × (line_limit ≤ line) × (held ≤ line_limit) × (map_refusal base (record_of l) links pairs z ≡ 0)
      go false false false false p q r e = (ltb-false _ _ p, ltb-false _ _ q, ltb-false _ _ r, e)
      go true t u v p q r e = absurd (lt_irrefl 0 (omega (arith, e)))
      go false true u v p q r e = absurd (lt_irrefl 0 (omega (arith, e)))
      go false false true v p q r e = absurd (lt_irrefl 0 (omega (arith, e)))
      go false false false true p q r e = absurd (lt_irrefl 0 (omega (arith, e)))

  pub step_room : 0 ≡ said → record_words ≤ length l
  step_room e = (step_granted (sym e)).0
