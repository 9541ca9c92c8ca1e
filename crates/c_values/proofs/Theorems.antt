-- THEOREMS: an answer's number names its outcome; what is written into the record's words is what is read from them. Assumes nothing.
use mathlib.Core.Path.{◌≡◌, refl, ap}
use mathlib.Core.List.{List, [], ◌∷◌, ◌++◌}
use Prim.Native.Nat.{ℕ, ◌<◌}
use native.Mathlib.Nat.{lt_irrefl}
use native.Mathlib.Omega.{arith}
use lib.ListN.{length, get_or, take, drop}
use lib.Seq.{take_at}
use borrow.Author.Tests.{ne_eqb}
use Rattle.lists.specs.Lists.{overwrite}
use Rattle.map.specs.declared.Record.{Record}
use Rattle.outcome.specs.Outcome.{letter_of}
use Rattle.outcome.specs.declared.Change.{Change as ChainChange}
use Rattle.outcome.specs.declared.Change.TheVariants.{Grew, Kept, Shrank}
use Rattle.outcome.specs.declared.Outcome.TheVariants.{Accepted, Refused}
use Rattle.c_values.specs.Words.{record_of, words_of}
use Rattle.c_values.specs.Outcomes.{outcome_of}

-- ---- an answer's number

pub outcome_of_letter : (c : ChainChange) → outcome_of (letter_of (Accepted c)) ≡ Accepted c
unfolding outcome_of letter_of
outcome_of_letter Grew = refl
outcome_of_letter Kept = refl
outcome_of_letter Shrank = refl

pub outcome_of_refusal : (k : ℕ) → k < 10 → outcome_of k ≡ Refused k
unfolding outcome_of
outcome_of_refusal k l = rw (ne_eqb k 71 (λ e. lt_irrefl 0 (omega (arith, l, e))), ne_eqb k 75 (λ e. lt_irrefl 0 (omega (arith, l, e))), ne_eqb k 83 (λ e. lt_irrefl 0 (omega (arith, l, e))))

-- ---- the record's words

-- WRITTEN IS READ
pub words_read : (rec : Record) (l : List ℕ) → length rec.members ≡ 4 → length rec.yards ≡ 4 → record_of (overwrite (words_of rec) l) ≡ rec
unfolding record_of words_of overwrite
words_read rec l e f = go rec.members e
  where
    go : (members : List ℕ) → length members ≡ 4
        → let w = members ++ (rec.number ∷ rec.chain ∷ rec.count ∷ rec.yards) in
        let t = w ++ drop (length w) l in
        ◌≡◌ {A = Record} (record { members = take 4 t; number = get_or t 4 0; chain = get_or t 5 0; count = get_or t 6 0; yards = take 4 (drop 7 t) })
        (record { members = members; number = rec.number; chain = rec.chain; count = rec.count; yards = rec.yards })
    go (a ∷ b ∷ c ∷ d ∷ []) e =
        ap (λ (y : List ℕ). record { members = a ∷ b ∷ c ∷ d ∷ []; number = rec.number; chain = rec.chain; count = rec.count; yards = y })
        (take_at rec.yards _ 4 f)
    go [] e = absurd (lt_irrefl 0 (omega (arith, e)))
    go (a ∷ []) e = absurd (lt_irrefl 0 (omega (arith, e)))
    go (a ∷ b ∷ []) e = absurd (lt_irrefl 0 (omega (arith, e)))
    go (a ∷ b ∷ c ∷ []) e = absurd (lt_irrefl 0 (omega (arith, e)))
    go (a ∷ b ∷ c ∷ d ∷ f ∷ members) e = absurd (lt_irrefl 0 (omega (arith, e)))
