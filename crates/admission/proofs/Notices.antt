-- The refusals 5 to 8 of a notice one by one, by the answers of the code's tests. Assumes nothing.
use mathlib.Core.Path.{◌≡◌, refl, sym, ap, ◌∙◌}
use mathlib.Core.Bool.{Bool, true, false, cond, not, ◌&&◌, ◌||◌, not-not}
use mathlib.Core.List.{List, [], ◌∷◌}
use Prim.Native.Nat.{ℕ, suc, ◌*◌}
use native.Mathlib.Omega.{arith}
use lib.Dec.{ltb}
use lib.ListN.{length}
use borrow.Author.Tests.{lt-ltb}
use Rattle.lists.specs.Lists.{range, filterb, anyb, allb, first_of}
use Rattle.rows.specs.Rows.{row_bit}
use Rattle.graph.specs.Network.{Network}
use Rattle.graph.specs.Distance.{vertices}
use Rattle.graph.specs.Opening.{Notice, notice_of, strictly_rising, is_empty, notice_faults, open_faults}
use Rattle.map.specs.Memory.{network_of}

-- ---- refusal 6, by the two tests of `is_lonely`

-- some code is open where a bit of the row is set
filter_some : (p : ℕ → Bool) (xs : List ℕ) → ltb 0 (length (filterb p xs)) ≡ anyb p xs
unfolding filterb anyb
filter_some p [] = refl
filter_some p (x ∷ xs) = go (p x) (filter_some p xs)
  where
    go : (b : Bool) → ltb 0 (length (filterb p xs)) ≡ anyb p xs → ltb 0 (length (cond b (x ∷ filterb p xs) (filterb p xs))) ≡ (b || anyb p xs)
    go true ih = lt-ltb 0 (suc (length (filterb p xs))) (omega arith)
    go false ih = ih

pub lonely_named : (W : ℕ) (members ns : List ℕ) → (length ns ≡ 0 → ⊥) → false ≡ (is_empty ns && ltb 0 (length (vertices (network_of W members []))))
unfolding is_empty
lonely_named W members [] n = absurd (n refl)
lonely_named W members (x ∷ xs) n = refl

pub lonely_first : (W : ℕ) (members ns : List ℕ) {r : Bool} → length ns ≡ 0 → r ≡ not (anyb (row_bit W members) (range (64 * W)))
    → not r ≡ (is_empty ns && ltb 0 (length (vertices (network_of W members []))))
unfolding is_empty network_of
lonely_first W members [] n e = ap not e ∙ not-not (anyb (row_bit W members) (range (64 * W))) ∙ sym (filter_some (row_bit W members) (range (64 * W)))
lonely_first W members (x ∷ xs) n e = absurd (omega arith)

-- ---- each refusal, by its test and those before it

module _ (W : ℕ) (members : List ℕ) (code : ℕ) (ns : List ℕ) where
  abbrev G : Network
  G = network_of W members []

  abbrev O : Notice
  O = notice_of false code ns

  pub refused_taken : row_bit W members code ≡ true → 5 ≡ first_of (open_faults G O)
  unfolding open_faults notice_faults first_of network_of
  refused_taken a = rw a

  pub refused_lonely : row_bit W members code ≡ false → (is_empty ns && ltb 0 (length (vertices G))) ≡ true → 6 ≡ first_of (open_faults G O)
  unfolding open_faults notice_faults first_of network_of
  refused_lonely a b = rw (a, b)

  pub refused_unsorted : row_bit W members code ≡ false → (is_empty ns && ltb 0 (length (vertices G))) ≡ false → strictly_rising ns ≡ false
      → 7 ≡ first_of (open_faults G O)
  unfolding open_faults notice_faults first_of network_of
  refused_unsorted a b c = rw (a, b, c)

  pub refused_unknown : row_bit W members code ≡ false → (is_empty ns && ltb 0 (length (vertices G))) ≡ false → strictly_rising ns ≡ true
      → allb (row_bit W members) ns ≡ false
      → 8 ≡ first_of (open_faults G O)
  unfolding open_faults notice_faults first_of network_of
  refused_unknown a b c d = rw (a, b, c, d)

  pub refused_never : row_bit W members code ≡ false → (is_empty ns && ltb 0 (length (vertices G))) ≡ false → strictly_rising ns ≡ true
      → allb (row_bit W members) ns ≡ true
      → 0 ≡ first_of (open_faults G O)
  unfolding open_faults notice_faults first_of network_of
  refused_never a b c d = rw (a, b, c, d)

-- the first test that fails is the answer
pub ruleset refusals = (refused_taken, refused_lonely, refused_unsorted, refused_unknown, refused_never)
