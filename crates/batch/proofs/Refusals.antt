-- The refusals 11, 12 and 9 of a batch one by one, by the answers of the code's tests. Assumes nothing.
use mathlib.Core.Path.{◌≡◌, refl, sym, ap, ◌∙◌}
use mathlib.Core.Bool.{Bool, true, false, not}
use mathlib.Core.List.{List, []}
use Prim.Native.Nat.{ℕ, ◌*◌, ◌≤◌, ◌<◌}
use lib.Dec.{ltb}
use lib.ListN.{length}
use borrow.Author.Tests.{lt-ltb, le-ltb}
use Rattle.lists.specs.Lists.{range, anyb, allb, first_of}
use Rattle.outcome.specs.Numbers.{overfull_batch, bare_map, garbled_line}
use Rattle.graph.specs.Distance.{vertices}
use Rattle.graph.specs.Opening.{is_empty}
use Rattle.rows.specs.Rows.{row_bit}
use Rattle.map.specs.Memory.{network_of}
use Rattle.admission.proofs.Notices.{lonely_first}
use Rattle.notice.specs.Lines.{lines_of}
use Rattle.batch.specs.Lines.{batch_limit, is_opening, batch_faults}

module _ (W : ℕ) (members input : List ℕ) where
  abbrev number : ℕ
  number = length (vertices (network_of W members []))

  -- a row without a bit is an open set without a depot
  bare : {e : Bool} → e ≡ not (anyb (row_bit W members) (range (64 * W))) → not (ltb 0 number) ≡ e
  unfolding is_empty
  bare {e} q = ap not (sym (lonely_first W members [] refl q)) ∙ twice e
    where
      twice : (b : Bool) → not (not b) ≡ b
      twice true = refl
      twice false = refl

  module _ {k : ℕ} (count : k ≡ length (lines_of input)) where
    pub refused_overfull : batch_limit < k → overfull_batch ≡ first_of (batch_faults number input)
    unfolding batch_faults first_of
    refused_overfull h = rw (← count, lt-ltb batch_limit k h)

    module _ (few : k ≤ batch_limit) {e : Bool} (empty : e ≡ not (anyb (row_bit W members) (range (64 * W)))) where
      pub refused_bare : e ≡ true → bare_map ≡ first_of (batch_faults number input)
      unfolding batch_faults first_of
      refused_bare h = rw (← count, le-ltb batch_limit k few, bare empty, h)

      pub refused_garbled : e ≡ false → allb is_opening (lines_of input) ≡ false → garbled_line ≡ first_of (batch_faults number input)
      unfolding batch_faults first_of
      refused_garbled h q = rw (← count, le-ltb batch_limit k few, bare empty, h, q)

      pub refused_nothing : e ≡ false → allb is_opening (lines_of input) ≡ true → 0 ≡ first_of (batch_faults number input)
      unfolding batch_faults first_of
      refused_nothing h q = rw (← count, le-ltb batch_limit k few, bare empty, h, q)

pub ruleset refused_lines = (refused_overfull, refused_bare, refused_garbled, refused_nothing)
