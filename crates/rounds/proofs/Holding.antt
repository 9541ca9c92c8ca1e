-- What the code's workspace holds while the rounds go on: the state of the network's rounds. Assumes nothing.
use mathlib.Core.Path.{◌≡◌, refl, sym, ap}
use mathlib.Core.Bool.{Bool, cond, ◌&&◌}
use mathlib.Core.List.{List, [], ◌∷◌, ◌++◌}
use Prim.Native.Nat.{ℕ, ◌*◌}
use native.Mathlib.Omega.{arith}
use lib.Dec.{eqb}
use lib.ListN.{length}
use Rattle.lists.specs.Lists.{range, mapl, last_or, overwrite}
use Rattle.lists.proofs.Fills.{overwrite_twice, length_fill}
use Rattle.graph.specs.Network.{Network}
use Rattle.graph.specs.Distance.{unreached, dist}
use Rattle.graph.specs.Chart.{count_pairs}
use Rattle.graph.specs.Rounds.{Status, waiting, skipped, searched, is_waiting, State}
use Rattle.rows.specs.Rows.{encode_row, encode_table}
use Rattle.rows.proofs.Wholes.{row_over}
use Rattle.layers.specs.Layers.{depth_from, layer_bit, search_leaves}
use Rattle.map.specs.Room.{Tables}
use Rattle.rounds.specs.Leaves.{search_after}
use Rattle.rounds.specs.Workspace.{Workspace}

-- the bound table's place of an open depot while the rounds go on, and the skip table's: a depot that no reference has reached yet has the
-- mark of any other
abbrev pub run_bound : Status → ℕ
run_bound (waiting b g) = b
run_bound (skipped b g) = b
run_bound (searched e) = e

abbrev pub run_mark : ℕ → ℕ → Status → ℕ
run_mark mark other (waiting b g) = cond (eqb b unreached) other g
run_mark mark other (skipped b g) = g
run_mark mark other (searched e) = mark

-- the buffers that the workspace was written over
pub record Origin : Type 0 where
  pub searched : Tables
  pub pairs : List ℕ
  pub bounds : List ℕ
  pub skips : List ℕ
  pub waiting : List ℕ

unfoldable pub bound_place : Network → State → ℕ → ℕ
bound_place G S v = cond (G.is_open v) (run_bound (S.status v)) unreached

unfoldable pub skip_place : ℕ → ℕ → Network → State → ℕ → ℕ
skip_place mark other G S v = cond (G.is_open v) (run_mark mark other (S.status v)) other

unfoldable pub waiting_place : Network → State → ℕ → Bool
waiting_place G S v = G.is_open v && is_waiting (S.status v)

pub record Holds (W mark other : ℕ) (G : Network) (O : Origin) (S : State) (M : Workspace) : Type 0 where
  pub tables_are : M.searched ≡ search_after W G S.references O.searched
  pub pairs_are_lem : M.paired.pairs ≡ overwrite (encode_table W S.pairs) O.pairs
  pub count_is : M.paired.count ≡ count_pairs (range (64 * W)) S.pairs
  pub bounds_are : M.marked.bounds ≡ overwrite (mapl (bound_place G S) (range (64 * W))) O.bounds
  pub skips_are : M.marked.skips ≡ overwrite (mapl (skip_place mark other G S) (range (64 * W))) O.skips
  pub waiting_is : M.marked.waiting ≡ overwrite (encode_row W (waiting_place G S)) O.waiting
  pub candidate_is : M.candidate ≡ S.candidate
  pub searches_are : M.searches ≡ length S.references

-- ---- a search over the tables that an earlier one left

pub leaves_over : (W : ℕ) (G : Network) (s r : ℕ) (T : Tables) → search_leaves W G r (search_leaves W G s T) ≡ search_leaves W G r T
unfolding search_leaves
leaves_over W G s r T =
    rw (
      overwrite_twice (mapl (dist G r) (range (64 * W))) (mapl (dist G s) (range (64 * W))) T.hops (omega (arith, length_fill (dist G r) (64 * W), length_fill (dist G s) (64 * W))),
      row_over W (layer_bit (dist G r) (depth_from G r) 0) (layer_bit (dist G s) (depth_from G s) 0) T.even,
      row_over W (layer_bit (dist G r) (depth_from G r) 1) (layer_bit (dist G s) (depth_from G s) 1) T.odd,
    )

pub after_over : (W : ℕ) (G : Network) (refs : List ℕ) (r : ℕ) (T : Tables) → search_leaves W G r (search_after W G refs T) ≡ search_leaves W G r T
unfolding search_after
after_over W G [] r T = refl
after_over W G (x ∷ xs) r T = leaves_over W G (last_or x xs) r T

last_snoc : (x : ℕ) (xs : List ℕ) (r : ℕ) → last_or x (xs ++ (r ∷ [])) ≡ r
unfolding last_or
last_snoc x [] r = refl
last_snoc x (y ∷ ys) r = last_snoc y ys r

pub after_snoc : (W : ℕ) (G : Network) (refs : List ℕ) (r : ℕ) (T : Tables) → search_leaves W G r T ≡ search_after W G (refs ++ (r ∷ [])) T
unfolding search_after last_or
after_snoc W G [] r T = refl
after_snoc W G (x ∷ xs) r T = ap (λ (s : ℕ). search_leaves W G s T) (sym (last_snoc x xs r))
