-- THE ROUNDS IN CODE, over lists of words and numbers, for any number of words per row. Nobody has to believe these:
-- proofs/Theorems says that they leave what the network's own rounds (graph, Rounds.antt) leave.
-- Assumes nothing.
use Rattle.std.specs.Prelude.{false, cond, List, [], ℕ, zero, suc, ◌+◌, ◌*◌, ◌≤◌, ltb, length}
use Rattle.std.proofs.Math.Option.{Option, none, some}
use Rattle.lists.specs.Lists.{range, mapl, overwrite}
use Rattle.graph.specs.Distance.{unreached}
use Rattle.rows.specs.Rows.{row_bit, encode_row, encode_table}
use Rattle.map.specs.Room.{Tables}
use Rattle.layers.specs.Begin.{HoldsEnds}
use Rattle.layers.specs.Layers.{last_layer, search_table}
use Rattle.targets.specs.Reach.{Reached, reach_of}
use Rattle.pairs.specs.Pairs.{Tally, settle_of}
use Rattle.bounds.specs.Bounds.{Marks, marks, leave_of, relax_of}
use Rattle.ranks.specs.Ranks.{pick_in}

pub record Workspace : Type 0 where
  pub paired : Tally
  pub searched : Tables
  pub marked : Marks
  pub candidate : ℕ
  pub searches : ℕ

-- what a search from r to the depth d, with its tables T, says of it, a row being lent for its partners: by the last layer that it hands back
abbrev pub reach_in : ℕ → List ℕ → ℕ → ℕ → Tables → List ℕ → Reached
reach_in W targets r d T row = reach_of W targets T.hops (last_layer W d T.even T.odd) r d row

abbrev pub workspace : Tally → Tables → Marks → ℕ → ℕ → Workspace
workspace t T m c n = record { paired = t; searched = T; marked = m; candidate = c; searches = n }

-- what a finished search from r, with the hop table h and what it says R, does to pairs, marks and candidate
pub record Absorbed : Type 0 where
  pub paired : Tally
  pub marked : Marks
  pub candidate : ℕ

abbrev pub absorbed : Tally → Marks → ℕ → Absorbed
absorbed t m c = record { paired = t; marked = m; candidate = c }

-- the candidate c after a search whose own eccentricity is e
abbrev pub raised : ℕ → ℕ → ℕ
raised c e = cond (ltb c e) e c

-- candidate and pairs go by what is r's own, marks and bounds by its eccentricity; depots whose bound is below the limit are skipped
unfoldable pub taking : ℕ → ℕ → ℕ → ℕ → Reached → List ℕ → Absorbed → Absorbed
taking limit W mark r R h A = record {
  paired = settle_of W R.partners r R.own A.candidate A.paired;
  marked = relax_of W h r R.ecc limit (leave_of W r R.ecc mark A.marked);
  candidate = raised A.candidate R.own;
}

-- they are skipped by the candidate
unfoldable pub absorbing : ℕ → ℕ → ℕ → Reached → List ℕ → Absorbed → Absorbed
absorbing W mark r R h A = taking (raised A.candidate R.own) W mark r R h A

-- nobody is skipped yet: no bound lies below 0
unfoldable pub holding : ℕ → ℕ → ℕ → Reached → List ℕ → Absorbed → Absorbed
holding W mark r R h A = taking 0 W mark r R h A

unfoldable pub absorb_of : ℕ → ℕ → ℕ → Reached → Tables → Workspace → Workspace
absorb_of W mark r R T M =
    let A = absorbing W mark r R T.hops (absorbed M.paired M.marked M.candidate) in
    workspace A.paired T A.marked A.candidate (M.searches + 1)

-- what stood in the row that is lent for the partners is no matter
unfoldable pub round_of : ℕ → List ℕ → List ℕ → ℕ → ℕ → Workspace → Workspace
round_of W targets links mark r M =
    let S = search_table W links r M.searched in
    absorb_of W mark r (reach_in W targets r S.depth S.left []) S.left M

unfoldable pub or_end : Option ℕ → Workspace → (ℕ → Workspace) → Workspace
or_end none M f = M
or_end (some r) M f = f r

unfoldable pub run_of : ℕ → List ℕ → List ℕ → ℕ → ℕ → Workspace → Workspace
run_of W targets links mark zero M = M
run_of W targets links mark (suc k) M =
    or_end (pick_in W links M.marked.waiting) M (λ r. run_of W targets links mark k (round_of W targets links mark r M))

-- ---- the start

-- no pair, no bound, no mark, every open depot remaining
pub record RoundsBegun : Type 0 where
  pub pairs : List ℕ
  pub marked : Marks

abbrev pub rounds_begun : List ℕ → Marks → RoundsBegun
rounds_begun p m = record { pairs = p; marked = m }

unfoldable pub rounds_begin_of : ℕ → ℕ → List ℕ → RoundsBegun → RoundsBegun
rounds_begin_of W other members B =
    rounds_begun (overwrite (encode_table W (λ u v. false)) B.pairs)
    (marks
    (overwrite (mapl (λ v. unreached) (range (64 * W))) B.marked.bounds)
    (overwrite (mapl (λ v. other) (range (64 * W))) B.marked.skips)
    (overwrite (encode_row W (row_bit W members)) B.marked.waiting))

-- ---- what the functions ask

-- the open set and a row of targets, a link table whose bits stand for open codes, a search's memory and a row for partners, of W words a row
pub record RoundRoom (W : ℕ) (members targets links hops even odd left next partners : List ℕ) : Type 0 where
  pub ends : HoldsEnds W members links
  pub target_row : W ≤ length targets
  pub table : W * (64 * W) ≤ length links
  pub hop_places : 64 * W ≤ length hops
  pub even_row : W ≤ length even
  pub odd_row : W ≤ length odd
  pub left_row : W ≤ length left
  pub next_row : W ≤ length next
  pub partner_row : W ≤ length partners
