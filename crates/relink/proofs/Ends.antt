-- The two ends of a link: the ways through them by the hops of their searches, and a call that searched from them alone. Assumes nothing.
use mathlib.Core.Path.{◌≡◌, ap₂}
use mathlib.Core.Bool.{true, false, cond, not, ◌||◌}
use mathlib.Core.List.{List}
use Prim.Native.Nat.{ℕ, ◌+◌, ◌*◌, ◌<◌, min}
use lib.Dec.{T, eqb}
use lib.ListN.{get_or}
use borrow.Author.Tests.{eq-eqb, ne_eqb}
use Rattle.lists.specs.Lists.{last_or}
use Rattle.graph.specs.Network.{Network}
use Rattle.graph.specs.Distance.{unreached, dist}
use Rattle.graph.specs.Chart.{Pairs, chart, ecc}
use Rattle.graph.specs.Rounds.{waiting, searched, mark_of, bound_of}
use Rattle.graph.specs.Opening.{via}
use Rattle.graph.specs.Linking.{via_either, searched_twice}
use Rattle.map.specs.Room.{Tables, Lent, lent}
use Rattle.map.specs.Memory.{Shape}
use Rattle.layers.specs.Layers.{search_leaves}
use Rattle.pairs.specs.Pairs.{tally, tally_of}
use Rattle.stale_pairs.specs.Stale.{way_by, way_by_either}
use Rattle.bounds.specs.Once.{Marked, marking, mark_twice}
use Rattle.rounds.specs.Leaves.{ran, ran_by, search_after}
use Rattle.insertion.proofs.Dropping.{way_by_search}
use Rattle.insertion.proofs.Once.{marks_leave, at-end, one_place}

-- ---- whether the chain is kept, by the count k of the pairs left and the chain D

pub kept_by_pair : (k D : ℕ) → (k ≡ 0 → ⊥) → true ≡ (not (eqb k 0) || eqb D 0)
kept_by_pair k D n = rw (ne_eqb k 0 n)

pub kept_at_zero : (k D : ℕ) → k ≡ 0 → D ≡ 0 → true ≡ (not (eqb k 0) || eqb D 0)
kept_at_zero k D z y = rw (eq-eqb k 0 z, eq-eqb D 0 y)

pub not_kept : (k D : ℕ) → k ≡ 0 → (D ≡ 0 → ⊥) → false ≡ (not (eqb k 0) || eqb D 0)
not_kept k D z n = rw (eq-eqb k 0 z, ne_eqb D 0 n)

-- ---- the ways

way_by-hops : (W : ℕ) (G : Network) (a : ℕ) (near : List ℕ) → ((v : ℕ) → v < 64 * W → get_or near v 0 ≡ dist G a v) → (u v : ℕ) → u < 64 * W → v < 64 * W
    → way_by near u v ≡ via (chart G) a u v
unfolding via chart
way_by-hops W G a near h u v l m = ap₂ (λ (x y : ℕ). x + y) (h u l) (h v m)

-- by the hops of the one and the tables of the other
pub way_by_both : (W : ℕ) (G : Network) (lo hi : ℕ) (near : List ℕ) (Y : Tables) → ((v : ℕ) → v < 64 * W → get_or near v 0 ≡ dist G lo v) → (u v : ℕ) → u < 64 * W → v < 64 * W
    → way_by_either near (search_leaves W G hi Y).hops u v ≡ via_either (chart G) lo hi u v
unfolding via_either
way_by_both W G lo hi near Y h u v l m = ap₂ (λ (x y : ℕ). min x y) (way_by-hops W G lo near h u v l m) (way_by_search W G hi Y u v l m)

-- ---- the whole of a call that searched from the ends alone

module _ (K : Shape) (G : Network) (lo hi : ℕ) (open-lo : T (G.is_open lo)) (open-hi : T (G.is_open hi)) where
  abbrev e : ℕ
  e = ecc (chart G) lo

  abbrev f : ℕ
  f = ecc (chart G) hi

  -- WHAT SUCH A CALL LEAVES, with the chain c and the pairs Q
  pub twice_leaves : (c : ℕ) (Q : Pairs) (B : Lent) (p : List ℕ) (n : ℕ) (m : Marked) → tally p n ≡ tally_of K.words Q B.pairs
      → m ≡ mark_twice K.words K.searched_mark K.other_mark lo e hi f (marking B.bounds B.skips) → B.searched ≡ search_leaves K.words G hi B.searched
      → ran (lent p B.searched m.bounds m.skips) c n 2 ≡ ran_by K G (searched_twice (chart G) lo hi c Q) B
  unfolding searched_twice search_after last_or mark_twice
  twice_leaves c Q B p n m t h s =
      marks_leave K G (searched_twice (chart G) lo hi c Q) (λ v. cond (eqb v lo) e (cond (eqb v hi) f unreached)) (λ v. cond (eqb v lo) K.searched_mark (cond (eqb v hi) K.searched_mark K.other_mark))
      (λ v. at-end G lo open-lo bound_of (searched e) (cond (eqb v hi) (searched f) (waiting unreached 0)) unreached (cond (eqb v hi) f unreached) v
      (at-end G hi open-hi bound_of (searched f) (waiting unreached 0) unreached unreached v (one_place (G.is_open v) unreached)))
      (λ v. at-end G lo open-lo (mark_of K.searched_mark K.other_mark) (searched e) (cond (eqb v hi) (searched f) (waiting unreached 0)) K.other_mark (cond (eqb v hi) K.searched_mark K.other_mark) v
      (at-end G hi open-hi (mark_of K.searched_mark K.other_mark) (searched f) (waiting unreached 0) K.other_mark K.other_mark v (one_place (G.is_open v) K.other_mark)))
      B p n m B.searched t h s
