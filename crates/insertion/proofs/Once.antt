-- A call that searched from the ends of what is new alone: its marks, tables and pairs are the network's. Assumes nothing.
use mathlib.Core.Path.{◌≡◌, refl, ap, ap₂, ◌∙◌}
use mathlib.Core.Logic.{◌⊎◌, inl, inr}
use mathlib.Core.Bool.{Bool, true, false, cond}
use mathlib.Core.List.{List}
use Prim.Native.Nat.{ℕ}
use lib.Dec.{T, eqb}
use lib.ListN.{length}
use borrow.Author.Tests.{eqb-true}
use Rattle.std.proofs.lemmas.Bool.{cases_Bool}
use Rattle.lists.specs.Lists.{range, mapl, last_or, overwrite}
use Rattle.lists.proofs.Tests.{t→true}
use Rattle.lists.proofs.Fills.{fill_ext}
use Rattle.graph.specs.Network.{Network}
use Rattle.graph.specs.Distance.{unreached}
use Rattle.graph.specs.Chart.{Pairs, chart, ecc, count_pairs}
use Rattle.graph.specs.Rounds.{Status, waiting, searched, State, mark_of, bound_of}
use Rattle.graph.specs.Opening.{searched_once}
use Rattle.rows.specs.Rows.{encode_table}
use Rattle.map.specs.Room.{Tables, Lent, lent}
use Rattle.layers.specs.Layers.{search_leaves}
use Rattle.map.specs.Memory.{Shape, places}
use Rattle.pairs.specs.Pairs.{Tally, tally, tally_of, settle_of}
use Rattle.rounds.specs.Leaves.{ran, ran_by, rounds_leave, search_after}
use Rattle.targets.specs.Reach.{Reached}
use Rattle.bounds.specs.Once.{Marked, marking, mark_once as marks_once}
use Rattle.insertion.specs.Steps.{mark_once_in, Joined, joined, join_of}

-- ---- pairs and marks

pub join_is : (K : Shape) (a D : ℕ) (R : Reached) (J : Joined) (t : Tally) (m : Marked) → t ≡ settle_of K.words R.partners a R.own D J.paired
    → m ≡ mark_once_in K a R.ecc J.marked → joined t m ≡ join_of K a R D J
unfolding join_of
join_is K a D R J t m p q = ap₂ joined p q

-- ---- a call whose marks are those of a state, place by place

module _ (K : Shape) (G : Network) (S : State) (bound mark : ℕ → ℕ) (bound_is : (v : ℕ) → bound v ≡ cond (G.is_open v) (bound_of (S.status v)) unreached)
    (mark_is : (v : ℕ) → mark v ≡ cond (G.is_open v) (mark_of K.searched_mark K.other_mark (S.status v)) K.other_mark) where
  -- with the pairs and the tables of that state it leaves what the state does
  pub marks_leave : (B : Lent) (p : List ℕ) (n : ℕ) (m : Marked) (Y : Tables) → tally p n ≡ tally_of K.words S.pairs B.pairs
      → m ≡ marking (overwrite (mapl bound (range (places K))) B.bounds) (overwrite (mapl mark (range (places K))) B.skips)
      → Y ≡ search_after K.words G S.references B.searched
      → ran (lent p Y m.bounds m.skips) S.candidate n (length S.references) ≡ ran_by K G S B
  unfolding ran_by rounds_leave tally_of
  marks_leave B p n m Y t h s =
      ap₂ (λ (x : Tally) (y : Marked). ran (lent x.pairs Y y.bounds y.skips) S.candidate x.count (length S.references)) t h
      ∙ ap (λ (X : Tables). ran (lent (overwrite (encode_table K.words S.pairs) B.pairs) X (overwrite (mapl bound (range (places K))) B.bounds) (overwrite (mapl mark (range (places K))) B.skips)) S.candidate (count_pairs (range (places K)) S.pairs) (length S.references)) s
      ∙ ap₂ (λ (x y : List ℕ). ran (lent (overwrite (encode_table K.words S.pairs) B.pairs) (search_after K.words G S.references B.searched) (overwrite x B.bounds) (overwrite y B.skips)) S.candidate (count_pairs (range (places K)) S.pairs) (length S.references))
      (fill_ext bound (λ v. cond (G.is_open v) (bound_of (S.status v)) unreached) (places K) (λ v l. bound_is v))
      (fill_ext mark (λ v. cond (G.is_open v) (mark_of K.searched_mark K.other_mark (S.status v)) K.other_mark) (places K) (λ v l. mark_is v))

-- the place of an open depot a with the status s, f being what a place says of a status; the other places say it of the status z
pub at-end : (G : Network) (a : ℕ) → T (G.is_open a) → (f : Status → ℕ) (s z : Status) (x y v : ℕ) → y ≡ cond (G.is_open v) (f z) x
    → cond (eqb v a) (f s) y ≡ cond (G.is_open v) (f (cond (eqb v a) s z)) x
at-end G a o f s z x y v h = go (cases_Bool (eqb v a))
  where
    go : (eqb v a ≡ true) ⊎ (eqb v a ≡ false) → cond (eqb v a) (f s) y ≡ cond (G.is_open v) (f (cond (eqb v a) s z)) x
    go (inl q) = rw (q, ap G.is_open (eqb-true v a q) ∙ t→true (G.is_open a) o)
    go (inr q) = rw q h

-- a place that is one for open and closed codes
pub one_place : (b : Bool) (x : ℕ) → x ≡ cond b x x
one_place true x = refl
one_place false x = refl

-- ---- the whole of a call that searched from a alone

module _ (K : Shape) (G : Network) (a : ℕ) (o : T (G.is_open a)) where
  abbrev e : ℕ
  e = ecc (chart G) a

  -- WHAT SUCH A CALL LEAVES, with the chain c and the pairs Q
  pub once_leaves : (c : ℕ) (Q : Pairs) (B : Lent) (p : List ℕ) (n : ℕ) (m : Marked) → tally p n ≡ tally_of K.words Q B.pairs → m ≡ mark_once_in K a e (marking B.bounds B.skips)
      → B.searched ≡ search_leaves K.words G a B.searched
      → ran (lent p B.searched m.bounds m.skips) c n 1 ≡ ran_by K G (searched_once (chart G) a c Q) B
  unfolding searched_once search_after last_or marks_once
  once_leaves c Q B p n m t h s =
      marks_leave K G (searched_once (chart G) a c Q) (λ v. cond (eqb v a) e unreached) (λ v. cond (eqb v a) K.searched_mark K.other_mark)
      (λ v. at-end G a o bound_of (searched e) (waiting unreached 0) unreached unreached v (one_place (G.is_open v) unreached))
      (λ v. at-end G a o (mark_of K.searched_mark K.other_mark) (searched e) (waiting unreached 0) K.other_mark K.other_mark v (one_place (G.is_open v) K.other_mark))
      B p n m B.searched t h s
