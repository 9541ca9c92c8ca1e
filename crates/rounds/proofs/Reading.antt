-- THE TABLES THAT A STATE OF THE ROUNDS LEAVES, read back: pair bits, marks, number of searches, eccentricities, what skipped the other depots, the
-- last search. Of a reckoning and of every update. Assumes nothing.
use mathlib.Core.Path.{◌≡◌, refl, sym, ap, ◌∙◌, subst, fun_ext}
use mathlib.Core.Logic.{◌↔◌}
use mathlib.Core.Bool.{Bool, true, false, cond, not}
use mathlib.Core.List.{List, [], ◌∷◌, Memᴰ}
use Prim.Native.Nat.{ℕ, ◌≤◌, ◌<◌}
use native.Mathlib.Nat.{lt_irrefl}
use native.Mathlib.Omega.{arith}
use lib.Dec.{T, eqb}
use lib.ListN.{length, get_or}
use borrow.Author.Tests.{eqb-true, eq-eqb, lt-ltb}
use Rattle.lists.specs.Lists.{range, countb, memb, mapl, last_or, overwrite}
use Rattle.lists.proofs.Tests.{t→true, true→t, false→not, not→false, clash, same_test}
use Rattle.lists.proofs.Members.{range_out, in_memb}
use Rattle.lists.proofs.Counts.{count_le_length, count_ext}
use Rattle.lists.proofs.Distinct.{memb-range, distinct-range, count_either}
use Rattle.lists.proofs.Fills.{fill_at}
use Rattle.graph.specs.Network.{Network, IsSound, IsEcc, delivers}
use Rattle.graph.specs.Distance.{vertices, unreached}
use Rattle.graph.specs.Chart.{Pairs, chart, ecc}
use Rattle.graph.specs.Rounds.{Status, waiting, skipped, searched, is_waiting, State, mark_of, bound_of}
use Rattle.graph.specs.Correct.{IsNet, Stands, AreReferences, IsSkipped, AllSkipped}
use Rattle.rows.specs.Rows.{table_bit, encode_table}
use Rattle.rows.proofs.Written.{table_within}
use Rattle.map.specs.Memory.{Shape, IsShape, places}
use Rattle.map.specs.Room.{Lent, sizes_of, AreLong}
use Rattle.layers.specs.Layers.{depth_from}
use Rattle.search.specs.declared.Reach.{Reach}
use Rattle.search.specs.SearchCall.{reach}
use Rattle.search.specs.Correct.{IsSearch}
use Rattle.search.proofs.Theorems.{leaves_search}
use Rattle.rounds.specs.Leaves.{search_after}

-- ---- a pair table is read as it was written

pub pairs_read : (K : Shape) (G : Network) → ((v : ℕ) → T (G.is_open v) → v < places K) → (P : Pairs) → ((u v : ℕ) → T (P u v) → T (G.is_open u) × T (G.is_open v)) → (old : List ℕ)
    → table_bit K.words (overwrite (encode_table K.words P) old) ≡ P
pairs_read K G below P ends old =
    fun_ext (λ u. fun_ext (λ v. table_within K.words P old (λ u v t. let o = ends u v t in (below u o.0, below v o.1)) u v))

-- ---- skip and bound table, at the place of a code

module _ (K : Shape) (G : Network) (S : State) where
  abbrev mark_at : ℕ → ℕ
  mark_at v = cond (G.is_open v) (mark_of K.searched_mark K.other_mark (S.status v)) K.other_mark

  abbrev bound_at : ℕ → ℕ
  bound_at v = cond (G.is_open v) (bound_of (S.status v)) unreached

  module _ (old_skips old_bounds : List ℕ) where
    abbrev skips : List ℕ
    skips = overwrite (mapl mark_at (range (places K))) old_skips

    abbrev bounds : List ℕ
    bounds = overwrite (mapl bound_at (range (places K))) old_bounds

    -- by whether it is open
    skip_at : (v : ℕ) (b : Bool) → v < places K → G.is_open v ≡ b → get_or skips v 0 ≡ cond b (mark_of K.searched_mark K.other_mark (S.status v)) K.other_mark
    skip_at v b l e = fill_at mark_at old_skips (places K) v 0 l ∙ ap (λ (c : Bool). cond c (mark_of K.searched_mark K.other_mark (S.status v)) K.other_mark) e

    bound_at_lem : (v : ℕ) (b : Bool) → v < places K → G.is_open v ≡ b → get_or bounds v 0 ≡ cond b (bound_of (S.status v)) unreached
    bound_at_lem v b l e = fill_at bound_at old_bounds (places K) v 0 l ∙ ap (λ (c : Bool). cond c (bound_of (S.status v)) unreached) e

    -- the reference that skipped a depot, and its bound
    pub skip_bound : AllSkipped G S → (v : ℕ) → v < places K → T (G.is_open v) → T (not (memb v S.references))
        → IsSkipped G S.references S.candidate v (get_or skips v 0) (get_or bounds v 0)
    skip_bound all v l o n =
        let x = all v o n in
        let e = t→true (G.is_open v) o in
        let mark : get_or skips v 0 ≡ x.0 = skip_at v true l e ∙ ap (mark_of K.searched_mark K.other_mark) x.2 in
        let bound : get_or bounds v 0 ≡ x.1 = bound_at_lem v true l e ∙ ap bound_of x.2 in
        rw (mark, bound) x.3

    pub closed_at : (v : ℕ) → v < places K → (T (G.is_open v) → ⊥) → (get_or skips v 0 ≡ K.other_mark) × (get_or bounds v 0 ≡ unreached)
    closed_at v l c = let e = not→false (G.is_open v) c in (skip_at v false l e, bound_at_lem v false l e)

    -- a depot that no reference gave a bound stands like a closed code
    pub waiting_at : (v : ℕ) → v < places K → T (is_waiting (S.status v)) → (get_or skips v 0 ≡ K.other_mark) × (get_or bounds v 0 ≡ unreached)
    waiting_at v l w =
        let m = mark (S.status v) w in
        (skip_at v (G.is_open v) l refl ∙ either (G.is_open v) m.0, bound_at_lem v (G.is_open v) l refl ∙ either (G.is_open v) m.1)
      where
        mark : (s : Status) → T (is_waiting s) → (mark_of K.searched_mark K.other_mark s ≡ K.other_mark) × (bound_of s ≡ unreached)
        mark (waiting b g) w = (refl, refl)
        mark (skipped b g) w = absurd w
        mark (searched e) w = absurd w

        either : (b : Bool) {x y : ℕ} → x ≡ y → cond b x y ≡ y
        either true e = e
        either false e = refl

  -- ---- they tell the searched depots and their eccentricities

  module _ (shape : IsShape K) (below : (v : ℕ) → T (G.is_open v) → v < places K) (references : AreReferences G S) where
    unmarked : (v : ℕ) → T (not (memb v S.references)) → T (memb v S.references) → ⊥
    unmarked v n h = clash {b = not (memb v S.references)} (t→true (not (memb v S.references)) n) (ap not (t→true (memb v S.references) h))

    mark_at_lem : (v : ℕ) → (mark_at v ≡ K.searched_mark) ↔ T (memb v S.references)
    mark_at_lem v = at (G.is_open v) refl
      where
        stands_at : (s : Status) → Stands G S.references v s → (mark_of K.searched_mark K.other_mark s ≡ K.searched_mark) ↔ T (memb v S.references)
        stands_at (waiting b g) f = (λ q. absurd (shape.marks_differ (sym q)), λ h. absurd (unmarked v f h))
        stands_at (skipped b g) f =
            (λ q. let l : g < places K = below g (references.inside g f.1) in let p : places K ≤ K.searched_mark = shape.searched_free in absurd (lt_irrefl g (omega arith)), λ h. absurd (unmarked v f.0 h))
        stands_at (searched e) f = (λ q. f.0, λ h. refl)

        at : (b : Bool) → G.is_open v ≡ b → (cond b (mark_of K.searched_mark K.other_mark (S.status v)) K.other_mark ≡ K.searched_mark) ↔ T (memb v S.references)
        at true e = stands_at (S.status v) (references.stands v (true→t e))
        at false e = (λ q. absurd (shape.marks_differ (sym q)), λ h. absurd (false→not e (references.inside v h)))

    pub skip_marks : (old : List ℕ) (v : ℕ) → v < places K → (get_or (overwrite (mapl mark_at (range (places K))) old) v 0 ≡ K.searched_mark) ↔ T (memb v S.references)
    skip_marks old v l =
        let e = fill_at mark_at old (places K) v 0 l in
        (λ q. (mark_at_lem v).0 (sym e ∙ q), λ h. e ∙ (mark_at_lem v).1 h)

    skip_test : (old : List ℕ) (v : ℕ) → v < places K → eqb (get_or (overwrite (mapl mark_at (range (places K))) old) v 0) K.searched_mark ≡ memb v S.references
    skip_test old v l =
        let x = get_or (overwrite (mapl mark_at (range (places K))) old) v 0 in
        same_test (eqb x K.searched_mark) (memb v S.references)
        (λ q. t→true _ ((skip_marks old v l).0 (eqb-true x K.searched_mark q)))
        (λ h. eq-eqb x K.searched_mark ((skip_marks old v l).1 (true→t h)))

    -- so many are marked as there were searches
    pub skips_counted : IsSound G → (old : List ℕ) → length S.references ≡ countb (λ v. eqb (get_or (overwrite (mapl mark_at (range (places K))) old) v 0) K.searched_mark) (range (places K))
    skips_counted sound old =
        references.distinct
        ∙ count_either (λ v. memb v S.references) (vertices G) (range (places K)) sound.once (distinct-range (places K))
        (λ v h. sym (sound.listed v) ∙ t→true (G.is_open v) (references.inside v (true→t h)))
        (λ v h. memb-range (places K) v ∙ lt-ltb v (places K) (below v (references.inside v (true→t h))))
        ∙ sym (count_ext _ (λ v. memb v S.references) (range (places K)) (λ v m. skip_test old v (range_out (places K) m)))

    pub bound_ecc : (old : List ℕ) (v : ℕ) → T (memb v S.references) → IsEcc G (delivers G) v (get_or (overwrite (mapl bound_at (range (places K))) old) v 0)
    bound_ecc old v h =
        let o = references.inside v h in
        subst (λ (x : ℕ). IsEcc G (delivers G) v x) (sym (bound_at_lem [] old v true (below v o) (t→true (G.is_open v) o))) (go (S.status v) (references.stands v o))
      where
        go : (s : Status) → Stands G S.references v s → IsEcc G (delivers G) v (bound_of s)
        go (waiting b g) f = absurd (unmarked v f h)
        go (skipped b g) f = absurd (unmarked v f.0 h)
        go (searched e) f = f.1

-- no more searches than depots are open
pub few_searches : (G : Network) (S : State) → AreReferences G S → length S.references ≤ length (vertices G)
few_searches G S references = omega (arith, references.distinct, count_le_length (λ v. memb v S.references) (vertices G))

-- ---- hop table and layer rows are those of the last search

-- the last of a list is in it
last_in : (r : ℕ) (rs : List ℕ) → Memᴰ (last_or r rs) (r ∷ rs)
unfolding last_or
last_in r [] = Memᴰ.head refl
last_in r (s ∷ rs) = Memᴰ.tail (last_in s rs)

pub last_search : (K : Shape) (G : Network) → IsNet G → ((v : ℕ) → T (G.is_open v) → v < places K) → (S : State) → AreReferences G S → (links : List ℕ) (B : Lent) → AreLong K (sizes_of links B)
    → (r : ℕ) (rs : List ℕ) → S.references ≡ r ∷ rs
    → (s : Reach) × IsSearch K G (last_or r rs) B.searched s (search_after K.words G S.references B.searched)
unfolding search_after sizes_of
last_search K G net below S references links B long r rs q =
    let s = last_or r rs in
    let m : T (memb s S.references) = true→t (ap (memb s) q ∙ in_memb s (r ∷ rs) (last_in r rs)) in
    let found = reach (ecc (chart G) s) (depth_from G s) in
    let left = leaves_search K G net below s (references.inside s m) B.searched long.hops long.even long.odd in
    (found, subst (λ (l : List ℕ). IsSearch K G s B.searched found (search_after K.words G l B.searched)) (sym q) left)
