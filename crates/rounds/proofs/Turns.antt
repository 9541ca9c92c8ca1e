-- The code's functions, put together: one round, and the loop of rounds. Assumes nothing.
use mathlib.Core.Path.{◌≡◌, refl, sym, ap, ap₂, ◌∙◌, subst}
use mathlib.Core.Logic.{◌≢◌, ◌⊎◌, inl, inr}
use mathlib.Core.Bool.{Bool, true, false}
use mathlib.Core.List.{List, []}
use mathlib.Core.Option.{Option, none, some}
use Prim.Native.Nat.{ℕ, zero, suc, ◌+◌, ◌*◌, ◌≤◌, ◌<◌}
use native.Mathlib.Nat.{lt_irrefl}
use native.Mathlib.Omega.{arith}
use lib.ListN.{length}
use Rattle.std.proofs.lemmas.Bool.{cases_Bool, and_parts}
use Rattle.lists.specs.Lists.{range, filterb, mapl, countb, overwrite}
use Rattle.lists.proofs.Members.{length-range, filter_out, range_in, range_out}
use Rattle.lists.proofs.Counts.{count_lt, count_le_length}
use Rattle.graph.specs.Chart.{chart}
use Rattle.graph.proofs.Rounds.{pick_in_lem}
use Rattle.rows.specs.Rows.{row_bit, encode_row}
use Rattle.rows.proofs.Written.{row_at}
use Rattle.layers.specs.Layers.{Searched, searched, search_table, last_layer}
use Rattle.map.specs.Memory.{table_network}
use Rattle.map.specs.Room.{Tables, tables}
use Rattle.targets.specs.Reach.{Reached}
use Rattle.pairs.proofs.Settling.{settle_counted}
use Rattle.pairs.specs.Pairs.{Tally, tally, tally_of, settle_of, Counted}
use Rattle.pairs.proofs.Tallies.{holds_counted}
use Rattle.bounds.specs.Bounds.{Marks, marks, leave_of, waiting_after, relax_of}
use Rattle.bounds.proofs.Settled.{left_bit}
use Rattle.ranks.specs.Ranks.{pick_in, waiting_of}
use Rattle.ranks.proofs.Ranks.{ranked_row, ranked_all}
use Rattle.rounds.specs.Workspace.{Workspace, workspace, reach_in, Absorbed, absorbed, raised, taking, absorbing, absorb_of, round_of, or_end, run_of, RoundsBegun, rounds_begun, rounds_begin_of}
use Rattle.rounds.proofs.Reaching.{reach_free}
use Rattle.rounds.proofs.Finish.{cleared_table, count_no_pairs}

-- ---- the leaves

-- ---- a search taken in

pub taking_is : (limit W mark r : ℕ) (R : Reached) (h : List ℕ) (A : Absorbed) (t : Tally) (c : ℕ) (m : Marks)
    → t ≡ settle_of W R.partners r R.own A.candidate A.paired
    → c ≡ raised A.candidate R.own → m ≡ relax_of W h r R.ecc limit (leave_of W r R.ecc mark A.marked)
    → absorbed t m c ≡ taking limit W mark r R h A
unfolding taking
taking_is limit W mark r R h A t c m a b d = rw (d, a, b)

pub ruleset taken = (taking_is, settle_counted)

-- with the raised candidate as limit
pub absorbing_is : (limit W mark r : ℕ) (R : Reached) (h : List ℕ) (A B : Absorbed)
    → B ≡ taking limit W mark r R h A → limit ≡ raised A.candidate R.own → B ≡ absorbing W mark r R h A
unfolding absorbing
absorbing_is limit W mark r R h A B t l = t ∙ ap (λ (x : ℕ). taking x W mark r R h A) l

pub round_is_absorbed : (W : ℕ) (targets links : List ℕ) (mark r : ℕ) (M : Workspace) (d : ℕ) (T : Tables) (R : Reached) (row h : List ℕ) (t : Tally) (m : Marks) (c n : ℕ)
    → searched d T ≡ search_table W links r M.searched → (T' : Tables) → R ≡ reach_in W targets r d T' row → T' ≡ T
    → h ≡ T.hops → absorbed t m c ≡ absorbing W mark r R h (absorbed M.paired M.marked M.candidate) → n ≡ M.searches + 1
    → workspace t T m c n ≡ round_of W targets links mark r M
unfolding round_of absorb_of
round_is_absorbed W targets links mark r M d T R row h t m c n s T' q e l a k =
    let A = absorbed M.paired M.marked M.candidate in
    let b : absorbed t m c ≡ absorbing W mark r (reach_in W targets r d T []) T.hops A =
    a ∙ ap (λ (h : List ℕ). absorbing W mark r R h A) l ∙ ap (λ (R : Reached). absorbing W mark r R T.hops A) (q ∙ ap (λ (X : Tables). reach_in W targets r d X row) e) ∙ reach_free W mark r d targets T.hops (last_layer W d T.even T.odd) row [] T.hops A in
    ap₂ (λ (A : Absorbed) (x : ℕ). workspace A.paired T A.marked A.candidate x) b k
    ∙ ap (λ (X : Searched). absorb_of W mark r (reach_in W targets r X.depth X.left []) X.left M) s

-- the tables that a search or the marks were lent stand in the room again
pub same_tables : (h e o h' e' o' : List ℕ) → h' ≡ h → e' ≡ e → o' ≡ o → tables h' e' o' ≡ tables h e o
same_tables h e o h' e' o' qh qe qo = rw (qh, qe, qo)

pub same_marks : (W : ℕ) (b s k b' s' k' : List ℕ) → b' ≡ b → s' ≡ s → k' ≡ k → marks b' s' (waiting_of W k') ≡ marks b s (waiting_of W k)
same_marks W b s k b' s' k' qb qs qk = rw (qb, qs, qk)

pub handed_back : (t : Tally) (T T' : Tables) (m m' : Marks) (c n : ℕ) (M : Workspace) → workspace t T m c n ≡ M → T' ≡ T → m' ≡ m → workspace t T' m' c n ≡ M
handed_back t T T' m m' c n M e q r = rw (q, r) e

-- ---- the start

pub begin_is : (W other : ℕ) (members : List ℕ) (B : RoundsBegun) (pairs bounds skips waiting : List ℕ) → pairs ≡ overwrite (encode_row (W * (64 * W)) (λ v. false)) B.pairs
    → bounds ≡ overwrite (mapl (λ v. 65535) (range (64 * W))) B.marked.bounds → skips ≡ overwrite (mapl (λ v. other) (range (64 * W))) B.marked.skips
    → waiting ≡ overwrite (encode_row W (row_bit W members)) B.marked.waiting → rounds_begun pairs (marks bounds skips waiting) ≡ rounds_begin_of W other members B
unfolding rounds_begin_of
begin_is W other members B pairs bounds skips waiting p b s w = rw (p, b, s, w) (ap (λ (l : List ℕ). rounds_begun l (rounds_begin_of W other members B).marked) (cleared_table W B.pairs))

pub ruleset beginning = (begin_is, ranked_row, ranked_all)

-- ---- the pairs stay counted

pub begun_counted : (W other : ℕ) (members : List ℕ) (B : RoundsBegun) (p : List ℕ) (m : Marks) → 0 < W → W < 513 → W * (64 * W) ≤ length B.pairs
    → rounds_begun p m ≡ rounds_begin_of W other members B → Counted W p 0
unfolding rounds_begin_of tally_of
begun_counted W other members B p m pos most l e =
    holds_counted {P = λ u v. false} (record { is = ap₂ tally (ap (λ (X : RoundsBegun). X.pairs) e) (sym (count_no_pairs (64 * W))) }) pos most l

pub round_counted : (W : ℕ) (targets links : List ℕ) (mark r : ℕ) (M : Workspace) (T : Tables) (t : List ℕ) (n c k : ℕ) (m : Marks) → Counted W M.paired.pairs M.paired.count
    → workspace (tally t n) T m c k ≡ round_of W targets links mark r M → Counted W t n
unfolding round_of absorb_of absorbing taking
round_counted W targets links mark r M T t n c k m h e = settle_counted W _ r _ M.candidate M.paired.pairs t M.paired.count n h (ap (λ (X : Workspace). X.paired) e)

-- ---- a round takes a depot away

pub picked_in : (W : ℕ) (links waiting : List ℕ) (r : ℕ) → pick_in W links waiting ≡ some r → (r < 64 * W) × (row_bit W waiting r ≡ true)
unfolding pick_in
picked_in W links waiting r q =
    let x = filter_out (row_bit W waiting) (range (64 * W)) (pick_in_lem (chart (table_network W links)) (filterb (row_bit W waiting) (range (64 * W))) r q) in
    (range_out (64 * W) x.0, x.1)

module _ (W : ℕ) (targets links : List ℕ) where
  pub round_fewer : (mark r : ℕ) (M : Workspace) → row_bit W M.marked.waiting r ≡ true → r < 64 * W → W ≤ length M.marked.waiting
      → countb (row_bit W (round_of W targets links mark r M).marked.waiting) (range (64 * W)) < countb (row_bit W M.marked.waiting) (range (64 * W))
  unfolding round_of absorb_of absorbing taking relax_of waiting_after
  round_fewer mark r M o l w = count_lt after (row_bit W M.marked.waiting) (range (64 * W)) (λ v m h. (stays v (range_out (64 * W) m) h).1) (range_in (64 * W) l) gone o
    where
      after : ℕ → Bool
      after = row_bit W (round_of W targets links mark r M).marked.waiting

      stays : (v : ℕ) → v < 64 * W → after v ≡ true → (v ≢ r) × (row_bit W M.marked.waiting v ≡ true)
      stays v k h = left_bit W r _ mark M.marked l w v (and_parts (row_bit W (leave_of W r _ mark M.marked).waiting v) _ (sym (row_at W _ _ v k) ∙ h)).0

      gone : after r ≡ false
      gone = go (cases_Bool (after r))
        where
          go : (after r ≡ true) ⊎ (after r ≡ false) → after r ≡ false
          go (inl h) = absurd ((stays r l h).0 refl)
          go (inr h) = h

  -- ---- the loop

  -- from the workspace M the rounds end where they end from M₀
  pub record Going (mark : ℕ) (M₀ M : Workspace) : Type 0 where
    pub fuel : ℕ
    pub same : run_of W targets links mark (64 * W) M₀ ≡ run_of W targets links mark fuel M
    pub enough : countb (row_bit W M.marked.waiting) (range (64 * W)) ≤ fuel

  pub going_start : (mark : ℕ) (M : Workspace) → Going mark M M
  going_start mark M = record { fuel = 64 * W; same = refl; enough = few }
    where
      few : countb (row_bit W M.marked.waiting) (range (64 * W)) ≤ 64 * W
      few = omega (arith, count_le_length (row_bit W M.marked.waiting) (range (64 * W)), length-range (64 * W))

  pub going_on : (mark : ℕ) (M₀ M M' : Workspace) (r : ℕ) → Going mark M₀ M → pick_in W links M.marked.waiting ≡ some r → W ≤ length M.marked.waiting → M' ≡ round_of W targets links mark r M → Going mark M₀ M'
  unfolding run_of or_end
  going_on mark M₀ M M' r G q w e = go G.fuel G.same G.enough
    where
      p : (r < 64 * W) × (row_bit W M.marked.waiting r ≡ true)
      p = picked_in W links M.marked.waiting r q

      fewer : countb (row_bit W M'.marked.waiting) (range (64 * W)) < countb (row_bit W M.marked.waiting) (range (64 * W))
      fewer = subst (λ (X : Workspace). countb (row_bit W X.marked.waiting) (range (64 * W)) < countb (row_bit W M.marked.waiting) (range (64 * W))) (sym e) (round_fewer mark r M p.1 p.0 w)

      go : (k : ℕ) → run_of W targets links mark (64 * W) M₀ ≡ run_of W targets links mark k M → countb (row_bit W M.marked.waiting) (range (64 * W)) ≤ k → Going mark M₀ M'
      go zero s n = absurd (lt_irrefl 0 (omega (arith, fewer)))
      go (suc k) s n = record {
        fuel = k;
        same = s ∙ ap (λ (o : Option ℕ). or_end o M (λ x. run_of W targets links mark k (round_of W targets links mark x M))) q ∙ ap (run_of W targets links mark k) (sym e);
        enough = omega (arith, fewer);
      }

  pub going_end : (mark : ℕ) (M₀ M : Workspace) → Going mark M₀ M → pick_in W links M.marked.waiting ≡ none → M ≡ run_of W targets links mark (64 * W) M₀
  unfolding run_of or_end
  going_end mark M₀ M G q = sym (G.same ∙ go G.fuel)
    where
      go : (k : ℕ) → run_of W targets links mark k M ≡ M
      go zero = refl
      go (suc k) = rw q

-- where the loop of rounds stands: it goes on as from M₀, the pairs are counted, and the searches still to come have room
pub record AtRound (W : ℕ) (targets links : List ℕ) (mark : ℕ) (M₀ M : Workspace) : Type 0 where
  pub going : Going W targets links mark M₀ M
  pub counted : Counted W M.paired.pairs M.paired.count
  pub spare : M.searches + countb (row_bit W M.marked.waiting) (range (64 * W)) ≤ M₀.searches + 64 * W

pub at_start_lem : (W : ℕ) (targets links : List ℕ) (mark : ℕ) (M : Workspace) → Counted W M.paired.pairs M.paired.count → AtRound W targets links mark M M
at_start_lem W targets links mark M k = record {
  going = going_start W targets links mark M;
  counted = k;
  spare = omega (arith, count_le_length (row_bit W M.marked.waiting) (range (64 * W)), length-range (64 * W));
}

pub at_next : (W : ℕ) (targets links : List ℕ) (mark : ℕ) (M₀ M : Workspace) (T : Tables) (t : List ℕ) (n : ℕ) (m : Marks) (c s r : ℕ) → AtRound W targets links mark M₀ M → pick_in W links M.marked.waiting ≡ some r
    → W ≤ length M.marked.waiting → workspace (tally t n) T m c s ≡ round_of W targets links mark r M → AtRound W targets links mark M₀ (workspace (tally t n) T m c s)
unfolding round_of absorb_of
at_next W targets links mark M₀ M T t n m c s r A q w e =
    let p = picked_in W links M.marked.waiting r q in
    let f : countb (row_bit W m.waiting) (range (64 * W)) < countb (row_bit W M.marked.waiting) (range (64 * W)) =
    subst (λ (X : Workspace). countb (row_bit W X.marked.waiting) (range (64 * W)) < countb (row_bit W M.marked.waiting) (range (64 * W))) (sym e) (round_fewer W targets links mark r M p.1 p.0 w) in
    let k : s ≡ M.searches + 1 = ap (λ (X : Workspace). X.searches) e in
    record {
      going = going_on W targets links mark M₀ M (workspace (tally t n) T m c s) r A.going q w e;
      counted = round_counted W targets links mark r M T t n c s m A.counted e;
      spare = omega (arith, A.spare);
    }

-- the measure: fewer depots remain
pub fewer_remain : (W : ℕ) (targets links : List ℕ) (mark : ℕ) (M : Workspace) (T : Tables) (t : Tally) (m : Marks) (c s r : ℕ) → pick_in W links M.marked.waiting ≡ some r → W ≤ length M.marked.waiting
    → workspace t T m c s ≡ round_of W targets links mark r M → countb (row_bit W m.waiting) (range (64 * W)) < countb (row_bit W M.marked.waiting) (range (64 * W))
fewer_remain W targets links mark M T t m c s r q w e =
    let p = picked_in W links M.marked.waiting r q in
    subst (λ (X : Workspace). countb (row_bit W X.marked.waiting) (range (64 * W)) < countb (row_bit W M.marked.waiting) (range (64 * W))) (sym e) (round_fewer W targets links mark r M p.1 p.0 w)

-- while a depot remains, at most one search more was made than there are places
pub room_left : (W : ℕ) (targets links : List ℕ) (mark : ℕ) (M₀ M : Workspace) (r : ℕ) → AtRound W targets links mark M₀ M → M₀.searches < 3 → pick_in W links M.marked.waiting ≡ some r
    → W ≤ length M.marked.waiting → M.searches ≤ 64 * W + 1
room_left W targets links mark M₀ M r A l q w =
    let p = picked_in W links M.marked.waiting r q in
    omega (arith, A.spare, round_fewer W targets links mark r M p.1 p.0 w)
