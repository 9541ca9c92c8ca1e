-- The code's rounds over lent memory are the network's rounds, step by step. Assumes nothing.
use mathlib.Core.Path.{◌≡◌, refl, sym, ap, ap₂, ◌∙◌, subst}
use mathlib.Core.Logic.{◌⊎◌, inl, inr}
use mathlib.Core.Bool.{Bool, true, false, cond, ◌&&◌}
use mathlib.Core.List.{List, [], ◌∷◌, ◌++◌, Memᴰ}
use mathlib.Core.Option.{Option, none, some}
use Prim.Native.Nat.{ℕ, zero, suc, ◌+◌, ◌*◌, ◌≤◌, ◌<◌, min, max, zero-le}
use native.Mathlib.Nat.{le_of_lt, le_refl}
use native.Mathlib.Omega.{arith}
use lib.Dec.{T, eqb, ltb}
use lib.ListN.{length, get_or, length-append}
use borrow.Author.Tests.{ltb-true, ltb-false, le-ltb}
use Rattle.std.proofs.lemmas.Bool.{cases_Bool}
use Rattle.lists.specs.Lists.{range, filterb, memb}
use Rattle.lists.proofs.Tests.{t→true, true→t, clash}
use Rattle.lists.proofs.Members.{filter-ext, filter_out, filter-twice, range_out}
use Rattle.lists.proofs.Counts.{count_filter}
use Rattle.graph.specs.Network.{Network, delivers}
use Rattle.graph.specs.Distance.{unreached, dist}
use Rattle.graph.specs.Chart.{Chart, chart, ecc, Pairs}
use Rattle.graph.specs.Rounds.{Status, waiting, skipped, searched, is_waiting, State, offer, raise, join_pairs, round, better, pick, remaining, or_stop, rounds}
use Rattle.graph.specs.Linking.{unskipped_round}
use Rattle.graph.specs.Correct.{IsNet}
use Rattle.graph.proofs.Metric.{IsMetric, ecc_small}
use Rattle.graph.proofs.Round.{Fine, Invariant, round_keeps}
use Rattle.graph.proofs.Rounds.{pick_in_lem}
use Rattle.graph.proofs.Charts.{chart_metric, depot_out}
use Rattle.rows.specs.Rows.{row_bit, table_bit}
use Rattle.rows.proofs.Written.{row_at}
use Rattle.layers.specs.Layers.{depth_from, search_leaves, search_table}
use Rattle.map.specs.Memory.{table_network}
use Rattle.map.specs.Room.{Tables}
use Rattle.layers.proofs.Theorems.{table_depth, table_leaves}
use Rattle.map.specs.Memory.{network_of}
use Rattle.map.proofs.Theorems.{network_open_below}
use Rattle.targets.specs.Reach.{Reached}
use Rattle.pairs.specs.Pairs.{Tally, tally_of, settle_of}
use Rattle.bounds.specs.Bounds.{Marks, leave_of, relax_of}
use Rattle.ranks.specs.Ranks.{pick_in}
use Rattle.rounds.specs.Leaves.{search_after}
use Rattle.rounds.specs.Workspace.{Workspace, workspace, reach_in, absorbed, taking, absorbing, holding, absorb_of, round_of, or_end, run_of}
use Rattle.rounds.specs.Targets.{target_network, AreTargets, Spans}
use Rattle.rounds.proofs.Reaching.{spans, hop_at}
use Rattle.rounds.proofs.Holding.{Origin, Holds, waiting_place, after_over, after_snoc}
use Rattle.rounds.proofs.Pairing.{settle_is}
use Rattle.rounds.proofs.Marking.{IsLow, bounds_after, skips_after, waiting_after_lem}

-- the pick looks at degrees alone
pick_same : (C D : Chart) → ((v : ℕ) → C.degree v ≡ D.degree v) → (xs : List ℕ) → pick C xs ≡ pick D xs
unfolding pick better
pick_same C D h [] = refl
pick_same C D h (x ∷ xs) = ap (λ (o : Option ℕ). some (better C x o)) (pick_same C D h xs) ∙ ap some (go (pick D xs))
  where
    go : (o : Option ℕ) → better C x o ≡ better D x o
    go none = refl
    go (some w) = rw (h x, h w)

module _ (W mark other : ℕ) (most : W < 513) (members targets links : List ℕ) (are : AreTargets W members targets)
    (net : IsNet (target_network W members targets links)) where
  abbrev G : Network
  G = target_network W members targets links

  abbrev metric : IsMetric (chart G)
  metric = chart_metric G net

  inside : (v : ℕ) → T (G.is_open v) → v < 64 * W
  inside = network_open_below W members links

  few : 64 * W < unreached
  few = omega arith

  links_are_lem : G.linked ≡ table_bit W links
  unfolding network_of
  links_are_lem = refl

  -- what the rounds keep
  pub record Running (S : State) : Type 0 where
    pub inv : Invariant (chart G) metric unreached S
    pub low : (v : ℕ) → G.is_open v ≡ true → IsLow (S.status v)

  top : (v : ℕ) → (chart G).is_destination v ≡ true → ecc (chart G) v ≤ unreached
  top v t = le_of_lt (ecc_small (chart G) metric v (metric.inside v t))

  status_is : (r : ℕ) (S : State) (v : ℕ) → (round (chart G) r S).status v ≡ cond (eqb v r) (searched (ecc (chart G) r)) (offer (raise (chart G) r (ecc (chart G) r) S.candidate) r (ecc (chart G) r + dist G r v) (S.status v))
  unfolding round chart
  status_is r S v = refl

  low_offer : (c r x : ℕ) (s : Status) → IsLow s → IsLow (offer c r x s)
  unfolding offer
  low_offer c r x (waiting b g) l = go (ltb (min x b) c)
    where
      go : (t : Bool) → IsLow (cond t (skipped (min x b) (cond (ltb x b) r g)) (waiting (min x b) (cond (ltb x b) r g)))
      go true = omega arith
      go false = omega arith
  low_offer c r x (skipped b g) l = l
  low_offer c r x (searched e) l = l

  pub running_round : (S : State) (r : ℕ) → Running S → Memᴰ r (chart G).depots → memb r S.references ≡ false → Running (round (chart G) r S)
  running_round S r R m f = record {
    inv = round_keeps (chart G) metric S r m unreached R.inv top (le_refl unreached) f;
    low = λ v ov. subst IsLow (sym (status_is r S v)) (go v ov (eqb v r));
  }
    where
      go : (v : ℕ) → G.is_open v ≡ true → (b : Bool) → IsLow (cond b (searched (ecc (chart G) r)) (offer (raise (chart G) r (ecc (chart G) r) S.candidate) r (ecc (chart G) r + dist G r v) (S.status v)))
      go v ov true = le_of_lt (ecc_small (chart G) metric r m)
      go v ov false = low_offer (raise (chart G) r (ecc (chart G) r) S.candidate) r (ecc (chart G) r + dist G r v) (S.status v) (R.low v ov)

  -- ---- a round in which nobody is skipped

  unskipped_status : (r : ℕ) (S : State) (v : ℕ)
      → (unskipped_round (chart G) r S).status v ≡ cond (eqb v r) (searched (ecc (chart G) r)) (offer 0 r (ecc (chart G) r + dist G r v) (S.status v))
  unfolding unskipped_round chart
  unskipped_status r S v = refl

  pub running_unskipped : (S : State) (r : ℕ) → Running S → Memᴰ r (chart G).depots → Invariant (chart G) metric unreached (unskipped_round (chart G) r S)
      → Running (unskipped_round (chart G) r S)
  running_unskipped S r R m I = record { inv = I; low = λ v ov. subst IsLow (sym (unskipped_status r S v)) (go v ov (eqb v r)) }
    where
      go : (v : ℕ) → G.is_open v ≡ true → (b : Bool) → IsLow (cond b (searched (ecc (chart G) r)) (offer 0 r (ecc (chart G) r + dist G r v) (S.status v)))
      go v ov true = le_of_lt (ecc_small (chart G) metric r m)
      go v ov false = low_offer 0 r (ecc (chart G) r + dist G r v) (S.status v) (R.low v ov)

  -- ---- one round

  module _ (O : Origin) (S : State) (M : Workspace) (H : Holds W mark other G O S M) (R : Running S) (r : ℕ) (m : Memᴰ r (chart G).depots) (fresh : memb r S.references ≡ false) where
    open_r : T (G.is_open r)
    open_r = depot_out G net m

    below_r : r < 64 * W
    below_r = inside r open_r

    own : ℕ
    own = cond (delivers G r) (ecc (chart G) r) 0

    c' : ℕ
    c' = cond (ltb M.candidate own) own M.candidate

    raised : c' ≡ raise (chart G) r (ecc (chart G) r) S.candidate
    unfolding raise c' own chart
    raised = rw H.candidate_is (by (delivers G r) refl)
      where
        go : (ltb S.candidate (ecc (chart G) r) ≡ true) ⊎ (ltb S.candidate (ecc (chart G) r) ≡ false)
            → cond (ltb S.candidate (ecc (chart G) r)) (ecc (chart G) r) S.candidate ≡ max (ecc (chart G) r) S.candidate
        go (inl q) = let l : S.candidate < ecc (chart G) r = ltb-true S.candidate (ecc (chart G) r) q in rw q (omega arith)
        go (inr q) = let l : ecc (chart G) r ≤ S.candidate = ltb-false S.candidate (ecc (chart G) r) q in rw q (omega arith)

        by : (b : Bool) → delivers G r ≡ b
            → cond (ltb S.candidate (cond b (ecc (chart G) r) 0)) (cond b (ecc (chart G) r) 0) S.candidate
            ≡ cond ((chart G).is_destination r) (max (ecc (chart G) r) S.candidate) S.candidate
        by true q = rw q (go (cases_Bool (ltb S.candidate (ecc (chart G) r))))
        by false q = rw (q, le-ltb S.candidate 0 zero-le)

    -- a finished search from r, of which R says what it is, with its hop table h: bounds are held against `limit`, and S' is what the network makes of it
    module _ (R₁ : Reached) (is : Spans W G r R₁) (h : List ℕ) (hop : (v : ℕ) → v < 64 * W → get_or h v 0 ≡ dist G r v) (limit : ℕ) (small : limit ≤ unreached) (S' : State)
        (candidate' : S'.candidate ≡ raise (chart G) r (ecc (chart G) r) S.candidate)
        (pairs' : S'.pairs ≡ join_pairs (chart G) r (ecc (chart G) r) S.candidate S.pairs)
        (status' : (v : ℕ) → S'.status v ≡ cond (eqb v r) (searched (ecc (chart G) r)) (offer limit r (ecc (chart G) r + dist G r v) (S.status v)))
        (references' : S'.references ≡ S.references ++ (r ∷ [])) where
      tally_is : settle_of W R₁.partners r R₁.own M.candidate M.paired ≡ tally_of W S'.pairs O.pairs
      tally_is =
          ap (λ (n : ℕ). settle_of W R₁.partners r R₁.own n M.paired) H.candidate_is
          ∙ settle_is W G r R₁ is S.candidate S.pairs M.paired.pairs O.pairs M.paired.count H.pairs_are_lem H.count_is
          ∙ ap (λ (P : Pairs). tally_of W P O.pairs) (sym pairs')

      marks_are : relax_of W h r R₁.ecc limit (leave_of W r R₁.ecc mark M.marked) ≡ relax_of W h r (ecc (chart G) r) limit (leave_of W r (ecc (chart G) r) mark M.marked)
      marks_are = ap (λ (e : ℕ). relax_of W h r e limit (leave_of W r e mark M.marked)) is.ecc_is

      pub taken_in : Holds W mark other G O S'
          (workspace (settle_of W R₁.partners r R₁.own M.candidate M.paired)
          (search_leaves W G r O.searched)
          (relax_of W h r R₁.ecc limit (leave_of W r R₁.ecc mark M.marked))
          (cond (ltb M.candidate R₁.own) R₁.own M.candidate)
          (M.searches + 1))
      unfolding c' own tally_of
      taken_in = record {
        tables_are = after_snoc W G S.references r O.searched ∙ ap (λ (l : List ℕ). search_after W G l O.searched) (sym references');
        pairs_are_lem = ap (λ (t : Tally). t.pairs) tally_is;
        count_is = ap (λ (t : Tally). t.count) tally_is;
        bounds_are = ap (λ (m : Marks). m.bounds) marks_are ∙ bounds_after W mark other G S S' r (ecc (chart G) r) limit below_r (t→true (G.is_open r) open_r) status' R.low small O.bounds O.skips O.waiting h hop M.marked H.bounds_are H.skips_are H.waiting_is;
        skips_are = ap (λ (m : Marks). m.skips) marks_are ∙ skips_after W mark other G S S' r (ecc (chart G) r) limit below_r (t→true (G.is_open r) open_r) status' R.low small O.bounds O.skips O.waiting h hop M.marked H.bounds_are H.skips_are H.waiting_is;
        waiting_is = ap (λ (m : Marks). m.waiting) marks_are ∙ waiting_after_lem W mark other G S S' r (ecc (chart G) r) limit below_r (t→true (G.is_open r) open_r) status' R.low small O.bounds O.skips O.waiting h hop M.marked H.bounds_are H.skips_are H.waiting_is;
        candidate_is = ap (λ (o : ℕ). cond (ltb M.candidate o) o M.candidate) is.own_is ∙ raised ∙ sym candidate';
        searches_are = ap (λ (n : ℕ). n + 1) H.searches_are ∙ sym (length-append S.references (r ∷ [])) ∙ ap length (sym references');
      }

    low_c : c' ≤ unreached
    unfolding round
    low_c = subst (λ (n : ℕ). n ≤ unreached) (sym raised) (running_round S r R m fresh).inv.bounded

    module _ (R₁ : Reached) (is : Spans W (target_network W members targets links) r R₁) (h : List ℕ)
        (hop : (v : ℕ) → v < 64 * W → get_or h v 0 ≡ dist (target_network W members targets links) r v) where
      -- with skipping it is the network's round
      pub absorb_over :
          let A = absorbing W mark r R₁ h (absorbed M.paired M.marked M.candidate) in
          Holds W mark other G O (round (chart G) r S) (workspace A.paired (search_leaves W G r O.searched) A.marked A.candidate (M.searches + 1))
      unfolding absorbing taking round c' own
      absorb_over =
          taken_in R₁ is h hop (cond (ltb M.candidate R₁.own) R₁.own M.candidate) (subst (λ (n : ℕ). n ≤ unreached) (sym limited) low_c) (round (chart G) r S) refl refl
          (λ v. status_is r S v ∙ ap (λ (n : ℕ). cond (eqb v r) (searched (ecc (chart G) r)) (offer n r (ecc (chart G) r + dist G r v) (S.status v))) (sym (limited ∙ raised)))
          refl
        where
          limited : cond (ltb M.candidate R₁.own) R₁.own M.candidate ≡ c'
          limited = ap (λ (o : ℕ). cond (ltb M.candidate o) o M.candidate) is.own_is

      -- without skipping it is the network's round in which nobody is skipped
      pub hold_over :
          let A = holding W mark r R₁ h (absorbed M.paired M.marked M.candidate) in
          Holds W mark other G O (unskipped_round (chart G) r S) (workspace A.paired (search_leaves W G r O.searched) A.marked A.candidate (M.searches + 1))
      unfolding holding taking unskipped_round
      hold_over = taken_in R₁ is h hop 0 (omega arith) (unskipped_round (chart G) r S) refl refl (unskipped_status r S) refl

    -- a search that stands in tables, a row being lent for the partners
    abbrev reach : Tables → List ℕ → Reached
    reach T₁ row = reach_in W targets r (depth_from G r) (search_leaves W G r T₁) row

    pub absorb : (T₁ : Tables) (row : List ℕ) →
        let R₁ = reach_in W targets r (depth_from (target_network W members targets links) r) (search_leaves W (target_network W members targets links) r T₁) row in
        let A = absorbing W mark r R₁ (search_leaves W (target_network W members targets links) r T₁).hops (absorbed M.paired M.marked M.candidate) in
        Holds W mark other (target_network W members targets links) O (round (chart (target_network W members targets links)) r S)
        (workspace A.paired (search_leaves W (target_network W members targets links) r O.searched) A.marked A.candidate (M.searches + 1))
    absorb T₁ row = absorb_over (reach T₁ row) (spans W members targets links net are r open_r T₁ row) (search_leaves W G r T₁).hops (hop_at W members targets links net are r open_r T₁)

    pub hold : (T₁ : Tables) (row : List ℕ) →
        let R₁ = reach_in W targets r (depth_from (target_network W members targets links) r) (search_leaves W (target_network W members targets links) r T₁) row in
        let A = holding W mark r R₁ (search_leaves W (target_network W members targets links) r T₁).hops (absorbed M.paired M.marked M.candidate) in
        Holds W mark other (target_network W members targets links) O (unskipped_round (chart (target_network W members targets links)) r S)
        (workspace A.paired (search_leaves W (target_network W members targets links) r O.searched) A.marked A.candidate (M.searches + 1))
    hold T₁ row = hold_over (reach T₁ row) (spans W members targets links net are r open_r T₁ row) (search_leaves W G r T₁).hops (hop_at W members targets links net are r open_r T₁)

    round_is : round_of W targets links mark r M ≡ absorb_of W mark r (reach O.searched []) (search_leaves W G r O.searched) M
    unfolding round_of search_table
    round_is =
        ap₂ (λ (d : ℕ) (t : Tables). absorb_of W mark r (reach_in W targets r d t []) t M)
        (table_depth G net.sound (64 * W) inside few r open_r W links refl links_are_lem)
        (table_leaves G net.sound (64 * W) inside few r open_r W links M.searched refl links_are_lem
        ∙ ap (search_leaves W G r) H.tables_are ∙ after_over W G S.references r O.searched)

    pub round_holds : Holds W mark other G O (round (chart G) r S) (round_of W targets links mark r M)
    unfolding absorb_of
    round_holds = subst (Holds W mark other G O (round (chart G) r S)) (sym round_is) (absorb O.searched [])

  -- ---- the pick

  degree_is : (v : ℕ) → (chart (table_network W links)).degree v ≡ (chart G).degree v
  unfolding chart table_network network_of
  degree_is v = sym (count_filter (row_bit W members) (table_bit W links v) (range (64 * W)) (λ u q. t→true (row_bit W members u) (net.sound.ends v u (true→t q))))

  pub pick_is : (O : Origin) (S : State) (M : Workspace) → Holds W mark other G O S M → pick_in W links M.marked.waiting ≡ pick (chart G) (remaining (chart G) S)
  unfolding pick_in remaining chart network_of waiting_place
  pick_is O S M H =
      pick_same (chart (table_network W links)) (chart G) degree_is (filterb (row_bit W M.marked.waiting) (range (64 * W)))
      ∙ ap (pick (chart G))
      (filter-ext (row_bit W M.marked.waiting) (λ v. row_bit W members v && is_waiting (S.status v)) (range (64 * W))
      (λ v k. ap (λ (l : List ℕ). row_bit W l v) H.waiting_is ∙ row_at W (waiting_place G S) O.waiting v (range_out (64 * W) k))
      ∙ sym (filter-twice (λ v. is_waiting (S.status v)) (row_bit W members) (range (64 * W))))

  -- a picked depot is open, waits and was not searched
  pub picked : (S : State) → Running S → (r : ℕ) → pick (chart G) (remaining (chart G) S) ≡ some r → Memᴰ r (chart G).depots × (memb r S.references ≡ false)
  unfolding remaining
  picked S R r q =
      let x = filter_out (λ v. is_waiting (S.status v)) (chart G).depots (pick_in_lem (chart G) (remaining (chart G) S) r q) in
      (x.0, at (S.status r) x.1 (R.inv.fine r x.0))
    where
      at : (s : Status) → is_waiting s ≡ true → Fine (chart G) metric S.candidate S.references r s → memb r S.references ≡ false
      at (waiting b g) w f = f.0
      at (skipped b g) w f = f.0
      at (searched e) w f = absurd (clash w refl)

  -- ---- rounds until none remains

  pub run_holds : (k : ℕ) (O : Origin) (S : State) (M : Workspace) → Holds W mark other G O S M → Running S → Holds W mark other G O (rounds (chart G) k S) (run_of W targets links mark k M) × Running (rounds (chart G) k S)
  unfolding rounds run_of or_end
  run_holds zero O S M H R = (H, R)
  run_holds (suc k) O S M H R =
      rw (pick_is O S M H)
      (go (pick (chart G) (remaining (chart G) S)) refl (λ r q. let p = picked S R r q in
      run_holds k O (round (chart G) r S) (round_of W targets links mark r M) (round_holds O S M H R r p.0 p.1) (running_round S r R p.0 p.1)))
    where
      go : (o : Option ℕ) → pick (chart G) (remaining (chart G) S) ≡ o
          → ((r : ℕ) → pick (chart G) (remaining (chart G) S) ≡ some r → Holds W mark other G O (rounds (chart G) k (round (chart G) r S)) (run_of W targets links mark k (round_of W targets links mark r M)) × Running (rounds (chart G) k (round (chart G) r S)))
          → Holds W mark other G O (or_stop o S (λ r. rounds (chart G) k (round (chart G) r S))) (or_end o M (λ r. run_of W targets links mark k (round_of W targets links mark r M))) × Running (or_stop o S (λ r. rounds (chart G) k (round (chart G) r S)))
      go none q ih = (H, R)
      go (some r) q ih = ih r q
