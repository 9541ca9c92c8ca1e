-- Where rounds begin in lent memory, and what they leave when none remains. Assumes nothing.
use mathlib.Core.Path.{◌≡◌, refl, sym, ap, ◌∙◌, subst}
use mathlib.Core.Logic.{◌⊎◌, inl, inr}
use mathlib.Core.Bool.{Bool, true, false, cond, ◌&&◌}
use mathlib.Core.List.{List}
use mathlib.Core.Option.{Option, none, some}
use Prim.Native.Nat.{ℕ, zero, suc, ◌+◌, ◌-◌, ◌*◌, ◌≤◌}
use native.Mathlib.Nat.{le_of_lt, le_refl, suc-add, zero-add}
use native.Mathlib.Omega.{arith}
use lib.Dec.{eqb}
use lib.ListN.{length}
use Rattle.std.proofs.lemmas.Bool.{cases_Bool}
use Rattle.lists.specs.Lists.{range, countb, overwrite}
use Rattle.lists.proofs.Tests.{true→t, clash}
use Rattle.lists.proofs.Members.{filter_out}
use Rattle.lists.proofs.Counts.{count_le_length, count_none, sum_none}
use Rattle.lists.proofs.Fills.{fill_ext}
use Rattle.graph.specs.Network.{Network}
use Rattle.graph.specs.Distance.{unreached}
use Rattle.graph.specs.Chart.{chart, ecc, count_pairs}
use Rattle.graph.specs.Rounds.{Status, waiting, skipped, searched, is_waiting, mark_of, bound_of, State, round, pick, remaining, or_stop, rounds, start}
use Rattle.graph.specs.Correct.{IsNet}
use Rattle.graph.proofs.Metric.{ecc_small}
use Rattle.graph.proofs.Round.{Invariant}
use Rattle.graph.proofs.Rounds.{waiting_count, rounds_right, start_fine, ended, pick_in_lem}
use Rattle.graph.proofs.Charts.{chart_metric, depot_in}
use Rattle.rows.specs.Rows.{row_bit, encode_row, encode_table}
use Rattle.rows.proofs.Wholes.{encode_row_ext}
use Rattle.map.specs.Memory.{Shape, IsShape, network_of}
use Rattle.map.proofs.Theorems.{network_most}
use Rattle.pairs.specs.Pairs.{tally}
use Rattle.bounds.specs.Bounds.{marks}
use Rattle.map.specs.Room.{lent}
use Rattle.rounds.specs.Leaves.{search_after, rounds_leave, ran, ran_by}
use Rattle.rounds.specs.Workspace.{Workspace, workspace, run_of, RoundsBegun, rounds_begun, rounds_begin_of}
use Rattle.rounds.specs.Targets.{target_network, AreTargets}
use Rattle.rounds.proofs.Holding.{run_bound, run_mark, Origin, bound_place, skip_place, waiting_place, Holds}
use Rattle.rounds.proofs.Simulation.{Running, run_holds}

-- ---- no pair

pub count_no_pairs : (n : ℕ) → count_pairs (range n) (λ u v. false) ≡ 0
unfolding count_pairs
count_no_pairs n = sum_none (λ u. countb (λ v. false) (range n)) (range n) (λ u. count_none (λ v. false) (range n) (λ v m. refl))

-- a table cleared as one long row has no pair
pub cleared_table : (W : ℕ) (t : List ℕ) → overwrite (encode_row (W * (64 * W)) (λ v. false)) t ≡ overwrite (encode_table W (λ u v. false)) t
unfolding encode_row encode_table
cleared_table W t = refl

-- ---- the start

module _ (K : Shape) (shape : IsShape K) (members targets links : List ℕ) (are : AreTargets K.words members targets)
    (net : IsNet (target_network K.words members targets links)) where
  abbrev W : ℕ
  W = K.words

  abbrev G : Network
  G = target_network K.words members targets links

  pub start_holds : (c : ℕ) (O : Origin) (pairs bounds skips row : List ℕ)
      → rounds_begun pairs (marks bounds skips row) ≡ rounds_begin_of W K.other_mark members (rounds_begun O.pairs (marks O.bounds O.skips O.waiting))
      → Holds W K.searched_mark K.other_mark G O (start c) (workspace (tally pairs 0) O.searched (marks bounds skips row) c 0)
  unfolding start search_after bound_place skip_place waiting_place network_of rounds_begin_of
  start_holds c O pairs bounds skips row begins = record {
    tables_are = refl;
    pairs_are_lem = ap (λ (x : RoundsBegun). x.pairs) begins;
    count_is = sym (count_no_pairs (64 * W));
    bounds_are = ap (λ (x : RoundsBegun). x.marked.bounds) begins ∙ ap (λ (r : List ℕ). overwrite r O.bounds) (fill_ext (λ v. unreached) (λ v. cond (row_bit W members v) unreached unreached) (64 * W) (λ v m. sym (same (row_bit W members v) unreached)));
    skips_are = ap (λ (x : RoundsBegun). x.marked.skips) begins ∙ ap (λ (r : List ℕ). overwrite r O.skips) (fill_ext (λ v. K.other_mark) (λ v. cond (row_bit W members v) (cond (eqb unreached unreached) K.other_mark 0) K.other_mark) (64 * W) (λ v m. sym (same (row_bit W members v) K.other_mark)));
    waiting_is = ap (λ (x : RoundsBegun). x.marked.waiting) begins ∙ ap (λ (r : List ℕ). overwrite r O.waiting) (encode_row_ext W (row_bit W members) (λ v. row_bit W members v && true) (λ v m. sym (and_true_right (row_bit W members v))));
    candidate_is = refl;
    searches_are = refl;
  }
    where
      same : (b : Bool) (x : ℕ) → cond b x x ≡ x
      same true x = refl
      same false x = refl

      and_true_right : (b : Bool) → (b && true) ≡ b
      and_true_right true = refl
      and_true_right false = refl

  pub most_ecc : (v : ℕ) → (chart G).is_destination v ≡ true → ecc (chart G) v ≤ unreached
  most_ecc v t = le_of_lt (ecc_small (chart G) (chart_metric G net) v ((chart_metric G net).inside v t))

  pub start_running : (c : ℕ) → c ≤ unreached → Running W K.searched_mark K.other_mark shape.most members targets links are net (start c)
  unfolding start
  start_running c l = record { inv = start_fine (chart G) (chart_metric G net) unreached most_ecc (le_refl unreached) c l; low = λ v ov. le_refl unreached }

  -- ---- the end

  -- once no depot remains, more rounds change nothing
  rounds-stop : (m : ℕ) (S : State) → pick (chart G) (remaining (chart G) S) ≡ none → rounds (chart G) m S ≡ S
  unfolding rounds
  rounds-stop zero S q = refl
  rounds-stop (suc m) S q = rw q

  rounds_more : (k m : ℕ) (S : State) → pick (chart G) (remaining (chart G) (rounds (chart G) k S)) ≡ none → rounds (chart G) (k + m) S ≡ rounds (chart G) k S
  unfolding rounds
  rounds_more zero m S q = ap (λ (n : ℕ). rounds (chart G) n S) (zero-add m) ∙ rounds-stop m S q
  rounds_more (suc k) m S q = ap (λ (n : ℕ). rounds (chart G) n S) (suc-add k m) ∙ go (pick (chart G) (remaining (chart G) S)) refl (λ r. rounds_more k m (round (chart G) r S)) q
    where
      go : (o : Option ℕ) → pick (chart G) (remaining (chart G) S) ≡ o
          → ((r : ℕ) → pick (chart G) (remaining (chart G) (rounds (chart G) k (round (chart G) r S))) ≡ none → rounds (chart G) (k + m) (round (chart G) r S) ≡ rounds (chart G) k (round (chart G) r S))
          → pick (chart G) (remaining (chart G) (or_stop o S (λ r. rounds (chart G) k (round (chart G) r S)))) ≡ none
          → or_stop o S (λ r. rounds (chart G) (k + m) (round (chart G) r S)) ≡ or_stop o S (λ r. rounds (chart G) k (round (chart G) r S))
      go none e ih p = refl
      go (some r) e ih p = ih r p

  module _ (S₀ : State) (R : Running W K.searched_mark K.other_mark shape.most members targets links are net S₀) where
    abbrev S : State
    S = rounds (chart G) (length (chart G).depots) S₀

    settled : Invariant (chart G) (chart_metric G net) unreached S × (waiting_count (chart G) (chart_metric G net) S ≡ 0)
    unfolding waiting_count
    settled = rounds_right (chart G) (chart_metric G net) unreached most_ecc (le_refl unreached) (length (chart G).depots) S₀ R.inv (count_le_length (λ v. is_waiting (S₀.status v)) (chart G).depots)

    none_waits : (v : ℕ) → G.is_open v ≡ true → is_waiting (S.status v) ≡ false
    none_waits v o = ended (chart G) (chart_metric G net) unreached most_ecc (le_refl unreached) S settled.1 v (depot_in G net v (true→t o))

    none_picked : pick (chart G) (remaining (chart G) S) ≡ none
    unfolding remaining
    none_picked = go (pick (chart G) (remaining (chart G) S)) refl
      where
        go : (o : Option ℕ) → pick (chart G) (remaining (chart G) S) ≡ o → o ≡ none
        go none e = refl
        go (some r) e =
            let x = filter_out (λ v. is_waiting (S.status v)) (chart G).depots (pick_in_lem (chart G) (remaining (chart G) S) r e) in
            absurd (clash x.1 (ended (chart G) (chart_metric G net) unreached most_ecc (le_refl unreached) S settled.1 r x.0))

    depots_few : length (chart G).depots ≤ 64 * W
    unfolding chart
    depots_few = network_most W members links

    enough : rounds (chart G) (64 * W) S₀ ≡ S
    enough =
        let e : 64 * W ≡ length (chart G).depots + (64 * W - length (chart G).depots) = omega (arith, depots_few) in
        ap (λ (n : ℕ). rounds (chart G) n S₀) e ∙ rounds_more (length (chart G).depots) (64 * W - length (chart G).depots) S₀ none_picked

    bound_end : (v : ℕ) → (G.is_open v ≡ true) ⊎ (G.is_open v ≡ false) → cond (G.is_open v) (run_bound (S.status v)) unreached ≡ cond (G.is_open v) (bound_of (S.status v)) unreached
    bound_end v (inr q) = rw q
    bound_end v (inl q) = rw q (at (S.status v) (none_waits v q))
      where
        at : (s : Status) → is_waiting s ≡ false → run_bound s ≡ bound_of s
        at (waiting b g) w = absurd (clash refl w)
        at (skipped b g) w = refl
        at (searched e) w = refl

    skip_end : (v : ℕ) → (G.is_open v ≡ true) ⊎ (G.is_open v ≡ false) → cond (G.is_open v) (run_mark K.searched_mark K.other_mark (S.status v)) K.other_mark ≡ cond (G.is_open v) (mark_of K.searched_mark K.other_mark (S.status v)) K.other_mark
    skip_end v (inr q) = rw q
    skip_end v (inl q) = rw q (at (S.status v) (none_waits v q))
      where
        at : (s : Status) → is_waiting s ≡ false → run_mark K.searched_mark K.other_mark s ≡ mark_of K.searched_mark K.other_mark s
        at (waiting b g) w = absurd (clash refl w)
        at (skipped b g) w = refl
        at (searched e) w = refl

    -- WHAT THE CODE'S ROUNDS LEAVE
    pub run_is : (O : Origin) (M M' : Workspace) → Holds W K.searched_mark K.other_mark G O S₀ M → M' ≡ run_of W targets links K.searched_mark (64 * W) M
        → ran (lent M'.paired.pairs M'.searched M'.marked.bounds M'.marked.skips) M'.candidate M'.paired.count M'.searches
        ≡ ran_by K G S (lent O.pairs O.searched O.bounds O.skips)
    unfolding ran_by rounds_leave bound_place skip_place
    run_is O M M' H e =
        rw (
          end.pairs_are_lem,
          end.tables_are,
          end.bounds_are ∙ ap (λ (r : List ℕ). overwrite r O.bounds) (fill_ext (bound_place G S) (λ v. cond (G.is_open v) (bound_of (S.status v)) unreached) (64 * W) (λ v m. bound_end v (cases_Bool (G.is_open v)))),
          end.skips_are ∙ ap (λ (r : List ℕ). overwrite r O.skips) (fill_ext (skip_place K.searched_mark K.other_mark G S) (λ v. cond (G.is_open v) (mark_of K.searched_mark K.other_mark (S.status v)) K.other_mark) (64 * W) (λ v m. skip_end v (cases_Bool (G.is_open v)))),
          end.candidate_is,
          end.count_is,
          end.searches_are,
        )
      where
        end : Holds W K.searched_mark K.other_mark G O S M'
        end = subst (Holds W K.searched_mark K.other_mark G O S) (sym e) (subst (λ (X : State). Holds W K.searched_mark K.other_mark G O X (run_of W targets links K.searched_mark (64 * W) M)) enough (run_holds W K.searched_mark K.other_mark shape.most members targets links are net (64 * W) O S₀ M H R).0)
