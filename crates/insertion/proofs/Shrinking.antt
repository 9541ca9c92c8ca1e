-- The chain shrank: rounds whose first reference is the finished search from the new depot. Assumes nothing.
use mathlib.Core.Path.{◌≡◌, refl, sym, ap, ap₂, ◌∙◌, subst}
use mathlib.Core.Bool.{Bool, true, false, ◌||◌}
use mathlib.Core.List.{List}
use mathlib.Core.Option.{Option, none, some}
use Prim.Native.Nat.{ℕ, zero, suc, ◌≤◌, ◌<◌}
use lib.ListN.{length, get_or}
use Rattle.lists.specs.Lists.{last_or, memb, anyb, overwrite}
use Rattle.lists.proofs.Fills.{fill_at}
use Rattle.graph.specs.Network.{Network}
use Rattle.graph.specs.Distance.{unreached, dist}
use Rattle.graph.specs.Chart.{chart, ecc, Pairs, own_pairs}
use Rattle.graph.specs.Rounds.{State, round, rounds, pick, remaining, or_stop, start}
use Rattle.graph.specs.Opening.{Opened, opening, grows_by, kept_by, searched_once, staying_pairs, shrunk_candidate, any_pair, via}
use Rattle.graph.proofs.Charts.{depot_in}
use Rattle.rows.specs.Rows.{table_bit, encode_table}
use Rattle.map.specs.Room.{Tables, Lent, lent}
use Rattle.layers.specs.Layers.{search_leaves}
use Rattle.map.specs.Memory.{Shape, IsShape, places}
use Rattle.targets.specs.Reach.{Reached}
use Rattle.pairs.specs.Pairs.{Tally, tally}
use Rattle.bounds.specs.Bounds.{Marks, marks}
use Rattle.rounds.specs.Leaves.{ran, ran_by, rounds_leave, search_after}
use Rattle.rounds.specs.Workspace.{Workspace, workspace, Absorbed, absorbed, absorbing, run_of, rounds_begun, rounds_begin_of}
use Rattle.rounds.specs.Targets.{target_network, AreTargets}
use Rattle.rounds.proofs.Holding.{Origin, Holds, leaves_over, after_snoc}
use Rattle.rounds.proofs.Simulation.{Running, running_round, absorb_over}
use Rattle.rounds.proofs.Finish.{start_holds, start_running, run_is}
use Rattle.pairs.proofs.Tallies.{table_over}
use Rattle.insertion.specs.Figured.{figured, figured_by}
use Rattle.insertion.specs.Steps.{HoldsSearch}
use Rattle.graph.proofs.Tested.{by_tests}

-- the hop table of a search that stands in tables
pub hop_stands : (K : Shape) (G : Network) (T : Tables) (a : ℕ) → T ≡ search_leaves K.words G a T → (v : ℕ) → v < places K → get_or T.hops v 0 ≡ dist G a v
unfolding search_leaves
hop_stands K G T a s v l = ap (λ (X : Tables). get_or X.hops v 0) s ∙ fill_at (dist G a) T.hops (places K) v 0 l

-- ---- the rounds

module _ (K : Shape) (shape : IsShape K) (members targets links : List ℕ) (are : AreTargets K.words members targets) (B : Lent) (a way : ℕ) (R : Reached) (row : List ℕ)
    (I : HoldsSearch K (target_network K.words members targets links) B a R) (low : way ≤ unreached) where
  abbrev G : Network
  G = target_network K.words members targets links

  abbrev S₁ : State
  S₁ = round (chart (target_network K.words members targets links)) a (start way)

  abbrev O : Origin
  O = record { searched = B.searched; pairs = B.pairs; bounds = B.bounds; skips = B.skips; waiting = row }

  fresh : memb a (start way).references ≡ false
  unfolding start memb anyb
  fresh = refl

  running : Running K.words K.searched_mark K.other_mark shape.most members targets links are I.net S₁
  running =
      running_round K.words K.searched_mark K.other_mark shape.most members targets links are I.net (start way) a
      (start_running K shape members targets links are I.net way low) (depot_in G I.net a I.present) fresh

  module _ (p b s w : List ℕ) (begins : rounds_begun p (marks b s w) ≡ rounds_begin_of K.words K.other_mark members (rounds_begun B.pairs (marks B.bounds B.skips row))) where
    abbrev M : Workspace
    M = workspace (tally p 0) B.searched (marks b s w) way 0

    begun_holds : Holds K.words K.searched_mark K.other_mark G O (start way) M
    begun_holds = start_holds K shape members targets links are I.net way O p b s w begins

    module _ (t : Tally) (m : Marks) (c : ℕ) (takes : absorbed t m c ≡ absorbing K.words K.searched_mark a R B.searched.hops (absorbed (tally p 0) (marks b s w) way)) where
      taken_in :
          let A = absorbing K.words K.searched_mark a R B.searched.hops (absorbed (tally p 0) (marks b s w) way) in
          workspace A.paired (search_leaves K.words G a B.searched) A.marked A.candidate 1 ≡ workspace t B.searched m c 1
      taken_in = ap₂ (λ (A : Absorbed) (T : Tables). workspace A.paired T A.marked A.candidate 1) (sym takes) (sym I.stands)

      first_holds : Holds K.words K.searched_mark K.other_mark G O S₁ (workspace t B.searched m c 1)
      first_holds =
          subst (Holds K.words K.searched_mark K.other_mark G O S₁) taken_in
          (absorb_over K.words K.searched_mark K.other_mark shape.most members targets links are I.net O (start way) M begun_holds
          (start_running K shape members targets links are I.net way low) a (depot_in G I.net a I.present) fresh R I.spans B.searched.hops
          (hop_stands K G B.searched a I.stands))

      -- WHAT THE THREE CALLS LEAVE: the network's rounds after the one from a
      pub shrink_is : (k : ℕ) → k ≡ 1 → (m₀ : Marks) (T : Tables) (t' : Tally) (m' : Marks) (c' n : ℕ)
          → workspace t' T m' c' n ≡ run_of K.words targets links K.searched_mark (places K) (workspace t B.searched m₀ c k) → m₀ ≡ m
          → ran (lent t'.pairs T m'.bounds m'.skips) c' t'.count n ≡ ran_by K G (rounds (chart G) (length (chart G).depots) S₁) B
      shrink_is k one m₀ T t' m' c' n q e =
          run_is K shape members targets links are I.net S₁ running O (workspace t B.searched m c 1) (workspace t' T m' c' n) first_holds
          (q ∙ ap₂ (λ (x : ℕ) (z : Marks). run_of K.words targets links K.searched_mark (places K) (workspace t B.searched z c x)) one e)

-- ---- over tables that held another search

-- after a round the tables hold its search, whatever stood there
round_over : (W : ℕ) (G : Network) (a r : ℕ) (S : State) (T : Tables)
    → search_after W G (round (chart G) r S).references (search_leaves W G a T) ≡ search_after W G (round (chart G) r S).references T
unfolding round
round_over W G a r S T = sym (after_snoc W G S.references r (search_leaves W G a T)) ∙ leaves_over W G a r T ∙ after_snoc W G S.references r T

pub rounds_over : (W : ℕ) (G : Network) (a : ℕ) (T : Tables) (k r : ℕ) (S : State)
    → search_after W G (rounds (chart G) k (round (chart G) r S)).references (search_leaves W G a T) ≡ search_after W G (rounds (chart G) k (round (chart G) r S)).references T
unfolding rounds
rounds_over W G a T zero r S = round_over W G a r S T
rounds_over W G a T (suc k) r S = go (pick (chart G) (remaining (chart G) (round (chart G) r S))) (λ x. rounds_over W G a T k x (round (chart G) r S))
  where
    go : (o : Option ℕ)
        → ((x : ℕ) → search_after W G (rounds (chart G) k (round (chart G) x (round (chart G) r S))).references (search_leaves W G a T) ≡ search_after W G (rounds (chart G) k (round (chart G) x (round (chart G) r S))).references T)
        → search_after W G (or_stop o (round (chart G) r S) (λ x. rounds (chart G) k (round (chart G) x (round (chart G) r S)))).references (search_leaves W G a T)
        ≡ search_after W G (or_stop o (round (chart G) r S) (λ x. rounds (chart G) k (round (chart G) x (round (chart G) r S)))).references T
    go none ih = round_over W G a r S T
    go (some x) ih = ih x

-- after rounds the pair table holds their pairs, whatever pairs stood there
pub pairs_over : (K : Shape) (G : Network) (S : State) (Q : Pairs) (B : Lent) (t : List ℕ) → t ≡ overwrite (encode_table K.words Q) B.pairs
    → ran_by K G S (lent t B.searched B.bounds B.skips) ≡ ran_by K G S B
unfolding ran_by rounds_leave
pairs_over K G S Q B t h =
    ap (λ (l : List ℕ). ran (lent l (rounds_leave K G S B).searched (rounds_leave K G S B).bounds (rounds_leave K G S B).skips) (ran_by K G S B).chain (ran_by K G S B).count (ran_by K G S B).searches)
    (ap (overwrite (encode_table K.words S.pairs)) h ∙ table_over K.words S.pairs Q B.pairs)

-- so a call that searched from a first answers by the tables before that search
module _ (K : Shape) (G : Network) (a : ℕ) (T : Tables) (p b s : List ℕ) where
  pub ran_over : (S : State) → search_after K.words G S.references (search_leaves K.words G a T) ≡ search_after K.words G S.references T
      → ran_by K G S (lent p (search_leaves K.words G a T) b s) ≡ ran_by K G S (lent p T b s)
  unfolding ran_by rounds_leave
  ran_over S h = rw h

  once_over : (c : ℕ) (Q : Pairs) → search_after K.words G (searched_once (chart G) a c Q).references (search_leaves K.words G a T) ≡ search_after K.words G (searched_once (chart G) a c Q).references T
  unfolding searched_once search_after last_or
  once_over c Q = leaves_over K.words G a a T

  case_over : (D : ℕ) (P : Pairs)
      → ran_by K G (opening (chart G) a D P).final (lent p (search_leaves K.words G a T) b s) ≡ ran_by K G (opening (chart G) a D P).final (lent p T b s)
  unfolding opening
  case_over D P =
      let left = staying_pairs (via (chart G) a) D P in
      let S = start (shrunk_candidate (chart G).depots (via (chart G) a) D P) in
      by_tests (λ o. ran_by K G o.final (lent p (search_leaves K.words G a T) b s) ≡ ran_by K G o.final (lent p T b s)) (grows_by (chart G) a D) (kept_by (chart G) a D)
      (any_pair (chart G).depots left)
      (λ x. let e = ecc (chart G) a in ran_over (searched_once (chart G) a e (own_pairs (chart G) a e)) (once_over e (own_pairs (chart G) a e)))
      (λ x y. let Q : Pairs = λ u v. left u v || own_pairs (chart G) a D u v in ran_over (searched_once (chart G) a D Q) (once_over D Q))
      (λ x y z. ran_over (searched_once (chart G) a D left) (once_over D left))
      (λ x y z. ran_over (rounds (chart G) (length (chart G).depots) (round (chart G) a S)) (rounds_over K.words G a T (length (chart G).depots) a S))

  pub figured_over : (D : ℕ) → figured_by K G a D (lent p (search_leaves K.words G a T) b s) ≡ figured_by K G a D (lent p T b s)
  unfolding figured_by
  figured_over D = ap (figured (opening (chart G) a D (table_bit K.words p)).change) (case_over D (table_bit K.words p))
