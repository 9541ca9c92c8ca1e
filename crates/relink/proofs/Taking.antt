-- The chain shrank: rounds whose first two references are the finished searches of both ends. Assumes nothing.
use mathlib.Core.Path.{◌≡◌, refl, sym, ap, ap₂, ◌∙◌, subst}
use mathlib.Core.Bool.{Bool, true, false, ◌||◌}
use mathlib.Core.List.{List, []}
use Prim.Native.Nat.{ℕ, ◌≤◌}
use native.Mathlib.Nat.{le_refl}
use lib.Dec.{eqb}
use lib.ListN.{length}
use borrow.Author.Tests.{ne_eqb}
use Rattle.lists.specs.Lists.{last_or, memb, anyb}
use Rattle.lists.proofs.Members.{memb_snoc}
use Rattle.graph.specs.Network.{Network}
use Rattle.graph.specs.Distance.{unreached}
use Rattle.graph.specs.Chart.{chart, Pairs}
use Rattle.graph.specs.Rounds.{State, round, rounds, start}
use Rattle.graph.specs.Opening.{staying_pairs, shrunk_candidate, any_pair}
use Rattle.graph.specs.Linking.{via_either, searched_twice, unskipped_round, first_two, linking}
use Rattle.graph.proofs.Charts.{chart_metric, depot_in}
use Rattle.graph.proofs.FirstTwo.{unskipped_keeps}
use Rattle.rows.specs.Rows.{table_bit}
use Rattle.map.specs.Room.{Tables, Lent, lent}
use Rattle.layers.specs.Layers.{search_leaves}
use Rattle.map.specs.Memory.{Shape, IsShape, places}
use Rattle.targets.specs.Reach.{Reached}
use Rattle.pairs.specs.Pairs.{Tally, tally}
use Rattle.bounds.specs.Bounds.{Marks, marks}
use Rattle.rounds.specs.Leaves.{ran, ran_by, search_after}
use Rattle.rounds.specs.Workspace.{Workspace, workspace, Absorbed, absorbed, taking, absorbing, holding, run_of, RoundsBegun, rounds_begun, rounds_begin_of}
use Rattle.rounds.specs.Targets.{target_network, AreTargets}
use Rattle.rounds.proofs.Holding.{Origin, Holds, leaves_over}
use Rattle.rounds.proofs.Simulation.{Running, running_round, running_unskipped, hold_over, absorb_over}
use Rattle.rounds.proofs.Finish.{start_holds, most_ecc, start_running, run_is}
use Rattle.insertion.specs.Figured.{figured}
use Rattle.insertion.proofs.Shrinking.{hop_stands, rounds_over, ran_over}
use Rattle.relink.specs.Relinked.{relinked_by}
use Rattle.relink.specs.Steps.{low_taken, both_taken, StandBoth}
use Rattle.graph.proofs.Tested.{by_test}

-- ---- the calls, one after the other

pub low_taken_lem : (K : Shape) (members near : List ℕ) (lo : ℕ) (R : Reached) (way : ℕ) (B : RoundsBegun) (p : List ℕ) (m : Marks) (A : Absorbed)
    → rounds_begun p m ≡ rounds_begin_of K.words K.other_mark members B → A ≡ taking 0 K.words K.searched_mark lo R near (absorbed (tally p 0) m way)
    → A ≡ low_taken K members near lo R way B
unfolding low_taken holding
low_taken_lem K members near lo R way B p m A b h =
    h ∙ ap (λ (X : RoundsBegun). taking 0 K.words K.searched_mark lo R near (absorbed (tally X.pairs 0) X.marked way)) b

pub both_taken_lem : (K : Shape) (members near far : List ℕ) (lo : ℕ) (R : Reached) (hi : ℕ) (Q : Reached) (way : ℕ) (B : RoundsBegun) (A A' : Absorbed)
    → A ≡ low_taken K members near lo R way B → A' ≡ absorbing K.words K.searched_mark hi Q far A → A' ≡ both_taken K members near far lo R hi Q way B
unfolding both_taken
both_taken_lem K members near far lo R hi Q way B A A' a h = h ∙ ap (absorbing K.words K.searched_mark hi Q far) a

-- ---- the rounds

module _ (K : Shape) (shape : IsShape K) (members targets links : List ℕ) (are : AreTargets K.words members targets) (near : List ℕ) (B : Lent)
    (lo : ℕ) (R : Reached) (hi : ℕ) (Q : Reached) (way : ℕ) (row : List ℕ)
    (I : StandBoth K (target_network K.words members targets links) near B.searched lo R hi Q) (low : way ≤ unreached) where
  abbrev G : Network
  G = target_network K.words members targets links

  abbrev S₁ : State
  S₁ = unskipped_round (chart (target_network K.words members targets links)) lo (start way)

  abbrev S₂ : State
  S₂ = round (chart (target_network K.words members targets links)) hi (unskipped_round (chart (target_network K.words members targets links)) lo (start way))

  abbrev O : Origin
  O = record { searched = B.searched; pairs = B.pairs; bounds = B.bounds; skips = B.skips; waiting = row }

  abbrev X : RoundsBegun
  X = rounds_begin_of K.words K.other_mark members (rounds_begun B.pairs (marks B.bounds B.skips row))

  abbrev M : Workspace
  M = workspace (tally X.pairs 0) B.searched X.marked way 0

  -- lo taken in, then hi
  abbrev A₁ : Absorbed
  A₁ = holding K.words K.searched_mark lo R near (absorbed (tally X.pairs 0) X.marked way)

  abbrev A₂ : Absorbed
  A₂ = absorbing K.words K.searched_mark hi Q B.searched.hops A₁

  abbrev M₁ : Workspace
  M₁ = workspace A₁.paired (search_leaves K.words G lo B.searched) A₁.marked A₁.candidate 1

  none_yet : (r : ℕ) → memb r (start way).references ≡ false
  unfolding start memb anyb
  none_yet r = refl

  higher_fresh : memb hi S₁.references ≡ false
  unfolding unskipped_round start
  higher_fresh = memb_snoc hi [] lo ∙ rw (none_yet hi, ne_eqb hi lo (λ q. I.apart (sym q)))

  started : Running K.words K.searched_mark K.other_mark shape.most members targets links are I.higher.net (start way)
  started = start_running K shape members targets links are I.higher.net way low

  running_first : Running K.words K.searched_mark K.other_mark shape.most members targets links are I.higher.net S₁
  running_first =
      running_unskipped K.words K.searched_mark K.other_mark shape.most members targets links are I.higher.net (start way) lo started
      (depot_in G I.higher.net lo I.present)
      (unskipped_keeps (chart G) (chart_metric G I.higher.net) unreached (most_ecc K shape members targets links are I.higher.net) (le_refl unreached)
      (start way) lo (depot_in G I.higher.net lo I.present) started.inv (none_yet lo))

  running_second : Running K.words K.searched_mark K.other_mark shape.most members targets links are I.higher.net S₂
  running_second =
      running_round K.words K.searched_mark K.other_mark shape.most members targets links are I.higher.net S₁ hi running_first
      (depot_in G I.higher.net hi I.higher.present) higher_fresh

  begun_holds : Holds K.words K.searched_mark K.other_mark G O (start way) M
  unfolding rounds_begin_of
  begun_holds =
      start_holds K shape members targets links are I.higher.net way O X.pairs X.marked.bounds X.marked.skips X.marked.waiting refl

  first_holds : Holds K.words K.searched_mark K.other_mark G O S₁ M₁
  first_holds =
      hold_over K.words K.searched_mark K.other_mark shape.most members targets links are I.higher.net O (start way) M begun_holds started lo
      (depot_in G I.higher.net lo I.present) (none_yet lo) R I.spans near I.hops

  second_holds : Holds K.words K.searched_mark K.other_mark G O S₂
      (workspace A₂.paired (search_leaves K.words G hi B.searched) A₂.marked A₂.candidate 2)
  second_holds =
      absorb_over K.words K.searched_mark K.other_mark shape.most members targets links are I.higher.net O S₁ M₁ first_holds running_first hi
      (depot_in G I.higher.net hi I.higher.present) higher_fresh Q I.higher.spans B.searched.hops
      (hop_stands K G B.searched hi I.higher.stands)

  module _ (t : Tally) (m : Marks) (c : ℕ)
      (takes : absorbed t m c ≡ both_taken K members near B.searched.hops lo R hi Q way (rounds_begun B.pairs (marks B.bounds B.skips row))) where
    taken_in : workspace A₂.paired (search_leaves K.words G hi B.searched) A₂.marked A₂.candidate 2 ≡ workspace t B.searched m c 2
    unfolding both_taken low_taken
    taken_in = ap₂ (λ (A : Absorbed) (Y : Tables). workspace A.paired Y A.marked A.candidate 2) (sym takes) (sym I.higher.stands)

    -- WHAT THE CALLS LEAVE: the network's rounds after the ones from both ends
    pub shrink_is : (k : ℕ) → k ≡ 2 → (m₀ : Marks) (Y : Tables) (t' : Tally) (m' : Marks) (c' n : ℕ)
        → workspace t' Y m' c' n ≡ run_of K.words targets links K.searched_mark (places K) (workspace t B.searched m₀ c k) → m₀ ≡ m
        → ran (lent t'.pairs Y m'.bounds m'.skips) c' t'.count n
        ≡ ran_by K (target_network K.words members targets links)
        (rounds (chart (target_network K.words members targets links)) (length (chart (target_network K.words members targets links)).depots)
        (first_two (chart (target_network K.words members targets links)) lo hi way)) B
    unfolding first_two
    shrink_is k two m₀ Y t' m' c' n q e =
        run_is K shape members targets links are I.higher.net S₂ running_second O (workspace t B.searched m c 2) (workspace t' Y m' c' n)
        (subst (Holds K.words K.searched_mark K.other_mark G O S₂) taken_in second_holds)
        (q ∙ ap₂ (λ (x : ℕ) (z : Marks). run_of K.words targets links K.searched_mark (places K) (workspace t B.searched z c x)) two e)

-- ---- over tables that held the search from hi

-- a call that searched from hi first answers by the tables before that search
module _ (K : Shape) (G : Network) (lo hi : ℕ) (Y : Tables) (p b s : List ℕ) where
  twice_over : (c : ℕ) (Q : Pairs)
      → search_after K.words G (searched_twice (chart G) lo hi c Q).references (search_leaves K.words G hi Y) ≡ search_after K.words G (searched_twice (chart G) lo hi c Q).references Y
  unfolding searched_twice search_after last_or
  twice_over c Q = leaves_over K.words G hi hi Y

  case_over : (D : ℕ) (P : Pairs)
      → ran_by K G (linking (chart G) lo hi D P).final (lent p (search_leaves K.words G hi Y) b s) ≡ ran_by K G (linking (chart G) lo hi D P).final (lent p Y b s)
  unfolding linking first_two
  case_over D P =
      let left = staying_pairs (via_either (chart G) lo hi) D P in
      let c = shrunk_candidate (chart G).depots (via_either (chart G) lo hi) D P in
      by_test (λ o. ran_by K G o.final (lent p (search_leaves K.words G hi Y) b s) ≡ ran_by K G o.final (lent p Y b s)) (any_pair (chart G).depots left || eqb D 0)
      (λ x. ran_over K G hi Y p b s (searched_twice (chart G) lo hi D left) (twice_over D left))
      (λ x. ran_over K G hi Y p b s (rounds (chart G) (length (chart G).depots) (first_two (chart G) lo hi c))
      (rounds_over K.words G hi Y (length (chart G).depots) hi (unskipped_round (chart G) lo (start c))))

  pub relinked_over : (D : ℕ) → relinked_by K G lo hi D (lent p (search_leaves K.words G hi Y) b s) ≡ relinked_by K G lo hi D (lent p Y b s)
  unfolding relinked_by
  relinked_over D = ap (figured (linking (chart G) lo hi D (table_bit K.words p)).change) (case_over D (table_bit K.words p))
