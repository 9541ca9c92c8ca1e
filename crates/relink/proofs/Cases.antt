-- The two ways in which a link ends, each by the test that the code makes. Assumes nothing.
use mathlib.Core.Path.{◌≡◌, sym, ap, ap₂, ◌∙◌}
use mathlib.Core.Logic.{◌⊎◌, ◌≢◌, inl, inr}
use mathlib.Core.Bool.{Bool, true, false, not, ◌||◌}
use mathlib.Core.List.{List}
use Prim.Native.Nat.{ℕ, ◌<◌}
use lib.Dec.{T, eqb}
use lib.ListN.{length, get_or}
use borrow.Author.Tests.{eq-eqb, ne_eqb}
use Rattle.std.proofs.lemmas.Bool.{cases_eq}
use Rattle.lists.specs.Lists.{overwrite}
use Rattle.graph.specs.Network.{Network, delivers}
use Rattle.graph.specs.Chart.{Pairs, chart}
use Rattle.graph.specs.Rounds.{rounds}
use Rattle.graph.specs.Opening.{staying_pairs, any_pair}
use Rattle.graph.specs.Linking.{via_either, first_two, linking}
use Rattle.graph.specs.Correct.{IsNet}
use Rattle.rows.specs.Rows.{table_bit, encode_table}
use Rattle.map.specs.Room.{Tables, Lent, lent}
use Rattle.map.specs.Memory.{Shape, IsShape, places}
use Rattle.map.proofs.Theorems.{network_open_below}
use Rattle.layers.specs.Layers.{searched, search_leaves, search_table}
use Rattle.targets.specs.Reach.{Reached}
use Rattle.outcome.specs.declared.Change.TheVariants.{Kept, Shrank}
use Rattle.pairs.specs.Pairs.{Tally, tally, tally_of}
use Rattle.stale_pairs.specs.Stale.{dropped, way_by_either, drop_of}
use Rattle.bounds.specs.Once.{Marked, marking, mark_twice}
use Rattle.rounds.specs.Leaves.{Ran, ran, ran_by}
use Rattle.rounds.specs.Workspace.{reach_in}
use Rattle.rounds.specs.Targets.{target_network, AreTargets}
use Rattle.rounds.proofs.Reaching.{table_is}
use Rattle.insertion.specs.Figured.{Figured, figured}
use Rattle.insertion.proofs.Dropping.{left_is, candidate_is, none_left, some_left}
use Rattle.insertion.proofs.Shrinking.{hop_stands, pairs_over}
use Rattle.insertion.proofs.Cases.{search_stands}
use Rattle.relink.specs.Relinked.{relinked_by}
use Rattle.relink.specs.Steps.{StandBoth}
use Rattle.relink.proofs.Ends.{way_by_both, twice_leaves}
use Rattle.relink.proofs.Taking.{relinked_over}

-- ---- the searches

-- over N₀ the one from lo leaves N₁ and says R of it, over Y₀ the one from hi leaves Y₁ and says Q; near and Y are then what these leave
module _ (K : Shape) (shape : IsShape K) (members targets links : List ℕ) (are : AreTargets K.words members targets) (lo d hi f : ℕ) (N₀ N₁ Y₀ Y₁ : Tables)
    (near : List ℕ) (Y : Tables) (net : IsNet (target_network K.words members targets links)) where
  abbrev H : Network
  H = target_network K.words members targets links

  -- both stand in their tables
  pub both_stand : T ((target_network K.words members targets links).is_open lo) → T ((target_network K.words members targets links).is_open hi) → (lo ≡ hi → ⊥)
      → searched d N₁ ≡ search_table K.words links lo N₀ → searched f Y₁ ≡ search_table K.words links hi Y₀
      → (a b : List ℕ) (N : Tables) {R Q : Reached} → R ≡ reach_in K.words targets lo d N a → Q ≡ reach_in K.words targets hi f Y b
      → N ≡ N₁ → near ≡ N.hops → Y ≡ Y₁
      → StandBoth K (target_network K.words members targets links) near Y lo R hi Q
  both_stand open-lo open-hi apart q r a b N x y o n e =
      let lower = search_stands K shape members targets links are lo d N₀ N₁ N net open-lo q a x o in
      record {
        present = open-lo;
        spans = lower.spans;
        hops = λ v l. ap (λ (t : List ℕ). get_or t v 0) n ∙ hop_stands K H N lo lower.stands v l;
        higher = search_stands K shape members targets links are hi f Y₀ Y₁ Y net open-hi r b y e;
        apart = apart;
      }

-- what is answered by the tables that hold the search from hi is answered by the tables before
module _ (K : Shape) (shape : IsShape K) (members targets links : List ℕ) (are : AreTargets K.words members targets) (lo hi f : ℕ) (Y₀ Y₁ Y : Tables)
    (net : IsNet (target_network K.words members targets links)) where
  pub relinked_first : (p b s : List ℕ) (D : ℕ) (X : Figured) → T ((target_network K.words members targets links).is_open hi)
      → searched f Y₁ ≡ search_table K.words links hi Y₀
      → X ≡ relinked_by K (target_network K.words members targets links) lo hi D (lent p Y b s) → Y ≡ Y₁
      → X ≡ relinked_by K (target_network K.words members targets links) lo hi D (lent p Y₀ b s)
  relinked_first p b s D X o q h e =
      h
      ∙ ap (λ (Z : Tables). relinked_by K (target_network K.words members targets links) lo hi D (lent p Z b s))
      (e ∙ (table_is K.words members targets links net are hi o Y₀ shape.most q).1)
      ∙ relinked_over K (target_network K.words members targets links) lo hi Y₀ p b s D

-- ---- the cases

module _ (K : Shape) (members targets links near : List ℕ) (B : Lent) (lo : ℕ) (R : Reached) (hi : ℕ) (Q : Reached) (D : ℕ)
    (I : StandBoth K (target_network K.words members targets links) near B.searched lo R hi Q)
    (ends : (u v : ℕ) → T (table_bit K.words B.pairs u v)
    → T (delivers (target_network K.words members targets links) u) × T (delivers (target_network K.words members targets links) v))
    (t : List ℕ) (k w : ℕ) (drops : dropped (tally t k) w ≡ drop_of K.words (way_by_either near B.searched.hops) D B.pairs) where
  abbrev G : Network
  G = target_network K.words members targets links

  abbrev P : Pairs
  P = table_bit K.words B.pairs

  abbrev Left : Pairs
  Left = staying_pairs (via_either (chart (target_network K.words members targets links)) lo hi) D (table_bit K.words B.pairs)

  abbrev way : ℕ → ℕ → ℕ
  way = way_by_either near (search_leaves K.words (target_network K.words members targets links) hi B.searched).hops

  below : (v : ℕ) → T (G.is_open v) → v < places K
  below = network_open_below K.words members links

  alike : (u v : ℕ) → u < places K → v < places K → way u v ≡ via_either (chart G) lo hi u v
  alike = way_by_both K.words G lo hi near B.searched I.hops

  drops_by : dropped (tally t k) w ≡ drop_of K.words way D B.pairs
  drops_by = drops ∙ ap (λ (Y : Tables). drop_of K.words (way_by_either near Y.hops) D B.pairs) I.higher.stands

  tally_left : tally t k ≡ tally_of K.words Left B.pairs
  tally_left = left_is K.words G I.higher.net below way (via_either (chart G) lo hi) alike D B.pairs ends drops_by

  table_left : t ≡ overwrite (encode_table K.words Left) B.pairs
  unfolding tally_of
  table_left = ap (λ (x : Tally). x.pairs) tally_left

  any_left : any_pair (chart G).depots Left ≡ not (eqb k 0)
  any_left = go (cases_eq k 0)
    where
      go : (k ≡ 0) ⊎ (k ≢ 0) → any_pair (chart G).depots Left ≡ not (eqb k 0)
      go (inl z) = none_left K.words G I.higher.net below way (via_either (chart G) lo hi) alike D B.pairs ends drops_by z ∙ sym (ap not (eq-eqb k 0 z))
      go (inr n) = some_left K.words G I.higher.net below way (via_either (chart G) lo hi) alike D B.pairs ends drops_by n ∙ sym (ap not (ne_eqb k 0 n))

  -- x is the code's test
  tested : (x y : Bool) → x ≡ (not (eqb k 0) || eqb D 0) → x ≡ y → (any_pair (chart G).depots Left || eqb D 0) ≡ y
  tested x y h q = ap (λ (b : Bool). b || eqb D 0) any_left ∙ sym h ∙ q

  -- a pair is left, or the chain was 0: KEPT
  pub kept_is : (x : Bool) → x ≡ (not (eqb k 0) || eqb D 0) → x ≡ true → (m : Marked)
      → m ≡ mark_twice K.words K.searched_mark K.other_mark lo R.ecc hi Q.ecc (marking B.bounds B.skips)
      → figured Kept (ran (lent t B.searched m.bounds m.skips) D k 2) ≡ relinked_by K (target_network K.words members targets links) lo hi D B
  unfolding relinked_by linking
  kept_is x h q m marked =
      rw (tested x true h q)
      (ap (figured Kept) (twice_leaves K G lo hi I.present I.higher.present D Left B t k m tally_left
      (marked ∙ ap₂ (λ (y z : ℕ). mark_twice K.words K.searched_mark K.other_mark lo y hi z (marking B.bounds B.skips)) I.spans.ecc_is I.higher.spans.ecc_is)
      I.higher.stands))

  -- neither: SHRANK
  pub shrank_is : (x : Bool) → x ≡ (not (eqb k 0) || eqb D 0) → x ≡ false → (X : Ran)
      → X ≡ ran_by K G (rounds (chart G) (length (chart G).depots) (first_two (chart G) lo hi w)) (lent t B.searched B.bounds B.skips)
      → figured Shrank X ≡ relinked_by K (target_network K.words members targets links) lo hi D B
  unfolding relinked_by linking
  shrank_is x h q X rounded =
      rw (tested x false h q)
      (ap (figured Shrank) (rounded ∙ pairs_over K G (rounds (chart G) (length (chart G).depots) (first_two (chart G) lo hi w)) Left B t table_left
      ∙ ap (λ (c : ℕ). ran_by K G (rounds (chart G) (length (chart G).depots) (first_two (chart G) lo hi c)) B)
      (candidate_is K.words G I.higher.net below way (via_either (chart G) lo hi) alike D B.pairs ends drops_by)))
