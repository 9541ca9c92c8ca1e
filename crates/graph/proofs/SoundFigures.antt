-- SOUND FIGURES STAY SOUND: whatever chain below a limit and pairs of destinations u < v were stored, true or false, an opening
-- or a link leaves such. Assumes nothing.
use mathlib.Core.Path.{◌≡◌, refl}
use mathlib.Core.Logic.{◌⊎◌, inl, inr}
use mathlib.Core.Bool.{Bool, true, false, cond, not, ◌&&◌, ◌||◌}
use mathlib.Core.Option.{Option, none, some}
use Prim.Native.Nat.{ℕ, zero, suc, ◌<◌, max}
use native.Mathlib.Nat.{lt_of_le_of_lt}
use native.Mathlib.Omega.{arith}
use lib.Dec.{T, eqb, ltb}
use lib.ListN.{length}
use Rattle.std.proofs.lemmas.Bool.{and_parts, or_cases}
use Rattle.lists.proofs.Tests.{clash, true→t}
use Rattle.graph.specs.Network.{Network, IsDist, delivers}
use Rattle.graph.specs.Distance.{vertices}
use Rattle.graph.specs.Chart.{Chart, chart, ecc, Pairs, own_pairs}
use Rattle.graph.specs.Rounds.{State, raise, join_pairs, round, pick, remaining, or_stop, rounds, start}
use Rattle.graph.specs.Opening.{via, staying_pairs, any_pair, shrunk_candidate, searched_once, grows_by, kept_by, opening}
use Rattle.graph.specs.Linking.{via_either, searched_twice, unskipped_round, first_two, linking}
use Rattle.graph.specs.Correct.{IsNet}
use Rattle.graph.proofs.Delivers.{delivers_open}
use Rattle.graph.proofs.Walks.{dist_self}
use Rattle.graph.proofs.Metric.{IsMetric}
use Rattle.graph.proofs.Round.{own_is}
use Rattle.graph.proofs.Candidates.{candidate_le_chain}
use Rattle.graph.proofs.Theorems.{distance_below, eccentricity_is}
use Rattle.graph.proofs.Tested.{by_test, by_tests}

-- every pair joins two destinations u < v
abbrev pub JoinRising : Chart → Pairs → Type 0
JoinRising C P = (u v : ℕ) → P u v ≡ true → (ltb u v ≡ true) × (C.is_destination u ≡ true) × (C.is_destination v ≡ true)

-- the chain c and the pairs P are sound: c is below the limit
pub record SoundIn (C : Chart) (limit c : ℕ) (P : Pairs) : Type 0 where
  pub below : c < limit
  pub pairs : JoinRising C P

module _ (C : Chart) (metric : IsMetric C) where
  -- ---- pairs

  own_rising : (r e : ℕ) → JoinRising C (own_pairs C r e)
  own_rising r e u v h = let k = own_is C metric r e u v h in (k.0, k.1, k.2)

  or_rising : (P Q : Pairs) → JoinRising C P → JoinRising C Q → JoinRising C (λ u v. P u v || Q u v)
  or_rising P Q p q u v h = go (or_cases (P u v) (Q u v) h)
    where
      go : (P u v ≡ true) ⊎ (Q u v ≡ true) → (ltb u v ≡ true) × (C.is_destination u ≡ true) × (C.is_destination v ≡ true)
      go (inl x) = p u v x
      go (inr x) = q u v x

  staying_rising : (way : ℕ → ℕ → ℕ) (D : ℕ) (P : Pairs) → JoinRising C P → JoinRising C (staying_pairs way D P)
  unfolding staying_pairs
  staying_rising way D P p u v h = p u v (and_parts (P u v) (not (ltb (way u v) D)) h).0

  joined_rising : (r e c : ℕ) (P : Pairs) → JoinRising C P → JoinRising C (join_pairs C r e c P)
  unfolding join_pairs
  joined_rising r e c P p = go (C.is_destination r && ltb c e) (eqb e c && not (eqb e 0))
    where
      go : (above same : Bool) → JoinRising C (cond above (own_pairs C r e) (cond same (λ u v. P u v || own_pairs C r e u v) P))
      go true same = own_rising r e
      go false true = or_rising P (own_pairs C r e) p (own_rising r e)
      go false false = p

  module _ (limit : ℕ) (most : (v : ℕ) → C.is_destination v ≡ true → ecc C v < limit) where
    -- ---- the rounds

    raised_below : (r c : ℕ) → c < limit → raise C r (ecc C r) c < limit
    unfolding raise
    raised_below r c l = go (C.is_destination r) refl
      where
        go : (b : Bool) → C.is_destination r ≡ b → cond b (max (ecc C r) c) c < limit
        go true t = let m : ecc C r < limit = most r t in omega arith
        go false t = l

    round_sound : (r : ℕ) (S : State) → SoundIn C limit S.candidate S.pairs → SoundIn C limit (round C r S).candidate (round C r S).pairs
    unfolding round
    round_sound r S s = record {
      below = raised_below r S.candidate s.below;
      pairs = joined_rising r (ecc C r) S.candidate S.pairs s.pairs;
    }

    rounds_sound : (k : ℕ) (S : State) → SoundIn C limit S.candidate S.pairs → SoundIn C limit (rounds C k S).candidate (rounds C k S).pairs
    unfolding rounds or_stop
    rounds_sound zero S s = s
    rounds_sound (suc k) S s = go (pick C (remaining C S)) (λ r. rounds_sound k (round C r S) (round_sound r S s))
      where
        go : (o : Option ℕ) → ((r : ℕ) → SoundIn C limit (rounds C k (round C r S)).candidate (rounds C k (round C r S)).pairs)
            → SoundIn C limit (or_stop o S (λ r. rounds C k (round C r S))).candidate (or_stop o S (λ r. rounds C k (round C r S))).pairs
        go none ih = s
        go (some r) ih = ih r

    -- the start of a shrink, whatever the ways
    shrunk_sound : (way : ℕ → ℕ → ℕ) (D : ℕ) (P : Pairs) → SoundIn C limit D P
        → SoundIn C limit (start (shrunk_candidate C.depots way D P)).candidate (start (shrunk_candidate C.depots way D P)).pairs
    unfolding start
    shrunk_sound way D P were = record {
      below = lt_of_le_of_lt (candidate_le_chain C.depots way D P) were.below;
      pairs = λ u v h. absurd (clash h refl);
    }

    -- ---- AN OPENING

    -- only a destination makes the chain grow
    grown_new : (a D : ℕ) → grows_by C a D ≡ true → C.is_destination a ≡ true
    unfolding grows_by
    grown_new a D p = (and_parts (C.is_destination a) (ltb D (ecc C a)) p).0

    module _ (a D : ℕ) (P : Pairs) (were : SoundIn C limit D P) where
      pub opening_sound : SoundIn C limit (opening C a D P).final.candidate (opening C a D P).final.pairs
      unfolding opening searched_once
      opening_sound =
          let S = start (shrunk_candidate C.depots (via C a) D P) in
          by_tests (λ o. SoundIn C limit o.final.candidate o.final.pairs) (grows_by C a D) (kept_by C a D) (any_pair C.depots (staying_pairs (via C a) D P))
          (λ p. record { below = most a (grown_new a D p); pairs = own_rising a (ecc C a) })
          (λ p q. record {
            below = were.below;
            pairs = or_rising (staying_pairs (via C a) D P) (own_pairs C a D) (staying_rising (via C a) D P were.pairs) (own_rising a D);
          })
          (λ p q r. record { below = were.below; pairs = staying_rising (via C a) D P were.pairs })
          (λ p q r. rounds_sound (length C.depots) (round C a S) (round_sound a S (shrunk_sound (via C a) D P were)))

    -- ---- A LINK

    unskipped_sound : (r : ℕ) (S : State) → SoundIn C limit S.candidate S.pairs
        → SoundIn C limit (unskipped_round C r S).candidate (unskipped_round C r S).pairs
    unfolding unskipped_round round
    unskipped_sound r S s = round_sound r S s

    module _ (a b D : ℕ) (P : Pairs) (were : SoundIn C limit D P) where
      two_sound : SoundIn C limit (first_two C a b (shrunk_candidate C.depots (via_either C a b) D P)).candidate
          (first_two C a b (shrunk_candidate C.depots (via_either C a b) D P)).pairs
      unfolding first_two
      two_sound =
          let S = start (shrunk_candidate C.depots (via_either C a b) D P) in
          round_sound b (unskipped_round C a S) (unskipped_sound a S (shrunk_sound (via_either C a b) D P were))

      pub ends_sound : SoundIn C limit (linking C a b D P).final.candidate (linking C a b D P).final.pairs
      unfolding linking searched_twice
      ends_sound =
          by_test (λ o. SoundIn C limit o.final.candidate o.final.pairs) (any_pair C.depots (staying_pairs (via_either C a b) D P) || eqb D 0)
          (λ k. record { below = were.below; pairs = staying_rising (via_either C a b) D P were.pairs })
          (λ k. rounds_sound (length C.depots) (first_two C a b (shrunk_candidate C.depots (via_either C a b) D P)) two_sound)

-- an eccentricity is below the number of depots
pub ecc_below : (G : Network) → IsNet G → (v : ℕ) → (chart G).is_destination v ≡ true → ecc (chart G) v < length (vertices G)
unfolding chart
ecc_below G net v t = go (eccentricity_is G net v ov).attained
  where
    ov : T (G.is_open v)
    ov = delivers_open G v (true→t t)

    go : (ecc (chart G) v ≡ 0) ⊎ ((w : ℕ) × T (delivers G w) × IsDist G v w (ecc (chart G) v)) → ecc (chart G) v < length (vertices G)
    go (inl z) = omega (arith, distance_below G net v v 0 ov dist_self)
    go (inr x) = distance_below G net v x.0 (ecc (chart G) v) ov x.2
