-- TWO FIRST REFERENCES: a round without skipping, and then one with it, keep the rounds' invariant, over any finite metric space. Assumes nothing.
use mathlib.Core.Path.{◌≡◌, refl, sym, ◌∙◌}
use mathlib.Core.Logic.{inr}
use mathlib.Core.Bool.{Bool, true, false, cond}
use mathlib.Core.List.{List, [], ◌∷◌, ◌++◌, Memᴰ}
use Prim.Native.Nat.{ℕ, ◌+◌, ◌≤◌, ◌<◌, min}
use native.Mathlib.Nat.{lt_irrefl}
use native.Mathlib.Omega.{arith}
use lib.Dec.{eqb, ltb}
use lib.ListN.{length}
use borrow.Author.Tests.{ltb-true, ne_eqb}
use Rattle.lists.specs.Lists.{anyb, memb}
use Rattle.lists.proofs.Members.{memb_snoc}
use Rattle.lists.proofs.Counts.{count_le_length}
use Rattle.graph.specs.Distance.{unreached}
use Rattle.graph.specs.Chart.{Chart, ecc}
use Rattle.graph.specs.Rounds.{Status, waiting, skipped, searched, is_waiting, State, offer, raise, round, rounds, start}
use Rattle.graph.specs.Linking.{unskipped_round, first_two}
use Rattle.graph.proofs.Metric.{IsMetric}
use Rattle.graph.proofs.Round.{Fine, Invariant, round_keeps}
use Rattle.graph.proofs.Rounds.{waiting_count, rounds_right, start_fine}

module _ (C : Chart) (metric : IsMetric C) where
  -- what stands well after an offer with skipping stands well after one without: a bound that was given stays right
  unskip : (c r x v : ℕ) (refs : List ℕ) (s : Status) → Fine C metric c refs v (offer c r x s) → Fine C metric c refs v (offer 0 r x s)
  unfolding offer
  unskip c r x v refs (searched e) f = f
  unskip c r x v refs (skipped b g) f = f
  unskip c r x v refs (waiting b g) f = go (ltb (min x b) c) (ltb (min x b) 0) refl f
    where
      go : (s z : Bool) → ltb (min x b) 0 ≡ z
          → Fine C metric c refs v (cond s (skipped (min x b) (cond (ltb x b) r g)) (waiting (min x b) (cond (ltb x b) r g)))
          → Fine C metric c refs v (cond z (skipped (min x b) (cond (ltb x b) r g)) (waiting (min x b) (cond (ltb x b) r g)))
      go s true q f = let l : min x b < 0 = ltb-true (min x b) 0 q in absurd (lt_irrefl 0 (omega arith))
      go true false q f = (f.0, f.1, inr f.2)
      go false false q f = f

  module _ (top : ℕ) (most : (v : ℕ) → C.is_destination v ≡ true → ecc C v ≤ top) (top_small : top ≤ unreached) where
    pub unskipped_keeps : (S : State) (r : ℕ) → Memᴰ r C.depots → Invariant C metric top S → memb r S.references ≡ false
        → Invariant C metric top (unskipped_round C r S)
    unfolding unskipped_round round
    unskipped_keeps S r mr I fresh =
        let J = round_keeps C metric S r mr top I most top_small fresh in
        record {
          bounded = J.bounded;
          fine = λ v m. go v (eqb v r) (J.fine v m);
          counted = J.counted;
          searched_inside = J.searched_inside;
          is_pair = J.is_pair;
          pair = J.pair;
        }
      where
        c : ℕ
        c = raise C r (ecc C r) S.candidate

        go : (v : ℕ) (b : Bool)
            → Fine C metric c (S.references ++ (r ∷ [])) v (cond b (searched (ecc C r)) (offer c r (ecc C r + C.distance r v) (S.status v)))
            → Fine C metric c (S.references ++ (r ∷ [])) v (cond b (searched (ecc C r)) (offer 0 r (ecc C r + C.distance r v) (S.status v)))
        go v true f = f
        go v false f = unskip c r (ecc C r + C.distance r v) v (S.references ++ (r ∷ [])) (S.status v) f

    module _ (a b : ℕ) (ma : Memᴰ a C.depots) (mb : Memᴰ b C.depots) (apart : a ≡ b → ⊥) (c : ℕ) (low : c ≤ top) where
      unreferenced : (r : ℕ) → memb r (start c).references ≡ false
      unfolding start memb anyb
      unreferenced r = refl

      second_free : memb b (unskipped_round C a (start c)).references ≡ false
      unfolding unskipped_round start
      second_free = memb_snoc b [] a ∙ rw (unreferenced b, ne_eqb b a (λ e. apart (sym e)))

      two_keep : Invariant C metric top (first_two C a b c)
      unfolding first_two
      two_keep =
          let S = unskipped_round C a (start c) in
          let I = start_fine C metric top most top_small c low in
          let J = unskipped_keeps (start c) a ma I (unreferenced a) in
          round_keeps C metric S b mb top J most top_small second_free

      -- the rounds after the two end right
      pub two_settled : Invariant C metric top (rounds C (length C.depots) (first_two C a b c))
          × (waiting_count C metric (rounds C (length C.depots) (first_two C a b c)) ≡ 0)
      unfolding waiting_count
      two_settled =
          rounds_right C metric top most top_small (length C.depots) (first_two C a b c) two_keep
          (count_le_length (λ v. is_waiting ((first_two C a b c).status v)) C.depots)
