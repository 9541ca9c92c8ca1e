-- WHAT TWO RULES COME TO: the degree, and the candidate of a shrink. Assumes nothing.
use mathlib.Core.Path.{◌≡◌, refl, sym, ◌∙◌}
use mathlib.Core.Logic.{◌⊎◌, inl, inr}
use mathlib.Core.Bool.{Bool, true, false, cond}
use mathlib.Core.List.{List, Memᴰ}
use Prim.Native.Nat.{ℕ, ◌<◌, min}
use native.Mathlib.Nat.{lt_irrefl}
use native.Mathlib.Omega.{arith}
use lib.Dec.{T, ltb}
use borrow.Author.Tests.{ltb-true, lt-ltb, not-false}
use Rattle.std.proofs.lemmas.Bool.{cases_Bool}
use Rattle.lists.specs.Lists.{range, anyb, countb, max_of}
use Rattle.lists.proofs.Counts.{max_ext}
use Rattle.lists.proofs.Tests.{clash, t→true, true→t}
use Rattle.lists.proofs.Members.{any_intro}
use Rattle.lists.proofs.Distinct.{memb-range, distinct-range, count_either}
use Rattle.graph.specs.Network.{Network, IsSound}
use Rattle.graph.specs.Distance.{vertices}
use Rattle.graph.specs.Chart.{Chart, chart, Pairs}
use Rattle.graph.specs.Opening.{via, staying_pairs, any_pair, shrunk_candidate, grows_by, kept_by, opening}
use Rattle.outcome.specs.declared.Change.TheVariants.{Shrank}
use Rattle.graph.proofs.Tested.{by_tests}

-- rule 1.7: the degree is that of the whole row, with all neighbours, those that were searched or skipped included
-- (n is a number above every open depot)
pub degree_is : (G : Network) → IsSound G → (n : ℕ) → ((v : ℕ) → T (G.is_open v) → v < n) → (u : ℕ) → (chart G).degree u ≡ countb (G.linked u) (range n)
unfolding chart
degree_is G sound n below u =
    count_either (G.linked u) (vertices G) (range n) sound.once (distinct-range n)
    (λ v h. sym (sound.listed v) ∙ t→true (G.is_open v) (sound.ends u v (true→t h)))
    (λ v h. memb-range n v ∙ lt-ltb v n (below v (sound.ends u v (true→t h))))

any_out : (p : ℕ → Bool) (xs : List ℕ) → anyb p xs ≡ false → (x : ℕ) → Memᴰ x xs → p x ≡ false
any_out p xs e x m = go (cases_Bool (p x))
  where
    go : (p x ≡ true) ⊎ (p x ≡ false) → p x ≡ false
    go (inl t) = absurd (clash (any_intro p xs m t) e)
    go (inr f) = f

module _ (C : Chart) (a D : ℕ) (P : Pairs) where
  none_stays : (opening C a D P).change ≡ Shrank → any_pair C.depots (staying_pairs (via C a) D P) ≡ false
  unfolding opening
  none_stays =
      by_tests (λ o. o.change ≡ Shrank → any_pair C.depots (staying_pairs (via C a) D P) ≡ false) (grows_by C a D) (kept_by C a D)
      (any_pair C.depots (staying_pairs (via C a) D P))
      (λ p q. never (cc)) (λ p q r. never (cc)) (λ p q r s. never (cc)) (λ p q r s. r)
    where
      never : {A : Type 0} → ◌≡◌ {A = ℕ} 0 1 → A
      never z = absurd (lt_irrefl 0 (omega arith))

  dropped : (opening C a D P).change ≡ Shrank → (u v : ℕ) → Memᴰ u C.depots → Memᴰ v C.depots → P u v ≡ true → via C a u v < D
  unfolding any_pair staying_pairs
  dropped q u v mu mv h =
      let z = any_out (λ v. staying_pairs (via C a) D P u v) C.depots (any_out (λ u. anyb (λ v. staying_pairs (via C a) D P u v) C.depots) C.depots (none_stays q) u mu) v mv in
      ltb-true (via C a u v) D (not-false (ltb (via C a u v) D) (rw h at z))

  -- rule 4.4: in a shrink every stored pair's way through a is below D, so that it is the lesser of the two
  pub smaller_idle : (opening C a D P).change ≡ Shrank → shrunk_candidate C.depots (via C a) D P ≡ max_of (λ u. max_of (λ v. cond (P u v) (via C a u v) 0) C.depots) C.depots
  unfolding shrunk_candidate
  smaller_idle q = max_ext _ _ C.depots (λ u mu. max_ext _ _ C.depots (λ v mv. go u v (P u v) (dropped q u v mu mv)))
    where
      go : (u v : ℕ) (b : Bool) → (b ≡ true → via C a u v < D) → cond b (min D (via C a u v)) 0 ≡ cond b (via C a u v) 0
      go u v true h = omega (arith, h refl)
      go u v false h = refl
