-- The network of an open set and a row of targets: the targets are its depots that deliver; and it is the network with the yards that were taken out of the
-- open set. Assumes nothing.
use mathlib.Core.Path.{◌≡◌, refl, sym, ap, ◌∙◌, fun_ext}
use mathlib.Core.Logic.{◌⊎◌, inl, inr}
use mathlib.Core.Bool.{Bool, true, false, not, ◌&&◌}
use mathlib.Core.List.{List, []}
use Prim.Native.Nat.{ℕ, ◌*◌, ◌≤◌}
use lib.ListN.{length}
use Rattle.std.proofs.lemmas.Bool.{cases_Bool}
use Rattle.lists.specs.Lists.{range, overwrite}
use Rattle.lists.proofs.Tests.{t→true, true→t}
use Rattle.lists.proofs.Members.{filter-ext, filter-twice}
use Rattle.graph.specs.Network.{IsSound, with_yards, delivers}
use Rattle.graph.specs.Distance.{vertices}
use Rattle.graph.specs.Chart.{chart, destinations}
use Rattle.rows.specs.Rows.{row_bit, encode_row}
use Rattle.map.specs.Memory.{network_of, yard_network}
use Rattle.map.proofs.Theorems.{delivering_read}
use Rattle.rounds.specs.Targets.{target_network, AreTargets}

module _ (W : ℕ) (members targets links : List ℕ) (are : AreTargets W members targets) where
  pub target_delivers : (v : ℕ) → row_bit W targets v ≡ delivers (target_network W members targets links) v
  unfolding delivers network_of
  target_delivers v = go (cases_Bool (row_bit W targets v))
    where
      other : (m : Bool) → false ≡ (m && not (m && true))
      other true = refl
      other false = refl

      go : (row_bit W targets v ≡ true) ⊎ (row_bit W targets v ≡ false)
          → row_bit W targets v ≡ (row_bit W members v && not (row_bit W members v && not (row_bit W targets v)))
      go (inl t) = rw (t, are.are_open v t)
      go (inr f) = rw f (other (row_bit W members v))

  -- so that they are its destinations
  pub target_depots : vertices (network_of W targets []) ≡ destinations (chart (target_network W members targets links))
  unfolding network_of destinations chart
  target_depots =
      filter-ext (row_bit W targets) (λ v. row_bit W members v && delivers (target_network W members targets links) v) (range (64 * W)) (λ v m. both v (cases_Bool (row_bit W targets v)))
      ∙ sym (filter-twice (delivers (target_network W members targets links)) (row_bit W members) (range (64 * W)))
    where
      both : (v : ℕ) → (row_bit W targets v ≡ true) ⊎ (row_bit W targets v ≡ false) → row_bit W targets v ≡ (row_bit W members v && delivers (target_network W members targets links) v)
      both v (inl t) = rw (← target_delivers v, t, are.are_open v t)
      both v (inr f) = rw (← target_delivers v, f) (no (row_bit W members v))
        where
          no : (m : Bool) → false ≡ (m && false)
          no true = refl
          no false = refl

-- ---- the yards taken out of the open set

module _ (W : ℕ) (members yards targets : List ℕ) (size : W ≤ length members) (long : W ≤ length targets)
    (kept : targets ≡ overwrite (encode_row W (delivers (yard_network W members yards []))) members) where
  left : (v : ℕ) → row_bit W targets v ≡ (row_bit W members v && not (row_bit W yards v))
  unfolding delivers network_of
  left v = ap (λ (r : List ℕ). row_bit W r v) kept ∙ delivering_read W members yards [] members v

  pub delivering_targets : AreTargets W members targets
  delivering_targets = record { member_row = size; target_row = long; are_open = λ v t. go v (row_bit W members v) refl (sym (left v) ∙ t) }
    where
      go : (v : ℕ) (m : Bool) → row_bit W members v ≡ m → (m && not (row_bit W yards v)) ≡ true → m ≡ true
      go v true e t = refl
      go v false e t = t

  -- every yard being open
  pub delivering_network : (links : List ℕ) → IsSound (yard_network W members yards links) → target_network W members targets links ≡ yard_network W members yards links
  unfolding network_of
  delivering_network links sound = ap (λ (Y : ℕ → Bool). with_yards Y (network_of W members links)) (fun_ext (λ v. rw (left v) (go v (cases_Bool (row_bit W yards v)))))
    where
      go : (v : ℕ) → (row_bit W yards v ≡ true) ⊎ (row_bit W yards v ≡ false) → (row_bit W members v && not (row_bit W members v && not (row_bit W yards v))) ≡ row_bit W yards v
      go v (inl t) = rw (t, t→true (row_bit W members v) (sound.yards v (true→t t)))
      go v (inr f) = rw f (no (row_bit W members v))
        where
          no : (m : Bool) → (m && not (m && true)) ≡ false
          no true = refl
          no false = refl
