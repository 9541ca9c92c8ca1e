-- WHAT NO REFUSAL SAYS, on any lent memory: the words mean a network that a map can hold, and the notice can be opened in it. And of a memory that
-- stores a network with sound figures, refusals 2 and 3 never come. Assumes nothing.
use mathlib.Core.Path.{◌≡◌, refl, ap}
use mathlib.Core.Logic.{◌⊎◌, inl, inr}
use mathlib.Core.Bool.{Bool, true, false, not, ◌&&◌, ◌||◌}
use mathlib.Core.List.{List, ◌∷◌, ◌++◌}
use Prim.Native.Nat.{ℕ, suc, ◌+◌, ◌≤◌, ◌<◌}
use native.Mathlib.Omega.{arith}
use lib.Dec.{T, eqb}
use lib.ListN.{length}
use Rattle.lists.specs.Lists.{range, filterb, countb, memb, first_of}
use Rattle.lists.proofs.Distinct.{insert_filter}
use Rattle.lists.proofs.RangeCounts.{count_with_new}
use Rattle.rows.specs.Rows.{table_bit}
use Rattle.graph.specs.Network.{Network, IsDist, IsEcc, delivers}
use Rattle.graph.specs.Distance.{vertices, unreached, connected}
use Rattle.graph.specs.Chart.{Pairs, diameter, farthest, count_pairs}
use Rattle.graph.specs.Opening.{Notice, with_depot}
use Rattle.graph.specs.Correct.{IsNet}
use Rattle.graph.proofs.Connected.{connected_iff}
use Rattle.graph.proofs.Opened.{IsAdmitted, admitted_of}
use Rattle.graph.proofs.Theorems.{distance_below, diameter_is, farthest_is}
use Rattle.map.specs.Memory.{Shape, IsShape, places, network_of, map_network}
use Rattle.checks.specs.Sound.{sound_links, sound_figures, AreLinksSound, AreFiguresSound}
use Rattle.map.specs.declared.Record.{Record}
use Rattle.map.proofs.Theorems.{network_most}
use Rattle.checks.proofs.Theorems.{sound_links_iff, sound_figures_iff}
use Rattle.map.specs.Room.{Sizes, long_enough}
use Rattle.update.specs.UpdateCall.{update_refusal, network_after, IsWithin}
use Rattle.update.proofs.Memories.{IsHeld, Stores, number_is, depots_few}
use Rattle.graph.proofs.Delivers.{delivers_open}
use Rattle.graph.specs.Updates.{Update, opens, joins, update_faults, applied, IsLawful}
use Rattle.graph.specs.Linking.{add_link}
use Rattle.graph.proofs.Lawful.{update_lawful}
use Rattle.lent_map.proofs.Passes.{IsPassed, lent-passed, passed_net}
use Rattle.lent_map.specs.Faults.{lent_faults}

-- the definition of specs/UpdateCall.antt, opened one step
pub after_is : (K : Shape) (rec : Record) (links : List ℕ) (o : Update) → network_after K rec links o ≡ applied (map_network K rec links) o
unfolding network_after
after_is K rec links o = refl

-- an update's network lists its depots as a map does, in rising order
depots_after : (K : Shape) (rec : Record) (links : List ℕ) → IsNet (map_network K rec links) → (o : Update) → suc (length (vertices (map_network K rec links))) < unreached
    → first_of (update_faults (map_network K rec links) o) ≡ 0 → IsWithin K o → vertices (network_after K rec links o) ≡ filterb (network_after K rec links o).is_open (range (places K))
unfolding network_after applied with_depot add_link network_of update_faults
depots_after K rec links net (opens o) room ok low = insert_filter (map_network K rec links).is_open o.code (admitted_of (map_network K rec links) net o room ok).fresh (places K) low
depots_after K rec links net (joins a b) room ok low = refl

-- ---- AN UPDATE THAT IS NOT REFUSED

module _ (K : Shape) (shape : IsShape K) (rec : Record) (links pairs : List ℕ) (sizes : Sizes) (o : Update) (ok : update_refusal K rec links pairs sizes o ≡ 0) where
  abbrev N : Network
  N = map_network K rec links

  abbrev P : Pairs
  P = table_bit K.words pairs

  -- the tests that were passed
  passed : IsPassed K (long_enough K sizes) true rec links pairs (update_faults N o)
  unfolding update_refusal
  passed = lent-passed K (long_enough K sizes) true rec links pairs (update_faults N o) ok

  pub granted_long : long_enough K sizes ≡ true
  granted_long = passed.whole

  pub granted_links : AreLinksSound (places K) N rec.number
  granted_links = (sound_links_iff K.words rec.members rec.yards links rec.number).0 passed.linked

  pub granted_figures : AreFiguresSound (places K) N P rec.chain rec.count
  granted_figures = (sound_figures_iff (places K) N P rec.chain rec.count).0 (passed.stored refl)

  pub granted_room : suc (length (vertices N)) < unreached
  granted_room = omega (arith, network_most K.words rec.members links, shape.most)

  pub granted_net : IsNet N
  granted_net = passed_net K (long_enough K sizes) true rec links pairs (update_faults N o) shape passed

  pub granted_notice : first_of (update_faults N o) ≡ 0
  granted_notice = passed.others

  pub granted_chain : rec.chain ≤ unreached
  granted_chain = omega (arith, granted_figures.below, shape.most)

  -- so it keeps its promises
  pub granted_lawful : IsLawful N o
  granted_lawful = update_lawful N granted_net o granted_room granted_notice

  pub held_after : IsWithin K o → IsHeld K (network_after K rec links o)
  unfolding network_after
  held_after low = record { net = granted_lawful.net; depots = depots_after K rec links granted_net o granted_room granted_notice low }

-- ---- AN OPENING THAT IS NOT REFUSED

module _ (K : Shape) (shape : IsShape K) (rec : Record) (links pairs : List ℕ) (sizes : Sizes) (o : Notice) (ok : update_refusal K rec links pairs sizes (opens o) ≡ 0) where
  pub admitted : IsAdmitted (map_network K rec links) o.code (λ v. memb v o.neighbours)
  unfolding update_faults
  admitted =
      admitted_of (map_network K rec links) (granted_net K shape rec links pairs sizes (opens o) ok) o (granted_room K shape rec links pairs sizes (opens o) ok)
      (granted_notice K shape rec links pairs sizes (opens o) ok)

  after_open : (network_after K rec links (opens o)).is_open ≡ (λ k. eqb k o.code || (map_network K rec links).is_open k)
  unfolding network_after applied with_depot
  after_open = refl

  -- one depot more is open
  pub number_after : o.code < places K → rec.number + 1 ≡ length (vertices (network_after K rec links (opens o)))
  number_after low =
      let a : rec.number ≡ countb (map_network K rec links).is_open (range (places K)) = (granted_links K shape rec links pairs sizes (opens o) ok).counted in
      let b = count_with_new (places K) (map_network K rec links).is_open o.code low admitted.fresh in
      let c = number_is K (network_after K rec links (opens o)) (held_after K shape rec links pairs sizes (opens o) ok low) in
      let d = ap (λ (p : ℕ → Bool). countb p (range (places K))) after_open in
      omega arith

-- ---- A MEMORY THAT STORES A NETWORK WITH SOUND FIGURES is refused for its sizes or the notice alone; a network's own figures are sound

module _ (K : Shape) (shape : IsShape K) (G : Network) (held : IsHeld K G) where
  diameter_below : diameter G < places K
  diameter_below = go (diameter_is G held.net).attained
    where
      reached : (u : ℕ) → T (G.is_open u) → (diameter G ≡ 0) ⊎ ((v : ℕ) × T (delivers G v) × IsDist G u v (diameter G)) → diameter G < places K
      reached u o (inl z) = let p : 0 < K.words = shape.positive in omega arith
      reached u o (inr x) = omega (arith, distance_below G held.net u x.0 (diameter G) o x.2, depots_few K G held)

      go : (diameter G ≡ 0) ⊎ ((u : ℕ) × T (delivers G u) × IsEcc G (delivers G) u (diameter G)) → diameter G < places K
      go (inl z) = let p : 0 < K.words = shape.positive in omega arith
      go (inr x) = reached x.0 (delivers_open G x.0 x.1) x.2.attained

  links_are_sound_lem : AreLinksSound (places K) G (length (vertices G))
  links_are_sound_lem = record { is_sound = held.net.sound; counted = number_is K G held }

  pub figures_are_sound_lem : AreFiguresSound (places K) G (farthest G) (diameter G) (count_pairs (range (places K)) (farthest G))
  figures_are_sound_lem = record {
    rising = λ u v l m p. ((farthest_is G held.net u v).0 p).before;
    ends = λ u v l m p. let f = (farthest_is G held.net u v).0 p in (f.first, f.second);
    counted = refl;
    below = diameter_below;
  }

  module _ (D : ℕ) (P : Pairs) (sound : AreFiguresSound (places K) G P D (count_pairs (range (places K)) P)) where
    module _ (rec : Record) (links pairs : List ℕ) (s : Stores K G D P rec links pairs) where
      pub links_pass : sound_links (places K) (map_network K rec links) rec.number ≡ true
      links_pass = (sound_links_iff K.words rec.members rec.yards links rec.number).1 (rw (s.network, s.number) links_are_sound_lem)

      pub figures_pass : sound_figures (places K) (map_network K rec links) (table_bit K.words pairs) rec.chain rec.count ≡ true
      figures_pass = rw (s.network, s.pairs, s.chain, s.count) ((sound_figures_iff (places K) G P D (count_pairs (range (places K)) P)).1 sound)

      pub connected_pass : connected (map_network K rec links) ≡ true
      connected_pass = rw s.network ((connected_iff G held.net.sound held.net.small).1 held.net.connected)

    -- it need store them only where the sizes are enough: then the call's own faults alone are left, read off the network
    module _ (rec : Record) (links pairs : List ℕ) (long : Bool) (says : long ≡ true → Stores K G D P rec links pairs) (faults : Network → List (Bool × ℕ)) where
      abbrev R : Network
      R = map_network K rec links

      pub lent_alike : first_of (lent_faults K long true rec links pairs ++ faults R) ≡ first_of ((not long, 1) ∷ faults G)
      unfolding lent_faults first_of
      lent_alike = go long refl
        where
          go : (b : Bool) → long ≡ b
              → first_of ((not b, 1) ∷ (not (sound_links (places K) R rec.number && sound_figures (places K) R (table_bit K.words pairs) rec.chain rec.count), 2) ∷ (not (connected R), 3) ∷ faults R)
              ≡ first_of ((not b, 1) ∷ faults G)
          go false e = refl
          go true e =
              let s = says e in
              rw (links_pass rec links pairs s, figures_pass rec links pairs s, connected_pass rec links pairs s) (ap (λ (X : Network). first_of (faults X)) s.network)

    pub refused_alike : (rec : Record) (links pairs : List ℕ) (sizes : Sizes) (o : Update) → (long_enough K sizes ≡ true → Stores K G D P rec links pairs)
        → update_refusal K rec links pairs sizes o ≡ first_of ((not (long_enough K sizes), 1) ∷ update_faults G o)
    unfolding update_refusal
    refused_alike rec links pairs sizes o says = lent_alike rec links pairs (long_enough K sizes) says (λ X. update_faults X o)
