-- REFUSALS 2 AND 3 of a map by their tests, before whatever tests follow them. Assumes nothing.
use mathlib.Core.Path.{◌≡◌, refl}
use mathlib.Core.Bool.{Bool, true, not, ◌&&◌}
use mathlib.Core.List.{List, ◌∷◌}
use Prim.Native.Nat.{ℕ, ◌*◌, ◌<◌}
use native.Mathlib.Omega.{arith}
use lib.ListN.{length}
use borrow.Author.Tests.{not-true, not-false}
use Rattle.std.proofs.lemmas.Bool.{and_parts}
use Rattle.lists.proofs.Conditions.{Decides, decides_iff, decides_not, decides_nand, Tells}
use Rattle.graph.specs.Network.{Network}
use Rattle.graph.specs.Distance.{vertices, unreached, connected}
use Rattle.graph.specs.Chart.{Pairs}
use Rattle.graph.proofs.Apart.{apart_of, apart_not}
use Rattle.map.specs.Memory.{yard_network}
use Rattle.map.proofs.Theorems.{network_most}
use Rattle.checks.specs.Sound.{sound_links, sound_figures, AreLinksSound}
use Rattle.checks.specs.Refusals.{IsSpoilt, IsMapSpoilt, IsSoundApart}
use Rattle.checks.proofs.Theorems.{sound_links_iff, sound_figures_iff}

module _ (W : ℕ) (most : W < 513) (members yards links : List ℕ) (number : ℕ) where
  abbrev G : Network
  G = yard_network W members yards links

  small : length (vertices G) < unreached
  small = omega (arith, network_most W members links, most)

  decides_links : Decides (sound_links (64 * W) G number) (AreLinksSound (64 * W) G number)
  decides_links = decides_iff (sound_links_iff W members yards links number)

  decides_apart : sound_links (64 * W) G number ≡ true → Decides (not (connected G)) (IsSoundApart (64 * W) G number)
  decides_apart e =
      let s = decides_links.holds e in
      record {
        holds = λ t. (s, apart_of G s.is_sound small (not-true (connected G) t));
        fails = λ f a. apart_not G s.is_sound small (not-false (connected G) f) a.1;
      }

  module _ (tests : List (Bool × ℕ)) (conditions : List (Type 0 × ℕ)) (rest : Tells tests conditions) where
    pub links_tell : Tells ((not (sound_links (64 * W) (yard_network W members yards links) number), 2) ∷ (not (connected (yard_network W members yards links)), 3) ∷ tests)
        ((IsSpoilt (64 * W) (yard_network W members yards links) number, 2) ∷ (IsSoundApart (64 * W) (yard_network W members yards links) number, 3) ∷ conditions)
    links_tell =
        let b = sound_links (64 * W) G number in
        (refl, decides_not b decides_links, λ f. (refl, decides_apart (not-false b f), λ g. rest))

    pub map_tells : (P : Pairs) (chain count : ℕ)
        → Tells
        ((not (sound_links (64 * W) (yard_network W members yards links) number && sound_figures (64 * W) (yard_network W members yards links) P chain count), 2)
        ∷ (not (connected (yard_network W members yards links)), 3)
        ∷ tests)
        ((IsMapSpoilt (64 * W) (yard_network W members yards links) number P chain count, 2) ∷ (IsSoundApart (64 * W) (yard_network W members yards links) number, 3) ∷ conditions)
    map_tells P chain count =
        let a = sound_links (64 * W) G number in
        let b = sound_figures (64 * W) G P chain count in
        let figures = decides_iff (sound_figures_iff (64 * W) G P chain count) in
        (refl, decides_nand a b decides_links figures, λ f. (refl, decides_apart (and_parts a b (not-false (a && b) f)).0, λ g. rest))
