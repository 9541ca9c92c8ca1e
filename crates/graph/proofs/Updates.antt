-- AN OPENING KEEPS ITS PROMISES, as an update. Assumes nothing.
use mathlib.Core.Path.{◌≡◌}
use mathlib.Core.Bool.{true}
use Prim.Native.Nat.{ℕ, suc, ◌≤◌, ◌<◌}
use native.Mathlib.Nat.{lt_of_lt_of_le}
use lib.ListN.{length}
use borrow.Author.Tests.{ltb-true, lt-ltb}
use Rattle.lists.specs.Lists.{first_of, memb}
use Rattle.lists.proofs.Tests.{t→true, true→t}
use Rattle.graph.specs.Network.{Network, delivers}
use Rattle.graph.specs.Distance.{vertices, unreached}
use Rattle.graph.specs.Chart.{chart, ecc, Pairs, own_pairs}
use Rattle.graph.specs.Opening.{Notice, by_code, with_depot, open_faults, opening}
use Rattle.graph.specs.Correct.{IsNet, AreSound}
use Rattle.graph.specs.Updates.{opens, applied, steps, first_searches, IsLawful}
use Rattle.graph.proofs.Charts.{chart_metric}
use Rattle.graph.proofs.OpeningCases.{IsInserted}
use Rattle.graph.proofs.Opened.{admitted_of, inserted}
use Rattle.graph.proofs.Theorems.{net_after, opening_covered, opening_correct}
use Rattle.graph.proofs.Skipped.{opening-says}
use Rattle.graph.proofs.SoundFigures.{SoundIn, opening_sound, ecc_below}

-- ---- sound figures, of a network and of its chart

module _ (G : Network) (limit D : ℕ) (P : Pairs) where
  pub sound_in : AreSound G limit D P → SoundIn (chart G) limit D P
  unfolding chart
  sound_in s = record {
    below = s.below;
    pairs = λ u v h. let r = s.pairs u v (true→t h) in (lt-ltb u v r.0, t→true (delivers G u) r.1, t→true (delivers G v) r.2);
  }

  pub sound_out : SoundIn (chart G) limit D P → AreSound G limit D P
  unfolding chart
  sound_out s = record {
    below = s.below;
    pairs = λ u v h. let r = s.pairs u v (t→true (P u v) h) in (ltb-true u v r.0, true→t r.1, true→t r.2);
  }

-- the same pairs on a network that has all the destinations
pub sound_more : (G H : Network) → ((v : ℕ) → (chart G).is_destination v ≡ true → (chart H).is_destination v ≡ true)
    → (limit D : ℕ) (P : Pairs) → SoundIn (chart G) limit D P → SoundIn (chart H) limit D P
sound_more G H more limit D P s = record { below = s.below; pairs = λ u v h. let r = s.pairs u v h in (r.0, more u r.1, more v r.2) }

-- eccentricities are below what the number of depots is at most
pub below_limit : (H : Network) → IsNet H → (limit : ℕ) → length (vertices H) ≤ limit → (v : ℕ) → (chart H).is_destination v ≡ true → ecc (chart H) v < limit
below_limit H net limit l v t = lt_of_lt_of_le (ecc_below H net v t) l

-- ---- an opening

module _ (G : Network) (net : IsNet G) (o : Notice) (room : suc (length (vertices G)) < unreached) (ok : first_of (open_faults G o) ≡ 0) where
  pub opens_lawful : IsLawful G (opens o)
  unfolding applied with_depot steps first_searches
  opens_lawful = record {
    net = after;
    correct = λ D P were. opening_correct G net o room ok D P were;
    covered = λ D P small. opening_covered G net o room ok D P small;
    settled = λ D P small. opening-says G net o room ok D small P;
    sound = λ limit D P few s.
        sound_out H limit (opening (chart H) o.code D P).final.candidate (opening (chart H) o.code D P).final.pairs
        (opening_sound (chart H) (chart_metric H after) limit (below_limit H after limit few) o.code D P
        (sound_more G H was.old limit D P (sound_in G limit D P s)));
  }
    where
      H : Network
      H = with_depot G o

      after : IsNet H
      after = net_after G net o room ok 0 (own_pairs (chart G) 0 0)

      was : IsInserted (chart G) (chart H) o.code
      was = inserted by_code G net o.yard o.code (λ v. memb v o.neighbours) (admitted_of G net o room ok)
