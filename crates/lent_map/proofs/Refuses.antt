-- THE REFUSALS 1 TO 3, by the code's tests, and by the published words. Assumes nothing.
use mathlib.Core.Path.{◌≡◌, refl}
use mathlib.Core.Bool.{Bool, true, false, not, ◌||◌}
use mathlib.Core.List.{List, [], ◌++◌}
use Prim.Native.Nat.{ℕ, ◌*◌}
use Rattle.lists.specs.Lists.{first_of}
use Rattle.lists.specs.Conditions.{IsShort}
use Rattle.lists.proofs.Conditions.{Decides, Tells}
use Rattle.graph.specs.Network.{Network, IsSound, delivers}
use Rattle.graph.specs.Distance.{connected}
use Rattle.graph.proofs.Yards.{yards_connected, sound_yardless}
use Rattle.rows.specs.Rows.{row_bit, table_bit}
use Rattle.map.specs.Memory.{Shape, IsShape, places, network_of, yard_network, map_network}
use Rattle.map.specs.Bits.{sound_pair}
use Rattle.map.proofs.Theorems.{network_yardless}
use Rattle.map.specs.declared.Record.{Record}
use Rattle.checks.specs.Sound.{sound_links, sound_figures}
use Rattle.checks.proofs.Theorems.{sound_links_iff}
use Rattle.checks.proofs.Refusals.{links_tell, map_tells}
use Rattle.lent_map.specs.Faults.{lent_faults, lent_refusal, lent_conditions}
use Rattle.lists.proofs.Tests.{clash}

-- sound links, from the check's answer: of the map, and of its depots and links alone
pub sound_by : (W : ℕ) (members yards links : List ℕ) (number : ℕ) → sound_links (64 * W) (yard_network W members yards links) number ≡ true
    → IsSound (yard_network W members yards links)
sound_by W members yards links number e = ((sound_links_iff W members yards links number).0 e).is_sound

pub sound_plain : (W : ℕ) (members yards links : List ℕ) (number : ℕ) → sound_links (64 * W) (yard_network W members yards links) number ≡ true
    → IsSound (network_of W members links)
sound_plain W members yards links number e =
    sound_yardless (row_bit W yards) (network_of W members links) (sound_by W members yards links number e) (network_yardless W members links)

-- ---- by the code's tests, the figures by a check that knows no links

module _ (K : Shape) (rec : Record) (links pairs : List ℕ) where
  abbrev G : Network
  G = map_network K rec links

  abbrev stored : Bool
  stored = sound_figures (places K) (map_network K rec []) (table_bit K.words pairs) rec.chain rec.count

  by_stored : sound_figures (places K) G (table_bit K.words pairs) rec.chain rec.count ≡ stored
  unfolding sound_figures sound_pair delivers network_of
  by_stored = refl

  -- and connectedness by depots and links alone
  abbrev plain : Network
  plain = network_of K.words rec.members links

  by-plain : connected G ≡ connected plain
  by-plain = yards_connected (row_bit K.words rec.yards) plain

  pub refused_short : {long : Bool} (figured : Bool) → long ≡ false → 1 ≡ lent_refusal K long figured rec links pairs
  unfolding lent_refusal lent_faults first_of
  refused_short figured a = rw a

  pub refused_links : {long : Bool} (figured : Bool) → long ≡ true → sound_links (places K) G rec.number ≡ false → 2 ≡ lent_refusal K long figured rec links pairs
  unfolding lent_refusal lent_faults first_of
  refused_links true a b = rw (a, b)
  refused_links false a b = rw (a, b)

  pub refused_figures : {long : Bool} (figured : Bool) → long ≡ true → sound_links (places K) G rec.number ≡ true → (not figured || stored) ≡ false → 2 ≡ lent_refusal K long figured rec links pairs
  unfolding lent_refusal lent_faults first_of
  refused_figures true a b c = rw (a, b, by_stored, c)
  refused_figures false a b c = absurd (clash refl c)

  pub refused_apart : {long : Bool} (figured : Bool) → long ≡ true → sound_links (places K) G rec.number ≡ true → (not figured || stored) ≡ true → connected plain ≡ false
      → 3 ≡ lent_refusal K long figured rec links pairs
  unfolding lent_refusal lent_faults first_of
  refused_apart true a b c d = rw (a, b, by_stored, c, by-plain, d)
  refused_apart false a b c d = rw (a, b, by-plain, d)

  pub refused_never : {long : Bool} (figured : Bool) → long ≡ true → sound_links (places K) G rec.number ≡ true → (not figured || stored) ≡ true → connected plain ≡ true
      → 0 ≡ lent_refusal K long figured rec links pairs
  unfolding lent_refusal lent_faults first_of
  refused_never true a b c d = rw (a, b, by_stored, c, by-plain, d)
  refused_never false a b c d = rw (a, b, by-plain, d)

-- the first test that fails is the answer; sound links are the plain network's too
pub ruleset refusals = (sound_plain, refused_short, refused_links, refused_figures, refused_apart, refused_never)

-- ---- by the published words, before whatever a call looks at besides

pub lent_tells : (K : Shape) → IsShape K → (long figured : Bool) (buffers : List (ℕ × ℕ)) → Decides (not long) (IsShort buffers) → (rec : Record) (links pairs : List ℕ)
    (tests : List (Bool × ℕ)) (conditions : List (Type 0 × ℕ)) → Tells tests conditions
    → Tells (lent_faults K long figured rec links pairs ++ tests) (lent_conditions K buffers figured rec links pairs ++ conditions)
unfolding lent_faults
lent_tells K shape long true buffers d rec links pairs tests conditions rest =
    (refl, d, λ f. map_tells K.words shape.most rec.members rec.yards links rec.number tests conditions rest (table_bit K.words pairs) rec.chain rec.count)
lent_tells K shape long false buffers d rec links pairs tests conditions rest =
    (refl, d, λ f. links_tell K.words shape.most rec.members rec.yards links rec.number tests conditions rest)
