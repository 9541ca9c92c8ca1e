-- THE REFUSALS 1 TO 3 BEFORE WHAT A CALL LOOKS AT BESIDES: the first that holds is the call's; where none holds the rest decides, and the map is lent
-- whole, sound and connected. Of searches, reckonings and updates. Assumes nothing.
use mathlib.Core.Path.{◌≡◌, refl}
use mathlib.Core.Bool.{Bool, true, false, cond, not, ◌&&◌}
use mathlib.Core.List.{List, [], ◌∷◌, ◌++◌}
use Prim.Native.Nat.{ℕ, ◌<◌}
use native.Mathlib.Omega.{arith}
use lib.ListN.{length}
use borrow.Author.Tests.{not-false}
use Rattle.std.proofs.lemmas.Bool.{and_parts}
use Rattle.outcome.specs.Numbers.{short_buffer, spoilt_map, apart_map}
use Rattle.lists.specs.Lists.{first_of}
use Rattle.lists.proofs.Tests.{clash}
use Rattle.lists.proofs.Members.{first_zero}
use Rattle.graph.specs.Network.{Network}
use Rattle.graph.specs.Distance.{vertices, unreached, connected}
use Rattle.graph.specs.Correct.{IsNet}
use Rattle.graph.proofs.Connected.{connected_iff}
use Rattle.rows.specs.Rows.{table_bit}
use Rattle.map.specs.Memory.{Shape, IsShape, places, map_network}
use Rattle.map.specs.declared.Record.{Record}
use Rattle.map.proofs.Theorems.{network_most}
use Rattle.checks.specs.Sound.{sound_links, sound_figures}
use Rattle.lent_map.specs.Faults.{lent_faults, lent_refusal}
use Rattle.lent_map.proofs.Refuses.{sound_by}

-- ---- the first of all

first : (x y w : Bool) (rest : List (Bool × ℕ)) {k : ℕ} → k ≡ first_of ((x, short_buffer) ∷ (y, spoilt_map) ∷ (w, apart_map) ∷ []) → (k ≡ 0 → ⊥) → k ≡ first_of ((x, short_buffer) ∷ (y, spoilt_map) ∷ (w, apart_map) ∷ rest)
unfolding first_of
first true y w rest e n = e
first false true w rest e n = e
first false false true rest e n = e
first false false false rest e n = absurd (n e)

then : (x y w : Bool) (rest : List (Bool × ℕ)) → 0 ≡ first_of ((x, short_buffer) ∷ (y, spoilt_map) ∷ (w, apart_map) ∷ []) → first_of rest ≡ first_of ((x, short_buffer) ∷ (y, spoilt_map) ∷ (w, apart_map) ∷ rest)
unfolding first_of
then true y w rest e = absurd (omega arith)
then false true w rest e = absurd (omega arith)
then false false true rest e = absurd (omega arith)
then false false false rest e = refl

-- ---- none holds

-- the tests that were passed, those of the call's rest too
pub record IsPassed (K : Shape) (long figured : Bool) (rec : Record) (links pairs : List ℕ) (rest : List (Bool × ℕ)) : Type 0 where
  pub whole : long ≡ true
  pub linked : sound_links (places K) (map_network K rec links) rec.number ≡ true
  pub stored : figured ≡ true → sound_figures (places K) (map_network K rec links) (table_bit K.words pairs) rec.chain rec.count ≡ true
  pub joined : connected (map_network K rec links) ≡ true
  pub others : first_of rest ≡ 0

-- the figures are looked at where the call goes by them
by_figures : (figured s f : Bool) → cond figured (s && f) s ≡ true → (s ≡ true) × (figured ≡ true → f ≡ true)
by_figures true s f e = let b = and_parts s f e in (b.0, λ q. b.1)
by_figures false s f e = (e, λ q. absurd (clash q refl))

module _ (K : Shape) (long figured : Bool) (rec : Record) (links pairs : List ℕ) (rest : List (Bool × ℕ)) where
  abbrev G : Network
  G = map_network K rec links

  abbrev sound : Bool
  sound = sound_links (places K) G rec.number

  abbrev figures : Bool
  figures = sound_figures (places K) G (table_bit K.words pairs) rec.chain rec.count

  pub lent_first : {k : ℕ} → k ≡ lent_refusal K long figured rec links pairs → (k ≡ 0 → ⊥) → k ≡ first_of (lent_faults K long figured rec links pairs ++ rest)
  unfolding lent_refusal lent_faults
  lent_first e n = first (not long) (not (cond figured (sound && figures) sound)) (not (connected G)) rest e n

  pub lent_then : 0 ≡ lent_refusal K long figured rec links pairs → first_of rest ≡ first_of (lent_faults K long figured rec links pairs ++ rest)
  unfolding lent_refusal lent_faults
  lent_then e = then (not long) (not (cond figured (sound && figures) sound)) (not (connected G)) rest e

  pub lent-passed : first_of (lent_faults K long figured rec links pairs ++ rest) ≡ 0 → IsPassed K long figured rec links pairs rest
  unfolding lent_faults
  lent-passed z =
      let a = first_zero (not long) 0 _ z in
      let b = first_zero (not (cond figured (sound && figures) sound)) 1 _ a.1 in
      let c = first_zero (not (connected G)) 2 rest b.1 in
      let s = by_figures figured sound figures (not-false _ b.0) in
      record { whole = not-false long a.0; linked = s.0; stored = s.1; joined = not-false (connected G) c.0; others = c.1 }

  -- so it holds a sound, connected network
  pub passed_net : IsShape K → IsPassed K long figured rec links pairs rest → IsNet (map_network K rec links)
  passed_net shape passed =
      let s = sound_by K.words rec.members rec.yards links rec.number passed.linked in
      let m : length (vertices G) < unreached = omega (arith, network_most K.words rec.members links, shape.most) in
      record { sound = s; connected = (connected_iff G s m).0 passed.joined; small = m }
