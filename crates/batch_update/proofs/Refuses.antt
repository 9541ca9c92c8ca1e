-- THE REFUSALS OF A BATCH, by the code's tests: those of the lent memory first, then those of its lines; and what no refusal says. Assumes nothing.
use mathlib.Core.Path.{◌≡◌, refl, sym, ap, ◌∙◌}
use mathlib.Core.Bool.{Bool, true, not, ◌&&◌}
use mathlib.Core.List.{List, []}
use Prim.Native.Nat.{ℕ, ◌≤◌, ◌<◌}
use lib.Dec.{leb, ltb}
use lib.ListN.{length}
use borrow.Author.Tests.{not-false, leb-true, ltb-true, ltb-false}
use Rattle.std.proofs.lemmas.Bool.{and_parts}
use Rattle.lists.specs.Lists.{allb, first_of}
use Rattle.lists.proofs.Members.{first_zero, first_kept, first_passed}
use Rattle.rows.specs.Rows.{table_bit}
use Rattle.graph.specs.Network.{Network}
use Rattle.graph.specs.Distance.{vertices, connected}
use Rattle.map.specs.Memory.{Shape, places, network_of, map_network}
use Rattle.map.specs.declared.Record.{Record}
use Rattle.map.specs.Room.{Sizes, long_enough}
use Rattle.checks.specs.Sound.{sound_links, sound_figures}
use Rattle.lent_map.specs.Faults.{lent_faults, lent_refusal}
use Rattle.notice.specs.Lines.{lines_of}
use Rattle.update.specs.Steps.{map_refusal}
use Rattle.update.proofs.Refuses.{refused_never}
use Rattle.batch.specs.Lines.{batch_limit, is_opening, batch_faults}
use Rattle.batch_update.specs.BatchCall.{batch_refusal}

-- ---- the sizes

pub long_both : (K : Shape) (z : Sizes) (m : ℕ) {b : Bool} → b ≡ (leb batch_limit m && long_enough K z) → b ≡ true → long_enough K z ≡ true
long_both K z m e h = (and_parts (leb batch_limit m) (long_enough K z) (sym e ∙ h)).1

-- what no refusal says: the places, the lent map, the lines
pub record IsGranted (K : Shape) (rec : Record) (links pairs : List ℕ) (z : Sizes) (m : ℕ) (input : List ℕ) : Type 0 where
  pub room : batch_limit ≤ m
  pub free : map_refusal K rec links pairs z ≡ 0
  pub few : length (lines_of input) ≤ batch_limit
  pub some_open : 0 < length (vertices (map_network K rec links))
  pub opening : allb is_opening (lines_of input) ≡ true

module _ (K : Shape) (rec : Record) (links pairs : List ℕ) (z : Sizes) (m : ℕ) (input : List ℕ) where
  abbrev G : Network
  G = map_network K rec links

  abbrev long : Bool
  long = leb batch_limit m && long_enough K z

  -- ---- by the code's answers

  pub refused_by-lent : {b : Bool} {k : ℕ} → b ≡ (leb batch_limit m && long_enough K z) → k ≡ lent_refusal K b true rec links pairs → (k ≡ 0 → ⊥) → k ≡ batch_refusal K rec links pairs z m input
  unfolding lent_refusal batch_refusal
  refused_by-lent {b} {k} q e n =
      let p : k ≡ lent_refusal K long true rec links pairs = e ∙ ap (λ (x : Bool). lent_refusal K x true rec links pairs) q in
      p ∙ sym (first_kept (lent_faults K long true rec links pairs) (batch_faults (length (vertices G)) input) (λ z. n (p ∙ z)))

  -- the open set alone is asked, so that the lines know no link
  pub refused_by_lines : {b : Bool} {k r : ℕ} → b ≡ (leb batch_limit m && long_enough K z) → k ≡ lent_refusal K b true rec links pairs → k ≡ 0
      → r ≡ first_of (batch_faults (length (vertices (network_of K.words rec.members []))) input) → r ≡ batch_refusal K rec links pairs z m input
  unfolding lent_refusal lent_faults batch_refusal network_of allb
  refused_by_lines {b} {k} q e none f =
      let z : first_of (lent_faults K long true rec links pairs) ≡ 0 = sym (sym none ∙ e ∙ ap (λ (x : Bool). lent_refusal K x true rec links pairs) q) in
      f ∙ sym (first_passed (lent_faults K long true rec links pairs) (batch_faults (length (vertices G)) input) refl z)

  -- ---- A BATCH THAT IS NOT REFUSED

  pub granted : batch_refusal K rec links pairs z m input ≡ 0 → IsGranted K rec links pairs z m input
  unfolding batch_refusal lent_faults batch_faults
  granted ok =
      let sound = sound_links (places K) G rec.number && sound_figures (places K) G (table_bit K.words pairs) rec.chain rec.count in
      let a = first_zero (not long) 0 _ ok in
      let b = first_zero (not sound) 1 _ a.1 in
      let c = first_zero (not (connected G)) 2 _ b.1 in
      let d = first_zero (ltb batch_limit (length (lines_of input))) 10 _ c.1 in
      let e = first_zero (not (ltb 0 (length (vertices G)))) 11 _ d.1 in
      let f = first_zero (not (allb is_opening (lines_of input))) 8 _ e.1 in
      let s = and_parts (sound_links (places K) G rec.number) (sound_figures (places K) G (table_bit K.words pairs) rec.chain rec.count) (not-false sound b.0) in
      let l = and_parts (leb batch_limit m) (long_enough K z) (not-false long a.0) in
      record {
        room = leb-true batch_limit m l.0;
        free = sym (refused_never K rec links pairs z l.1 s.0 s.1 (not-false (connected G) c.0));
        few = ltb-false batch_limit (length (lines_of input)) d.0;
        some_open = ltb-true 0 (length (vertices G)) (not-false _ e.0);
        opening = not-false _ f.0;
      }
