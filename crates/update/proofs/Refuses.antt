-- THE REFUSALS OF AN UPDATE, by the code's tests: those of the lent memory first, then its own. Assumes nothing.
use mathlib.Core.Path.{◌≡◌, refl, ap, ◌∙◌}
use mathlib.Core.Bool.{Bool, true, not}
use mathlib.Core.List.{List}
use Prim.Native.Nat.{ℕ, zero, suc}
use lib.ListN.{length}
use borrow.Author.Tests.{not-false}
use Rattle.lists.specs.Lists.{first_of}
use Rattle.lists.proofs.Members.{first_zero}
use Rattle.graph.specs.Network.{Network}
use Rattle.graph.specs.Distance.{connected}
use Rattle.graph.specs.Chart.{Pairs}
use Rattle.graph.specs.Opening.{Notice, open_faults}
use Rattle.graph.specs.Updates.{Update, opens, update_faults}
use Rattle.rows.specs.Rows.{table_bit}
use Rattle.map.specs.Room.{tables, Lent, lent, Sizes, sizes, sizes_of, long_enough}
use Rattle.map.specs.Memory.{Shape, places, map_network}
use Rattle.checks.specs.Sound.{sound_links, sound_figures}
use Rattle.map.specs.declared.Record.{Record}
use Rattle.update.specs.UpdateCall.{update_refusal, UpdateLeft, update_left, update_given, update_call}
use Rattle.update.specs.Steps.{map_refusal, refused_with}
use Rattle.update.specs.declared.Returned.{Returned}
use Rattle.lent_map.proofs.Passes.{lent_first, lent_then}
use Rattle.lent_map.specs.Faults.{lent_faults, lent_refusal}

module _ (K : Shape) (rec : Record) (links pairs : List ℕ) (z : Sizes) where
  abbrev G : Network
  G = map_network K rec links

  abbrev P : Pairs
  P = table_bit K.words pairs

  pub refused_never : long_enough K z ≡ true → sound_links (places K) G rec.number ≡ true → sound_figures (places K) G P rec.chain rec.count ≡ true → connected G ≡ true
      → 0 ≡ map_refusal K rec links pairs z
  unfolding map_refusal lent_refusal lent_faults first_of
  refused_never a b c d = rw (a, b, c, d)

  -- what the code answers for the lent map
  pub refused_map : {k : ℕ} {b : Bool} → b ≡ long_enough K z → k ≡ lent_refusal K b true rec links pairs → k ≡ map_refusal K rec links pairs z
  unfolding map_refusal
  refused_map q e = e ∙ ap (λ (b : Bool). lent_refusal K b true rec links pairs) q

  -- ---- then the update

  pub refused_by-map : (o : Update) (k : ℕ) → k ≡ map_refusal K rec links pairs z → (k ≡ 0 → ⊥) → k ≡ update_refusal K rec links pairs z o
  unfolding map_refusal update_refusal
  refused_by-map o k e n = lent_first K (long_enough K z) true rec links pairs (update_faults G o) e n

  pub refused_by_update : (o : Update) → 0 ≡ map_refusal K rec links pairs z → first_of (update_faults G o) ≡ update_refusal K rec links pairs z o
  unfolding map_refusal update_refusal
  refused_by_update o e = lent_then K (long_enough K z) true rec links pairs (update_faults G o) e

  -- of an opening its notice's
  pub refused_by_notice : (o : Notice) → 0 ≡ map_refusal K rec links pairs z → first_of (open_faults G o) ≡ update_refusal K rec links pairs z (opens o)
  unfolding update_faults
  refused_by_notice o e = refused_by_update (opens o) e

  -- a map that nothing refuses is lent whole
  pub map_long : map_refusal K rec links pairs z ≡ 0 → long_enough K z ≡ true
  unfolding map_refusal lent_refusal lent_faults
  map_long e = not-false (long_enough K z) (first_zero (not (long_enough K z)) 0 _ e).0

-- ---- the call

module _ (K : Shape) (rec : Record) (links p h b s x y : List ℕ) (o : Update) where
  abbrev B : Lent
  B = lent p (tables h x y) b s

  abbrev z : Sizes
  z = sizes (length links) (length p) (length h) (length b) (length s) (length x) (length y)

  pub refused_call : (k : ℕ) (r : Returned) → r ≡ refused_with k rec → k ≡ update_refusal K rec links p z o → (k ≡ 0 → ⊥) → update_left r links B ≡ update_call K rec links B o
  unfolding update_call update_given sizes_of
  refused_call k r q e n = ap (λ (r : Returned). update_left r links B) q ∙ go k n ∙ ap (λ (m : ℕ). update_given m K rec links B o) e
    where
      go : (k : ℕ) → (k ≡ 0 → ⊥) → update_left (refused_with k rec) links B ≡ update_given k K rec links B o
      go zero n = absurd (n refl)
      go (suc k) n = refl

  pub accepted_call : (l : UpdateLeft) → 0 ≡ update_refusal K rec links p z o → l ≡ update_given 0 K rec links B o → l ≡ update_call K rec links B o
  unfolding update_call sizes_of
  accepted_call l q e = e ∙ ap (λ (m : ℕ). update_given m K rec links B o) q
