-- WHAT OPENINGS IN A BATCH LEAVE, way out by way out. Assumes nothing.
use mathlib.Core.Path.{◌≡◌, refl, ap, ap₂, ◌∙◌}
use mathlib.Core.Bool.{Bool, not, ◌&&◌}
use mathlib.Core.List.{List, ◌∷◌}
use Prim.Native.Nat.{ℕ, zero, suc, ◌≤◌}
use lib.Dec.{leb}
use lib.ListN.{length, get_or}
use borrow.Author.Tests.{le-ltb}
use Rattle.lists.specs.Lists.{first_of}
use Rattle.graph.specs.Distance.{vertices, connected}
use Rattle.rows.specs.Rows.{table_bit}
use Rattle.map.specs.Room.{Lent, sizes_of, long_enough}
use Rattle.map.specs.Memory.{base}
use Rattle.map.specs.declared.Record.{Record}
use Rattle.lent_map.specs.Faults.{lent_faults}
use Rattle.batch.specs.Lines.{batch_limit, batch_faults}
use Rattle.batch_update.specs.BatchCall.{batch_refusal, BatchLeft, batch_given, batch_call}
use Rattle.batch_update.proofs.Refuses.{granted}
use Rattle.c_values.specs.Words.{record_words, record_of, clamped_of}
use Rattle.c_values.proofs.Clamps.{network_in, links_clamp, figures_clamp, clamped_is}
use Rattle.c_updates.specs.BatchOuts.{BatchOut, batch_from, batch_out}

module _ (l links : List ℕ) (B : Lent) (left : List ℕ) (old : ℕ) (lines : List ℕ) where
  abbrev batched : BatchLeft → BatchOut
  batched x = batch_from x.answer x l old

  abbrev first : Record → ℕ
  first rec = batch_refusal base rec links B.pairs (sizes_of links B) (length left) lines

  -- a figure that is too large is spoilt, as the largest one is
  batch_refusal_clamp : first (clamped_of l) ≡ first (record_of l)
  unfolding batch_refusal lent_faults clamped_of record_of
  batch_refusal_clamp =
      let G = network_in l links in
      ap₂
      (λ (t u : Bool). first_of
      ((not (leb batch_limit (length left) && long_enough base (sizes_of links B)), 1)
      ∷ (not (t && u), 2)
      ∷ (not (connected G), 3)
      ∷ batch_faults (length (vertices G)) lines))
      (links_clamp (network_in l links) (get_or l 4 0))
      (figures_clamp (network_in l links) (table_bit 4 B.pairs) (get_or l 5 0) (get_or l 6 0))

  -- an accepted batch read the record that was lent
  batch_read : first (record_of l) ≡ 0 → clamped_of l ≡ record_of l
  batch_read e =
      clamped_is l links B.pairs (sizes_of links B) (granted base (record_of l) links B.pairs (sizes_of links B) (length left) lines e).free

  batch_refuse : (k : ℕ) → batched (batch_given (suc k) base (clamped_of l) links B left lines) ≡ batched (batch_given (suc k) base (record_of l) links B left lines)
  unfolding batch_given batch_from
  batch_refuse k = refl

  batch_clamp : batched (batch_call base (clamped_of l) links B left lines) ≡ batched (batch_call base (record_of l) links B left lines)
  unfolding batch_call
  batch_clamp = ap (λ (k : ℕ). batched (batch_given k base (clamped_of l) links B left lines)) batch_refusal_clamp ∙ same (first (record_of l)) refl
    where
      accept : first (record_of l) ≡ 0 → batched (batch_given 0 base (clamped_of l) links B left lines) ≡ batched (batch_given 0 base (record_of l) links B left lines)
      accept e = ap (λ (x : Record). batched (batch_given 0 base x links B left lines)) (batch_read e)

      same : (k : ℕ) → first (record_of l) ≡ k → batched (batch_given k base (clamped_of l) links B left lines) ≡ batched (batch_given k base (record_of l) links B left lines)
      same zero e = accept e
      same (suc k) e = batch_refuse k

  batch_whole : record_words ≤ length l → batched (batch_call base (record_of l) links B left lines) ≡ batch_out l links B left old lines
  unfolding batch_out
  batch_whole h = rw (le-ltb (length l) record_words h)

  -- whatever the call that it wraps answered
  pub batch_called : record_words ≤ length l → {rec : Record} → rec ≡ clamped_of l → {gave : BatchLeft} → gave ≡ batch_call base rec links B left lines
      → batched gave ≡ batch_out l links B left old lines
  batch_called h read e = ap batched (e ∙ ap (λ (x : Record). batch_call base x links B left lines) read) ∙ batch_clamp ∙ batch_whole h

-- the tables of a room stand where they were lent
pub batch_lent : {r n : ℕ} {l' links' left' : List ℕ} {B' B'' : Lent} {y : BatchOut}
    → ◌≡◌ {A = BatchOut} (r, (l', n), (links', B', left')) y → B'' ≡ B'
    → ◌≡◌ {A = BatchOut} (r, (l', n), (links', B'', left')) y
batch_lent {r} {n} {l'} {links'} {left'} e q = ap (λ (T : Lent). (r, (l', n), (links', T, left'))) q ∙ e
