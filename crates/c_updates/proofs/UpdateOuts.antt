-- WHAT OPENING AND LINK LEAVE, way out by way out. Assumes nothing.
use mathlib.Core.Path.{◌≡◌, refl, ap, ap₂, ◌∙◌}
use mathlib.Core.Bool.{Bool, not, ◌&&◌}
use mathlib.Core.List.{List, ◌∷◌}
use Prim.Native.Nat.{ℕ, zero, suc, ◌≤◌}
use lib.ListN.{length, get_or}
use borrow.Author.Tests.{le-ltb, not-false}
use Rattle.std.proofs.lemmas.Bool.{and_parts}
use Rattle.lists.specs.Lists.{first_of}
use Rattle.lists.proofs.Members.{first_zero}
use Rattle.graph.specs.Distance.{connected}
use Rattle.graph.specs.Updates.{Update, update_faults}
use Rattle.rows.specs.Rows.{table_bit}
use Rattle.map.specs.Room.{Lent, sizes_of, long_enough}
use Rattle.map.specs.Memory.{base}
use Rattle.checks.specs.Sound.{sound_links, sound_figures}
use Rattle.map.specs.declared.Record.{Record}
use Rattle.update.specs.UpdateCall.{UpdateLeft, update_left, update_refusal, update_given, update_call}
use Rattle.update.specs.declared.Returned.{Returned}
use Rattle.c_values.specs.Words.{record_words, record_of, clamped_of}
use Rattle.c_updates.specs.UpdateOuts.{handed_by, update_out}
use Rattle.c_values.proofs.Clamps.{network_in, links_clamp, figures_clamp, number_fits, figures-fit}
use Rattle.lent_map.specs.Faults.{lent_faults}

-- ---- the call

module _ (l links : List ℕ) (B : Lent) (o : Update) (old : ℕ) where
  abbrev pub gives : UpdateLeft → ℕ × (List ℕ × ℕ) × (List ℕ × Lent)
  gives x = let h = handed_by x.report.outcome x.after x.report.searches l old in (h.0, h.1, (x.links, x.lent))

  refusal-clamp : update_refusal base (clamped_of l) links B.pairs (sizes_of links B) o ≡ update_refusal base (record_of l) links B.pairs (sizes_of links B) o
  unfolding update_refusal lent_faults clamped_of record_of
  refusal-clamp =
      ap₂
      (λ (t u : Bool). first_of
      ((not (long_enough base (sizes_of links B)), 1)
      ∷ (not (t && u), 2)
      ∷ (not (connected (network_in l links)), 3)
      ∷ update_faults (network_in l links) o))
      (links_clamp (network_in l links) (get_or l 4 0))
      (figures_clamp (network_in l links) (table_bit 4 B.pairs) (get_or l 5 0) (get_or l 6 0))

  -- an accepted update read the record that was lent
  read_whole : update_refusal base (record_of l) links B.pairs (sizes_of links B) o ≡ 0 → clamped_of l ≡ record_of l
  unfolding update_refusal lent_faults clamped_of record_of
  read_whole e =
      let N = network_in l links in
      let P = table_bit 4 B.pairs in
      let a = first_zero (not (long_enough base (sizes_of links B))) 0 _ e in
      let b = first_zero (not (sound_links 256 N (get_or l 4 0) && sound_figures 256 N P (get_or l 5 0) (get_or l 6 0))) 1 _ a.1 in
      let c = and_parts (sound_links 256 N (get_or l 4 0)) (sound_figures 256 N P (get_or l 5 0) (get_or l 6 0)) (not-false _ b.0) in
      let f = figures-fit N P (get_or l 5 0) (get_or l 6 0) c.1 in
      rw (number_fits N (get_or l 4 0) c.0, f.0, f.1)

  refuse : (k : ℕ) → gives (update_given (suc k) base (clamped_of l) links B o) ≡ gives (update_given (suc k) base (record_of l) links B o)
  unfolding update_given handed_by
  refuse k = refl

  call_clamp : gives (update_call base (clamped_of l) links B o) ≡ gives (update_call base (record_of l) links B o)
  unfolding update_call
  call_clamp = ap (λ (k : ℕ). gives (update_given k base (clamped_of l) links B o)) refusal-clamp ∙ same (update_refusal base (record_of l) links B.pairs (sizes_of links B) o) refl
    where
      accept : update_refusal base (record_of l) links B.pairs (sizes_of links B) o ≡ 0 → gives (update_given 0 base (clamped_of l) links B o) ≡ gives (update_given 0 base (record_of l) links B o)
      accept e = ap (λ (x : Record). gives (update_given 0 base x links B o)) (read_whole e)

      same : (k : ℕ) → update_refusal base (record_of l) links B.pairs (sizes_of links B) o ≡ k → gives (update_given k base (clamped_of l) links B o) ≡ gives (update_given k base (record_of l) links B o)
      same zero e = accept e
      same (suc k) e = refuse k

  out_whole : record_words ≤ length l → gives (update_call base (record_of l) links B o) ≡ update_out l links B o old
  unfolding update_out
  out_whole h = rw (le-ltb (length l) record_words h)

  module _ (h : record_words ≤ length l) {rec : Record} (read : rec ≡ clamped_of l) (got : Returned) {links' : List ℕ} {B' : Lent} (left : update_left got links' B' ≡ update_call base rec links B o) where
    called : gives (update_left got links' B') ≡ update_out l links B o old
    called = ap gives (left ∙ ap (λ (x : Record). update_call base x links B o) read) ∙ call_clamp ∙ out_whole h

    pub update_done : {r n : ℕ} {l' : List ℕ}
        → ◌≡◌ {A = ℕ × (List ℕ × ℕ)} (r, (l', n)) (handed_by got.report.outcome got.after got.report.searches l old)
        → ◌≡◌ {A = ℕ × (List ℕ × ℕ) × (List ℕ × Lent)} (r, (l', n), (links', B')) (update_out l links B o old)
    update_done e = ap (λ (h : ℕ × (List ℕ × ℕ)). (h.0, h.1, (links', B'))) e ∙ called

-- the tables of a room stand where they were lent
pub update_lent : {r n : ℕ} {l' links' : List ℕ} {B' B'' : Lent} {y : ℕ × (List ℕ × ℕ) × (List ℕ × Lent)}
    → ◌≡◌ {A = ℕ × (List ℕ × ℕ) × (List ℕ × Lent)} (r, (l', n), (links', B')) y → B'' ≡ B'
    → ◌≡◌ {A = ℕ × (List ℕ × ℕ) × (List ℕ × Lent)} (r, (l', n), (links', B'')) y
update_lent {r} {n} {l'} {links'} e q = ap (λ (T : Lent). (r, (l', n), (links', T))) q ∙ e
