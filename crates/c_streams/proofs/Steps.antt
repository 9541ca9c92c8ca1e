-- WHAT A STEP OF THE STREAM LEAVES, refused and done. Assumes nothing.
use mathlib.Core.Path.{◌≡◌, refl, sym, ap, ◌∙◌}
use mathlib.Core.Bool.{Bool, true, false, cond, ◌||◌}
use mathlib.Core.List.{List}
use Prim.Native.Nat.{ℕ, zero, suc}
use lib.Dec.{eqb}
use lib.ListN.{length}
use borrow.Author.Tests.{ne_eqb}
use Rattle.std.specs.Prelude.{◌==◌, if◌then◌else◌}
use Rattle.lists.specs.Lists.{overwrite}
use Rattle.map.specs.Room.{tables, Lent, lent, sizes, sizes_of}
use Rattle.map.specs.Memory.{base}
use Rattle.map.specs.declared.Record.{Record}
use Rattle.update.specs.Steps.{map_refusal}
use Rattle.transcript.specs.Manner.{as_reports}
use Rattle.line_buffer.specs.Lines.{is_stopped}
use Rattle.stream.specs.Feeding.{Feeding, feeding, progress_of, fed_of, IsReady, took_line, feed_call, finish_call}
use Rattle.stream.specs.declared.Progress.{Progress}
use Rattle.stream.specs.declared.Fed.{Fed}
use Rattle.c_values.specs.Words.{record_of, words_of, clamped_of}
use Rattle.c_values.specs.Refusal.{step_refusal}
use Rattle.c_values.proofs.Refusals.{step_granted}
use Rattle.c_streams.specs.Feeds.{FedValues, FedMemory, step_out, feed_out, finish_out}
use Rattle.c_values.proofs.Clamps.{clamped_is}

-- such a step may be taken
pub step_ready : (words links p h x y b s line : List ℕ) (out lines held : ℕ)
    → 0 ≡ step_refusal words links p (sizes (length links) (length p) (length h) (length b) (length s) (length x) (length y)) (length line) out held
    → {rec : Record} → rec ≡ clamped_of words
    → IsReady (progress_of rec lines held) links (lent p (tables h x y) b s) line
unfolding sizes_of
step_ready words links p h x y b s line out lines held e read =
    let g = step_granted _ _ _ _ _ _ _ (sym e) in
    record {
      free =
          ap (λ (r : Record). map_refusal base r links p (sizes_of links (lent p (tables h x y) b s))) (read ∙ clamped_is words links p _ g.3)
          ∙ g.3;
      room = g.1;
      held = g.2;
    }

-- the end of a stream uses no byte
end_unused : (q : Progress) (links : List ℕ) (B : Lent) (line out : List ℕ) → (finish_call as_reports q links B line out).fed.used ≡ 0
unfolding finish_call took_line
end_unused q links B line out = go (eqb q.held 0 || is_stopped as_reports.room q.lines 0 (length out))
  where
    F : Feeding
    F = feeding (fed_of q 0 0) links B line out

    go : (t : Bool) → (cond t F (took_line as_reports F)).fed.used ≡ 0
    go true = refl
    go false = refl

-- ---- the calls

module _ (words links p h x y b s line out : List ℕ) (lines held used written : ℕ) where
  abbrev B : Lent
  B = lent p (tables h x y) b s

  abbrev v : FedValues
  v = (words, lines, held, used, written)

  abbrev m : FedMemory
  m = (links, B, line, out)

  abbrev first : ℕ
  first = step_refusal words links p (sizes (length links) (length p) (length h) (length b) (length s) (length x) (length y)) (length line) (length out) held

  -- a step by its refusal
  abbrev given : (Progress → Feeding) → ℕ → ℕ × FedValues × FedMemory
  given step k =
      let F = step (progress_of (record_of words) lines held) in
      let q = F.fed.progress in
      if k == 0 then (0, (overwrite (words_of q.rec) words, q.lines, q.held, F.fed.used, F.fed.written), (F.links, F.lent, F.line, F.out)) else (k, v, m)

  given_is : (step : Progress → Feeding) → given step first ≡ step_out step v m
  unfolding step_out sizes_of
  given_is step = refl

  refused : (step : Progress → Feeding) {k : ℕ} → k ≡ first → (k ≡ 0 → ⊥) → ◌≡◌ {A = ℕ × FedValues × FedMemory} (k, v, m) (step_out step v m)
  refused step {k} e n = go k n ∙ ap (given step) e ∙ given_is step
    where
      go : (k : ℕ) → (k ≡ 0 → ⊥) → ◌≡◌ {A = ℕ × FedValues × FedMemory} (k, v, m) (given step k)
      go zero n = absurd (n refl)
      go (suc k) n = rw (ne_eqb (suc k) 0 n) refl

  pub feed_refused : (piece : List ℕ) {k : ℕ} → k ≡ first → (k ≡ 0 → ⊥) → ◌≡◌ {A = ℕ × FedValues × FedMemory} (k, v, m) (feed_out v m piece)
  unfolding feed_out
  feed_refused piece e n = refused _ e n

  pub finish_refused : {k : ℕ} → k ≡ first → (k ≡ 0 → ⊥) → ◌≡◌ {A = ℕ × FedValues × FedMemory} (k, v, m) (finish_out v m)
  unfolding finish_out
  finish_refused e n = refused _ e n

  module _ (e : 0 ≡ first) {rec : Record} (read : rec ≡ clamped_of words) where
    read_is : rec ≡ record_of words
    read_is = read ∙ clamped_is words links p _ (step_granted _ _ _ _ _ _ _ (sym e)).3

    module _ (fed : Fed) (links' line' out' words' : List ℕ) (B' : Lent) (wrote : words' ≡ overwrite (words_of fed.progress.rec) words) where
      abbrev after : ℕ → ℕ × FedValues × FedMemory
      after u = (0, (words', fed.progress.lines, fed.progress.held, u, fed.written), (links', B', line', out'))

      abbrev from : Feeding → ℕ × FedValues × FedMemory
      from F =
          let q = F.fed.progress in
          (0, (overwrite (words_of q.rec) words, q.lines, q.held, F.fed.used, F.fed.written), (F.links, F.lent, F.line, F.out))

      done : (step : Progress → Feeding) → feeding fed links' B' line' out' ≡ step (progress_of rec lines held) → after fed.used ≡ step_out step v m
      done step left =
          ap (λ (w : List ℕ). (0, (w, fed.progress.lines, fed.progress.held, fed.used, fed.written), (links', B', line', out'))) wrote
          ∙ ap from (left ∙ ap (λ (x : Record). step (progress_of x lines held)) read_is)
          ∙ ap (given step) e
          ∙ given_is step

      pub feed_done : (piece : List ℕ) → feeding fed links' B' line' out' ≡ feed_call as_reports (progress_of rec lines held) links B line out piece → after fed.used ≡ feed_out v m piece
      unfolding feed_out
      feed_done piece left = done (λ q. feed_call as_reports q links B line out piece) left

      pub finish_done : feeding fed links' B' line' out' ≡ finish_call as_reports (progress_of rec lines held) links B line out → after 0 ≡ finish_out v m
      unfolding finish_out
      finish_done left =
          ap after (sym (ap (λ (F : Feeding). F.fed.used) left ∙ end_unused (progress_of rec lines held) links B line out))
          ∙ done (λ q. finish_call as_reports q links B line out) left

-- the tables of a room stand where they were lent
pub fed_lent : {r : ℕ} {v : FedValues} {links line out : List ℕ} {B' B'' : Lent} {y : ℕ × FedValues × FedMemory}
    → ◌≡◌ {A = ℕ × FedValues × FedMemory} (r, v, (links, B', line, out)) y → B'' ≡ B'
    → ◌≡◌ {A = ℕ × FedValues × FedMemory} (r, v, (links, B'', line, out)) y
fed_lent {r} {v} {links} {line} {out} e q = ap (λ (T : Lent). (r, v, (links, T, line, out))) q ∙ e
