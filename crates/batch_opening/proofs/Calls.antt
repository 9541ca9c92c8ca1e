-- THE CALL OF A BATCH, from the answers of the code's calls: refused, or all turns done and those left over written. Assumes nothing.
use mathlib.Core.Path.{◌≡◌, refl, sym, ap, ap₂, ◌∙◌}
use mathlib.Core.Bool.{true}
use mathlib.Core.List.{List}
use Prim.Native.Nat.{ℕ, zero, suc}
use lib.ListN.{length}
use Rattle.std.specs.Prelude.{Ok, Err}
use Rattle.std.proofs.lemmas.Result.{err_from_is_err_and}
use Rattle.outcome.specs.Refusals.{number_of}
use Rattle.outcome.specs.declared.Refusal.{Refusal}
use Rattle.outcome.proofs.Numbering.{refuses}
use Rattle.lists.specs.Lists.{allb}
use Rattle.graph.specs.Batch.{Entry, batch_of, numbers_of}
use Rattle.map.specs.Memory.{Shape, map_network}
use Rattle.map.specs.declared.Record.{Record}
use Rattle.map.specs.Room.{Lent, sizes_of}
use Rattle.notice.specs.Lines.{lines_of}
use Rattle.batch.specs.Lines.{is_opening, entries_of}
use Rattle.batch.specs.Steps.{leavings, left_numbers, left_over}
use Rattle.batch.proofs.Entries.{entries_length, waiting_left, waiting_all}
use Rattle.batch_update.specs.BatchCall.{batch_refusal, lent_memory, batch_on, batch_left, batch_given, batch_call, Opened, Refused}
use Rattle.batch_update.specs.Steps.{BatchStanding, turns_from, turns_on}
use Rattle.batch_update.proofs.Turns.{given_memory}
use Rattle.batch_update.proofs.Refuses.{granted, long_both, refused_by-lent, refused_by_lines}
use Rattle.map.proofs.Longs.{are_long_lem}
use Rattle.batch_opening.specs.Steps.{batch_standing, batch_begun}
use Rattle.batch_opening.specs.declared.BatchProgress.{BatchProgress}

module _ (K : Shape) (rec : Record) (links : List ℕ) (B : Lent) (places input : List ℕ) where
  pub refused_batch_lem : (e : Refusal) → number_of e ≡ batch_refusal K rec links B.pairs (sizes_of links B) (length places) input
      → batch_left rec (Err e) links B places ≡ batch_call K rec links B places input
  unfolding batch_call batch_given
  refused_batch_lem e q = go (number_of e) (refuses e) ∙ ap (λ (m : ℕ). batch_given m K rec links B places input) q
    where
      go : (k : ℕ) → (k ≡ 0 → ⊥) → record { answer = Refused k; memory = lent_memory rec links B; left = places } ≡ batch_given k K rec links B places input
      go zero n = absurd (n refl)
      go (suc k) n = refl

  -- all turns, from the beginning
  turns_are : (count : ℕ) → count ≡ length (lines_of input) → allb is_opening (lines_of input) ≡ true
      → turns_on count K (batch_standing (batch_begun rec) links B input) ≡ turns_from (length (entries_of input)) K (lent_memory rec links B) (map_network K rec links) (entries_of input)
  unfolding entries_of
  turns_are count e h = ap₂ (λ (n : ℕ) (xs : List Entry). turns_from n K (lent_memory rec links B) (map_network K rec links) xs) (e ∙ sym (entries_length 0 (lines_of input) h)) (waiting_all (entries_of input))

  given_left : numbers_of (batch_on K rec links input).left ≡ numbers_of (turns_from (length (entries_of input)) K (lent_memory rec links B) (map_network K rec links) (entries_of input)).waiting
  unfolding batch_on batch_of turns_from
  given_left = refl

  module _ {count : ℕ} (counted : count ≡ length (lines_of input)) (opening : allb is_opening (lines_of input) ≡ true) (p : BatchProgress) {links' : List ℕ} {B' : Lent}
      (turned : batch_standing p links' B' input ≡ turns_on count K (batch_standing (batch_begun rec) links B input)) where
    ended : batch_standing p links' B' input ≡ turns_from (length (entries_of input)) K (lent_memory rec links B) (map_network K rec links) (entries_of input)
    ended = turned ∙ turns_are count counted opening

    -- the numbers not taken are those of the entries left over
    numbers : left_numbers p.taken count ≡ numbers_of (batch_on K rec links input).left
    numbers =
        ap (left_numbers p.taken) counted
        ∙ sym (waiting_left p.taken input opening)
        ∙ ap (λ (S : BatchStanding). numbers_of S.waiting) ended
        ∙ sym given_left

    pub opened_batch : {over : ℕ} {left : List ℕ} → 0 ≡ batch_refusal K rec links B.pairs (sizes_of links B) (length places) input → leavings over left ≡ left_over (left_numbers p.taken count) places
        → batch_left rec (Ok (record { left = over; after = p.after })) links' B' left ≡ batch_call K rec links B places input
    unfolding batch_call batch_given left_over
    opened_batch {over} {left} ok e =
        let l : leavings over left ≡ left_over (numbers_of (batch_on K rec links input).left) places = e ∙ ap (λ (ns : List ℕ). left_over ns places) numbers in
        (λ i. record {
          answer = Opened (l i).count;
          memory = (ap (λ (S : BatchStanding). S.memory) ended ∙ sym (given_memory K rec links B places input)) i;
          left = (l i).places;
        })
        ∙ ap (λ (m : ℕ). batch_given m K rec links B places input) ok

-- the lines as the judge hands them on
pub opened_lines : (K : Shape) (rec : Record) (links : List ℕ) (B : Lent) (places input : List ℕ) {read : List ℕ} → read ≡ input → {count : ℕ} → count ≡ length (lines_of read) → allb is_opening (lines_of read) ≡ true
    → (p : BatchProgress) {links' : List ℕ} {B' : Lent} → batch_standing p links' B' read ≡ turns_on count K (batch_standing (batch_begun rec) links B read)
    → {over : ℕ} {left : List ℕ} → 0 ≡ batch_refusal K rec links B.pairs (sizes_of links B) (length places) input → leavings over left ≡ left_over (left_numbers p.taken count) places
    → batch_left rec (Ok (record { left = over; after = p.after })) links' B' left ≡ batch_call K rec links B places input
opened_lines K rec links B places input same counted opening p turned ok e =
    rw (← same) (opened_batch K rec links B places _ counted opening p turned (rw (← same) at ok) e)

pub ruleset calls = (granted, refused_batch_lem, opened_lines, err_from_is_err_and)

pub ruleset refusals = (long_both, refused_by-lent, refused_by_lines, are_long_lem, err_from_is_err_and, refuses)
