-- THEOREMS: each call refuses by the first condition that holds, and then changes nothing; what the writer takes the reader gives back as numbers, and
-- what the reader takes the writer gives back as text. Assumes nothing.
use mathlib.Core.Path.{◌≡◌, refl, sym, ap, ◌∙◌, subst}
use mathlib.Core.Bool.{Bool, true, false}
use mathlib.Core.List.{List, [], ◌∷◌}
use mathlib.Core.Logic.{◌⊎◌, inl, inr}
use Prim.Native.Nat.{ℕ, ◌≤◌, ◌<◌}
use native.Mathlib.Omega.{arith}
use lib.Dec.{ltb}
use lib.ListN.{length, take}
use borrow.Author.Tests.{lt-ltb, le-ltb, ltb-true, ltb-false}
use Rattle.std.specs.Prelude.{Ok, Err, Option, Some, None, is_none, ◌≢◌}
use Rattle.lists.specs.Lists.{first_of, overwrite}
use Rattle.lists.specs.Conditions.{Refuses}
use Rattle.lists.proofs.Conditions.{Decides, Tells, tells_first}
use Rattle.lists.proofs.Fills.{overwrite_take}
use Rattle.lists.proofs.Tests.{clash}
use Rattle.outcome.specs.Numbers.{short_buffer, garbled_line}
use Rattle.outcome.specs.Outcome.{refusal_of}
use Rattle.outcome.specs.declared.Refusal.TheVariants.{Garbled}
use Rattle.outcome.specs.declared.Outcome.{Outcome}
use Rattle.outcome.specs.declared.Outcome.TheVariants.{Accepted, Refused}
use Rattle.sentences.specs.Sentence.{sentence_of, byte_limit, half_limit, EventWithin, IsWithin}
use Rattle.sentences.specs.Calls.{buffer_limit}
use Rattle.sentences.specs.Reading.{read_sentence}
use Rattle.sentences.specs.declared.Event.{Event}
use Rattle.sentences.specs.declared.Event.TheVariants.{Depot, Yard, Link, Closing}
use Rattle.sentences.specs.declared.Said.{Said}
use Rattle.sentences.proofs.Theorems.{reads_written, written_reads, refused_garbled, IsRead}
use Rattle.c_sentences.specs.declared.Numbers.{Numbers}
use Rattle.c_sentences.specs.Numbers.{event_numbers, outcome_numbers, numbers_of, said_of, AreWithin}
use Rattle.c_sentences.specs.Outs.{write_out, read_out}
use Rattle.c_sentences.specs.Refusals.{write_conditions, read_conditions}
use Rattle.c_sentences.proofs.Inverses.{said_numbers, numbers_said, nothing_said}

-- ---- what the writer leaves

module _ (n : Numbers) (line : List ℕ) (l : ℕ) where
  left_short : length line < buffer_limit → write_out n line l ≡ (short_buffer, l, line)
  unfolding write_out
  left_short h = rw (lt-ltb (length line) buffer_limit h)

  module _ (room : buffer_limit ≤ length line) where
    left_garbled : said_of n ≡ None → write_out n line l ≡ (garbled_line, l, line)
    unfolding write_out
    left_garbled e = rw (le-ltb (length line) buffer_limit room, e)

    left_written : {s : Said} → said_of n ≡ Some s → write_out n line l ≡ (0, length (sentence_of s), overwrite (sentence_of s) line)
    unfolding write_out
    left_written e = rw (le-ltb (length line) buffer_limit room, e)

-- ---- the writer's refusals

module _ (n : Numbers) (line : List ℕ) (l : ℕ) where
  abbrev IsRefused : ℕ × ℕ × List ℕ → Type 0
  IsRefused left = Refuses (write_conditions n line) left.0 (λ (k : ℕ). (k, l, line)) left

  decides_nothing : (o : Option Said) → said_of n ≡ o → Decides (is_none o) ((s : Said) → numbers_of s ≢ n)
  decides_nothing None h = record { holds = λ e. nothing_said n h; fails = λ e. absurd (clash refl e) }
  decides_nothing (Some s) h = record { holds = λ e. absurd (clash e refl); fails = λ e none. none s (numbers_said n h) }

  abbrev tests : Bool → Option Said → List (Bool × ℕ)
  tests b o = (b, short_buffer) ∷ (is_none o, garbled_line) ∷ []

  tells : (b : Bool) → ltb (length line) buffer_limit ≡ b → (o : Option Said) → said_of n ≡ o → Tells (tests b o) (write_conditions n line)
  tells b e o h = (
    refl,
    record { holds = λ t. ltb-true (length line) buffer_limit (e ∙ t); fails = λ f x. clash (lt-ltb (length line) buffer_limit x) (e ∙ f) },
    λ f. (refl, decides_nothing o h, λ g. tt),
  )

  pub write_refusals : IsRefused (write_out n line l)
  unfolding first_of
  write_refusals = go (ltb (length line) buffer_limit) refl (said_of n) refl
    where
      go : (b : Bool) → ltb (length line) buffer_limit ≡ b → (o : Option Said) → said_of n ≡ o → IsRefused (write_out n line l)
      go true e o q =
          subst IsRefused (sym (left_short n line l (ltb-true (length line) buffer_limit e)))
          (record { first = tells_first (tests true o) (write_conditions n line) (tells true e o q); unchanged = λ k p. ap (λ (m : ℕ). (m, l, line)) p })
      go false e None q =
          subst IsRefused (sym (left_garbled n line l (ltb-false (length line) buffer_limit e) q))
          (record { first = tells_first (tests false None) (write_conditions n line) (tells false e None q); unchanged = λ k p. ap (λ (m : ℕ). (m, l, line)) p })
      go false e (Some s) q =
          subst IsRefused (sym (left_written n line l (ltb-false (length line) buffer_limit e) q))
          (record { first = tells_first (tests false (Some s)) (write_conditions n line) (tells false e (Some s) q); unchanged = λ k p. absurd (omega (arith, p)) })

-- ---- the reader's

module _ (text : List ℕ) (before : Numbers) where
  abbrev IsUnread : ℕ × Numbers → Type 0
  IsUnread left = Refuses (read_conditions text) left.0 (λ (k : ℕ). (k, before)) left

  abbrev IsOfNothing : Type 0
  IsOfNothing = (s : Said) → IsWithin s → text ≡ sentence_of s → ⊥

  left_unread : read_sentence text ≡ Err Garbled → read_out text before ≡ (garbled_line, before)
  unfolding read_out
  left_unread e = rw e

  left_read : {s : Said} → read_sentence text ≡ Ok s → read_out text before ≡ (0, numbers_of s)
  unfolding read_out
  left_read e = rw e

  of_nothing : read_sentence text ≡ Err Garbled → IsOfNothing
  of_nothing g s w is = let h : Ok s ≡ Err Garbled = sym (reads_written s w) ∙ ap read_sentence (sym is) ∙ g in absurd cc

  of_something : IsRead text → IsOfNothing → ⊥
  of_something r none = let i = written_reads text r.reads in none r.said i.within i.is

  pub read_refusals : IsUnread (read_out text before)
  unfolding first_of
  read_refusals = go (refused_garbled text)
    where
      go : (read_sentence text ≡ Err Garbled) ⊎ IsRead text → IsUnread (read_out text before)
      go (inl g) =
          subst IsUnread (sym (left_unread g))
          (record {
            first =
                tells_first ((true, garbled_line) ∷ []) (read_conditions text)
                (refl, record { holds = λ e. of_nothing g; fails = λ e. absurd (clash refl e) }, λ f. tt);
            unchanged = λ k p. ap (λ (m : ℕ). (m, before)) p;
          })
      go (inr r) =
          subst IsUnread (sym (left_read r.reads))
          (record {
            first =
                tells_first ((false, garbled_line) ∷ []) (read_conditions text)
                (refl, record { holds = λ e. absurd (clash e refl); fails = λ e. of_something r }, λ f. tt);
            unchanged = λ k p. absurd (omega (arith, p));
          })

-- ---- there and back

event_within : (e : Event) → (event_numbers e).1 ≤ half_limit → (event_numbers e).2 ≤ half_limit → EventWithin e
unfolding event_numbers
event_within (Depot n) c o = c
event_within (Yard n) c o = c
event_within (Link m n) c o = (c, o)
event_within (Closing n) c o = c

refusal_within : (o : Outcome) → (outcome_numbers o).1 ≤ byte_limit → refusal_of o ≤ byte_limit
unfolding outcome_numbers refusal_of
refusal_within (Accepted c) h = h
refusal_within (Refused n) h = h

said_within : (s : Said) → AreWithin (numbers_of s) → IsWithin s
unfolding numbers_of
said_within s w = record {
  event = event_within s.event w.codes.0 w.codes.1;
  refusal = refusal_within s.outcome w.refusal;
  depots = w.figures.0;
  chain = w.figures.1;
  pairs = w.pairs;
  searches = w.figures.2;
}

-- what the writer takes, the reader gives back as numbers
pub numbers_return : (n : Numbers) → AreWithin n → (line : List ℕ) (l : ℕ) (before : Numbers)
    → let w = write_out n line l in w.0 ≡ 0 → read_out (take w.1 w.2) before ≡ (0, n)
numbers_return n fit line l before = go (ltb (length line) buffer_limit) refl (said_of n) refl
  where
    go : (b : Bool) → ltb (length line) buffer_limit ≡ b → (o : Option Said) → said_of n ≡ o
        → let w = write_out n line l in w.0 ≡ 0 → read_out (take w.1 w.2) before ≡ (0, n)
    go true e o q z = absurd (omega (arith, ap (λ (x : ℕ × ℕ × List ℕ). x.0) (left_short n line l (ltb-true (length line) buffer_limit e)), z))
    go false e None q z = absurd (omega (arith, ap (λ (x : ℕ × ℕ × List ℕ). x.0) (left_garbled n line l (ltb-false (length line) buffer_limit e) q), z))
    go false e (Some s) q z =
        let is = numbers_said n q in
        ap (λ (x : ℕ × ℕ × List ℕ). read_out (take x.1 x.2) before) (left_written n line l (ltb-false (length line) buffer_limit e) q)
        ∙ ap (λ (t : List ℕ). read_out t before) (overwrite_take (sentence_of s) line)
        ∙ left_read (sentence_of s) before (reads_written s (said_within s (subst AreWithin (sym is) fit)))
        ∙ ap (λ (m : Numbers). (0, m)) is

-- what the reader takes, the writer gives back as text, where there is room
pub text_returns : (text : List ℕ) (before n : Numbers) → read_out text before ≡ (0, n) → (line : List ℕ) (l : ℕ) → buffer_limit ≤ length line
    → write_out n line l ≡ (0, length text, overwrite text line)
text_returns text before n h line l room = go (refused_garbled text)
  where
    go : (read_sentence text ≡ Err Garbled) ⊎ IsRead text → write_out n line l ≡ (0, length text, overwrite text line)
    go (inl g) = absurd (omega (arith, ap (λ (x : ℕ × Numbers). x.0) (sym (left_unread text before g) ∙ h)))
    go (inr r) =
        let is : numbers_of r.said ≡ n = ap (λ (x : ℕ × Numbers). x.1) (sym (left_read text before r.reads) ∙ h) in
        left_written n line l room (sym (ap said_of is) ∙ said_numbers r.said)
        ∙ ap (λ (t : List ℕ). (0, length t, overwrite t line)) (sym (written_reads text r.reads).is)
