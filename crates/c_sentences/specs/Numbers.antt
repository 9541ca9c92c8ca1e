-- WHAT IS SAID AS NUMBERS: letter and refusal apart, since one number cannot tell them.
-- Assumes nothing.
use Rattle.std.specs.Prelude.{ℕ, ◌≤◌, not, ◌==◌, if◌then◌else◌, Option, Some, None, option_map, option_and_then}
use Rattle.outcome.specs.Outcome.{letter_of}
use Rattle.outcome.specs.declared.Change.TheVariants.{Grew, Kept, Shrank}
use Rattle.outcome.specs.declared.Outcome.{Outcome}
use Rattle.outcome.specs.declared.Outcome.TheVariants.{Accepted, Refused}
use Rattle.sentences.specs.Sentence.{said, byte_limit, half_limit, word_limit}
use Rattle.sentences.specs.declared.Event.{Event}
use Rattle.sentences.specs.declared.Event.TheVariants.{Depot, Yard, Link, Closing}
use Rattle.sentences.specs.declared.Said.{Said}
use Rattle.c_sentences.specs.declared.Numbers.{Numbers}

-- ---- the numbers of what is said

-- the kind, as frames number it, the code, of a link the first, and a link's second code, else 0
unfoldable pub event_numbers : Event → ℕ × ℕ × ℕ
event_numbers (Depot n) = (1, n, 0)
event_numbers (Link m n) = (2, m, n)
event_numbers (Closing n) = (3, n, 0)
event_numbers (Yard n) = (4, n, 0)

-- G, K or S of an accepted call, else 0; and the number of a refused one, else 0
unfoldable pub outcome_numbers : Outcome → ℕ × ℕ
outcome_numbers (Accepted c) = (letter_of (Accepted c), 0)
outcome_numbers (Refused n) = (0, n)

unfoldable pub numbers_of : Said → Numbers
numbers_of s = record {
  event = event_numbers s.event;
  outcome = outcome_numbers s.outcome;
  figures = (s.depots, s.chain, s.pairs, s.searches);
}

-- ---- what is said by some numbers

-- a kind with one code has 0 for the other
unfoldable pub event_of : ℕ × ℕ × ℕ → Option Event
event_of (kind, code, other) =
    if kind == 2 then Some (Link code other)
    else if not (other == 0) then None
    else if kind == 1 then Some (Depot code)
    else if kind == 3 then Some (Closing code)
    else if kind == 4 then Some (Yard code)
    else None

-- no letter is a refusal, and a letter has 0 beside it
unfoldable pub outcome_of : ℕ × ℕ → Option Outcome
outcome_of (letter, refusal) =
    if letter == 0 then Some (Refused refusal)
    else if not (refusal == 0) then None
    else if letter == 71 then Some (Accepted Grew)
    else if letter == 75 then Some (Accepted Kept)
    else if letter == 83 then Some (Accepted Shrank)
    else None

-- the numbers are those of something said, or of nothing
unfoldable pub said_of : Numbers → Option Said
said_of n =
    option_and_then (λ e. option_map (λ o. said e o n.figures) (outcome_of n.outcome))
    (event_of n.event)

-- ---- widths

-- codes have 16 bits, a refusal 8, the pair count 32, and the other figures 16
pub record AreWithin (n : Numbers) : Type 0 where
  pub codes : (n.event.1 ≤ half_limit) × (n.event.2 ≤ half_limit)
  pub refusal : n.outcome.1 ≤ byte_limit
  pub figures : (n.figures.0 ≤ half_limit) × (n.figures.1 ≤ half_limit) × (n.figures.3 ≤ half_limit)
  pub pairs : n.figures.2 ≤ word_limit
