-- The sentence of what is said: start, middle and figures. Assumes nothing.
use Rattle.std.specs.Prelude.{List, ◌++◌, ℕ, ◌≤◌, codes as ascii}
use Rattle.decimal.specs.Decimal.{decimal}
use Rattle.outcome.specs.Outcome.{refusal_of}
use Rattle.outcome.specs.declared.Change.TheVariants.{Grew, Kept, Shrank}
use Rattle.outcome.specs.declared.Outcome.{Outcome}
use Rattle.outcome.specs.declared.Outcome.TheVariants.{Accepted, Refused}
use Rattle.sentences.specs.declared.Event.{Event}
use Rattle.sentences.specs.declared.Event.TheVariants.{Depot, Yard, Link, Closing}
use Rattle.sentences.specs.declared.Said.{Said}

-- what the call did; a text in quotes is the list of its bytes
unfoldable pub start_of : Event → List ℕ
start_of (Depot n) = ascii "Opening depot " ++ decimal n
start_of (Yard n) = ascii "Opening yard " ++ decimal n
start_of (Link m n) = ascii "Linking " ++ decimal m ++ (ascii " and " ++ decimal n)
start_of (Closing n) = ascii "Closing " ++ decimal n

-- how it came out
unfoldable pub middle_of : Outcome → List ℕ
middle_of (Accepted Grew) = ascii " grew the chain"
middle_of (Accepted Kept) = ascii " kept the chain"
middle_of (Accepted Shrank) = ascii " shrank the chain"
middle_of (Refused n) = ascii " was refused with " ++ decimal n

-- what is said of an event and its outcome, with depots, chain, pair count and searches
abbrev pub said : Event → Outcome → ℕ × ℕ × ℕ × ℕ → Said
said e o f =
    record { event = e; outcome = o; depots = f.0; chain = f.1; pairs = f.2; searches = f.3 }

-- depots open, chain, pair count and searches of the call
unfoldable pub figures_of : Said → List ℕ
figures_of s =
    ascii ": "
    ++ decimal s.depots
    ++ (ascii " open, chain " ++ decimal s.chain)
    ++ (ascii ", pairs " ++ decimal s.pairs)
    ++ (ascii ", searches " ++ decimal s.searches)
    ++ ascii "."

-- the whole sentence, with no line's end
unfoldable pub sentence_of : Said → List ℕ
sentence_of s = start_of s.event ++ middle_of s.outcome ++ figures_of s

-- the greatest numbers of 8, 16 and 32 bits
abbrev pub byte_limit : ℕ
byte_limit = 255

abbrev pub half_limit : ℕ
half_limit = 65_535

abbrev pub word_limit : ℕ
word_limit = 4_294_967_295

-- the codes of an event have 16 bits
abbrev pub EventWithin : Event → Type 0
EventWithin (Depot n) = n ≤ half_limit
EventWithin (Yard n) = n ≤ half_limit
EventWithin (Link m n) = (m ≤ half_limit) × (n ≤ half_limit)
EventWithin (Closing n) = n ≤ half_limit

-- a refusal has 8 bits, the pair count 32, and the other figures 16
pub record IsWithin (s : Said) : Type 0 where
  pub event : EventWithin s.event
  pub refusal : refusal_of s.outcome ≤ byte_limit
  pub depots : s.depots ≤ half_limit
  pub chain : s.chain ≤ half_limit
  pub pairs : s.pairs ≤ word_limit
  pub searches : s.searches ≤ half_limit
