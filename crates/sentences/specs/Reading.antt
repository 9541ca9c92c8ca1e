-- What a sentence says: the whole text is one, or it is garbled. Assumes nothing.
use Rattle.std.specs.Prelude.{◌≡◌, List, [], ◌∷◌, ℕ, Some, None, Result, Ok, Err, codes as ascii}
use Rattle.outcome.specs.declared.Change.TheVariants.{Grew, Kept, Shrank}
use Rattle.outcome.specs.declared.Outcome.{Outcome}
use Rattle.outcome.specs.declared.Outcome.TheVariants.{Accepted, Refused}
use Rattle.outcome.specs.declared.Refusal.{Refusal}
use Rattle.outcome.specs.declared.Refusal.TheVariants.{Garbled}
use Rattle.decimal.specs.Front.{Front}
use Rattle.sentences.specs.Sentence.{said, sentence_of, byte_limit, half_limit, word_limit, IsWithin}
use Rattle.sentences.specs.Readers.{Reader, ◌>>=◌, ◌or◌, give, literal, part}
use Rattle.sentences.specs.declared.Event.{Event}
use Rattle.sentences.specs.declared.Event.TheVariants.{Depot, Yard, Link, Closing}
use Rattle.sentences.specs.declared.Said.{Said}

-- the codes of a link, in the order of its frame
unfoldable pub read_link : Reader Event
read_link = do
  m ← part (ascii "Linking ") half_limit
  n ← part (ascii " and ") half_limit
  give (Link m n)

-- what the call did
unfoldable pub read_event : Reader Event
read_event =
    (part (ascii "Opening depot ") half_limit >>= λ n. give (Depot n))
    or (part (ascii "Opening yard ") half_limit >>= λ n. give (Yard n))
    or (part (ascii "Closing ") half_limit >>= λ n. give (Closing n))
    or read_link

-- how it came out
unfoldable pub read_outcome : Reader Outcome
read_outcome =
    (literal (ascii " grew the chain") >>= λ _. give (Accepted Grew))
    or (literal (ascii " kept the chain") >>= λ _. give (Accepted Kept))
    or (literal (ascii " shrank the chain") >>= λ _. give (Accepted Shrank))
    or (part (ascii " was refused with ") byte_limit >>= λ n. give (Refused n))

-- all of it, up to the full stop
unfoldable pub read_said : Reader Said
read_said = do
  event ← read_event
  outcome ← read_outcome
  depots ← part (ascii ": ") half_limit
  chain ← part (ascii " open, chain ") half_limit
  pairs ← part (ascii ", pairs ") word_limit
  searches ← part (ascii ", searches ") half_limit
  _ ← literal (ascii ".")
  give (said event outcome (depots, chain, pairs, searches))

-- nothing may stand behind it
abbrev pub heard : Front Said → Result Said Refusal
heard None = Err Garbled
heard (Some (s, [])) = Ok s
heard (Some (s, c ∷ cs)) = Err Garbled

-- the whole text as one sentence
unfoldable pub read_sentence : List ℕ → Result Said Refusal
read_sentence text = heard (read_said text)

-- ---- what is proved: writing and reading undo each other

pub record AreInverse : Type 0 where
  pub reads : (s : Said) → IsWithin s → read_sentence (sentence_of s) ≡ Ok s
  pub writes : (text : List ℕ) (s : Said) → read_sentence text ≡ Ok s
      → IsWithin s × (text ≡ sentence_of s)
  pub garbled : (text : List ℕ) → ((s : Said) → IsWithin s → text ≡ sentence_of s → ⊥)
      → read_sentence text ≡ Err Garbled
  pub injective : (s t : Said) → IsWithin s → IsWithin t → sentence_of s ≡ sentence_of t → s ≡ t
