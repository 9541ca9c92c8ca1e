-- The length of a sentence and of its parts, and the longest sentence. Assumes nothing.
use mathlib.Core.Path.{◌≡◌, refl}
use Prim.Native.Nat.{ℕ, ◌+◌, ◌^◌, ◌≤◌, ◌<◌}
use native.Mathlib.Omega.{arith}
use lib.ListN.{length, length-append}
use Rattle.decimal.specs.Decimal.{decimal, spell}
use Rattle.decimal.proofs.Decimals.{decimal_word, decimal_half, decimal_byte}
use Rattle.outcome.specs.Outcome.{refusal_of}
use Rattle.outcome.specs.declared.Change.TheVariants.{Grew, Kept, Shrank}
use Rattle.outcome.specs.declared.Outcome.{Outcome}
use Rattle.outcome.specs.declared.Outcome.TheVariants.{Accepted, Refused}
use Rattle.sentences.specs.Calls.{buffer_limit}
use Rattle.sentences.specs.Sentence.{start_of, middle_of, figures_of, sentence_of, byte_limit, half_limit, EventWithin, IsWithin}
use Rattle.sentences.specs.declared.Event.{Event}
use Rattle.sentences.specs.declared.Event.TheVariants.{Depot, Yard, Link, Closing}
use Rattle.sentences.specs.declared.Said.{Said}

-- ---- the parts

half_most : (n : ℕ) → n ≤ half_limit → length (decimal n) ≤ 5
half_most n h = decimal_half n (omega arith)

start_most : (e : Event) → EventWithin e → length (start_of e) ≤ 23
unfolding start_of
start_most (Depot n) h = omega (arith, half_most n h)
start_most (Yard n) h = omega (arith, half_most n h)
start_most (Link m n) h = simp length-append (omega (arith, half_most m h.0, half_most n h.1))
start_most (Closing n) h = omega (arith, half_most n h)

middle_most : (o : Outcome) → refusal_of o ≤ byte_limit → length (middle_of o) ≤ 21
unfolding middle_of refusal_of
middle_most (Accepted Grew) h = omega arith
middle_most (Accepted Kept) h = omega arith
middle_most (Accepted Shrank) h = omega arith
middle_most (Refused n) h = omega (arith, decimal_byte n (omega arith))

figures_length : (s : Said) → length (figures_of s) ≡ length (decimal s.depots) + length (decimal s.chain) + length (decimal s.pairs) + length (decimal s.searches) + 35
unfolding figures_of
figures_length s = simp length-append (omega arith)

pub figures_most : (s : Said) → s.depots < 2 ^ 16 → s.chain < 2 ^ 16 → s.pairs < 2 ^ 32 → s.searches < 2 ^ 16 → length (figures_of s) ≤ 60
figures_most s d c p t = omega (arith, figures_length s, decimal_half s.depots d, decimal_half s.chain c, decimal_word s.pairs p, decimal_half s.searches t)

-- ---- the whole

-- within the widths a sentence has at most 104 bytes, so it fits the caller's buffer
pub sentence_most : (s : Said) → IsWithin s → length (sentence_of s) ≤ 104
unfolding sentence_of
sentence_most s w =
    let f : length (figures_of s) ≤ 60 = figures_most s (omega (arith, w.depots)) (omega (arith, w.chain)) (omega (arith, w.pairs)) (omega (arith, w.searches)) in
    simp length-append (omega (arith, start_most s.event w.event, middle_most s.outcome w.refusal))

pub sentence_fits : (s : Said) → IsWithin s → length (sentence_of s) ≤ buffer_limit
sentence_fits s w = omega (arith, sentence_most s w)

-- and one has 104
pub longest : Said
longest = record { event = Link 65535 65535; outcome = Refused 255; depots = 65535; chain = 65535; pairs = 4294967295; searches = 65535 }

pub longest_within : IsWithin longest
unfolding longest refusal_of
longest_within =
    record {
      event = (omega arith, omega arith);
      refusal = omega arith;
      depots = omega arith;
      chain = omega arith;
      pairs = omega arith;
      searches = omega arith;
    }

pub sentence_longest : length (sentence_of longest) ≡ 104
unfolding longest sentence_of start_of middle_of figures_of decimal spell
sentence_longest = refl
