-- The discriminant of each refusal, one more than its tag, is its number; and no number is 0.
use Rattle.std.proofs.Common.{◌≡◌, ◌+◌, refl, arith}
use denote.Enum.Declared.{tag_of}
use Rattle.outcome.specs.contracts.Refusal.{the_type}
use Rattle.outcome.specs.Refusals.{number_of}
use Rattle.outcome.specs.declared.Refusal.{Refusal}
use Rattle.outcome.specs.declared.Refusal.TheVariants.{Short, Spoilt, Apart, Absent, Taken, Lonely, Unsorted, Unknown, Garbled, Nobody}
use Rattle.outcome.specs.declared.Refusal.TheVariants.{Overfull, Bare, Itself, Linked, TooFew}

pub discriminant : (k : Refusal) → tag_of the_type k + 1 ≡ number_of k
discriminant Short = refl
discriminant Spoilt = refl
discriminant Apart = refl
discriminant Absent = refl
discriminant Taken = refl
discriminant Lonely = refl
discriminant Unsorted = refl
discriminant Unknown = refl
discriminant Garbled = refl
discriminant Nobody = refl
discriminant Overfull = refl
discriminant Bare = refl
discriminant Itself = refl
discriminant Linked = refl
discriminant TooFew = refl

-- no number is that of no refusal
pub refuses : (k : Refusal) → number_of k ≡ 0 → ⊥
refuses Short e = omega arith
refuses Spoilt e = omega arith
refuses Apart e = omega arith
refuses Absent e = omega arith
refuses Taken e = omega arith
refuses Lonely e = omega arith
refuses Unsorted e = omega arith
refuses Unknown e = omega arith
refuses Garbled e = omega arith
refuses Nobody e = omega arith
refuses Overfull e = omega arith
refuses Bare e = omega arith
refuses Itself e = omega arith
refuses Linked e = omega arith
refuses TooFew e = omega arith
