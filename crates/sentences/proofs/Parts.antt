-- A text at the front of another, and a number behind it: reading undoes writing, and what reads was written. Assumes nothing.
use mathlib.Core.Path.{◌≡◌, refl, sym, ap, ◌∙◌}
use mathlib.Core.Bool.{true}
use mathlib.Core.List.{List, ◌++◌, append_assoc}
use Prim.Native.Nat.{ℕ, ◌≤◌}
use lib.ListN.{length, take, drop, take-append-drop}
use Rattle.std.specs.Prelude.{Option, Some, None, option_map, bytes_eq}
use Rattle.std.proofs.lemmas.List.{take_at, drop_at}
use Rattle.std.proofs.lemmas.Option.{cond_some, option_and_then_some, some_pair_parts}
use Rattle.std.proofs.lemmas.Slice.Eq.{bytes_eq-Decides}
use Rattle.decimal.specs.Decimal.{decimal}
use Rattle.decimal.specs.Strip.{strip_decimal, no_digit}
use Rattle.decimal.proofs.Strips.{decimal_reads, decimal_written}
use Rattle.sentences.specs.Readers.{behind, literal, part}

-- ---- a text

pub behind_reads : (wanted rest : List ℕ) → behind wanted (wanted ++ rest) ≡ Some rest
unfolding behind
behind_reads wanted rest =
    let same : bytes_eq wanted wanted ≡ true = (bytes_eq-Decides wanted wanted).1 refl in
    rw (take_at wanted rest (length wanted) refl, drop_at wanted rest (length wanted) refl, same)

pub behind_wrote : (wanted text : List ℕ) {rest : List ℕ} → behind wanted text ≡ Some rest → text ≡ wanted ++ rest
unfolding behind
behind_wrote wanted text {rest} e =
    let n = length wanted in
    let w = cond_some (bytes_eq (take n text) wanted) (drop n text) rest e in
    let front : take n text ≡ wanted = (bytes_eq-Decides (take n text) wanted).0 w.0 in
    sym (take-append-drop n text) ∙ rw (front, w.1)

pub literal_reads : (wanted rest : List ℕ) → literal wanted (wanted ++ rest) ≡ Some (tt, rest)
literal_reads wanted rest = rw (behind_reads wanted rest)

pub literal_wrote : (wanted text : List ℕ) {u : Unit} {rest : List ℕ} → literal wanted text ≡ Some (u, rest) → text ≡ wanted ++ rest
literal_wrote wanted text {u} {rest} e = by_found (behind wanted text) refl e
  where
    by_found : (x : Option (List ℕ)) → behind wanted text ≡ x → option_map {U = Unit × List ℕ} (λ r. (tt, r)) x ≡ Some (u, rest) → text ≡ wanted ++ rest
    by_found None b e = absurd cc
    by_found (Some r) b e = behind_wrote wanted text b ∙ ap (λ (z : List ℕ). wanted ++ z) (some_pair_parts tt u r rest e).1

-- ---- a text and a number

pub part_reads : (wanted : List ℕ) (limit n : ℕ) (rest : List ℕ) → n ≤ limit → no_digit rest ≡ true → part wanted limit (wanted ++ decimal n ++ rest) ≡ Some (n, rest)
unfolding part
part_reads wanted limit n rest h d = rw (append_assoc wanted (decimal n) rest, behind_reads wanted (decimal n ++ rest)) (decimal_reads limit n rest h d)

-- a value within its bounds, in the text as it is written, with the rest behind it
pub record IsWritten {A : Type 0} (Within : A → Type 0) (write : A → List ℕ) (a : A) (rest text : List ℕ) : Type 0 where
  pub within : Within a
  pub is : text ≡ write a ++ rest

pub part_wrote : (wanted : List ℕ) (limit : ℕ) (text : List ℕ) {n : ℕ} {rest : List ℕ} → part wanted limit text ≡ Some (n, rest)
    → IsWritten (λ (i : ℕ). i ≤ limit) (λ (i : ℕ). wanted ++ decimal i) n rest text
unfolding part
part_wrote wanted limit text {n} {rest} e = option_and_then_some (strip_decimal limit) (behind wanted text) (n, rest) e
    (λ left b s.
    let w = decimal_written limit left s in
    record {
      within = w.within;
      is = behind_wrote wanted text b ∙ ap (λ (r : List ℕ). wanted ++ r) w.is ∙ sym (append_assoc wanted (decimal n) rest);
    })

-- a number that is read is within its limit
pub part_within : (wanted text : List ℕ) (limit : ℕ) {n : ℕ} {rest : List ℕ} → Some (n, rest) ≡ part wanted limit text → n ≤ limit
part_within wanted text limit e = (part_wrote wanted limit text (sym e)).within
