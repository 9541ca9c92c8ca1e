-- Events and outcomes: reading undoes writing, and what reads was written. Assumes nothing.
use mathlib.Core.Path.{◌≡◌, refl, sym, ap, ap₂, ◌∙◌, subst}
use mathlib.Core.Bool.{true}
use mathlib.Core.List.{List, ◌++◌, append_assoc}
use mathlib.Core.Logic.{◌⊎◌, inl, inr, ⊎_elim}
use Prim.Native.Nat.{ℕ, ◌≤◌}
use native.Mathlib.Omega.{arith}
use Rattle.std.specs.Prelude.{Option, Some, None, codes as ascii}
use Rattle.std.specs.Option.{option_or}
use Rattle.std.proofs.lemmas.Option.{option_and_then_some, some_pair_parts}
use Rattle.decimal.specs.Decimal.{decimal}
use Rattle.decimal.specs.Strip.{no_digit}
use Rattle.outcome.specs.Outcome.{refusal_of}
use Rattle.outcome.specs.declared.Change.{Change}
use Rattle.outcome.specs.declared.Change.TheVariants.{Grew, Kept, Shrank}
use Rattle.outcome.specs.declared.Outcome.{Outcome}
use Rattle.outcome.specs.declared.Outcome.TheVariants.{Accepted, Refused}
use Rattle.sentences.specs.Sentence.{start_of, middle_of, byte_limit, half_limit, EventWithin}
use Rattle.sentences.specs.Readers.{◌>>=◌, give, behind, literal, part}
use Rattle.sentences.specs.Reading.{read_event, read_link, read_outcome}
use Rattle.sentences.specs.declared.Event.{Event}
use Rattle.sentences.specs.declared.Event.TheVariants.{Depot, Yard, Link, Closing}
use Rattle.sentences.proofs.Parts.{behind_reads, literal_wrote, part_reads, IsWritten, part_wrote}

-- the one of two that found something
or_one : {A : Type 0} (p q : Option A) {x : A} → option_or p q ≡ Some x → (p ≡ Some x) ⊎ (q ≡ Some x)
or_one None q e = inr e
or_one (Some y) q e = inl e

-- ---- one part of several

module _ (text : List ℕ) where
  depot_read : {n : ℕ} {rest : List ℕ} → part (ascii "Opening depot ") half_limit text ≡ Some (n, rest) → read_event text ≡ Some (Depot n, rest)
  unfolding read_event
  depot_read e = rw e

  module _ (d : part (ascii "Opening depot ") half_limit text ≡ None) where
    yard_read : {n : ℕ} {rest : List ℕ} → part (ascii "Opening yard ") half_limit text ≡ Some (n, rest) → read_event text ≡ Some (Yard n, rest)
    unfolding read_event
    yard_read e = rw (d, e)

    module _ (y : part (ascii "Opening yard ") half_limit text ≡ None) where
      closing_read : {n : ℕ} {rest : List ℕ} → part (ascii "Closing ") half_limit text ≡ Some (n, rest) → read_event text ≡ Some (Closing n, rest)
      unfolding read_event
      closing_read e = rw (d, y, e)

      link_read : {m n : ℕ} {left rest : List ℕ} → part (ascii "Closing ") half_limit text ≡ None → part (ascii "Linking ") half_limit text ≡ Some (m, left) → part (ascii " and ") half_limit left ≡ Some (n, rest)
          → read_event text ≡ Some (Link m n, rest)
      unfolding read_event read_link
      link_read c l e = rw (d, y, c, l, e)

  grew_read : {rest : List ℕ} → behind (ascii " grew the chain") text ≡ Some rest → read_outcome text ≡ Some (Accepted Grew, rest)
  unfolding read_outcome
  grew_read e = rw e

  module _ (g : behind (ascii " grew the chain") text ≡ None) where
    kept_read : {rest : List ℕ} → behind (ascii " kept the chain") text ≡ Some rest → read_outcome text ≡ Some (Accepted Kept, rest)
    unfolding read_outcome
    kept_read e = rw (g, e)

    module _ (k : behind (ascii " kept the chain") text ≡ None) where
      shrank_read : {rest : List ℕ} → behind (ascii " shrank the chain") text ≡ Some rest → read_outcome text ≡ Some (Accepted Shrank, rest)
      unfolding read_outcome
      shrank_read e = rw (g, k, e)

      refused_read : {n : ℕ} {rest : List ℕ} → behind (ascii " shrank the chain") text ≡ None → part (ascii " was refused with ") byte_limit text ≡ Some (n, rest) → read_outcome text ≡ Some (Refused n, rest)
      unfolding read_outcome
      refused_read s e = rw (g, k, s, e)

-- ---- the event

no_part : (wanted : List ℕ) (limit : ℕ) (text : List ℕ) → behind wanted text ≡ None → part wanted limit text ≡ None
unfolding part
no_part wanted limit text e = rw e

-- no start stands where another one does
pub event_reads : (e : Event) (rest : List ℕ) → EventWithin e → no_digit rest ≡ true → read_event (start_of e ++ rest) ≡ Some (e, rest)
unfolding start_of behind no_digit
event_reads (Depot n) rest h d = depot_read _ (part_reads (ascii "Opening depot ") half_limit n rest h d)
event_reads (Yard n) rest h d = yard_read _ (no_part (ascii "Opening depot ") half_limit _ refl) (part_reads (ascii "Opening yard ") half_limit n rest h d)
event_reads (Closing n) rest h d =
    closing_read _ (no_part (ascii "Opening depot ") half_limit _ refl) (no_part (ascii "Opening yard ") half_limit _ refl) (part_reads (ascii "Closing ") half_limit n rest h d)
event_reads (Link m n) rest h d =
    let left = ascii " and " ++ decimal n ++ rest in
    ap read_event (append_assoc (ascii "Linking " ++ decimal m) (ascii " and " ++ decimal n) rest)
    ∙ link_read
    (ascii "Linking " ++ decimal m ++ left)
    (no_part (ascii "Opening depot ") half_limit _ refl)
    (no_part (ascii "Opening yard ") half_limit _ refl)
    (no_part (ascii "Closing ") half_limit _ refl)
    (part_reads (ascii "Linking ") half_limit m left h.0 refl)
    (part_reads (ascii " and ") half_limit n rest h.1 d)

-- one code behind its text
one_wrote : (wanted : List ℕ) (kind : ℕ → Event) (text : List ℕ) {e : Event} {rest : List ℕ} → ((n : ℕ) → start_of (kind n) ≡ wanted ++ decimal n) → ((n : ℕ) → n ≤ half_limit → EventWithin (kind n))
    → (part wanted half_limit >>= λ n. give (kind n)) text ≡ Some (e, rest) → IsWritten EventWithin start_of e rest text
one_wrote wanted kind text {e} {rest} start within f = option_and_then_some (λ x. give (kind x.0) x.1) (part wanted half_limit text) (e, rest) f
    (λ x p s.
    let w = part_wrote wanted half_limit text p in
    let g = some_pair_parts (kind x.0) e x.1 rest s in
    subst (λ (k : Event). IsWritten EventWithin start_of k rest text) g.0
    (record { within = within x.0 w.within; is = w.is ∙ ap₂ (λ (y z : List ℕ). y ++ z) (sym (start x.0)) g.1 }))

link_wrote : (text : List ℕ) {e : Event} {rest : List ℕ} → read_link text ≡ Some (e, rest) → IsWritten EventWithin start_of e rest text
unfolding read_link start_of
link_wrote text {e} {rest} f = option_and_then_some (λ x. (part (ascii " and ") half_limit >>= λ n. give (Link x.0 n)) x.1) (part (ascii "Linking ") half_limit text) (e, rest) f
    (λ x p s. option_and_then_some (λ y. give (Link x.0 y.0) y.1) (part (ascii " and ") half_limit x.1) (e, rest) s
    (λ y q t.
    let v = part_wrote (ascii "Linking ") half_limit text p in
    let w = part_wrote (ascii " and ") half_limit x.1 q in
    let g = some_pair_parts (Link x.0 y.0) e y.1 rest t in
    let first = ascii "Linking " ++ decimal x.0 in
    let second = ascii " and " ++ decimal y.0 in
    subst (λ (k : Event). IsWritten EventWithin start_of k rest text) g.0
    (record {
      within = (v.within, w.within);
      is = v.is ∙ ap (λ (r : List ℕ). first ++ r) (w.is ∙ ap (λ (r : List ℕ). second ++ r) g.1) ∙ sym (append_assoc first second rest);
    })))

pub event_wrote : (text : List ℕ) {e : Event} {rest : List ℕ} → read_event text ≡ Some (e, rest) → IsWritten EventWithin start_of e rest text
unfolding read_event start_of
event_wrote text f =
    ⊎_elim (λ f. one_wrote (ascii "Opening depot ") Depot text (λ n. refl) (λ n h. h) f)
    (λ f. ⊎_elim (λ f. one_wrote (ascii "Opening yard ") Yard text (λ n. refl) (λ n h. h) f)
    (λ f. ⊎_elim (λ f. one_wrote (ascii "Closing ") Closing text (λ n. refl) (λ n h. h) f)
    (λ f. link_wrote text f)
    (or_one _ _ f)) (or_one _ _ f)) (or_one _ _ f)

-- ---- the outcome

pub outcome_reads : (o : Outcome) (rest : List ℕ) → refusal_of o ≤ byte_limit → no_digit rest ≡ true → read_outcome (middle_of o ++ rest) ≡ Some (o, rest)
unfolding middle_of refusal_of behind
outcome_reads (Accepted Grew) rest h d = grew_read _ (behind_reads (ascii " grew the chain") rest)
outcome_reads (Accepted Kept) rest h d = kept_read _ refl (behind_reads (ascii " kept the chain") rest)
outcome_reads (Accepted Shrank) rest h d = shrank_read _ refl refl (behind_reads (ascii " shrank the chain") rest)
outcome_reads (Refused n) rest h d = refused_read _ refl refl refl (part_reads (ascii " was refused with ") byte_limit n rest h d)

-- no digit begins a middle
pub middle_ends : (o : Outcome) (rest : List ℕ) → no_digit (middle_of o ++ rest) ≡ true
unfolding middle_of no_digit
middle_ends (Accepted Grew) rest = refl
middle_ends (Accepted Kept) rest = refl
middle_ends (Accepted Shrank) rest = refl
middle_ends (Refused n) rest = refl

abbrev pub RefusalWithin : Outcome → Type 0
RefusalWithin o = refusal_of o ≤ byte_limit

change_wrote : (wanted : List ℕ) (change : Change) (text : List ℕ) {o : Outcome} {rest : List ℕ} → middle_of (Accepted change) ≡ wanted → (literal wanted >>= λ _. give (Accepted change)) text ≡ Some (o, rest)
    → IsWritten RefusalWithin middle_of o rest text
unfolding refusal_of
change_wrote wanted change text {o} {rest} middle f = option_and_then_some (λ x. give (Accepted change) x.1) (literal wanted text) (o, rest) f
    (λ x p s.
    let g = some_pair_parts (Accepted change) o x.1 rest s in
    subst (λ (y : Outcome). IsWritten RefusalWithin middle_of y rest text) g.0
    (record { within = omega arith; is = literal_wrote wanted text p ∙ ap₂ (λ (y z : List ℕ). y ++ z) (sym middle) g.1 }))

refused_wrote : (text : List ℕ) {o : Outcome} {rest : List ℕ} → (part (ascii " was refused with ") byte_limit >>= λ n. give (Refused n)) text ≡ Some (o, rest) → IsWritten RefusalWithin middle_of o rest text
unfolding middle_of refusal_of
refused_wrote text {o} {rest} f = option_and_then_some (λ x. give (Refused x.0) x.1) (part (ascii " was refused with ") byte_limit text) (o, rest) f
    (λ x p s.
    let w = part_wrote (ascii " was refused with ") byte_limit text p in
    let g = some_pair_parts (Refused x.0) o x.1 rest s in
    subst (λ (y : Outcome). IsWritten RefusalWithin middle_of y rest text) g.0
    (record { within = w.within; is = w.is ∙ ap (λ (r : List ℕ). ascii " was refused with " ++ decimal x.0 ++ r) g.1 }))

pub outcome_wrote : (text : List ℕ) {o : Outcome} {rest : List ℕ} → read_outcome text ≡ Some (o, rest) → IsWritten RefusalWithin middle_of o rest text
unfolding read_outcome middle_of
outcome_wrote text f =
    ⊎_elim (λ f. change_wrote (ascii " grew the chain") Grew text refl f)
    (λ f. ⊎_elim (λ f. change_wrote (ascii " kept the chain") Kept text refl f)
    (λ f. ⊎_elim (λ f. change_wrote (ascii " shrank the chain") Shrank text refl f)
    (λ f. refused_wrote text f)
    (or_one _ _ f)) (or_one _ _ f)) (or_one _ _ f)
