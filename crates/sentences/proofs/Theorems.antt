-- Reader and writer are inverse to each other: what is written reads back, what reads was written, and no two outcomes share a
-- sentence. Assumes nothing.
use mathlib.Core.Path.{◌≡◌, refl, sym, ap, ◌∙◌, subst}
use mathlib.Core.Bool.{Bool, true, false, ◌||◌}
use mathlib.Core.List.{List, [], ◌∷◌, ◌++◌, append_assoc}
use mathlib.Core.Logic.{◌⊎◌, inl, inr}
use Prim.Native.Nat.{ℕ, ◌<◌}
use native.Mathlib.Omega.{arith}
use lib.Dec.{eqb}
use lib.ListN.{length}
use borrow.Author.Tests.{ltb-true, ne_eqb}
use Rattle.std.specs.Prelude.{Some, None, Ok, Err, codes as ascii}
use Rattle.std.proofs.lemmas.Bool.{and_parts}
use Rattle.std.proofs.lemmas.Option.{option_and_then_some, some_pair_parts}
use Rattle.lists.specs.Lists.{anyb, allb, memb}
use Rattle.lists.proofs.Appends.{append_none}
use Rattle.decimal.specs.Decimal.{decimal}
use Rattle.decimal.specs.Front.{Front}
use Rattle.decimal.specs.Strip.{no_digit}
use Rattle.decimal.proofs.Decimals.{is_graph, decimal_graph}
use Rattle.outcome.specs.declared.Change.TheVariants.{Grew, Kept, Shrank}
use Rattle.outcome.specs.declared.Outcome.{Outcome}
use Rattle.outcome.specs.declared.Outcome.TheVariants.{Accepted, Refused}
use Rattle.outcome.specs.declared.Refusal.TheVariants.{Garbled}
use Rattle.sentences.specs.Sentence.{start_of, middle_of, figures_of, sentence_of, half_limit, word_limit, IsWithin}
use Rattle.sentences.specs.Readers.{literal, part}
use Rattle.sentences.specs.Reading.{read_event, read_outcome, read_said, heard, read_sentence, AreInverse}
use Rattle.sentences.specs.declared.Event.{Event}
use Rattle.sentences.specs.declared.Event.TheVariants.{Depot, Yard, Link, Closing}
use Rattle.sentences.specs.declared.Said.{Said}
use Rattle.sentences.proofs.Parts.{literal_reads, literal_wrote, part_reads, part_wrote}
use Rattle.sentences.proofs.Inverses.{event_reads, event_wrote, outcome_reads, outcome_wrote, middle_ends}
use Rattle.sentences.proofs.Lengths.{sentence_most}

-- ---- a sentence read from the left

-- the rest of a sentence behind its middle, and behind each figure
abbrev from_searches : Said → List ℕ
from_searches s = ascii ", searches " ++ decimal s.searches ++ ascii "."

abbrev from_pairs : Said → List ℕ
from_pairs s = ascii ", pairs " ++ decimal s.pairs ++ from_searches s

abbrev from_chain : Said → List ℕ
from_chain s = ascii " open, chain " ++ decimal s.chain ++ from_pairs s

abbrev from_depots : Said → List ℕ
from_depots s = ascii ": " ++ decimal s.depots ++ from_chain s

regroup : (a b d c p s t₁ t₂ t₃ t₄ t₅ : List ℕ) → a ++ b ++ (t₁ ++ d ++ (t₂ ++ c) ++ (t₃ ++ p) ++ (t₄ ++ s) ++ t₅) ≡ a ++ (b ++ (t₁ ++ d ++ (t₂ ++ c ++ (t₃ ++ p ++ (t₄ ++ s ++ t₅)))))
regroup a b d c p s t₁ t₂ t₃ t₄ t₅ = simp append_assoc

sentence_parts : (s : Said) → sentence_of s ≡ start_of s.event ++ (middle_of s.outcome ++ from_depots s)
unfolding sentence_of figures_of
sentence_parts s =
    regroup (start_of s.event) (middle_of s.outcome) (decimal s.depots) (decimal s.chain) (decimal s.pairs) (decimal s.searches)
    (ascii ": ") (ascii " open, chain ") (ascii ", pairs ") (ascii ", searches ") (ascii ".")

-- what the whole finds, from what its parts find
said_read : (text : List ℕ) {t₁ t₂ t₃ t₄ t₅ t₆ t₇ : List ℕ} {event : Event} {outcome : Outcome} {depots chain pairs searches : ℕ} {u : Unit}
    → read_event text ≡ Some (event, t₁)
    → read_outcome t₁ ≡ Some (outcome, t₂)
    → part (ascii ": ") half_limit t₂ ≡ Some (depots, t₃)
    → part (ascii " open, chain ") half_limit t₃ ≡ Some (chain, t₄)
    → part (ascii ", pairs ") word_limit t₄ ≡ Some (pairs, t₅)
    → part (ascii ", searches ") half_limit t₅ ≡ Some (searches, t₆)
    → literal (ascii ".") t₆ ≡ Some (u, t₇)
    → read_said text ≡ Some (record { event = event; outcome = outcome; depots = depots; chain = chain; pairs = pairs; searches = searches }, t₇)
unfolding read_said
said_read text e₁ e₂ e₃ e₄ e₅ e₆ e₇ = rw (e₁, e₂, e₃, e₄, e₅, e₆, e₇)

-- ---- what is written reads back

pub reads_written : (s : Said) → IsWithin s → read_sentence (sentence_of s) ≡ Ok s
unfolding read_sentence no_digit
reads_written s w =
    ap read_sentence (sentence_parts s)
    ∙ ap heard
    (said_read
    (start_of s.event ++ (middle_of s.outcome ++ from_depots s))
    (event_reads s.event (middle_of s.outcome ++ from_depots s) w.event (middle_ends s.outcome (from_depots s)))
    (outcome_reads s.outcome (from_depots s) w.refusal refl)
    (part_reads (ascii ": ") half_limit s.depots (from_chain s) w.depots refl)
    (part_reads (ascii " open, chain ") half_limit s.chain (from_pairs s) w.chain refl)
    (part_reads (ascii ", pairs ") word_limit s.pairs (from_searches s) w.pairs refl)
    (part_reads (ascii ", searches ") half_limit s.searches (ascii ".") w.searches refl)
    (literal_reads (ascii ".") []))

-- ---- what reads was written

-- only what is read up to the end is heard
heard_whole : (f : Front Said) {s : Said} → heard f ≡ Ok s → f ≡ Some (s, [])
heard_whole None e = absurd cc
heard_whole (Some (t, [])) {s} e = let p : t ≡ s = cc in ap (λ (x : Said). Some (x, [])) p
heard_whole (Some (t, c ∷ cs)) e = absurd cc

-- the text is the sentence of something within its widths
pub record IsSentenceOf (s : Said) (text : List ℕ) : Type 0 where
  pub within : IsWithin s
  pub is : text ≡ sentence_of s

-- the text is a sentence
pub record IsRead (text : List ℕ) : Type 0 where
  pub said : Said
  pub reads : read_sentence text ≡ Ok said

-- what the parts tell of the text, put together
said_wrote : (text : List ℕ) {t₁ t₂ t₃ t₄ t₅ t₆ t₇ : List ℕ} {event : Event} {outcome : Outcome} {depots chain pairs searches : ℕ} {u : Unit}
    → read_event text ≡ Some (event, t₁)
    → read_outcome t₁ ≡ Some (outcome, t₂)
    → part (ascii ": ") half_limit t₂ ≡ Some (depots, t₃)
    → part (ascii " open, chain ") half_limit t₃ ≡ Some (chain, t₄)
    → part (ascii ", pairs ") word_limit t₄ ≡ Some (pairs, t₅)
    → part (ascii ", searches ") half_limit t₅ ≡ Some (searches, t₆)
    → literal (ascii ".") t₆ ≡ Some (u, t₇)
    → t₇ ≡ []
    → IsSentenceOf (record { event = event; outcome = outcome; depots = depots; chain = chain; pairs = pairs; searches = searches }) text
said_wrote text {t₁} {t₂} {t₃} {t₄} {t₅} {t₆} {t₇} {event} {outcome} {depots} {chain} {pairs} {searches} e₁ e₂ e₃ e₄ e₅ e₆ e₇ n =
    let w₁ = event_wrote text e₁ in
    let w₂ = outcome_wrote t₁ e₂ in
    let w₃ = part_wrote (ascii ": ") half_limit t₂ e₃ in
    let w₄ = part_wrote (ascii " open, chain ") half_limit t₃ e₄ in
    let w₅ = part_wrote (ascii ", pairs ") word_limit t₄ e₅ in
    let w₆ = part_wrote (ascii ", searches ") half_limit t₅ e₆ in
    let w₇ : t₆ ≡ ascii "." = literal_wrote (ascii ".") t₆ e₇ ∙ ap (λ (r : List ℕ). ascii "." ++ r) n ∙ append_none (ascii ".") in
    record {
      within = record { event = w₁.within; refusal = w₂.within; depots = w₃.within; chain = w₄.within; pairs = w₅.within; searches = w₆.within };
      is =
          w₁.is
          ∙ ap (λ (r : List ℕ). start_of event ++ r)
          (w₂.is
          ∙ ap (λ (r : List ℕ). middle_of outcome ++ r)
          (w₃.is
          ∙ ap (λ (r : List ℕ). ascii ": " ++ decimal depots ++ r)
          (w₄.is
          ∙ ap (λ (r : List ℕ). ascii " open, chain " ++ decimal chain ++ r)
          (w₅.is ∙ ap (λ (r : List ℕ). ascii ", pairs " ++ decimal pairs ++ r) (w₆.is ∙ ap (λ (r : List ℕ). ascii ", searches " ++ decimal searches ++ r) w₇)))))
          ∙ sym (sentence_parts (record { event = event; outcome = outcome; depots = depots; chain = chain; pairs = pairs; searches = searches }));
    }

pub written_reads : (text : List ℕ) {s : Said} → read_sentence text ≡ Ok s → IsSentenceOf s text
unfolding read_sentence read_said
written_reads text {s} h =
    option_and_then_some _ (read_event text) (s, []) (heard_whole (read_said text) h) (λ x₁ e₁ h₁.
    option_and_then_some _ (read_outcome x₁.1) (s, []) h₁ (λ x₂ e₂ h₂.
    option_and_then_some _ (part (ascii ": ") half_limit x₂.1) (s, []) h₂ (λ x₃ e₃ h₃.
    option_and_then_some _ (part (ascii " open, chain ") half_limit x₃.1) (s, []) h₃ (λ x₄ e₄ h₄.
    option_and_then_some _ (part (ascii ", pairs ") word_limit x₄.1) (s, []) h₄ (λ x₅ e₅ h₅.
    option_and_then_some _ (part (ascii ", searches ") half_limit x₅.1) (s, []) h₅ (λ x₆ e₆ h₆.
    option_and_then_some _ (literal (ascii ".") x₆.1) (s, []) h₆ (λ x₇ e₇ h₇.
    let g = some_pair_parts _ s x₇.1 [] h₇ in
    subst (λ (x : Said). IsSentenceOf x text) g.0 (said_wrote text e₁ e₂ e₃ e₄ e₅ e₆ e₇ g.1))))))))

-- what is the sentence of nothing is garbled
pub others_garbled : (text : List ℕ) → ((s : Said) → IsSentenceOf s text → ⊥) → read_sentence text ≡ Err Garbled
unfolding read_sentence
others_garbled text none = by_front (read_said text) refl
  where
    by_front : (f : Front Said) → read_said text ≡ f → heard f ≡ Err Garbled
    by_front None e = refl
    by_front (Some (s, [])) e = absurd (none s (written_reads text (ap heard e)))
    by_front (Some (s, c ∷ cs)) e = refl

-- text that is longer than any sentence is one of these: it is garbled, not too long
pub long_garbled : (text : List ℕ) → 104 < length text → read_sentence text ≡ Err Garbled
long_garbled text h = others_garbled text (λ s i. omega (arith, h, ap length i.is, sentence_most s i.within))

-- a text is garbled, or it is a sentence
pub refused_garbled : (text : List ℕ) → (read_sentence text ≡ Err Garbled) ⊎ IsRead text
unfolding read_sentence
refused_garbled text = by_front (read_said text) refl
  where
    by_front : (f : Front Said) → read_said text ≡ f → (heard f ≡ Err Garbled) ⊎ IsRead text
    by_front None e = inl refl
    by_front (Some (s, [])) e = inr (record { said = s; reads = ap heard e })
    by_front (Some (s, c ∷ cs)) e = inl refl

-- ---- a sentence tells its outcome alone

pub sentence_injective : (s t : Said) → IsWithin s → IsWithin t → sentence_of s ≡ sentence_of t → s ≡ t
sentence_injective s t v w e =
    let h : Ok s ≡ Ok t = sym (reads_written s v) ∙ ap read_sentence e ∙ reads_written t w in
    cc

-- ---- writing and reading undo each other

pub sentences_inverse : AreInverse
sentences_inverse = record {
  reads = reads_written;
  writes = λ text s e. let x = written_reads text e in (x.within, x.is);
  garbled = λ text none. others_garbled text (λ s x. none s x.within x.is);
  injective = sentence_injective;
}

-- ---- a sentence is one line

-- the byte that ends a line, 0A
abbrev line_end : ℕ
line_end = 10

none_append : (xs ys : List ℕ) → memb line_end xs ≡ false → memb line_end ys ≡ false → memb line_end (xs ++ ys) ≡ false
unfolding memb anyb
none_append [] ys h k = k
none_append (x ∷ xs) ys h k = go (eqb line_end x) h (λ l. none_append xs ys l k)
  where
    go : (b : Bool) → (b || memb line_end xs) ≡ false → (memb line_end xs ≡ false → memb line_end (xs ++ ys) ≡ false) → (b || memb line_end (xs ++ ys)) ≡ false
    go true h ih = h
    go false h ih = ih h

-- the characters of a number are no line's end
graph_none : (cs : List ℕ) → allb is_graph cs ≡ true → memb line_end cs ≡ false
unfolding memb anyb allb is_graph
graph_none [] h = refl
graph_none (c ∷ cs) h =
    let q = and_parts (is_graph c) (allb is_graph cs) h in
    let above : 32 < c = ltb-true 32 c q.0 in
    rw (ne_eqb line_end c (λ e. omega arith), graph_none cs q.1)

number_none : (n : ℕ) → memb line_end (decimal n) ≡ false
number_none n = graph_none (decimal n) (decimal_graph n)

-- nor are those of a text with a number behind it
part_none : (text : List ℕ) (n : ℕ) → memb line_end text ≡ false → memb line_end (text ++ decimal n) ≡ false
part_none text n h = none_append text (decimal n) h (number_none n)

start_none : (e : Event) → memb line_end (start_of e) ≡ false
unfolding start_of memb anyb
start_none (Depot n) = part_none (ascii "Opening depot ") n refl
start_none (Yard n) = part_none (ascii "Opening yard ") n refl
start_none (Link m n) = none_append (ascii "Linking " ++ decimal m) (ascii " and " ++ decimal n) (part_none (ascii "Linking ") m refl) (part_none (ascii " and ") n refl)
start_none (Closing n) = part_none (ascii "Closing ") n refl

middle_none : (o : Outcome) → memb line_end (middle_of o) ≡ false
unfolding middle_of memb anyb
middle_none (Accepted Grew) = refl
middle_none (Accepted Kept) = refl
middle_none (Accepted Shrank) = refl
middle_none (Refused n) = part_none (ascii " was refused with ") n refl

figures_none : (s : Said) → memb line_end (figures_of s) ≡ false
unfolding figures_of memb anyb
figures_none s =
    let a = ascii ": " ++ decimal s.depots in
    let b = a ++ (ascii " open, chain " ++ decimal s.chain) in
    let c = b ++ (ascii ", pairs " ++ decimal s.pairs) in
    let d = c ++ (ascii ", searches " ++ decimal s.searches) in
    let a_none = part_none (ascii ": ") s.depots refl in
    let b_none = none_append a (ascii " open, chain " ++ decimal s.chain) a_none (part_none (ascii " open, chain ") s.chain refl) in
    let c_none = none_append b (ascii ", pairs " ++ decimal s.pairs) b_none (part_none (ascii ", pairs ") s.pairs refl) in
    let d_none = none_append c (ascii ", searches " ++ decimal s.searches) c_none (part_none (ascii ", searches ") s.searches refl) in
    none_append d (ascii ".") d_none refl

pub sentence_one_line : (s : Said) → memb line_end (sentence_of s) ≡ false
unfolding sentence_of
sentence_one_line s = none_append (start_of s.event ++ middle_of s.outcome) (figures_of s) (none_append (start_of s.event) (middle_of s.outcome) (start_none s.event) (middle_none s.outcome)) (figures_none s)
