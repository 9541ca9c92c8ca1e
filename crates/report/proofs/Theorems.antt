-- No two reports have the same line, the longest line has 45 bytes, which refusal the call gives, and the part handed back is the line. Assumes nothing.
use mathlib.Core.Path.{◌≡◌, refl, sym, ap, ap₂, ◌∙◌, subst}
use mathlib.Core.Bool.{Bool, true, false, cond}
use lib.Dec.{ltb}
use mathlib.Core.List.{List, [], ◌∷◌, ◌++◌, append_assoc}
use Prim.Native.Nat.{ℕ, ◌+◌, ◌^◌, ◌≤◌, ◌<◌}
use native.Mathlib.Omega.{arith}
use lib.ListN.{length, take, length-append}
use borrow.Author.Tests.{lt-ltb, le-ltb}
use Rattle.std.proofs.lemmas.Bool.{and_parts}
use Rattle.lists.specs.Lists.{allb, first_of, overwrite}
use Rattle.lists.proofs.Fills.{overwrite_take}
use Rattle.lists.proofs.Tests.{clash}
use Rattle.outcome.specs.Outcome.{letter_of, refusal_of}
use Rattle.outcome.specs.declared.Change.TheVariants.{Grew, Kept, Shrank}
use Rattle.outcome.specs.declared.Outcome.{Outcome}
use Rattle.outcome.specs.declared.Outcome.TheVariants.{Accepted, Refused}
use Rattle.decimal.specs.Decimal.{spell, decimal, field}
use Rattle.decimal.proofs.Decimals.{decimal_word, decimal_half, decimal_byte, is_graph, decimal_graph, decimal_injective}
use Rattle.report.specs.declared.ReportFields.{ReportFields}
use Rattle.report.specs.Line.{outcome_text, figures_text, report_line, IsWithin, buffer_limit, report_call, ReportRefuses}
use Rattle.std.specs.Result.{result_unwrap_or}
use Rattle.outcome.specs.Answers.{Left, leaves, numbered, unless, Refuses}
use Rattle.outcome.specs.Numbers.{short_buffer}
use Rattle.outcome.proofs.Answers.{refuses_by}
use Rattle.lists.specs.Conditions.{IsShort}
use Rattle.lists.proofs.Conditions.{decides_below}
use Rattle.std.specs.Prelude.{Ok, Err}

-- ---- the outcome's text

outcome_graph : (o : Outcome) → allb is_graph (outcome_text o) ≡ true
unfolding outcome_text letter_of refusal_of allb is_graph
outcome_graph (Accepted Grew) = refl
outcome_graph (Accepted Kept) = refl
outcome_graph (Accepted Shrank) = refl
outcome_graph (Refused n) = decimal_graph n

-- two letters that differ
letters_differ : {m n : ℕ} {xs ys : List ℕ} {A : Type 0} → (m ≡ n → ⊥) → m ∷ xs ≡ n ∷ ys → A
letters_differ {m} {n} d e = let z : m ≡ n = cc in absurd (d z)

outcome_injective : (o p : Outcome) → outcome_text o ≡ outcome_text p → o ≡ p
unfolding outcome_text letter_of refusal_of
outcome_injective (Accepted Grew) (Accepted Grew) e = refl
outcome_injective (Accepted Grew) (Accepted Kept) e = letters_differ (λ z. omega arith) e
outcome_injective (Accepted Grew) (Accepted Shrank) e = letters_differ (λ z. omega arith) e
outcome_injective (Accepted Grew) (Refused n) e = letters_differ (λ z. omega arith) e
outcome_injective (Accepted Kept) (Accepted Grew) e = letters_differ (λ z. omega arith) e
outcome_injective (Accepted Kept) (Accepted Kept) e = refl
outcome_injective (Accepted Kept) (Accepted Shrank) e = letters_differ (λ z. omega arith) e
outcome_injective (Accepted Kept) (Refused n) e = letters_differ (λ z. omega arith) e
outcome_injective (Accepted Shrank) (Accepted Grew) e = letters_differ (λ z. omega arith) e
outcome_injective (Accepted Shrank) (Accepted Kept) e = letters_differ (λ z. omega arith) e
outcome_injective (Accepted Shrank) (Accepted Shrank) e = refl
outcome_injective (Accepted Shrank) (Refused n) e = letters_differ (λ z. omega arith) e
outcome_injective (Refused m) (Accepted Grew) e = letters_differ (λ z. omega arith) e
outcome_injective (Refused m) (Accepted Kept) e = letters_differ (λ z. omega arith) e
outcome_injective (Refused m) (Accepted Shrank) e = letters_differ (λ z. omega arith) e
outcome_injective (Refused m) (Refused n) e = let t : decimal m ≡ decimal n = cc in ap Refused (decimal_injective m n t)

-- ---- the fields of a line are told apart by what stands between them

-- two texts of characters, each with a space or a line's end behind it
split : (x : ℕ) (a c : List ℕ) {b d : List ℕ} → allb is_graph a ≡ true → allb is_graph c ≡ true → is_graph x ≡ false → a ++ x ∷ b ≡ c ++ x ∷ d → (a ≡ c) × (b ≡ d)
unfolding allb
split x [] [] g h s e = (refl, cc)
split x [] (y ∷ ys) g h s e = let z : x ≡ y = cc in absurd (clash (ap is_graph z ∙ (and_parts (is_graph y) (allb is_graph ys) h).0) s)
split x (y ∷ ys) [] g h s e = let z : x ≡ y = cc in absurd (clash (ap is_graph z ∙ (and_parts (is_graph y) (allb is_graph ys) g).0) s)
split x (y ∷ ys) (z ∷ zs) {b} {d} g h s e =
    let p : y ≡ z = cc in
    let q : ys ++ x ∷ b ≡ zs ++ x ∷ d = cc in
    let r = split x ys zs (and_parts (is_graph y) (allb is_graph ys) g).1 (and_parts (is_graph z) (allb is_graph zs) h).1 s q in
    (ap₂ (λ (w : ℕ) (ws : List ℕ). w ∷ ws) p r.0, r.1)

regroup : (a b c d e f g : List ℕ) → a ++ b ++ (c ++ d ++ e ++ f) ++ g ≡ a ++ (b ++ (c ++ (d ++ (e ++ (f ++ g)))))
regroup a b c d e f g = simp append_assoc

-- the line read from the left
line_fields : (r : ReportFields) → report_line r
    ≡ decimal r.number ++ 32 ∷ (outcome_text r.outcome ++ 32 ∷ (decimal r.depots ++ 32 ∷ (decimal r.chain ++ 32 ∷ (decimal r.pairs ++ 32 ∷ (decimal r.searches ++ 10 ∷ [])))))
unfolding report_line figures_text field
line_fields r =
    regroup (decimal r.number) (field (outcome_text r.outcome)) (field (decimal r.depots)) (field (decimal r.chain)) (field (decimal r.pairs)) (field (decimal r.searches)) (10 ∷ [])

-- different reports give different lines
pub line_injective : (r s : ReportFields) → report_line r ≡ report_line s → r ≡ s
unfolding is_graph
line_injective r s e =
    let e₁ = split 32 (decimal r.number) (decimal s.number) (decimal_graph r.number) (decimal_graph s.number) refl (sym (line_fields r) ∙ e ∙ line_fields s) in
    let e₂ = split 32 (outcome_text r.outcome) (outcome_text s.outcome) (outcome_graph r.outcome) (outcome_graph s.outcome) refl e₁.1 in
    let e₃ = split 32 (decimal r.depots) (decimal s.depots) (decimal_graph r.depots) (decimal_graph s.depots) refl e₂.1 in
    let e₄ = split 32 (decimal r.chain) (decimal s.chain) (decimal_graph r.chain) (decimal_graph s.chain) refl e₃.1 in
    let e₅ = split 32 (decimal r.pairs) (decimal s.pairs) (decimal_graph r.pairs) (decimal_graph s.pairs) refl e₄.1 in
    let e₆ = split 10 (decimal r.searches) (decimal s.searches) (decimal_graph r.searches) (decimal_graph s.searches) refl e₅.1 in
    let number : r.number ≡ s.number = decimal_injective r.number s.number e₁.0 in
    let outcome : r.outcome ≡ s.outcome = outcome_injective r.outcome s.outcome e₂.0 in
    let depots : r.depots ≡ s.depots = decimal_injective r.depots s.depots e₃.0 in
    let chain : r.chain ≡ s.chain = decimal_injective r.chain s.chain e₄.0 in
    let pairs : r.pairs ≡ s.pairs = decimal_injective r.pairs s.pairs e₅.0 in
    let searches : r.searches ≡ s.searches = decimal_injective r.searches s.searches e₆.0 in
    λ i. record { number = number i; outcome = outcome i; depots = depots i; chain = chain i; pairs = pairs i; searches = searches i }

-- ---- the length of a line

pub outcome_most : (o : Outcome) → refusal_of o < 2 ^ 8 → length (outcome_text o) ≤ 4
unfolding outcome_text refusal_of
outcome_most (Accepted c) h = omega arith
outcome_most (Refused n) h = let l : length (decimal n) ≤ 3 = decimal_byte n h in omega arith

pub line_length : (r : ReportFields) → length (report_line r)
    ≡ length (decimal r.number) + length (outcome_text r.outcome) + length (decimal r.depots) + length (decimal r.chain) + length (decimal r.pairs) + length (decimal r.searches) + 6
unfolding report_line figures_text field
line_length r = simp length-append (omega arith)

-- within the widths a line has at most 45 bytes
pub line_most : (r : ReportFields) → IsWithin r → length (report_line r) ≤ 45
line_most r w =
    omega (
      arith,
      line_length r,
      decimal_word r.number w.number,
      outcome_most r.outcome w.refusal,
      decimal_half r.depots w.depots,
      decimal_half r.chain w.chain,
      decimal_word r.pairs w.pairs,
      decimal_half r.searches w.searches,
    )

-- and one has 45
pub longest : ReportFields
longest = record { number = 4294967295; outcome = Refused 255; depots = 65535; chain = 65535; pairs = 4294967295; searches = 65535 }

pub line_longest : length (report_line longest) ≡ 45
unfolding longest report_line figures_text field outcome_text letter_of refusal_of decimal spell
line_longest = refl

-- ---- which refusal

pub report_refusals : ReportRefuses report_call
unfolding report_call first_of numbered unless allb
report_refusals r buffer = subst (Refuses cs buffer) (same short) (refuses_by ts cs (refl, decides_below (length buffer) buffer_limit, λ f. tt) refl buffer done refl)
  where
    short : Bool
    short = ltb (length buffer) buffer_limit

    cs : List (Type 0 × ℕ)
    cs = (IsShort ((buffer_limit, length buffer) ∷ []), short_buffer) ∷ []

    ts : List (Bool × ℕ)
    ts = (short, short_buffer) ∷ []

    done : Left ℕ (List ℕ)
    done = leaves (Ok (length (report_line r))) (overwrite (report_line r) buffer)

    same : (b : Bool) → unless (numbered (first_of ((b, short_buffer) ∷ []))) buffer done ≡ cond b (leaves (Err short_buffer) buffer) done
    same true = refl
    same false = refl

-- ---- the part handed back, and the whole buffer: the line itself, with the rest as it was, and nothing exactly where the buffer is short

abbrev handed_back : Left ℕ (List ℕ) → List (List ℕ)
handed_back left = take (result_unwrap_or left.answer 0) left.lent ∷ left.lent ∷ []

pub part_written : (r : ReportFields) (buffer : List ℕ) → buffer_limit ≤ length buffer → handed_back (report_call r buffer) ≡ report_line r ∷ overwrite (report_line r) buffer ∷ []
unfolding report_call
part_written r buffer h = rw (le-ltb (length buffer) buffer_limit h) (ap (λ (part : List ℕ). part ∷ overwrite (report_line r) buffer ∷ []) (overwrite_take (report_line r) buffer))

pub part_refused : (r : ReportFields) (buffer : List ℕ) → length buffer < buffer_limit → handed_back (report_call r buffer) ≡ [] ∷ buffer ∷ []
unfolding report_call
part_refused r buffer h = rw (lt-ltb (length buffer) buffer_limit h) refl

pub line_some : (r : ReportFields) → report_line r ≡ [] → ⊥
line_some r e = let l : length (report_line r) ≡ 0 = ap length e in omega (arith, line_length r)
