-- The texts that are kept of a line: how long the figures are, that equal ones have one text, and the tens of a number. Assumes nothing.
use mathlib.Core.Path.{◌≡◌, sym, ap, ap₂, ◌∙◌}
use mathlib.Core.List.{List, [], ◌∷◌, ◌++◌, append_assoc}
use mathlib.Core.Logic.{◌⊎◌, inl, inr}
use Prim.Native.Nat.{ℕ, ◌+◌, ◌-◌, ◌/◌, ◌%◌, ◌^◌, ◌≤◌, ◌<◌}
use native.Mathlib.Omega.{arith}
use lib.ListN.{length, set, take, drop, length-append, length-take}
use lib.Seq.{length-take-le, take_at, drop_at, take-append_seam}
use Rattle.std.proofs.lemmas.Bool.{cases_lt}
use Rattle.decimal.specs.Decimal.{numeral, decimal, field}
use Rattle.decimal.specs.Placed.{Placed}
use Rattle.decimal.proofs.Decimals.{decimal_word, decimal_half, decimal_one, decimal_more}
use Rattle.decimal.proofs.Places.{placed_byte, placed_size, placed_join, placed_text}
use Rattle.decimal.proofs.Numbers.{digits_some, more_length, field-length}
use Rattle.report.specs.declared.ReportFields.{ReportFields}
use Rattle.report.specs.Line.{figures_text}

pub figures_length : (r : ReportFields) → length (figures_text r) ≡ length (field (decimal r.depots)) + length (field (decimal r.chain)) + length (field (decimal r.pairs)) + length (field (decimal r.searches))
unfolding figures_text
figures_length r = simp length-append (omega arith)

-- within the widths the figures take at most 29 bytes
pub figures_most : (r : ReportFields) → r.depots < 2 ^ 16 → r.chain < 2 ^ 16 → r.pairs < 2 ^ 32 → r.searches < 2 ^ 16 → length (figures_text r) ≤ 29
figures_most r d c p s =
    omega (
      arith,
      figures_length r,
      field-length (decimal r.depots),
      field-length (decimal r.chain),
      field-length (decimal r.pairs),
      field-length (decimal r.searches),
      decimal_half r.depots d,
      decimal_half r.chain c,
      decimal_word r.pairs p,
      decimal_half r.searches s,
    )

pub ruleset figures_put = (figures_length, placed_join)

-- and at least 8
pub figures_least : (r : ReportFields) {text : List ℕ} → text ≡ figures_text r → 8 ≤ length text
figures_least r e =
    omega (
      arith,
      ap length e,
      figures_length r,
      field-length (decimal r.depots),
      field-length (decimal r.chain),
      field-length (decimal r.pairs),
      field-length (decimal r.searches),
      digits_some r.depots,
      digits_some r.chain,
      digits_some r.pairs,
      digits_some r.searches,
    )

-- equal figures have one text
pub figures_same : (r s : ReportFields) → r.searches ≡ 0 → s.searches ≡ 0 → r.depots ≡ s.depots → r.chain ≡ s.chain → r.pairs ≡ s.pairs → figures_text r ≡ figures_text s
unfolding figures_text
figures_same r s k l d c p =
    ap₂ (λ (x y : List ℕ). x ++ y)
    (ap₂ (λ (x y : List ℕ). x ++ y) (ap₂ (λ (m n : ℕ). field (decimal m) ++ field (decimal n)) d c) (ap (λ (n : ℕ). field (decimal n)) p))
    (ap (λ (n : ℕ). field (decimal n)) (k ∙ sym l))

-- a copy of a text, whatever stands behind it
pub text_kept : {text copy t : List ℕ} (rest : List ℕ) → copy ≡ text → text ≡ t → take (length text) (copy ++ rest) ≡ t
text_kept {text} rest e f = ap (λ (c : List ℕ). take (length text) (c ++ rest)) e ∙ take-append_seam text rest ∙ f

-- ---- the number

-- tens of several digits are those of a number that has tens
tens_some : (n : ℕ) {text : List ℕ} → text ≡ decimal (n / 10) → 4 ≤ length text → 10 ≤ n
tens_some n {text} e h = by_size (cases_lt n 10)
  where
    by_size : (n < 10) ⊎ (10 ≤ n) → 10 ≤ n
    by_size (inl l) =
        let z : n / 10 ≡ 0 = omega arith in
        let q : length text ≡ 1 = ap length (e ∙ ap decimal z ∙ decimal_one 0 (omega arith)) in
        omega (arith, q)
    by_size (inr l) = l

pub tens_room : (n : ℕ) {text : List ℕ} → text ≡ decimal (n / 10) → 4 ≤ length text → length (decimal n) ≡ length text + 1
tens_room n e h = more_length n (tens_some n e h) ∙ ap (λ (t : List ℕ). length t + 1) (sym e)

-- the tens that are kept, and the last digit
pub tens_put : (n : ℕ) {at next : ℕ} {text old mid : List ℕ} → text ≡ decimal (n / 10) → 4 ≤ length text → Placed text at old next mid → next < length mid → at ≤ length old
    → Placed (decimal n) at old (next + 1) (set mid next (48 + n % 10))
tens_put n {next = next} {mid = mid} e h w k l =
    placed_text (placed_join (placed_text w e) (placed_byte next mid (numeral (n % 10)) k) l) (sym (decimal_more n (tens_some n e h)))

-- where a number of several digits stands, its tens stand before the last
pub tens_stand : (n : ℕ) {at end : ℕ} {old new : List ℕ} → Placed (decimal n) at old end new → at + length (decimal n) ≤ length old → at + 5 ≤ end → take (end - 1 - at) (drop at new) ≡ decimal (n / 10)
tens_stand n {at} {end} {old} {new} w l h = by_size (cases_lt n 10)
  where
    by_size : (n < 10) ⊎ (10 ≤ n) → take (end - 1 - at) (drop at new) ≡ decimal (n / 10)
    by_size (inl s) = absurd (omega (arith, w.behind, ap length (decimal_one n s)))
    by_size (inr s) =
        let rest = drop (at + length (decimal n)) old in
        let c = numeral (n % 10) ∷ [] in
        let m : length (decimal (n / 10)) ≡ end - 1 - at = omega (arith, w.behind, more_length n s) in
        ap (λ (r : List ℕ). take (end - 1 - at) (drop at r)) w.is
        ∙ ap (take (end - 1 - at)) (drop_at (take at old) (decimal n ++ rest) at (length-take-le at old (omega arith)))
        ∙ ap (λ (r : List ℕ). take (end - 1 - at) (r ++ rest)) (decimal_more n s)
        ∙ ap (take (end - 1 - at)) (append_assoc (decimal (n / 10)) c rest)
        ∙ take_at (decimal (n / 10)) (c ++ rest) (end - 1 - at) m

pub ruleset tens_kept = (tens_room, tens_put, placed_size, length-take)
