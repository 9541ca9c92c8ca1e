-- THE TESTS OF FRAMES AND LINES ARE THE PUBLISHED WORDS (specs/Refusals). Assumes nothing.
use mathlib.Core.Path.{◌≡◌, refl, sym, ap, ◌∙◌, subst}
use mathlib.Core.Logic.{◌⊎◌, inl, inr}
use mathlib.Core.Bool.{Bool, true, false, cond, not, ◌&&◌}
use mathlib.Core.List.{List, [], ◌∷◌, ◌++◌}
use Prim.Native.Nat.{ℕ, zero, suc, ◌+◌, ◌/◌, ◌%◌, ◌≤◌, ◌<◌}
use native.Mathlib.Omega.{arith}
use lib.Dec.{eqb, leb, ltb}
use lib.ListN.{length, get_or, take, drop, take-append-drop, length-take}
use lib.Seq.{drop-cons, take-append_seam, get_or-take}
use borrow.Author.Tests.{eq-eqb, eqb-true, ne_eqb, leb-true, le-leb, lt-ltb, ltb-true, not-true, not-false}
use Rattle.std.specs.Prelude.{Contains, Any}
use Rattle.std.proofs.lemmas.Bool.{cases_Bool, cases_lt, and_parts, and_from, or_cases, or_left, or_right}
use Rattle.std.proofs.lemmas.List.{get_or_default}
use Rattle.lists.specs.Lists.{allb}
use Rattle.lists.proofs.Conditions.{Decides, decides_iff, decides_not}
use Rattle.lists.proofs.Tests.{clash}
use Rattle.lists.proofs.Scans.{all-at}
use Rattle.hexadecimal.proofs.DigitLaws.{digit_cases, digit_letter}
use Rattle.hexadecimal.proofs.Spelling.{length_digits, bytes_digits, digits_bytes}
use Rattle.hexadecimal.specs.Hex.{hex_digit, is_digit, is_byte, digits_of, bytes_of}
use Rattle.notice.specs.Lines.{line_limit, line_end, opening_kind, link_kind, yard_kind, opens_depot, frame_length, is_frame, end_of, spells_frame, Line, garbled, frame, read_head, read_line}
use Rattle.notice.specs.Refusals.{IsOpening, IsLink, IsFrame, IsHexadecimal, SpellsNone, EndsFirst, IsGarbled}
use Rattle.notice.proofs.Tests.{frame_parts, spells_parts}
use Rattle.notice.proofs.Ends.{end_is}

-- ---- frames

opens_cases : (kind : ℕ) → opens_depot kind ≡ true → (kind ≡ opening_kind) ⊎ (kind ≡ yard_kind)
unfolding opens_depot
opens_cases kind e = go (or_cases (eqb kind opening_kind) (eqb kind yard_kind) e)
  where
    go : (eqb kind opening_kind ≡ true) ⊎ (eqb kind yard_kind ≡ true) → (kind ≡ opening_kind) ⊎ (kind ≡ yard_kind)
    go (inl p) = inl (eqb-true kind opening_kind p)
    go (inr p) = inr (eqb-true kind yard_kind p)

-- so long is an opening with so many neighbours
opening_told : (kind code : ℕ) (neighbours : List ℕ) → opens_depot kind ≡ true → is_frame (kind ∷ code ∷ length neighbours ∷ neighbours) ≡ true
unfolding is_frame frame_length
opening_told kind code neighbours e =
    let n = suc (suc (suc (length neighbours))) in
    rw e (and_from _ _ (le-leb 3 n (omega arith)) (eq-eqb n (3 + length neighbours) (omega arith)))

pub frame_told : (f : List ℕ) → IsFrame f → is_frame f ≡ true
unfolding is_frame frame_length opens_depot
frame_told f (inl (kind, code, neighbours, inl k, e)) = ap is_frame e ∙ opening_told kind code neighbours (ap opens_depot k)
frame_told f (inl (kind, code, neighbours, inr k, e)) = ap is_frame e ∙ opening_told kind code neighbours (ap opens_depot k)
frame_told f (inr (a, b, e)) = ap is_frame e

none_left : (l : List ℕ) → length l ≡ 0 → l ≡ []
none_left [] e = refl
none_left (x ∷ l) e = absurd (omega (arith, e))

-- how long it is by kind and third byte, case by case
length_opens : (kind third : ℕ) → opens_depot kind ≡ true → frame_length kind third ≡ 3 + third
unfolding frame_length
length_opens kind third o = rw o refl

length_links : (kind third : ℕ) → opens_depot kind ≡ false → eqb kind link_kind ≡ true → frame_length kind third ≡ 3
unfolding frame_length
length_links kind third o k = rw (o, k) refl

length_other : (kind third : ℕ) → opens_depot kind ≡ false → eqb kind link_kind ≡ false → frame_length kind third ≡ 0
unfolding frame_length
length_other kind third o k = rw (o, k) refl

pub told_frame : (f : List ℕ) → is_frame f ≡ true → IsFrame f
told_frame [] h = absurd (omega (arith, (frame_parts [] h).0))
told_frame (a ∷ []) h = absurd (omega (arith, (frame_parts (a ∷ []) h).0))
told_frame (a ∷ b ∷ []) h = absurd (omega (arith, (frame_parts (a ∷ b ∷ []) h).0))
told_frame (a ∷ b ∷ c ∷ l) h = go (cases_Bool (opens_depot a)) (cases_Bool (eqb a link_kind)) (frame_parts (a ∷ b ∷ c ∷ l) h).1
  where
    go : (opens_depot a ≡ true) ⊎ (opens_depot a ≡ false) → (eqb a link_kind ≡ true) ⊎ (eqb a link_kind ≡ false)
        → length (a ∷ b ∷ c ∷ l) ≡ frame_length a c → IsFrame (a ∷ b ∷ c ∷ l)
    go (inl o) k e =
        let n : c ≡ length l = omega (arith, e, length_opens a c o) in
        inl (a, b, l, opens_cases a o, ap (λ (m : ℕ). a ∷ b ∷ m ∷ l) n)
    go (inr o) (inl k) e =
        let n : l ≡ [] = none_left l (omega (arith, e, length_links a c o k)) in
        inr (b, c, ap (λ (m : ℕ). m ∷ b ∷ c ∷ l) (eqb-true a link_kind k) ∙ ap (λ (m : List ℕ). link_kind ∷ b ∷ c ∷ m) n)
    go (inr o) (inr k) e = absurd (omega (arith, e, length_other a c o k))

pub decides_frame : (f : List ℕ) → Decides (is_frame f) (IsFrame f)
decides_frame f = decides_iff (told_frame f, frame_told f)

-- ---- digits

hexadecimal_told : (c : ℕ) → IsHexadecimal c → is_digit c ≡ true
unfolding is_digit
hexadecimal_told c (inl h) = or_left _ (leb 65 c && leb c 70) (and_from _ _ (le-leb 48 c h.0) (le-leb c 57 h.1))
hexadecimal_told c (inr h) = or_right (leb 48 c && leb c 57) _ (and_from _ _ (le-leb 65 c h.0) (le-leb c 70 h.1))

decides_hexadecimal : (c : ℕ) → Decides (is_digit c) (IsHexadecimal c)
decides_hexadecimal c = decides_iff (digit_cases c, hexadecimal_told c)

-- some byte is no digit
stray_told : (ds : List ℕ) → allb is_digit ds ≡ false → Any (λ c. IsHexadecimal c → ⊥) ds
unfolding allb
stray_told [] e = absurd (clash refl e)
stray_told (d ∷ ds) e = go (cases_Bool (is_digit d)) (stray_told ds)
  where
    go : (is_digit d ≡ true) ⊎ (is_digit d ≡ false) → (allb is_digit ds ≡ false → Any (λ c. IsHexadecimal c → ⊥) ds) → Any (λ c. IsHexadecimal c → ⊥) (d ∷ ds)
    go (inl t) more =
        let r = more (ap (λ (b : Bool). b && allb is_digit ds) (sym t) ∙ e) in
        (suc r.0, r.1, omega (arith, r.2), r.3, r.4)
    go (inr f) more = (0, d, omega arith, refl, (decides_hexadecimal d).fails f)

told_stray : (ds : List ℕ) → allb is_digit ds ≡ true → Any (λ c. IsHexadecimal c → ⊥) ds → ⊥
told_stray ds e (k, x, l, is, n) = n ((decides_hexadecimal x).holds (sym (ap is_digit is) ∙ all-at is_digit ds k x l e))

-- what digits spell are bytes
byte_spelt : (b : ℕ) → is_digit (hex_digit (b / 16)) ≡ true → is_byte b ≡ true
unfolding is_byte
byte_spelt b h = go (cases_lt b 256)
  where
    go : (b < 256) ⊎ (256 ≤ b) → ltb b 256 ≡ true
    go (inl l) = lt-ltb b 256 l
    go (inr l) = absurd (other (digit_cases (hex_digit (b / 16)) h) (digit_letter (b / 16) (omega arith)))
      where
        other : let c = hex_digit (b / 16) in ((48 ≤ c) × (c ≤ 57)) ⊎ ((65 ≤ c) × (c ≤ 70)) → c ≡ 55 + b / 16 → ⊥
        other (inl r) e = omega (arith, r, e)
        other (inr r) e = omega (arith, r, e)

bytes_spelt : (f : List ℕ) → allb is_digit (digits_of f) ≡ true → allb is_byte f ≡ true
unfolding allb digits_of
bytes_spelt [] h = refl
bytes_spelt (b ∷ bs) h =
    let p = and_parts (is_digit (hex_digit (b / 16))) (is_digit (hex_digit (b % 16)) && allb is_digit (digits_of bs)) h in
    let q = and_parts (is_digit (hex_digit (b % 16))) (allb is_digit (digits_of bs)) p.1 in
    and_from _ _ (byte_spelt b p.0) (bytes_spelt bs q.1)

-- digits of a frame pass the test
digits_spell : (ds f : List ℕ) → allb is_digit ds ≡ true → IsFrame f → ds ≡ digits_of f → spells_frame ds ≡ true
unfolding spells_frame
digits_spell ds f h k e =
    let b = bytes_spelt f (sym (ap (allb is_digit) e) ∙ h) in
    let n : length ds % 2 ≡ 0 = omega (arith, ap length e, length_digits f) in
    and_from _ _ h (and_from _ _ (eq-eqb (length ds % 2) 0 n) (ap (λ (l : List ℕ). is_frame (bytes_of l)) e ∙ ap is_frame (bytes_digits f b) ∙ frame_told f k))

-- ---- where a line ends

-- no 0A stands before the end
end_least : (s : List ℕ) (k : ℕ) → k < length s → get_or s k line_end ≡ line_end → end_of s ≤ k
unfolding end_of
end_least [] k l e = absurd (omega arith)
end_least (c ∷ cs) zero l e = rw (eq-eqb c line_end e) (omega arith)
end_least (c ∷ cs) (suc k) l e = go (eqb c line_end) (end_least cs k (omega arith) e)
  where
    go : (b : Bool) → end_of cs ≤ k → cond b 0 (suc (end_of cs)) ≤ suc k
    go true h = omega arith
    go false h = omega arith

-- a text without one, before one
end_behind_text : (text rest : List ℕ) → (Contains text line_end → ⊥) → end_of (text ++ line_end ∷ rest) ≡ length text
unfolding end_of
end_behind_text [] rest n = refl
end_behind_text (c ∷ cs) rest n =
    rw (ne_eqb c line_end (λ e. n (0, omega arith, e)))
    (ap suc (end_behind_text cs rest (λ h. n (suc h.0, omega (arith, h.1), h.2))))

end_there : (s : List ℕ) → end_of s < length s → Contains s line_end
end_there s l = (end_of s, l, get_or_default s (end_of s) line_end 0 l ∙ end_is s l)

pub ends_first : (s : List ℕ) → end_of s < length s → EndsFirst s (take (end_of s) s)
ends_first s l = record {
  behind = drop (suc (end_of s)) s;
  stands = sym (take-append-drop (end_of s) s) ∙ ap (λ (r : List ℕ). take (end_of s) s ++ r) (drop-cons s (end_of s) 0 l ∙ ap (λ (c : ℕ). c ∷ drop (suc (end_of s)) s) (end_is s l));
  first = λ h.
      let short = length-take (end_of s) s in
      let before : h.0 < end_of s = omega (arith, h.1, short) in
      absurd (omega (arith, before, end_least s h.0 (omega (arith, before, l)) (sym (get_or-take (end_of s) s h.0 line_end before) ∙ h.2)));
}

pub text_taken : (s text : List ℕ) → EndsFirst s text → text ≡ take (end_of s) s
text_taken s text w =
    let n : end_of s ≡ length text = ap end_of w.stands ∙ end_behind_text text w.behind w.first in
    sym (ap (λ (k : ℕ). take k s) n ∙ ap (take (length text)) w.stands ∙ take-append_seam text (line_end ∷ w.behind))

-- ---- what does not read

unfoldable pub is_garbled : Line → Bool
is_garbled garbled = true
is_garbled (frame f n) = false

module _ (head : List ℕ) where
  abbrev text : List ℕ
  text = take (end_of head) head

  -- before the end stands what is no digit, or what no frame spells
  text_fails : spells_frame text ≡ false → SpellsNone text
  text_fails h = go (cases_Bool (allb is_digit text))
    where
      go : (allb is_digit text ≡ true) ⊎ (allb is_digit text ≡ false) → SpellsNone text
      go (inl d) = inr (λ f k e. clash (digits_spell text f d k e) h)
      go (inr d) = inl (stray_told text d)

  fails_text : spells_frame text ≡ true → SpellsNone text → ⊥
  fails_text h (inl a) = told_stray text (spells_parts text h).digits a
  fails_text h (inr n) =
      let p = spells_parts text h in
      n (bytes_of text) (told_frame (bytes_of text) p.spelt) (sym (digits_bytes text p.digits p.even))

  -- no line ends and spells a frame
  abbrev Fails : Type 0
  Fails = (Contains head line_end → ⊥) ⊎ ((text : List ℕ) × EndsFirst head text × SpellsNone text)

  fails_by : ltb (end_of head) (length head) && spells_frame text ≡ false → Fails
  fails_by h = go (cases_lt (end_of head) (length head))
    where
      go : (end_of head < length head) ⊎ (length head ≤ end_of head) → Fails
      go (inl l) = inr (text, ends_first head l, text_fails (sym (ap (λ (b : Bool). b && spells_frame text) (lt-ltb (end_of head) (length head) l)) ∙ h))
      go (inr l) = inl (λ c. omega (arith, l, c.1, end_least head c.0 c.1 c.2))

  by_fails : ltb (end_of head) (length head) && spells_frame text ≡ true → Fails → ⊥
  by_fails h = go (and_parts (ltb (end_of head) (length head)) (spells_frame text) h)
    where
      go : (ltb (end_of head) (length head) ≡ true) × (spells_frame text ≡ true) → Fails → ⊥
      go p (inl n) = n (end_there head (ltb-true (end_of head) (length head) p.0))
      go p (inr (other, w, n)) = fails_text p.1 (subst SpellsNone (text_taken head other w) n)

  abbrev reads : Bool
  reads = ltb (end_of head) (length head) && spells_frame text

  pub decides_fails : Decides (is_garbled (read_head head)) Fails
  unfolding read_head is_garbled
  decides_fails = go reads refl
    where
      go : (b : Bool) → reads ≡ b → Decides (is_garbled (cond b (frame (bytes_of text) (end_of head + 1)) garbled)) Fails
      go true e = record { holds = λ z. absurd (clash z refl); fails = λ z. by_fails e }
      go false e = record { holds = λ z. fails_by e; fails = λ z. absurd (clash refl z) }

pub decides_garbled : (input : List ℕ) → Decides (is_garbled (read_line input)) (IsGarbled input)
unfolding read_line
decides_garbled input = decides_fails (take line_limit input)
