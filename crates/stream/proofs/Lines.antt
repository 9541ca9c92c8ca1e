-- THE LINES OF AN INPUT: what stands before an end, and a last stretch. And the held bytes of a line. Assumes nothing.
use mathlib.Core.Path.{◌≡◌, refl, sym, ap, ◌∙◌}
use mathlib.Core.Logic.{◌⊎◌, inl, inr}
use mathlib.Core.Bool.{Bool, true, false, not}
use mathlib.Core.List.{List, [], ◌∷◌, ◌++◌}
use Prim.Native.Nat.{ℕ, zero, suc, ◌+◌, ◌≤◌, ◌<◌, min}
use native.Mathlib.Numerals.{add-one}
use native.Mathlib.Omega.{arith}
use lib.Dec.{eqb}
use lib.ListN.{length, take, set, length-append, length-set}
use lib.Seq.{take_all, take-take, take-append-le, take-suc-set}
use borrow.Author.Tests.{lt-ltb, le-ltb, not-true}
use Rattle.std.proofs.lemmas.Bool.{and_parts, and_from, cases_lt}
use Rattle.lists.specs.Lists.{allb}
use Rattle.notice.specs.Lines.{line_limit, line_end, end_of, garbled, read_head, read_line, onto, lines_of}
use Rattle.line_buffer.specs.Lines.{Holding, hold_byte}

-- no byte ends the line
unfoldable pub is_open_line : List ℕ → Bool
is_open_line p = allb (λ b. not (eqb b line_end)) p

-- ---- the lines

-- a byte that does not end the line belongs to the next one
lines_byte : (b : ℕ) (bs : List ℕ) → eqb b line_end ≡ false → lines_of (b ∷ bs) ≡ onto b (lines_of bs)
unfolding lines_of
lines_byte b bs e = rw (e)

open_byte : (b : ℕ) (p : List ℕ) → is_open_line (b ∷ p) ≡ true → (eqb b line_end ≡ false) × (is_open_line p ≡ true)
unfolding is_open_line allb
open_byte b p o = let q = and_parts (not (eqb b line_end)) (allb (λ c. not (eqb c line_end)) p) o in (not-true (eqb b line_end) q.0, q.1)

lines_end : (r : List ℕ) → lines_of (line_end ∷ r) ≡ (line_end ∷ []) ∷ lines_of r
unfolding lines_of
lines_end r = refl

pub lines_ended : (p r : List ℕ) → is_open_line p ≡ true → lines_of (p ++ (line_end ∷ r)) ≡ (p ++ (line_end ∷ [])) ∷ lines_of r
unfolding onto
lines_ended [] r o = lines_end r
lines_ended (b ∷ p) r o = let q = open_byte b p o in lines_byte b (p ++ (line_end ∷ r)) q.0 ∙ ap (onto b) (lines_ended p r q.1)

lines_none : lines_of [] ≡ []
unfolding lines_of
lines_none = refl

pub lines_open : (b : ℕ) (p : List ℕ) → is_open_line (b ∷ p) ≡ true → lines_of (b ∷ p) ≡ (b ∷ p) ∷ []
unfolding onto
lines_open b [] o = lines_byte b [] (open_byte b [] o).0 ∙ ap (onto b) lines_none
lines_open b (c ∷ p) o = let q = open_byte b (c ∷ p) o in lines_byte b (c ∷ p) q.0 ∙ ap (onto b) (lines_open c p q.1)

pub open_none : is_open_line [] ≡ true
unfolding is_open_line allb
open_none = refl

pub open_more : (p : List ℕ) (b : ℕ) → is_open_line p ≡ true → eqb b line_end ≡ false → is_open_line (p ++ (b ∷ [])) ≡ true
unfolding is_open_line allb
open_more [] b o e = rw (e)
open_more (c ∷ p) b o e = let q = open_byte c p o in and_from _ _ (ap not q.0) (open_more p b q.1 e)

-- a line without its end is garbled
open_end : (p : List ℕ) → is_open_line p ≡ true → end_of p ≡ length p
unfolding end_of
open_end [] o = refl
open_end (b ∷ p) o = let q = open_byte b p o in rw q.0 (ap suc (open_end p q.1))

open_take : (k : ℕ) (p : List ℕ) → is_open_line p ≡ true → is_open_line (take k p) ≡ true
unfolding is_open_line allb
open_take zero p o = refl
open_take (suc k) [] o = refl
open_take (suc k) (b ∷ p) o = let q = open_byte b p o in and_from _ _ (ap not q.0) (open_take k p q.1)

pub open_garbled : (p : List ℕ) → is_open_line p ≡ true → read_line p ≡ garbled
unfolding read_line read_head
open_garbled p o =
    let head = take line_limit p in
    rw (le-ltb (end_of head) (length head) (omega (arith, open_end head (open_take line_limit p o))))

-- the reader looks at the first 517 bytes alone
pub read_first : (text : List ℕ) → read_line (take line_limit text) ≡ read_line text
unfolding read_line
read_first text = ap read_head (take-take line_limit line_limit text (omega arith))

-- ---- the held bytes are the first 517 of the line so far

pub record HoldsLine (p : List ℕ) (h : Holding) : Type 0 where
  pub text : take h.held h.line ≡ take line_limit p
  pub count : h.held ≡ min line_limit (length p)
  pub room : line_limit ≤ length h.line

pub holds_byte : (p : List ℕ) (h : Holding) (b : ℕ) → HoldsLine p h → HoldsLine (p ++ (b ∷ [])) (hold_byte b h)
unfolding hold_byte
holds_byte p h b is = go (cases_lt h.held line_limit)
  where
    more : length (p ++ (b ∷ [])) ≡ length p + 1
    more = length-append p (b ∷ [])

    go : (h.held < line_limit) ⊎ (line_limit ≤ h.held) → HoldsLine (p ++ (b ∷ [])) (hold_byte b h)
    go (inl l) =
        let n : length p ≡ h.held = omega (arith, is.count) in
        rw (lt-ltb h.held line_limit l) (record {
          text =
              ap (λ (k : ℕ). take k (set h.line h.held b)) (add-one h.held)
              ∙ take-suc-set h.line h.held b (omega (arith, is.room))
              ∙ ap (λ (q : List ℕ). q ++ (b ∷ [])) (is.text ∙ take_all line_limit p (omega (arith, n)))
              ∙ sym (take_all line_limit (p ++ (b ∷ [])) (omega (arith, n, more)));
          count = omega (arith, n, more);
          room = simp length-set is.room;
        })
    go (inr l) =
        let n : line_limit ≤ length p = omega (arith, is.count) in
        rw (le-ltb h.held line_limit l) (record {
          text = is.text ∙ sym (take-append-le line_limit p (b ∷ []) n);
          count = omega (arith, is.count, n, more);
          room = is.room;
        })
