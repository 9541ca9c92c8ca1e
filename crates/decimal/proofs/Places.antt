-- A text put into a buffer from a place on: one byte, one text behind another, and the whole from the start. Assumes nothing.
use mathlib.Core.Path.{◌≡◌, refl, sym, ap, ap₂, ◌∙◌}
use mathlib.Core.List.{List, [], ◌∷◌, ◌++◌, append_assoc}
use Prim.Native.Nat.{ℕ, ◌+◌, ◌≤◌, ◌<◌}
use native.Mathlib.Nat.{zero-add}
use native.Mathlib.Numerals.{add-one}
use native.Mathlib.Omega.{arith}
use lib.ListN.{length, set, take, drop, length-append, length-take, length-drop, take-append-drop}
use lib.Seq.{length-take-le, set_split, take_at, drop-append_seam, drop-append-add, drop-drop}
use Rattle.std.proofs.lemmas.List.{take-append-le, take-take}
use Rattle.lists.specs.Lists.{overwrite}
use Rattle.decimal.specs.Placed.{Placed}

pub placed_byte : (at : ℕ) (old : List ℕ) (x : ℕ) → at < length old → Placed (x ∷ []) at old (at + 1) (set old at x)
placed_byte at old x h = record { behind = refl; is = set_split old at x h ∙ ap (λ (n : ℕ). take at old ++ (x ∷ drop n old)) (sym (add-one at)) }

-- nothing at all
pub placed_none : (at : ℕ) (old : List ℕ) → Placed [] at old at old
placed_none at old =
    let n : at ≡ at + 0 = omega arith in
    record { behind = n; is = sym (take-append-drop at old) ∙ ap (λ (k : ℕ). take at old ++ drop k old) n }

-- a text before another
pub placed_before : {a text old mid new : List ℕ} {at seam end : ℕ} → Placed text seam old end mid → Placed a at mid seam new → seam ≤ length old → Placed (a ++ text) at old end new
placed_before {a} {text} {old} {mid} {new} {at} {seam} w v h =
    let front = take seam old in
    let rest = text ++ drop (seam + length text) old in
    let n : length front ≡ seam = length-take-le seam old h in
    let q : seam ≡ at + length a = v.behind in
    let m : seam + length text ≡ at + length (a ++ text) = omega (arith, q, length-append a text) in
    let f : take at mid ≡ take at old =
    ap (take at) w.is ∙ take-append-le at front rest (omega (arith, n, q)) ∙ take-take at seam old (omega (arith, q)) in
    let d : drop (at + length a) mid ≡ rest =
    ap (λ (k : ℕ). drop k mid) (sym (n ∙ q)) ∙ ap (drop (length front)) w.is ∙ drop-append_seam front rest in
    record {
      behind = w.behind ∙ m;
      is =
          v.is
          ∙ ap₂ (λ (x y : List ℕ). x ++ (a ++ y)) f d
          ∙ ap (λ (r : List ℕ). take at old ++ r) (sym (append_assoc a text (drop (seam + length text) old)))
          ∙ ap (λ (k : ℕ). take at old ++ ((a ++ text) ++ drop k old)) m;
    }

-- the size of the buffer stays
pub placed_size : {text old new : List ℕ} {at end : ℕ} → Placed text at old end new → at + length text ≤ length old → length new ≡ length old
placed_size {text} {old} {new} {at} w h = ap length w.is ∙ simp (length-append, length-take, length-drop) (omega arith)

-- a text behind another, in a buffer that has the place
pub placed_join : {a b old mid new : List ℕ} {at next end : ℕ} → Placed a at old next mid → Placed b next mid end new → at ≤ length old → Placed (a ++ b) at old end new
placed_join {a} {b} {old} {mid} {new} {at} {next} v w h =
    let front = take at old ++ a in
    let rest = drop (at + length a) old in
    let n : length front ≡ next = length-append (take at old) a ∙ omega (arith, length-take-le at old h, v.behind) in
    let m : mid ≡ front ++ rest = v.is ∙ sym (append_assoc (take at old) a rest) in
    let i : at + length a + length b ≡ at + length (a ++ b) = omega (arith, length-append a b) in
    let d : drop (next + length b) mid ≡ drop (at + length (a ++ b)) old =
    ap₂ (λ (k : ℕ) (r : List ℕ). drop (k + length b) r) (sym n) m
    ∙ drop-append-add front rest (length b)
    ∙ drop-drop (length b) (at + length a) old
    ∙ ap (λ (k : ℕ). drop k old) i in
    record {
      behind = omega (arith, v.behind, w.behind, length-append a b);
      is =
          w.is
          ∙ ap₂ (λ (x y : List ℕ). x ++ (b ++ y)) (ap (take next) m ∙ take_at front rest next n) d
          ∙ append_assoc (take at old) a (b ++ drop (at + length (a ++ b)) old)
          ∙ ap (λ (r : List ℕ). take at old ++ r) (sym (append_assoc a b (drop (at + length (a ++ b)) old)));
    }

pub placed_text : {text text' old new : List ℕ} {at end : ℕ} → Placed text at old end new → text ≡ text' → Placed text' at old end new
placed_text {old = old} {at = at} w e = record { behind = w.behind ∙ ap (λ (r : List ℕ). at + length r) e; is = w.is ∙ ap (λ (r : List ℕ). take at old ++ (r ++ drop (at + length r) old)) e }

pub placed_end : {text old new : List ℕ} {at end end' : ℕ} → Placed text at old end new → end ≡ end' → Placed text at old end' new
placed_end w e = record { behind = sym e ∙ w.behind; is = w.is }

pub placed_whole : {text old new : List ℕ} {end : ℕ} → Placed text 0 old end new → new ≡ overwrite text old
unfolding overwrite
placed_whole {text} {old} w = w.is ∙ ap (λ (n : ℕ). text ++ drop n old) (zero-add (length text))
