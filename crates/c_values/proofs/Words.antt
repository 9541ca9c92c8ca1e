-- THE RECORD IN ELEVEN WORDS, as it is written. Assumes nothing.
use mathlib.Core.Path.{◌≡◌, refl, sym, ap, ap₂, ◌∙◌}
use mathlib.Core.List.{List, [], ◌∷◌, ◌++◌}
use Prim.Native.Nat.{ℕ, ◌+◌, ◌≤◌, ◌<◌}
use native.Mathlib.Omega.{arith}
use lib.ListN.{length, set, take, drop, length-append}
use lib.Seq.{append_snoc, length-take-le, take_at, drop-append-add, drop-drop}
use borrow.Rule.Slice.PartMut.{put_mid}
use Rattle.std.proofs.lemmas.List.{append_assoc}
use Rattle.lists.specs.Lists.{overwrite}
use Rattle.lists.proofs.Copies.{overwrite_snoc}
use Rattle.map.specs.declared.Record.{Record}
use Rattle.c_values.specs.Words.{record_words, words_of}

-- ---- a row in the place of the k words from `at` on

pub row_put : (l row ys : List ℕ) (at k : ℕ) → ys ≡ row → at + k ≤ length l → length row ≡ k → put_mid at k l ys ≡ overwrite (take at l ++ row) l
unfolding overwrite
row_put l row ys at k e h n =
    ap (λ (r : List ℕ). put_mid at k l r) e
    ∙ sym (append_assoc (take at l) row (drop k (drop at l)))
    ∙ ap (λ (r : List ℕ). (take at l ++ row) ++ r) (drop-drop k at l ∙ ap (λ (i : ℕ). drop i l) behind)
  where
    behind : at + k ≡ length (take at l ++ row)
    behind = omega (arith, length-append (take at l) row, length-take-le at l (omega (arith, h)), n)

-- ---- the stores are one overwriting

put_one : (w l : List ℕ) (i x : ℕ) {m r : List ℕ} → m ≡ overwrite w l → length w ≡ i → i < length l → r ≡ set m i x → r ≡ overwrite (w ++ (x ∷ [])) l
put_one w l i x e n h s = s ∙ ap₂ (λ (m : List ℕ) (j : ℕ). set m j x) e (sym n) ∙ overwrite_snoc w l x (omega (arith, n, h))

-- one more is one longer
length_more : (w : List ℕ) (x : ℕ) {i j : ℕ} → length w ≡ i → j ≡ i + 1 → length (w ++ (x ∷ [])) ≡ j
length_more w x e s = omega (arith, length-append w (x ∷ []), e, s)

-- what goes behind w leaves it
over_again : (w y l : List ℕ) → overwrite (w ++ y) (overwrite w l) ≡ overwrite (w ++ y) l
unfolding overwrite
over_again w y l =
    ap (λ (r : List ℕ). (w ++ y) ++ r)
    (ap (λ (k : ℕ). drop k (w ++ drop (length w) l)) (length-append w y)
    ∙ drop-append-add w (drop (length w) l) (length y)
    ∙ drop-drop (length y) (length w) l
    ∙ ap (λ (k : ℕ). drop k l) (sym (length-append w y)))

pub write_record : (l : List ℕ) (rec : Record) → record_words ≤ length l → length rec.members ≡ 4
    → let m : List ℕ = set (set (set (overwrite (take 0 l ++ rec.members) l) 4 rec.number) 5 rec.chain) 6 rec.count in
    overwrite (words_of rec) l ≡ overwrite (take 7 m ++ rec.yards) m
unfolding words_of overwrite
write_record l rec h len =
    sym
    (ap (λ (m : List ℕ). overwrite (take 7 m ++ rec.yards) m) put
    ∙ ap (λ (r : List ℕ). overwrite (r ++ rec.yards) (overwrite w l)) front
    ∙ over_again w rec.yards l
    ∙ ap (λ (r : List ℕ). overwrite r l) joined)
  where
    w₁ : List ℕ
    w₁ = rec.members ++ (rec.number ∷ [])

    w₂ : List ℕ
    w₂ = w₁ ++ (rec.chain ∷ [])

    w : List ℕ
    w = w₂ ++ (rec.count ∷ [])

    n₁ : length w₁ ≡ 5
    n₁ = length_more rec.members rec.number len refl

    n₂ : length w₂ ≡ 6
    n₂ = length_more w₁ rec.chain n₁ refl

    n : length w ≡ 7
    n = length_more w₂ rec.count n₂ refl

    put : set (set (set (overwrite rec.members l) 4 rec.number) 5 rec.chain) 6 rec.count ≡ overwrite w l
    put =
        put_one w₂ l 6 rec.count
        (put_one w₁ l 5 rec.chain (put_one rec.members l 4 rec.number refl len (omega (arith, h)) refl) n₁ (omega (arith, h)) refl)
        n₂ (omega (arith, h)) refl

    front : take 7 (overwrite w l) ≡ w
    front = take_at w (drop (length w) l) 7 n

    joined : w ++ rec.yards ≡ rec.members ++ (rec.number ∷ rec.chain ∷ rec.count ∷ rec.yards)
    joined =
        append_snoc w₂ rec.count rec.yards
        ∙ append_snoc w₁ rec.chain (rec.count ∷ rec.yards)
        ∙ append_snoc rec.members rec.number (rec.chain ∷ rec.count ∷ rec.yards)
