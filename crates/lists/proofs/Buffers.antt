-- Buffers whose first n places are filled: one place changed, the whole of a buffer, and buffers that agree. Assumes nothing.
use mathlib.Core.Path.{◌≡◌, sym, ap, ◌∙◌}
use mathlib.Core.Logic.{◌≢◌, ◌⊎◌, inl, inr}
use mathlib.Core.List.{List, ◌++◌, append-nil}
use Prim.Native.Nat.{ℕ, ◌+◌, ◌-◌, ◌≤◌, ◌<◌}
use native.Mathlib.Omega.{arith}
use lib.ListN.{length, get_or, set, length-set, length-append, length-drop, drop_of_length-le}
use lib.Seq.{ext_get_or, get_or-set_same, get_or-set_other}
use Rattle.std.proofs.lemmas.Bool.{cases_lt, cases_eq}
use Rattle.lists.specs.Lists.{range, mapl, overwrite}
use Rattle.lists.proofs.Fills.{length_fill, fill_at, fill_rest, fill_length}

-- two buffers of one length that agree before place n and from there on
pub buffer_ext : (n : ℕ) (s t : List ℕ) → length s ≡ length t → ((i : ℕ) → i < n → get_or s i 0 ≡ get_or t i 0) → ((i : ℕ) → n ≤ i → get_or s i 0 ≡ get_or t i 0) → s ≡ t
buffer_ext n s t e before rest = ext_get_or 0 s t e (λ i l. go i (cases_lt i n))
  where
    go : (i : ℕ) → (i < n) ⊎ (n ≤ i) → get_or s i 0 ≡ get_or t i 0
    go i (inl h) = before i h
    go i (inr h) = rest i h

-- a buffer whose first n places are g is g over itself
pub fill_whole : (g : ℕ → ℕ) (n : ℕ) (l : List ℕ) → n ≤ length l → ((i : ℕ) → i < n → get_or l i 0 ≡ g i) → l ≡ overwrite (mapl g (range n)) l
fill_whole g n l h e =
    buffer_ext n l (overwrite (mapl g (range n)) l) (sym (fill_length g l n h)) (λ i m. e i m ∙ sym (fill_at g l n i 0 m)) (λ i m. sym (fill_rest g l n i 0 m))

length_over : (new old : List ℕ) → length (overwrite new old) ≡ length new + (length old - length new)
unfolding overwrite
length_over new old = simp (length-append, length-drop)

-- one place of a filled buffer changed
pub fill_put : (f g : ℕ → ℕ) (n : ℕ) (l : List ℕ) (i x : ℕ) → i < n → x ≡ g i → ((k : ℕ) → k < n → k ≢ i → f k ≡ g k)
    → set (overwrite (mapl f (range n)) l) i x ≡ overwrite (mapl g (range n)) l
fill_put f g n l i x h e same =
    buffer_ext n (set s i x) (overwrite (mapl g (range n)) l) (simp length-set (size f ∙ sym (size g))) (λ k m. before k m (cases_eq k i))
    (λ k m. get_or-set_other s i k x 0 (λ q. omega arith) ∙ fill_rest f l n k 0 m ∙ sym (fill_rest g l n k 0 m))
  where
    s : List ℕ
    s = overwrite (mapl f (range n)) l

    size : (f : ℕ → ℕ) → length (overwrite (mapl f (range n)) l) ≡ n + (length l - n)
    size f = length_over (mapl f (range n)) l ∙ ap (λ (k : ℕ). k + (length l - k)) (length_fill f n)

    before : (k : ℕ) → k < n → (k ≡ i) ⊎ (k ≢ i) → get_or (set s i x) k 0 ≡ get_or (overwrite (mapl g (range n)) l) k 0
    before k m (inl q) = ap (λ (k : ℕ). get_or (set s i x) k 0) q ∙ get_or-set_same s i x 0 (omega (arith, size f)) ∙ e ∙ ap g (sym q) ∙ sym (fill_at g l n k 0 m)
    before k m (inr q) = get_or-set_other s i k x 0 q ∙ fill_at f l n k 0 m ∙ same k m q ∙ sym (fill_at g l n k 0 m)

-- words over a buffer of their own length
pub overwrite_all : (new old : List ℕ) → length new ≡ length old → overwrite new old ≡ new
unfolding overwrite
overwrite_all new old e = ap (λ (l : List ℕ). new ++ l) (drop_of_length-le old {i = length new} (omega arith)) ∙ append-nil new
