-- Small functions on lists and tests. A reader has to believe these; each is a line or two.
--
-- Words of the library that the specifications use:
--   T b                   the test b passes (b is `true`)
--   cond b x y            x if b is true, else y
--   eqb, ltb, leb         the tests =, <, ≤ on numbers
--   get_d l n x            element n of the list l, counted from 0; x if there is none
--   take, drop, length    the first n elements; the rest; how many
--   List-as-Memᴰ x l         x is a member of l
--   abbrev                a short name, read as what it stands for
--   unfoldable, unfolding a definition that stays shut until a line `unfolding f` opens it: it says nothing about meaning
-- A definition here names what it calls under `unfolding`, so that opening one opens all below it.
-- Assumes nothing.
use Rattle.std.specs.Prelude.{Bool, true, false, cond, not, ◌&&◌, ◌||◌, List, [], ◌∷◌, ◌++◌, ℕ, zero, suc, ◌+◌, max, eqb, ltb, length, drop}

-- i, i + 1, .., i + k - 1
unfoldable pub from : ℕ → ℕ → List ℕ
from i zero = []
from i (suc k) = i ∷ from (suc i) k

-- 0, 1, .., n - 1
unfoldable pub range : ℕ → List ℕ
unfolding from
range n = from 0 n

module _ {ℓ} {A : Type ℓ} where
  -- the elements that pass the test, in order
  unfoldable pub filterb : (A → Bool) → List A → List A
  filterb p [] = []
  filterb p (x ∷ xs) = let r = filterb p xs in cond (p x) (x ∷ r) r

  -- some element passes the test; every element does
  unfoldable pub anyb : (A → Bool) → List A → Bool
  anyb p [] = false
  anyb p (x ∷ xs) = p x || anyb p xs

  unfoldable pub allb : (A → Bool) → List A → Bool
  allb p [] = true
  allb p (x ∷ xs) = p x && allb p xs

  -- the number of elements that pass the test
  unfoldable pub countb : (A → Bool) → List A → ℕ
  countb p [] = 0
  countb p (x ∷ xs) = cond (p x) 1 0 + countb p xs

  -- the sum, and the greatest value, of f over a list; 0 for the empty list
  unfoldable pub sum_of : (A → ℕ) → List A → ℕ
  sum_of f [] = 0
  sum_of f (x ∷ xs) = f x + sum_of f xs

  unfoldable pub max_of : (A → ℕ) → List A → ℕ
  max_of f [] = 0
  max_of f (x ∷ xs) = max (f x) (max_of f xs)

  -- the last element, or the default
  unfoldable pub last_or : A → List A → A
  last_or a [] = a
  last_or a (x ∷ xs) = last_or x xs

  -- f at each number of a list
  unfoldable pub mapl : (ℕ → A) → List ℕ → List A
  mapl f [] = []
  mapl f (x ∷ xs) = f x ∷ mapl f xs

  -- new elements over the first part of a longer buffer, whose rest stays
  unfoldable pub overwrite : List A → List A → List A
  overwrite new old = new ++ drop (length new) old

-- a number of a list
unfoldable pub memb : ℕ → List ℕ → Bool
unfolding anyb
memb v xs = anyb (λ x. eqb v x) xs

-- each number of the list stands in it once
unfoldable pub distinct : List ℕ → Bool
unfolding memb
distinct [] = true
distinct (x ∷ xs) = not (memb x xs) && distinct xs

-- x put into a list, before the first number whose key is greater
unfoldable pub insert_by : (ℕ → ℕ) → ℕ → List ℕ → List ℕ
insert_by key x [] = x ∷ []
insert_by key x (y ∷ ys) = cond (ltb (key x) (key y)) (x ∷ y ∷ ys) (y ∷ insert_by key x ys)

-- the number of the first condition that holds, 0 if none does
unfoldable pub first_of : List (Bool × ℕ) → ℕ
first_of [] = 0
first_of (c ∷ cs) = cond c.0 c.1 (first_of cs)
