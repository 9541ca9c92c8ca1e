-- LISTS SORTED BY KEYS: ties that go by code are settled by the order of a list whose codes rise.
-- Assumes nothing.
use Rattle.std.specs.Prelude.{Bool, true, ◌&&◌, List, [], ◌∷◌, ℕ, ltb}
use Rattle.lists.specs.Lists.{allb, insert_by}

-- the numbers of a list sorted by their keys, by insertion
unfoldable pub rising_by : (ℕ → ℕ) → List ℕ → List ℕ
unfolding insert_by
rising_by key [] = []
rising_by key (x ∷ xs) = insert_by key x (rising_by key xs)

-- the keys of a list rise strictly: each is below all that follow
unfoldable pub rises_by : (ℕ → ℕ) → List ℕ → Bool
unfolding allb
rises_by key [] = true
rises_by key (x ∷ xs) = allb (λ y. ltb (key x) (key y)) xs && rises_by key xs
