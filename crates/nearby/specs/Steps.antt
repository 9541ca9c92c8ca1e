-- THE INNER STEPS of the two calls: codes written over lent places, and the first open code of a list. Assumes nothing.
use Rattle.std.specs.Prelude.{◌≡◌, List, [], ◌∷◌, Bool, cond, ℕ, ◌+◌, length, set, Option, Some, None}
use Rattle.lists.specs.Lists.{overwrite}

-- how many codes are listed, and the places that hold them
pub record CodesListed : Type 0 where
  pub count : ℕ
  pub codes : List ℕ

abbrev pub codes_listed : ℕ → List ℕ → CodesListed
codes_listed n l = record { count = n; codes = l }

-- the code v written behind the first n, where it is near
unfoldable pub list_more : Bool → ℕ → ℕ → List ℕ → CodesListed
list_more near v n l = cond near (codes_listed (n + 1) (set l n v)) (codes_listed n l)

-- a list written over the first of the places
unfoldable pub list_over : List ℕ → List ℕ → CodesListed
list_over new old = record { count = length new; codes = overwrite new old }

-- The answer is the first of a list of codes, and None where it is empty.
abbrev pub FirstListed : List ℕ → Option ℕ → Type 0
FirstListed l (Some v) = (rest : List ℕ) × (l ≡ v ∷ rest)
FirstListed l None = l ≡ []
