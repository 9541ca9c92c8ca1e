-- THE CODES OF A LIST. Assumes nothing.
use Rattle.std.specs.Prelude.{ℕ, cond, ltb, List, [], ◌∷◌, ◌++◌, length, take}
use Rattle.plain_search.specs.declared.TheConstants.{CODES}

-- the codes that were put in, in order
abbrev pub listed : List ℕ → ℕ → List ℕ
listed codes count = take count codes

-- with a code at the end, unless there is no room for it
abbrev pub pushed : List ℕ → ℕ → List ℕ
pushed codes code = cond (ltb (length codes) CODES) (codes ++ code ∷ []) codes
