-- What a reader finds at the front of a text, with what stands behind it. Assumes nothing.
use Rattle.std.specs.Prelude.{List, ℕ, Option, option_map}
use Rattle.std.specs.Borrow.{Bor}

-- nothing that reads, or something and the rest of the text
abbrev pub Front : Type 0 → Type 0
Front A = Option (A × List ℕ)

-- what the code answers, with the bytes of the rest
abbrev pub front_of : {A : Type 0} → Option (A × Bor (List ℕ)) → Front A
front_of r = option_map (λ x. (x.0, x.1.now)) r
