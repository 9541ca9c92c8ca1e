-- The links of a new depot, neighbour by neighbour. Assumes nothing.
use Rattle.std.proofs.Common.{◌≡◌, refl, ℕ, zero, suc, ◌+◌, ◌<◌, Bool, List, [], ◌∷◌, length, drop, get_or, arith}
use Rattle.std.proofs.Math.Numerals.{add-one}
use Rattle.plain_search.specs.Sheets.{linked_to, linked}

-- the first neighbour that is left is linked before the others
pub linked_next : (links : List (List Bool)) (code : ℕ) (vs : List ℕ) (i : ℕ) → i < length vs →
    linked links code (drop i vs) ≡ linked (linked_to (linked_to links code (get_or vs i 0)) (get_or vs i 0) code) code (drop (i + 1) vs)
unfolding linked
linked_next links code [] i l = absurd (omega arith)
linked_next links code (v ∷ vs) zero l = refl
linked_next links code (v ∷ vs) (suc i) l = rw add-one (rw add-one at (linked_next links code vs i (omega arith)))

pub linked_none : (links : List (List Bool)) (code : ℕ) → linked links code [] ≡ links
unfolding linked
linked_none links code = refl
