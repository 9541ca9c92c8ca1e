-- THE REFUSALS 1 TO 3 (rule 8.1), with which nearly every call on a map begins: as tests, and in the published words. A call gives its own behind
-- them. `lent_tells` (proofs/Refuses) joins the two.
-- Assumes nothing.
use Rattle.std.specs.Prelude.{Bool, true, false, cond, not, ◌&&◌, List, [], ◌∷◌, ℕ, Option, Some, None}
use Rattle.std.specs.Borrow.{Bor}
use Rattle.lists.specs.Lists.{first_of}
use Rattle.lists.specs.Conditions.{IsShort}
use Rattle.outcome.specs.Numbers.{short_buffer, spoilt_map, apart_map}
use Rattle.graph.specs.Distance.{connected}
use Rattle.rows.specs.Rows.{table_bit}
use Rattle.map.specs.Memory.{Shape, places, map_network}
use Rattle.map.specs.declared.Record.{Record}
use Rattle.checks.specs.Sound.{sound_links, sound_figures}
use Rattle.checks.specs.Refusals.{link_conditions, map_conditions}

-- The tests, each with its number: 1 short, 2 spoilt, 3 apart. `long` tells whether every buffer has its named size, `figured` whether the call goes by
-- the stored figures: a call that does not looks at the links alone.
unfoldable pub lent_faults : Shape → Bool → Bool → Record → List ℕ → List ℕ → List (Bool × ℕ)
lent_faults K long figured rec links pairs =
    let G = map_network K rec links in
    let sound = sound_links (places K) G rec.number in
    (not long, short_buffer)
    ∷ (not (cond figured (sound && sound_figures (places K) G (table_bit K.words pairs) rec.chain rec.count) sound), spoilt_map)
    ∷ (not (connected G), apart_map)
    ∷ []

-- the first that holds; 0: none
unfoldable pub lent_refusal : Shape → Bool → Bool → Record → List ℕ → List ℕ → ℕ
lent_refusal K long figured rec links pairs = first_of (lent_faults K long figured rec links pairs)

-- the conditions, with the buffers that the call is lent, each its named size with its length
abbrev pub lent_conditions : Shape → List (ℕ × ℕ) → Bool → Record → List ℕ → List ℕ → List (Type 0 × ℕ)
lent_conditions K buffers true rec links pairs =
    (IsShort buffers, short_buffer) ∷ map_conditions (places K) (map_network K rec links) rec.number (table_bit K.words pairs) rec.chain rec.count
lent_conditions K buffers false rec links pairs = (IsShort buffers, short_buffer) ∷ link_conditions (places K) (map_network K rec links) rec.number

-- the pairs that a call lends where it goes by the stored figures, and none elsewhere: these are not looked at
abbrev pub pairs_in : Option (Bor (List ℕ)) → List ℕ
pairs_in None = []
pairs_in (Some p) = p.now
