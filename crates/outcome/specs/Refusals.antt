-- THE REFUSALS AS THE CODE HAS THEM: the number of each (rule 8.1), and of what a test answers. Assumes nothing.
use Rattle.std.specs.Prelude.{ℕ, Result, Ok, Err}
use Rattle.outcome.specs.Numbers.{short_buffer, spoilt_map, apart_map, absent_code, taken_code, lonely_depot, unsorted_neighbours, unknown_neighbour}
use Rattle.outcome.specs.Numbers.{garbled_line, nobody_open, overfull_batch, bare_map, itself_linked, linked_already, too_few}
use Rattle.outcome.specs.declared.Refusal.{Refusal}
use Rattle.outcome.specs.declared.Refusal.TheVariants.{Short, Spoilt, Apart, Absent, Taken, Lonely, Unsorted, Unknown, Garbled, Nobody}
use Rattle.outcome.specs.declared.Refusal.TheVariants.{Overfull, Bare, Itself, Linked, TooFew}

abbrev pub number_of : Refusal → ℕ
number_of Short = short_buffer
number_of Spoilt = spoilt_map
number_of Apart = apart_map
number_of Absent = absent_code
number_of Taken = taken_code
number_of Lonely = lonely_depot
number_of Unsorted = unsorted_neighbours
number_of Unknown = unknown_neighbour
number_of Garbled = garbled_line
number_of Nobody = nobody_open
number_of Overfull = overfull_batch
number_of Bare = bare_map
number_of Itself = itself_linked
number_of Linked = linked_already
number_of TooFew = too_few

-- the number that a test finds: 0 where nothing refuses
abbrev pub refused_by : {A : Type 0} → Result A Refusal → ℕ
refused_by (Ok x) = 0
refused_by (Err k) = number_of k
