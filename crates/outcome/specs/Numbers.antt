-- THE NUMBERS OF THE REFUSALS (rule 8.1), each with the word that the scanner's trade has for it. A call gives the first that holds.
-- Assumes nothing.
use Rattle.std.specs.Prelude.{ℕ}

-- short: a lent buffer has not its size
abbrev pub short_buffer : ℕ
short_buffer = 1

-- spoilt: the links are not sound, or the figures of a call that goes by them
abbrev pub spoilt_map : ℕ
spoilt_map = 2

-- apart: some depot is not reached
abbrev pub apart_map : ℕ
apart_map = 3

-- absent: what is named is closed
abbrev pub absent_code : ℕ
absent_code = 4

-- taken: what is to be opened is open
abbrev pub taken_code : ℕ
taken_code = 5

-- lonely: no neighbours, and the map has a depot
abbrev pub lonely_depot : ℕ
lonely_depot = 6

-- unsorted: the neighbours are not strictly rising
abbrev pub unsorted_neighbours : ℕ
unsorted_neighbours = 7

-- unknown: a neighbour is not open
abbrev pub unknown_neighbour : ℕ
unknown_neighbour = 8

-- garbled: what is read is no line, or what is written no frame
abbrev pub garbled_line : ℕ
garbled_line = 9

-- nobody: no depot of a list is open
abbrev pub nobody_open : ℕ
nobody_open = 10

-- overfull: a batch has more lines than it may have
abbrev pub overfull_batch : ℕ
overfull_batch = 11

-- bare: no depot is open
abbrev pub bare_map : ℕ
bare_map = 12

-- itself: a link's two ends are one depot
abbrev pub itself_linked : ℕ
itself_linked = 13

-- linked: a link's two ends are linked already
abbrev pub linked_already : ℕ
linked_already = 14

-- too few: the map has fewer than two depots
abbrev pub too_few : ℕ
too_few = 15

-- cut: those left open would lie apart
abbrev pub cut_map : ℕ
cut_map = 17
