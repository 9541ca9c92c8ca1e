-- `tables::each_is` has found each flag that it has passed.
use Rattle.std.proofs.Common.{◌≡◌, ℕ, ◌<◌, false, get_or}
use Rattle.plain_search.specs.Words.{flag_in}
use Rattle.plain_search.proofs.tables.each_is.Given as goal

abbrev pub invariant-loop-i : goal.invariant-loop-i
invariant-loop-i l = (k : ℕ) → k < l.i → get_or l.flags k false ≡ flag_in l.words k
