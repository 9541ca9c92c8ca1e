-- `farthest` has the flags of the codes that it has passed.
use Rattle.std.proofs.Common.{◌≡◌, ℕ, ◌<◌, false, None, length, get_or}
use Rattle.plain_search.specs.declared.TheConstants.{CODES}
use Rattle.plain_search.specs.Sheets.{far}
use Rattle.plain_search.proofs.farthest.Given as goal

abbrev pub invariant-loop-v : goal.invariant-loop-v
invariant-loop-v l =
    (length l.row ≡ CODES) × ((k : ℕ) → k < l.v → get_or l.row k false ≡ far l.chain l.u k (get_or l.distances k None))
