-- `Sheet::accept` links the depot to those that it has passed.
use Rattle.std.proofs.Common.{◌≡◌, drop}
use Rattle.plain_search.specs.Sheets.{linked}
use Rattle.plain_search.proofs.Sheet.accept.Given as goal

abbrev pub invariant-loop-v : goal.invariant-loop-v
invariant-loop-v l =
    (l.self.depots ≡ l.initial.self.depots) × (l.self.chain ≡ l.initial.self.chain)
    × (linked l.self.links l.code (drop l.v-index l.neighbours) ≡ linked l.initial.self.links l.code l.neighbours)
