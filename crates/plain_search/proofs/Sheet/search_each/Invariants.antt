-- `Sheet::search_each` leaves the depots and the links; it has searched from the depots that it has passed.
use Rattle.std.proofs.Common.{◌≡◌}
use Rattle.plain_search.specs.Sheets.{AreEccentricities}
use Rattle.plain_search.proofs.Sheet.search_each.Given as goal

abbrev pub invariant-loop-u : goal.invariant-loop-u
invariant-loop-u l =
    (l.self.depots ≡ l.initial.self.depots) × (l.self.links ≡ l.initial.self.links) × AreEccentricities l.self l.u
