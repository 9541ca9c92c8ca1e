-- `Sheet::figure` leaves the depots and the links; it has the pairs of the codes that it has passed.
use Rattle.std.proofs.Common.{◌≡◌}
use Rattle.plain_search.specs.declared.TheConstants.{CODES}
use Rattle.plain_search.specs.Sheets.{IsGreatest, AreEccentricities, ArePairs}
use Rattle.plain_search.proofs.Sheet.figure.Given as goal

abbrev pub invariant-loop-u : goal.invariant-loop-u
invariant-loop-u l =
    (l.self.depots ≡ l.fn.self.depots) × (l.self.links ≡ l.fn.self.links) × AreEccentricities l.self CODES
    × IsGreatest l.self.eccentricities l.self.chain × ArePairs l.self l.u
