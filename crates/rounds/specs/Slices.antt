-- WHAT IS LENT TO THE ROUNDS AS ONE VALUE, so that a contract names it once; what its sizes are; and that it lends the same tables after a call.
-- Assumes nothing.
use Rattle.std.specs.Prelude.{ℕ, ◌≤◌, List, Option, None, Some}
use Rattle.graph.specs.Network.{Network}
use Rattle.map.specs.Slices.{IsSameSlice}
use Rattle.map.specs.Room.{tables}
use Rattle.map.specs.declared.Room.{Room}
use Rattle.targets.specs.Reach.{Reached, reached}
use Rattle.pairs.specs.Pairs.{tally}
use Rattle.bounds.specs.Bounds.{Marks, marks, AreBetween, Fits}
use Rattle.ranks.specs.Ranks.{waiting_of}
use Rattle.rounds.specs.Targets.{target_network}
use Rattle.rounds.specs.Workspace.{Workspace, workspace, RoundRoom}
use Rattle.rounds.specs.declared.plan.Plan.{Plan}
use Rattle.rounds.specs.declared.Desk.{Desk}
use Rattle.rounds.specs.declared.Finished.{Finished}
use Rattle.rounds.specs.declared.RoundFigures.{RoundFigures}

-- the marks of W words in it: bounds and skips of the room, and the ranks on the desk
abbrev pub marks_of : ℕ → Room → Desk → Marks
marks_of W r d = marks r.bounds.now r.skips.now (waiting_of W d.ranks.now)

-- the workspace of the rounds of W words: the room, the ranks on the desk, and the figures so far
abbrev pub workspace_in : ℕ → Room → Desk → RoundFigures → Workspace
workspace_in W r d f =
    workspace
    (tally r.pairs.now f.count)
    (tables r.hops.now r.even.now r.odd.now)
    (marks_of W r d)
    f.candidate
    f.searches

-- the marks in it have the sizes that the inner functions ask
abbrev pub MarksFitIn : ℕ → Room → Desk → Type 0
MarksFitIn W r d = Fits W r.bounds.now r.skips.now d.ranks.now

-- and the rest of it has
abbrev pub RoomFits : ℕ → List ℕ → List ℕ → List ℕ → Room → Desk → Type 0
RoomFits W members targets links r d =
    RoundRoom W members targets links r.hops.now r.even.now r.odd.now d.left.now d.next.now d.partners.now

-- each field lends the buffer that it lent
pub record IsSameDesk (d e : Desk) : Type 0 where
  pub left : IsSameSlice d.left e.left
  pub next : IsSameSlice d.next e.next
  pub partners : IsSameSlice d.partners e.partners
  pub ranks : IsSameSlice d.ranks e.ranks

-- what a finished search says of its start
abbrev pub said_of : Finished → Reached
said_of f = reached f.span.ecc f.span.own f.partners.now

-- below which bound a depot is skipped; without a limit none is
abbrev pub limit_in : Option ℕ → ℕ
limit_in None = 0
limit_in (Some c) = c

-- where a bound is known that every remaining depot has, they have it
abbrev pub AreLevel : ℕ → Option ℕ → Marks → Type 0
AreLevel W None M = Unit
AreLevel W (Some v) M = AreBetween W v v M

-- such a bound is known; it is not below the limit c, and no offer of a reference with the eccentricity e is below it
abbrev pub IsSettled : Option ℕ → ℕ → ℕ → Type 0
IsSettled None e c = ⊥
IsSettled (Some v) e c = (c ≤ v) × (v ≤ e)

-- the network of a plan that is lent
abbrev pub plan_network : ℕ → Plan → Network
plan_network W p = target_network W p.members.now p.targets.now p.links.now
