-- `rounds::run_rounds` meets its contract. The loop's invariant is `AtRound` (Turns.antt): from here the rounds end where they end from the start.
-- The measure is the number of remaining depots.
use Prim.Native.Nat.{◌*◌}
use Rattle.lists.specs.Lists.{range, countb}
use Rattle.rows.specs.Rows.{row_bit}
use Rattle.map.specs.Slices.{IsSameRoom}
use Rattle.ranks.specs.Ranks.{waiting_of, AreRanks}
use Rattle.ranks.specs.Order.{GoesOn}
use Rattle.rounds.specs.Slices.{marks_of, workspace_in, IsSameDesk, AreLevel}
use Rattle.rounds.proofs.Turns.{AtRound}
use Rattle.rounds.proofs.run_rounds.Given as goal

abbrev pub invariant-loop-r : goal.invariant-loop-r
invariant-loop-r l =
    AtRound l.words l.targets l.links l.mark (workspace_in l.words l.initial.room l.initial.desk l.initial.now.figures)
    (workspace_in l.words l.room l.desk l.now.figures)
    × IsSameRoom l.initial.room l.room
    × IsSameDesk l.initial.desk l.desk
    × AreRanks l.words l.links l.desk.ranks.now
    × AreLevel l.words l.now.level (marks_of l.words l.room l.desk)
    × GoesOn l.words l.desk.ranks.now l.order l.last

abbrev pub decreases-loop-r : goal.decreases-loop-r
decreases-loop-r l =
    countb (row_bit l.words (waiting_of l.words l.desk.ranks.now)) (range (64 * l.words))
