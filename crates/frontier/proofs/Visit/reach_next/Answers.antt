-- `frontier::Visit::reach_next` meets its contract. The loop's invariant (Visits.antt): the words before j are next's, and the hops are in place.
use Prim.Native.Nat.{◌+◌}
use native.Mathlib.Omega.{arith}
use Rattle.frontier.proofs.Visits.{next_next, next_end}
use Rattle.frontier.proofs.Visit.reach_next.Goals as goal

pub loop-j-preserved : goal.loop-j-preserved
loop-j-preserved c = search next_next

pub returns-clause-visited : goal.returns-clause-visited
returns-clause-visited c = search next_end

-- the last four words reach the end
pub returns-2-clause-visited : goal.returns-2-clause-visited
returns-2-clause-visited c = next_end _ {v = c.args.self.now} {now = c.reach_layer-got.new.self} (c.loop-j.j + 4) (search next_next) (omega arith)
