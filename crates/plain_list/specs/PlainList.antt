-- ONE STEP OF THE PLAIN LIST (rule 9.3): what it answers and what it then holds: the open codes, those of them that are yards, and the links.
-- It knows no words and no tables.
-- Assumes nothing.
use Rattle.std.specs.Prelude.{cond, ℕ, zero, suc, eqb, ltb}
use Rattle.graph.specs.Network.{Network}
use Rattle.graph.specs.Chart.{diameter}
use Rattle.graph.specs.Updates.{Update, applied}
use Rattle.outcome.specs.declared.Outcome.{Outcome}
use Rattle.outcome.specs.declared.Outcome.TheVariants.{Accepted, Refused}
use Rattle.outcome.specs.declared.Change.TheVariants.{Grew, Kept, Shrank}

-- how the longest chain moved from D to E
unfoldable pub moved : ℕ → ℕ → Outcome
moved D E = cond (ltb D E) (Accepted Grew) (cond (eqb D E) (Accepted Kept) (Accepted Shrank))

-- the answer, with G and H the network before and after the call
unfoldable pub plain_answer : ℕ → Network → Network → Outcome
unfolding moved diameter
plain_answer zero G H = moved (diameter G) (diameter H)
plain_answer (suc k) G H = Refused (suc k)

-- the network after the call
unfoldable pub plain_next : ℕ → Network → Update → Network
unfolding applied
plain_next zero G o = applied G o
plain_next (suc k) G o = G
