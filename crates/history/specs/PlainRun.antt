-- THE PLAIN LIST (rules 9.1 to 9.3, 14.6) over a whole list of calls. It is fed which openings are yards, which is part of each notice, and keeps their set
-- with the open codes and the links. It knows no words, no tables and no answers. Assumes nothing.
use Rattle.std.specs.Prelude.{Bool, not, ◌&&◌, List, [], ◌∷◌, ◌++◌, ℕ, zero, suc, leb, length}
use Rattle.outcome.specs.Numbers.{short_buffer}
use Rattle.lists.specs.Lists.{first_of}
use Rattle.graph.specs.Network.{Network}
use Rattle.graph.specs.Distance.{vertices}
use Rattle.graph.specs.Updates.{Update, opens, told_as, update_faults}
use Rattle.graph.specs.Batch.{Entry, batch_of, numbers_of}
use Rattle.map.specs.Memory.{Shape}
use Rattle.map.specs.Room.{Sizes, long_enough}
use Rattle.outcome.specs.declared.Outcome.{Outcome}
use Rattle.outcome.specs.declared.Outcome.TheVariants.{Refused}
use Rattle.plain_list.specs.PlainList.{plain_answer, plain_next}
use Rattle.batch.specs.Lines.{batch_limit, entries_of, batch_faults}

-- what a call asks for: an update of the network, or that a batch of lines be opened, given by their bytes
pub data Ask : Type 0 where
  update : Update → Ask
  batch : List ℕ → Ask

-- what it is answered: an update's outcome, or a refusal; of an accepted batch the numbers of the lines left over
pub data Answer : Type 0 where
  told : Outcome → Answer
  left_over : List ℕ → Answer

-- what the list is told of a call; `left` is the number of places for the lines left over, which a batch alone asks for
pub record Feed : Type 0 where
  pub ask : Ask
  pub sizes : Sizes
  pub left : ℕ

unfoldable pub ask_long : Shape → Ask → Sizes → ℕ → Bool
ask_long K (update u) z m = long_enough K z
ask_long K (batch lines) z m = leb batch_limit m && long_enough K z

unfoldable pub ask_faults : Network → Ask → List (Bool × ℕ)
ask_faults G (update u) = update_faults G u
ask_faults G (batch lines) = batch_faults (length (vertices G)) lines

-- the number of a call's refusal (rules 9.2, 14.6), 0 if it is accepted
unfoldable pub plain_refusal : Shape → Network → Feed → ℕ
unfolding first_of ask_long ask_faults
plain_refusal K G c = first_of ((not (ask_long K c.ask c.sizes c.left), short_buffer) ∷ ask_faults G c.ask)

-- the network after a call with this refusal, the answer, and the updates that were accepted in it
unfoldable pub ask_next : ℕ → Network → Ask → Network
unfolding plain_next
ask_next k G (update u) = plain_next k G u
ask_next zero G (batch lines) = (batch_of G (entries_of lines)).network
ask_next (suc k) G (batch lines) = G

unfoldable pub ask_answer : ℕ → Network → Ask → Answer
unfolding plain_next plain_answer
ask_answer k G (update u) = told (plain_answer k G (plain_next k G u))
ask_answer zero G (batch lines) = left_over (numbers_of (batch_of G (entries_of lines)).left)
ask_answer (suc k) G (batch lines) = told (Refused (suc k))

unfoldable pub openings_of : List Entry → List Update
openings_of [] = []
openings_of (e ∷ es) = opens e.notice ∷ openings_of es

unfoldable pub ask_accepted : ℕ → Network → Ask → List Update
unfolding openings_of told_as
ask_accepted zero G (update u) = told_as u ∷ []
ask_accepted zero G (batch lines) = openings_of (batch_of G (entries_of lines)).accepted
ask_accepted (suc k) G a = []

-- the whole list: the network of what was accepted, the answers in order, the accepted updates themselves
pub record PlainRun : Type 0 where
  pub network : Network
  pub answers : List Answer
  pub accepted : List Update

unfoldable pub plain_run : Shape → Network → List Feed → PlainRun
unfolding plain_refusal ask_next ask_answer ask_accepted
plain_run K G [] = record { network = G; answers = []; accepted = [] }
plain_run K G (c ∷ cs) =
    let k = plain_refusal K G c in
    let rest = plain_run K (ask_next k G c.ask) cs in
    record { network = rest.network; answers = ask_answer k G c.ask ∷ rest.answers; accepted = ask_accepted k G c.ask ++ rest.accepted }
