-- HOW FAR CALLS CAN MOVE THE CHAIN of a map that has no yard yet, over the lists of calls of `HistoriesAgree`: the chain is the record's, from which planners publish.
-- `histories_move` (proofs/Movement) shows it of every program whose histories agree, of the rules' own therefore (`histories_move_base`).
-- Assumes nothing.
use Rattle.std.specs.Prelude.{◌≡◌, false, ℕ, suc, ◌+◌, ◌≤◌, length}
use mathlib.Core.List.{List, [], ◌∷◌, ◌++◌, Memᴰ}
use Rattle.graph.specs.Opening.{Notice}
use Rattle.graph.specs.Updates.{Update, opens, joins}
use Rattle.map.specs.Memory.{Shape}
use Rattle.update.specs.Movement.{MovesBy}
use Rattle.history.specs.PlainRun.{update, PlainRun, plain_run}
use Rattle.history.specs.History.{Lending, Call, Program, feeds_of}
use Rattle.history.specs.HistoriesAgree.{AreCalls, memory_after_all, plain_after_all}

-- the record's chain after calls from the empty map
abbrev pub chain_after_all : Shape → Program → List Call → ℕ
chain_after_all K P cs = (memory_after_all K P cs).rec.chain

-- none of the openings that the plain list accepted is a yard's
abbrev pub AcceptsNoYard : PlainRun → Type 0
AcceptsNoYard r = (o : Notice) → Memᴰ (opens o) r.accepted → o.yard ≡ false

-- what it accepts of the calls ds after the calls cs
abbrev pub accepted_then : Shape → List Call → List Call → List Update
accepted_then K cs ds = (plain_run K (plain_after_all K cs).network (feeds_of K ds)).accepted

-- how many of some updates are openings
unfoldable pub openings_in : List Update → ℕ
openings_in [] = 0
openings_in (opens o ∷ us) = suc (openings_in us)
openings_in (joins a b ∷ us) = openings_in us

-- the call that asks for one update
abbrev pub call_for : Update → Lending → Call
call_for u c = record { ask = update u; lending = c }

pub record Moves (K : Shape) (P : Program) : Type 0 where
  -- One update after the calls cs, whatever it is answered: an opening, of a depot or a yard, raises the chain by at most 1; a link never raises it,
  -- and it falls to no less than half (`MovesBy`).
  pub once : (cs : List Call) (u : Update) (c : Lending) → AreCalls K (cs ++ (call_for u c ∷ [])) → AcceptsNoYard (plain_after_all K cs)
      → MovesBy u (chain_after_all K P cs) (chain_after_all K P (cs ++ (call_for u c ∷ [])))
  -- Any calls ds after the calls cs, batches and yards among them: each opening accepted in ds raises the chain by at most 1, and nothing else raises it.
  -- (Behind a yard one opening may raise it by more, but not above the openings together.)
  pub rises : (cs ds : List Call) → AreCalls K (cs ++ ds) → AcceptsNoYard (plain_after_all K cs)
      → chain_after_all K P (cs ++ ds) ≤ chain_after_all K P cs + openings_in (accepted_then K cs ds)
  -- So n accepted notices, of whatever kind, leave it at most n greater.
  pub most : (cs ds : List Call) → AreCalls K (cs ++ ds) → AcceptsNoYard (plain_after_all K cs)
      → chain_after_all K P (cs ++ ds) ≤ chain_after_all K P cs + length (accepted_then K cs ds)
