-- LISTS OF CALLS on one map (rule 9.4): how each call is lent the map, and what the map is after it. A program is its calls: those of the
-- specification, or the code's own.
-- Assumes nothing.
use Rattle.std.specs.Prelude.{List, [], ◌∷◌, ◌++◌, ℕ, ◌+◌, min, length, take, drop}
use Rattle.map.specs.Room.{Tables, Sizes}
use Rattle.map.specs.Memory.{Shape, table_words}
use Rattle.outcome.specs.declared.Outcome.TheVariants.{Refused as RefusedUpdate}
use Rattle.update.specs.UpdateCall.{Step, update_call}
use Rattle.update.specs.Memory.{Memory}
use Rattle.batch_update.specs.BatchCall.{LentMemory, memory_left, batch_call, BatchAnswer, Opened, Refused}
use Rattle.batch_update.specs.Refusals.{BatchStep}
use Rattle.history.specs.PlainRun.{Ask, update, batch, Answer, told, left_over, Feed}

-- how a table of the map is lent: its first k words alone, or whole, with further words of the caller's behind it
pub data Part : Type 0 where
  first : ℕ → Part
  whole : List ℕ → Part

unfoldable pub lend : Part → List ℕ → List ℕ
lend (first k) t = take k t
lend (whole xs) t = t ++ xs

-- the map's table t after a call left l in the lent words: what was not lent stays
unfoldable pub restore : Part → List ℕ → List ℕ → List ℕ
restore (first k) t l = l ++ drop k t
restore (whole xs) t l = take (length t) l

-- what a call is lent: of the map its two tables, and other memory, which may hold anything; `left` are the places of a batch
pub record Lending : Type 0 where
  pub links : Part
  pub pairs : Part
  pub searched : Tables
  pub bounds : List ℕ
  pub skips : List ℕ
  pub left : List ℕ

pub record Call : Type 0 where
  pub ask : Ask
  pub lending : Lending

abbrev pub lent_to : Memory → Lending → LentMemory
lent_to M c = record {
  rec = M.rec;
  links = lend c.links M.links;
  lent = record { pairs = lend c.pairs M.pairs; searched = c.searched; bounds = c.bounds; skips = c.skips };
}

-- the calls of a program, a field for each kind; those of the specification
pub record Program : Type 0 where
  pub update : Step
  pub batch : BatchStep

abbrev pub rules_program : Shape → Program
rules_program K = record { update = update_call K; batch = batch_call K }

-- what a call leaves: its answer, and the lent memory
pub record CallLeft : Type 0 where
  pub answer : Answer
  pub memory : LentMemory

-- a batch's answer with the places that it left
unfoldable pub batch_answer : BatchAnswer → List ℕ → Answer
batch_answer (Opened n) left = left_over (take n left)
batch_answer (Refused k) left = told (RefusedUpdate k)

unfoldable pub ask_left : Program → LentMemory → List ℕ → Ask → CallLeft
ask_left P N left (update u) = let l = P.update N.rec N.links N.lent u in record { answer = told l.report.outcome; memory = memory_left l }
ask_left P N left (batch lines) = let l = P.batch N.rec N.links N.lent left lines in record { answer = batch_answer l.answer l.left; memory = l.memory }

unfoldable pub call_left : Program → Memory → Call → CallLeft
call_left P M c = ask_left P (lent_to M c.lending) c.lending.left c.ask

-- the map after the lent memory was left as N
unfoldable pub memory_after : Memory → Lending → LentMemory → Memory
memory_after M c N = record {
  links = restore c.links M.links N.links;
  pairs = restore c.pairs M.pairs N.lent.pairs;
  rec = N.rec;
}

-- the memory after a list of calls, each lent the map as it stands after the one before; their answers
unfoldable pub run_memory : Program → Memory → List Call → Memory
run_memory P M [] = M
run_memory P M (c ∷ cs) = run_memory P (memory_after M c.lending (call_left P M c).memory) cs

unfoldable pub run_answers : Program → Memory → List Call → List Answer
run_answers P M [] = []
run_answers P M (c ∷ cs) = let l = call_left P M c in l.answer ∷ run_answers P (memory_after M c.lending l.memory) cs

-- what the plain list is fed of a call
unfoldable pub lent_size : ℕ → Part → ℕ
lent_size size (first k) = min k size
lent_size size (whole xs) = size + length xs

unfoldable pub lent_sizes : Shape → Lending → Sizes
lent_sizes K c = record {
  links = lent_size (table_words K) c.links;
  pairs = lent_size (table_words K) c.pairs;
  hops = length c.searched.hops;
  bounds = length c.bounds;
  skips = length c.skips;
  even = length c.searched.even;
  odd = length c.searched.odd;
}

unfoldable pub feed_of : Shape → Call → Feed
feed_of K c = record { ask = c.ask; sizes = lent_sizes K c.lending; left = length c.lending.left }

unfoldable pub feeds_of : Shape → List Call → List Feed
feeds_of K [] = []
feeds_of K (c ∷ cs) = feed_of K c ∷ feeds_of K cs
