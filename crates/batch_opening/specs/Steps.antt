-- WORDS FOR CONTRACTS: how far a batch has come. Assumes nothing.
use Rattle.std.specs.Prelude.{List, ℕ}
use Rattle.map.specs.declared.Record.{Record}
use Rattle.map.specs.Room.{Lent}
use Rattle.batch.specs.Lines.{entries_of}
use Rattle.batch.specs.Steps.{waiting_of}
use Rattle.batch_update.specs.BatchCall.{lent_memory}
use Rattle.batch_update.specs.Steps.{BatchStanding}
use Rattle.batch_opening.specs.declared.BatchProgress.{BatchProgress}

abbrev pub batch_standing : BatchProgress → List ℕ → Lent → List ℕ → BatchStanding
batch_standing p links B input = record { memory = lent_memory p.after links B; waiting = waiting_of p.taken (entries_of input) }

-- nothing is taken yet
abbrev pub batch_begun : Record → BatchProgress
batch_begun rec = record { after = rec; taken = 0 }
