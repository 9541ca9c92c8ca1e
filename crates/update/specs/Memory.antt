-- A MAP: link table, pair table and record. Assumes nothing.
use Rattle.std.specs.Prelude.{List, ℕ}
use Rattle.map.specs.Memory.{Shape, table_words}
use Rattle.map.specs.Empty.{zeros, empty_record}
use Rattle.map.specs.declared.Record.{Record}

-- a map (rule 1.4), and the empty one
pub record Memory : Type 0 where
  pub links : List ℕ
  pub pairs : List ℕ
  pub rec : Record

unfoldable pub empty_memory : Shape → Memory
empty_memory K = record { links = zeros (table_words K); pairs = zeros (table_words K); rec = empty_record K.words }
