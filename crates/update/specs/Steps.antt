-- WORDS FOR CONTRACTS: the refusal of the lent map alone (the stream's step asks and gives it), a refused answer.
-- Assumes nothing.
use Rattle.std.specs.Prelude.{List, ℕ, true}
use Rattle.map.specs.Memory.{Shape}
use Rattle.map.specs.declared.Record.{Record}
use Rattle.map.specs.Room.{Sizes, long_enough}
use Rattle.outcome.specs.declared.Outcome.TheVariants.{Refused}
use Rattle.update.specs.declared.Returned.{Returned}
use Rattle.lent_map.specs.Faults.{lent_refusal}

-- the first refusal of the lent memory alone, whatever is asked: 1 short, 2 spoilt (links or figures), 3 apart; 0: none
unfoldable pub map_refusal : Shape → Record → List ℕ → List ℕ → Sizes → ℕ
map_refusal K rec links pairs sizes = lent_refusal K (long_enough K sizes) true rec links pairs

abbrev pub refused_with : ℕ → Record → Returned
refused_with number rec = record { report = record { outcome = Refused number; searches = 0 }; after = rec }
