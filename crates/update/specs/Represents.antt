-- WHAT A MAP'S MEMORY SAYS OF A NETWORK, by the published words; and a call's marks.
-- Assumes nothing.
use Rattle.std.specs.Prelude.{◌≡◌, ◌↔◌, not, List, ℕ, ◌≤◌, ◌<◌, T, eqb, length, get_or}
use Rattle.lists.specs.Lists.{range, countb, memb}
use Rattle.graph.specs.Network.{Network, IsDiameter, IsFarthest, delivers}
use Rattle.graph.specs.Distance.{vertices}
use Rattle.graph.specs.Chart.{count_pairs}
use Rattle.graph.specs.Correct.{IsCovered}
use Rattle.rows.specs.Rows.{row_bit, table_bit}
use Rattle.map.specs.Memory.{Shape, places}
use Rattle.outcome.specs.declared.Change.{Change}
use Rattle.outcome.specs.declared.Change.TheVariants.{Shrank}
use Rattle.outcome.specs.declared.Outcome.TheVariants.{Accepted, Refused}
use Rattle.update.specs.UpdateCall.{UpdateLeft}
use Rattle.update.specs.Memory.{Memory}

-- the map M is that of the network G (rule 9.5)
pub record Represents (K : Shape) (M : Memory) (G : Network) : Type 0 where
  pub members : (c : ℕ) → c < places K → row_bit K.words M.rec.members c ≡ G.is_open c
  pub number : M.rec.number ≡ length (vertices G)
  pub links : (u v : ℕ) → u < places K → v < places K → table_bit K.words M.links u v ≡ G.linked u v
  pub chain : IsDiameter G (delivers G) M.rec.chain
  pub pairs : (u v : ℕ) → u < places K → v < places K → T (table_bit K.words M.pairs u v) ↔ IsFarthest G (delivers G) u v
  pub count : M.rec.count ≡ count_pairs (range (places K)) (table_bit K.words M.pairs)
  pub yards : (c : ℕ) → c < places K → row_bit K.words M.rec.yards c ≡ G.is_yard c

-- a call's marks: references are the depots that the rules search from in the call, H the network after it, l what the call left
pub record IsMarked (K : Shape) (H : Network) (references : List ℕ) (l : UpdateLeft) : Type 0 where
  pub none_refused : (k : ℕ) → l.report.outcome ≡ Refused k → l.report.searches ≡ 0
  pub marks : (a : Change) → l.report.outcome ≡ Accepted a → (v : ℕ) → v < places K → (get_or l.lent.skips v 0 ≡ K.searched_mark) ↔ T (memb v references)
  pub searches : (a : Change) → l.report.outcome ≡ Accepted a → l.report.searches ≡ countb (λ v. eqb (get_or l.lent.skips v 0) K.searched_mark) (range (places K))
  pub inside : (v : ℕ) → T (memb v references) → T (H.is_open v)
  pub bounded : l.report.searches ≤ l.after.number
  pub cover : l.report.outcome ≡ Accepted Shrank → (v : ℕ) → T (delivers H v) → T (not (memb v references)) → IsCovered H references l.after.chain v
