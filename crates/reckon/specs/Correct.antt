-- WHAT THE WHOLE RECKONING GIVES (rule 11.2), by the published words (graph, Network.antt): what every accepted call
-- answers and leaves, on any lent memory, whatever figures were stored.
-- `reckon_correct` (proofs/Theorems) proves it of `reckon_call` for every shape; `ReckonCorrect base` is that of the rules' map.
-- Assumes nothing.
use Rattle.std.specs.Prelude.{◌≡◌, ◌↔◌, not, List, [], ◌∷◌, ℕ, ◌≤◌, ◌<◌, T, eqb, get_or, None, Ok}
use Rattle.lists.specs.Lists.{range, countb, memb, last_or}
use Rattle.graph.specs.Network.{Network, IsEcc, IsDiameter, IsFarthest, delivers}
use Rattle.graph.specs.Distance.{unreached}
use Rattle.graph.specs.Chart.{chart, count_pairs}
use Rattle.graph.specs.Rounds.{reckon}
use Rattle.graph.specs.Correct.{IsCovered, IsSkipped}
use Rattle.rows.specs.Rows.{table_bit}
use Rattle.map.specs.Memory.{Shape, places, table_words, map_network}
use Rattle.map.specs.declared.Record.{Record}
use Rattle.search.specs.declared.Reach.{Reach}
use Rattle.search.specs.Correct.{KeepsPast, IsSearch}
use Rattle.map.specs.Room.{Lent, sizes_of}
use Rattle.outcome.specs.Answers.{refusal_in, Left}
use Rattle.reckon.specs.declared.Reckoned.{Reckoned}
use Rattle.reckon.specs.ReckonCall.{reckon_refusal}

-- A whole reckoning of G, lent the tables B; references are the depots that the rules search from, in order.
pub record IsReckoning (K : Shape) (G : Network) (rec : Record) (B : Lent) (references : List ℕ) (a : Reckoned)
    (left : Lent) : Type 0 where
  -- the figures; open set, number open and yard set stay
  pub chain : IsDiameter G (delivers G) a.after.chain
  pub pairs : (u v : ℕ) → u < places K → v < places K
      → T (table_bit K.words left.pairs u v) ↔ IsFarthest G (delivers G) u v
  pub count : a.after.count ≡ count_pairs (range (places K)) (table_bit K.words left.pairs)
  pub members : a.after.members ≡ rec.members
  pub number : a.after.number ≡ rec.number
  pub yards : a.after.yards ≡ rec.yards
  -- the answer: as many searches as depots are marked, no more than are open
  pub marked : a.searches ≡ countb (λ v. eqb (get_or left.skips v 0) K.searched_mark) (range (places K))
  pub bounded : a.searches ≤ rec.number
  -- the marked are exactly the references, with their eccentricities; every other depot that delivers is covered
  pub marks : (v : ℕ) → v < places K
      → (get_or left.skips v 0 ≡ K.searched_mark) ↔ T (memb v references)
  pub inside : (v : ℕ) → T (memb v references) → T (G.is_open v)
  pub cover : (v : ℕ) → T (delivers G v) → T (not (memb v references))
      → IsCovered G references a.after.chain v
  pub eccentricity : (v : ℕ) → T (memb v references) → IsEcc G (delivers G) v (get_or left.bounds v 0)
  -- skip and bound table say so of each depot that was not searched, a yard too; a closed code has the other mark and 65,535
  pub skipped : (v : ℕ) → T (G.is_open v) → T (not (memb v references))
      → IsSkipped G references a.after.chain v (get_or left.skips v 0) (get_or left.bounds v 0)
  pub closed : (v : ℕ) → v < places K → (T (G.is_open v) → ⊥)
      → (get_or left.skips v 0 ≡ K.other_mark) × (get_or left.bounds v 0 ≡ unreached)
  -- hop table and layer rows hold what the last search left there, and are unchanged without a search
  pub searched : (r : ℕ) (rs : List ℕ) → references ≡ r ∷ rs
      → (s : Reach) × IsSearch K G (last_or r rs) B.searched s left.searched
  pub unsearched : references ≡ [] → left.searched ≡ B.searched
  -- what stands past the named sizes stays
  pub pairs_kept : KeepsPast (table_words K) B.pairs left.pairs
  pub bounds_kept : KeepsPast (places K) B.bounds left.bounds
  pub skips_kept : KeepsPast (places K) B.skips left.skips

-- of a program whose reckoning call is `step`
pub record ReckonCorrect (K : Shape) (step : Record → List ℕ → Lent → Left Reckoned Lent) : Type 0 where
  pub numbered : (rec : Record) (links : List ℕ) (B : Lent)
      → refusal_in (step rec links B).answer ≡ reckon_refusal K rec links (sizes_of links B)
  pub accepted : (rec : Record) (links : List ℕ) (B : Lent) → reckon_refusal K rec links (sizes_of links B) ≡ None
      → let G = map_network K rec links in
      let left = step rec links B in
      (a : Reckoned) × (left.answer ≡ Ok a) × IsReckoning K G rec B (reckon (chart G)).references a left.lent
