-- WHAT AN ACCEPTED UPDATE LEAVES IN EVERY TABLE (section 6 of the rules), by the published words, on any stored figures that are not refused.
-- `update_tables` (proofs/Tables) proves it of `update_call`. Which places are marked as searched stands in `IsMarked`, what the map means in `Represents`.
-- Assumes nothing.
use Rattle.std.specs.Prelude.{◌≡◌, not, List, [], ◌++◌, ℕ, ◌<◌, T, get_or}
use Rattle.lists.specs.Lists.{memb, last_or}
use Rattle.graph.specs.Network.{Network, IsEcc, delivers}
use Rattle.graph.specs.Distance.{unreached}
use Rattle.graph.specs.Correct.{IsSkipped}
use Rattle.graph.specs.Updates.{Update, first_searches}
use Rattle.map.specs.Memory.{Shape, places, table_words}
use Rattle.map.specs.declared.Record.{Record}
use Rattle.search.specs.declared.Reach.{Reach}
use Rattle.search.specs.Correct.{KeepsPast, IsSearch}
use Rattle.map.specs.Room.{Lent, sizes_of}
use Rattle.outcome.specs.declared.Change.{Change}
use Rattle.outcome.specs.declared.Change.TheVariants.{Shrank}
use Rattle.outcome.specs.declared.Outcome.TheVariants.{Accepted}
use Rattle.update.specs.UpdateCall.{update_refusal, network_after, UpdateLeft, references_of, Step, IsWithin}

-- the place of v holds neither a reference nor a bound: 257 and 65,535
abbrev pub IsBlank : Shape → UpdateLeft → ℕ → Type 0
IsBlank K l v = (get_or l.lent.skips v 0 ≡ K.other_mark) × (get_or l.lent.bounds v 0 ≡ unreached)

-- An update that was lent the link table and the tables B: H is the network after it, firsts the depots that it has to search from first, references
-- those that the rules search from, in order, and l what the call left.
pub record AreTables (K : Shape) (H : Network) (firsts references links : List ℕ) (B : Lent) (l : UpdateLeft) : Type 0 where
  -- grew, kept or shrank
  pub change : Change
  pub accepted : l.report.outcome ≡ Accepted change
  -- these searches come first, in this order, and no other unless the chain shrank
  pub later : List ℕ
  pub first : references ≡ firsts ++ later
  pub alone : (l.report.outcome ≡ Accepted Shrank → ⊥) → later ≡ []
  -- skip and bound table: a searched depot has its eccentricity; after a shrink every other was skipped by right; else every other place is blank
  pub eccentricity : (v : ℕ) → T (memb v references) → IsEcc H (delivers H) v (get_or l.lent.bounds v 0)
  pub skipped : l.report.outcome ≡ Accepted Shrank → (v : ℕ) → T (H.is_open v) → T (not (memb v references))
      → IsSkipped H references l.after.chain v (get_or l.lent.skips v 0) (get_or l.lent.bounds v 0)
  pub others : (l.report.outcome ≡ Accepted Shrank → ⊥) → (v : ℕ) → v < places K → T (not (memb v firsts)) → IsBlank K l v
  pub closed : (v : ℕ) → v < places K → (T (H.is_open v) → ⊥) → IsBlank K l v
  -- hop table and layer rows hold what the last search left there
  pub searched : (r : Reach) × IsSearch K H (last_or 0 references) B.searched r l.lent.searched
  -- what stands past the named sizes stays
  pub links_kept : KeepsPast (table_words K) links l.links
  pub pairs_kept : KeepsPast (table_words K) B.pairs l.lent.pairs
  pub bounds_kept : KeepsPast (places K) B.bounds l.lent.bounds
  pub skips_kept : KeepsPast (places K) B.skips l.lent.skips

-- of a program whose update call is `step`: every update that nothing refuses leaves such tables
abbrev pub LeavesTables : Shape → Step → Type 0
LeavesTables K step =
    (rec : Record) (links : List ℕ) (B : Lent) (u : Update) → update_refusal K rec links B.pairs (sizes_of links B) u ≡ 0 → IsWithin K u
    → AreTables K (network_after K rec links u) (first_searches u) (references_of K rec links B u) links B (step rec links B u)
