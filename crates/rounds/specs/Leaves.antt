-- WHAT ROUNDS LEAVE in lent memory (rules 6.1 to 6.5), by the state of the network's rounds.
-- Assumes nothing.
use Rattle.std.specs.Prelude.{cond, List, [], ◌∷◌, ℕ, length}
use Rattle.lists.specs.Lists.{range, mapl, last_or, overwrite}
use Rattle.graph.specs.Network.{Network}
use Rattle.graph.specs.Distance.{unreached}
use Rattle.graph.specs.Chart.{count_pairs}
use Rattle.graph.specs.Rounds.{State, mark_of, bound_of}
use Rattle.rows.specs.Rows.{encode_table}
use Rattle.map.specs.Room.{Tables}
use Rattle.layers.specs.Layers.{search_leaves}
use Rattle.map.specs.Memory.{Shape, places}
use Rattle.map.specs.Room.{Lent}

-- the hop table and the layer rows (rule 6.5): what the last search leaves; as they were without a search
unfoldable pub search_after : ℕ → Network → List ℕ → Tables → Tables
search_after W G [] B = B
search_after W G (r ∷ rs) B = search_leaves W G (last_or r rs) B

-- the pairs that the rounds found, and each code's place of the bound and the skip table (rules 6.1 and 6.2)
unfoldable pub rounds_leave : Shape → Network → State → Lent → Lent
rounds_leave K G S B = record {
  pairs = overwrite (encode_table K.words S.pairs) B.pairs;
  searched = search_after K.words G S.references B.searched;
  bounds = overwrite (mapl (λ v. cond (G.is_open v) (bound_of (S.status v)) unreached) (range (places K))) B.bounds;
  skips = overwrite (mapl (λ v. cond (G.is_open v) (mark_of K.searched_mark K.other_mark (S.status v)) K.other_mark) (range (places K))) B.skips;
}

-- the figures beside them: chain, pair count, number of searches
pub record Ran : Type 0 where
  pub lent : Lent
  pub chain : ℕ
  pub count : ℕ
  pub searches : ℕ

abbrev pub ran : Lent → ℕ → ℕ → ℕ → Ran
ran B c n s = record { lent = B; chain = c; count = n; searches = s }

unfoldable pub ran_by : Shape → Network → State → Lent → Ran
ran_by K G S B = ran (rounds_leave K G S B) S.candidate (count_pairs (range (places K)) S.pairs) (length S.references)
