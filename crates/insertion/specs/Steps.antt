-- THE STEPS OF THE CODE from the finished search of the new depot on, over lists of words and numbers. Nobody has to believe these: `refigure`
-- answers by Figured.antt.
-- Assumes nothing.
use Rattle.std.specs.Prelude.{◌≡◌, List, ℕ, T}
use Rattle.graph.specs.Network.{Network, delivers}
use Rattle.graph.specs.Correct.{IsNet}
use Rattle.rows.specs.Rows.{table_bit}
use Rattle.map.specs.Room.{Tables, Lent}
use Rattle.layers.specs.Layers.{search_leaves}
use Rattle.map.specs.Memory.{Shape}
use Rattle.targets.specs.Reach.{Reached}
use Rattle.pairs.specs.Pairs.{Tally, settle_of}
use Rattle.bounds.specs.Once.{Marked, mark_once as marks_once}
use Rattle.rounds.specs.Targets.{Spans}

-- ---- the marks of a call that searched from a alone, with eccentricity e

abbrev pub mark_once_in : Shape → ℕ → ℕ → Marked → Marked
mark_once_in K a e M = marks_once K.words K.searched_mark K.other_mark a e M

-- ---- the pairs and marks of such a call, D being the stored chain

pub record Joined : Type 0 where
  pub paired : Tally
  pub marked : Marked

abbrev pub joined : Tally → Marked → Joined
joined t m = record { paired = t; marked = m }

-- R is what the search says of a: the pairs go by what is its own, the marks by its eccentricity
unfoldable pub join_of : Shape → ℕ → Reached → ℕ → Joined → Joined
join_of K a R D J = joined (settle_of K.words R.partners a R.own D J.paired) (mark_once_in K a R.ecc J.marked)

-- ---- what the functions ask

-- the tables S hold the search from the open depot a of a sound, connected network, which says R of it
pub record StandsIn (K : Shape) (G : Network) (S : Tables) (a : ℕ) (R : Reached) : Type 0 where
  pub net : IsNet G
  pub present : T (G.is_open a)
  pub spans : Spans K.words G a R
  pub stands : S ≡ search_leaves K.words G a S

-- those that are lent do
abbrev pub HoldsSearch : Shape → Network → Lent → ℕ → Reached → Type 0
HoldsSearch K G B a R = StandsIn K G B.searched a R

-- the stored pairs join depots that deliver
pub record AreOpen (K : Shape) (G : Network) (pairs : List ℕ) : Type 0 where
  pub ends : (u v : ℕ) → T (table_bit K.words pairs u v) → T (delivers G u) × T (delivers G v)
