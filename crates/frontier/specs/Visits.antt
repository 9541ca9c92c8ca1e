-- A VISIT IN ITS STRUCT AS ONE VALUE: what it goes over stays what it was, and what a visit of a set of members makes of it.
-- Nobody has to believe these. Assumes nothing.
use Rattle.std.specs.Prelude.{◌≡◌, Bool, ℕ, length}
use Rattle.frontier.specs.declared.Four.{Four}
use Rattle.frontier.specs.declared.Visit.{Visit}
use Rattle.frontier.specs.Steps.{reached, reach_set}

-- the same links, rows and hop k, and the same table of hops lent, of the same length
pub record IsSameVisit (v w : Visit) : Type 0 where
  pub links : v.links ≡ w.links
  pub words : v.words ≡ w.words
  pub k : v.k ≡ w.k
  pub name : v.hops.ghost_name ≡ w.hops.ghost_name
  pub long : length v.hops.now ≡ length w.hops.now

-- from v and the four words f to w and the words g: the members of S are visited, for the words j to j + 3 of what they are linked to
pub record Goes (j : ℕ) (S : ℕ → Bool) (v : Visit) (f : Four) (w : Visit) (g : Four) : Type 0 where
  pub same : IsSameVisit v w
  pub visited : reached g w.hops.now ≡ reach_set v.words v.links.now v.k j S (reached f v.hops.now)
