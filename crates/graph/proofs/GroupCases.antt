-- SEARCHES FROM A GROUP on small networks, worked by hand and computed by the checker (`refl`), with the misunderstanding that each excludes. Assumes nothing.
use Rattle.std.specs.Prelude.{◌≡◌, refl, List, [], ◌∷◌, ◌++◌, ℕ}
use Rattle.lists.specs.Lists.{memb, mapl, first_of}
use Rattle.graph.specs.Network.{Network, with_yards, delivers}
use Rattle.graph.specs.Distance.{vertices}
use Rattle.graph.specs.Cases.{path}
use Rattle.graph.specs.Groups.{group, dist_from, ecc_from, last_from, group_faults}

-- refusal; the distances of the depots, and of the closed code 99; eccentricity; distance of the last layer
pub record Searched : Type 0 where
  pub refusal : ℕ
  pub hops : List ℕ
  pub ecc : ℕ
  pub last : ℕ

-- from the codes of a list, in the network G with the yards ys
unfoldable pub searched_from : Network → List ℕ → List ℕ → Searched
unfolding memb mapl first_of delivers group dist_from ecc_from last_from group_faults
searched_from G ys codes =
    let H = with_yards (λ c. memb c ys) G in
    let S = group codes in
    record {
      refusal = first_of (group_faults H codes);
      hops = mapl (dist_from H S) (vertices H ++ (99 ∷ []));
      ecc = ecc_from H (delivers H) S;
      last = last_from H S;
    }

pub record GroupCases : Type 0 where
  -- a code twice in the list is one member; a depot between two members goes to the nearer
  pub two : searched_from (path 7) [] (6 ∷ 2 ∷ 2 ∷ []) ≡ record { refusal = 0; hops = 2 ∷ 1 ∷ 0 ∷ 1 ∷ 2 ∷ 1 ∷ 0 ∷ 65535 ∷ []; ecc = 2; last = 2 }
  -- a group of one is the depot's own search
  pub one : searched_from (path 7) [] (3 ∷ []) ≡ record { refusal = 0; hops = 3 ∷ 2 ∷ 1 ∷ 0 ∷ 1 ∷ 2 ∷ 3 ∷ 65535 ∷ []; ecc = 3; last = 3 }
  -- all depots: each is its own nearest
  pub all : searched_from (path 3) [] (2 ∷ 0 ∷ 1 ∷ []) ≡ record { refusal = 0; hops = 0 ∷ 0 ∷ 0 ∷ 65535 ∷ []; ecc = 0; last = 0 }
  -- The yard 4 at the far end: it has a distance and stands in the last layer, but the eccentricity goes to destinations. A yard may be a member.
  pub yard_last : searched_from (path 5) (4 ∷ []) (0 ∷ []) ≡ record { refusal = 0; hops = 0 ∷ 1 ∷ 2 ∷ 3 ∷ 4 ∷ 65535 ∷ []; ecc = 3; last = 4 }
  pub yard_member : searched_from (path 5) (4 ∷ []) (4 ∷ 1 ∷ []) ≡ record { refusal = 0; hops = 1 ∷ 0 ∷ 1 ∷ 1 ∷ 0 ∷ 65535 ∷ []; ecc = 1; last = 1 }
  -- without destinations the eccentricity is 0
  pub yards_alone : searched_from (path 3) (0 ∷ 1 ∷ 2 ∷ []) (0 ∷ []) ≡ record { refusal = 0; hops = 0 ∷ 1 ∷ 2 ∷ 65535 ∷ []; ecc = 0; last = 2 }
  pub empty_group : (searched_from (path 3) [] []).refusal ≡ 10
  pub closed_member : (searched_from (path 3) [] (0 ∷ 9 ∷ 1 ∷ [])).refusal ≡ 4
  -- on an empty map every code is closed
  pub empty_map : (searched_from (path 0) [] []).refusal ≡ 10
  pub empty_map_member : (searched_from (path 0) [] (0 ∷ [])).refusal ≡ 4

pub group_cases : GroupCases
unfolding searched_from path
group_cases = record {
  two = refl;
  one = refl;
  all = refl;
  yard_last = refl;
  yard_member = refl;
  yards_alone = refl;
  empty_group = refl;
  closed_member = refl;
  empty_map = refl;
  empty_map_member = refl;
}
