-- MANY SEARCHES IN ONE SWEEP on small networks, worked by hand and computed by the checker (`refl`), with the misunderstanding that each excludes. Assumes nothing.
use Rattle.std.specs.Prelude.{◌≡◌, refl, List, [], ◌∷◌, ◌++◌, ℕ, eqb}
use Rattle.lists.specs.Lists.{range, mapl, first_of}
use Rattle.graph.specs.Network.{Network, with_yards}
use Rattle.graph.specs.Distance.{vertices}
use Rattle.graph.specs.Cases.{path}
use Rattle.graph.specs.Sweep.{sweep, sweep_faults}

-- refusal; table walks; the hop table of each start in turn, at the depots and at the closed code 99
pub record Swept : Type 0 where
  pub refusal : ℕ
  pub walks : ℕ
  pub hops : List (List ℕ)

unfoldable pub tables : (ℕ → ℕ → ℕ) → List ℕ → List ℕ → List (List ℕ)
unfolding mapl
tables hop vs [] = []
tables hop vs (u ∷ us) = mapl (hop u) vs ∷ tables hop vs us

unfoldable pub swept : Network → List ℕ → Swept
unfolding first_of sweep sweep_faults tables
swept G starts =
    let W = sweep G starts in record { refusal = first_of (sweep_faults G starts); walks = W.walks; hops = tables W.hop (vertices G ++ (99 ∷ [])) starts }

-- depot 0 so many times
unfoldable pub zeros : ℕ → List ℕ
unfolding mapl range
zeros n = mapl (λ i. 0) (range n)

pub record SweepCases : Type 0 where
  -- the same code twice has its table twice; the walks are those of the deepest start, and one that finds nothing
  pub twice : swept (path 7) (0 ∷ 3 ∷ 0 ∷ [])
      ≡ record {
        refusal = 0;
        walks = 7;
        hops =
            (0 ∷ 1 ∷ 2 ∷ 3 ∷ 4 ∷ 5 ∷ 6 ∷ 65535 ∷ [])
            ∷ (3 ∷ 2 ∷ 1 ∷ 0 ∷ 1 ∷ 2 ∷ 3 ∷ 65535 ∷ [])
            ∷ (0 ∷ 1 ∷ 2 ∷ 3 ∷ 4 ∷ 5 ∷ 6 ∷ 65535 ∷ [])
            ∷ [];
      }
  -- a start that has ended does not begin again while another goes on
  pub both : swept (path 4) (1 ∷ 3 ∷ []) ≡ record { refusal = 0; walks = 4; hops = (1 ∷ 0 ∷ 1 ∷ 2 ∷ 65535 ∷ []) ∷ (3 ∷ 2 ∷ 1 ∷ 0 ∷ 65535 ∷ []) ∷ [] }
  -- a single depot: one walk, that finds nothing
  pub single : swept (path 1) (0 ∷ []) ≡ record { refusal = 0; walks = 1; hops = (0 ∷ 65535 ∷ []) ∷ [] }
  -- the yard 4 at the far end has its distance, and costs its walk
  pub yard_counts : swept (with_yards (λ c. eqb c 4) (path 5)) (0 ∷ []) ≡ record { refusal = 0; walks = 5; hops = (0 ∷ 1 ∷ 2 ∷ 3 ∷ 4 ∷ 65535 ∷ []) ∷ [] }
  pub no_start : (swept (path 3) []).refusal ≡ 20
  pub most : first_of (sweep_faults (path 3) (zeros 64)) ≡ 0
  pub one_more : first_of (sweep_faults (path 3) (zeros 65)) ≡ 20
  -- 20 comes before 4
  pub closed : first_of (sweep_faults (path 3) (0 ∷ 9 ∷ [])) ≡ 4
  pub crowd_first : first_of (sweep_faults (path 3) (9 ∷ zeros 64)) ≡ 20

pub sweep_cases : SweepCases
unfolding swept path zeros first_of sweep_faults
sweep_cases = record {
  twice = refl;
  both = refl;
  single = refl;
  yard_counts = refl;
  no_start = refl;
  most = refl;
  one_more = refl;
  closed = refl;
  crowd_first = refl;
}
