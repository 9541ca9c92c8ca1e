-- THE LEIDEN METHOD, a second engine for the chain alone, over a chart: BoundingDiameters of F. W.
-- Takes, "Algorithms for Analyzing and Mining Real-World Graphs". Each depot has a lower and an
-- upper bound of its eccentricity; each search narrows the bounds of all; the chain lies between
-- the greatest lower and the greatest upper bound of the destinations. Not taken over from the
-- published method: depots with one neighbour set aside beforehand; twice an eccentricity as an
-- upper bound of the chain, which no destination's upper bound exceeds anyhow (`high_twice`,
-- proofs/Bounding); that a depot leaves only with a lower bound of at least half the chain's upper
-- one; and that depots which have left are no more updated.
-- Assumes nothing.
use Rattle.std.specs.Prelude.{◌≡◌, Bool, true, false, cond, not, ◌&&◌, ◌||◌, ℕ, zero, suc, ◌+◌, ◌-◌, ◌≤◌, max, min, T, eqb, ltb, leb, length}
use mathlib.Core.List.{List, [], ◌∷◌, ◌++◌, Memᴰ}
use Rattle.std.proofs.Math.Option.{Option, none, some}
use Rattle.lists.specs.Lists.{filterb, countb, max_of, memb}
use Rattle.graph.specs.Network.{Network, delivers, IsDiameter}
use Rattle.graph.specs.Distance.{vertices, unreached}
use Rattle.graph.specs.Chart.{Chart, chart, destinations, ecc}
use Rattle.graph.specs.Rounds.{reckon}

pub record Bounds : Type 0 where
  pub low : ℕ → ℕ  -- the eccentricity is at least this
  pub high : ℕ → ℕ  -- and at most this
  pub has_left : ℕ → Bool  -- the depot remains no more
  pub references : List ℕ  -- so far, in order; how many it took is its length

-- at the start every eccentricity lies between 0 and 65,535
unfoldable pub unbounded : Bounds
unbounded = record { low = λ v. 0; high = λ v. unreached; has_left = λ v. false; references = [] }

-- the chain's bounds: the greatest of all destinations, those that have left among them; both 0 where there is none
unfoldable pub chain_low : Chart → Bounds → ℕ
unfolding max_of destinations
chain_low C B = max_of B.low (destinations C)

unfoldable pub chain_high : Chart → Bounds → ℕ
unfolding max_of destinations
chain_high C B = max_of B.high (destinations C)

-- ---- one reference

-- The bounds of v after a search from r: e(r) − d(r,v) bounds from below whatever r is (the subtraction stops at 0), d(r,v) itself does so only if r is
-- a destination. For r itself both become e(r).
unfoldable pub low_after : Chart → ℕ → Bounds → ℕ → ℕ
unfolding ecc
low_after C r B v = max (B.low v) (max (ecc C r - C.distance r v) (cond (C.is_destination r) (C.distance r v) 0))

unfoldable pub high_after : Chart → ℕ → Bounds → ℕ → ℕ
unfolding ecc
high_after C r B v = min (B.high v) (ecc C r + C.distance r v)

-- a depot whose bounds are low and high leaves: it cannot exceed the chain's lower bound c, or its eccentricity is known
unfoldable pub leaves : ℕ → ℕ → ℕ → Bool
leaves c low high = leb high c || eqb low high

-- the search from r, the bounds of all depots (of those that have left too), the chain's lower bound, leaving
unfoldable pub refer : Chart → ℕ → Bounds → Bounds
unfolding low_after high_after leaves max_of destinations
refer C r B = record {
  low = low_after C r B;
  high = high_after C r B;
  has_left = λ v. B.has_left v || leaves (max_of (low_after C r B) (destinations C)) (low_after C r B v) (high_after C r B v);
  references = B.references ++ (r ∷ []);
}

-- ---- which reference is next

-- In turn the depot of the largest upper bound (`true`, the first turn) and the one of the smallest lower bound, of those that remain; of equal
-- bounds the higher degree wins, and then the depot that is listed first. So the later depot w of the list is taken before v only if
-- its bound is strictly better, or equal with a strictly higher degree.
unfoldable pub precedes : Bool → Chart → Bounds → ℕ → ℕ → Bool
precedes true C B w v = ltb (B.high v) (B.high w) || (eqb (B.high v) (B.high w) && ltb (C.degree v) (C.degree w))
precedes false C B w v = ltb (B.low w) (B.low v) || (eqb (B.low v) (B.low w) && ltb (C.degree v) (C.degree w))

unfoldable pub first_of_two : (ℕ → ℕ → Bool) → ℕ → Option ℕ → ℕ
first_of_two wins v none = v
first_of_two wins v (some w) = cond (wins w v) w v

unfoldable pub pick_by : (ℕ → ℕ → Bool) → List ℕ → Option ℕ
unfolding first_of_two
pick_by wins [] = none
pick_by wins (v ∷ vs) = some (first_of_two wins v (pick_by wins vs))

unfoldable pub remaining_depots : Chart → Bounds → List ℕ
unfolding filterb
remaining_depots C B = filterb (λ v. not (B.has_left v)) C.depots

-- none where the chain's bounds have met, or where no depot remains
unfoldable pub next_reference : Bool → Chart → Bounds → Option ℕ
unfolding chain_low chain_high pick_by precedes remaining_depots
next_reference turn C B = cond (eqb (chain_low C B) (chain_high C B)) none (pick_by (precedes turn C B) (remaining_depots C B))

-- ---- the whole method

unfoldable pub or_settled : Option ℕ → Bounds → (ℕ → Bounds) → Bounds
or_settled none B f = B
or_settled (some r) B f = f r

-- at most k references; as many as there are depots are enough (`leiden_ended`)
unfoldable pub refers : Chart → ℕ → Bool → Bounds → Bounds
unfolding next_reference refer or_settled
refers C zero turn B = B
refers C (suc k) turn B = or_settled (next_reference turn C B) B (λ r. refers C k (not turn) (refer C r B))

unfoldable pub leiden : Chart → Bounds
unfolding refers unbounded
leiden C = refers C (length C.depots) true unbounded

-- ---- what is proved of it

-- which of two bounds is the better in a turn: a is no better than b
abbrev pub NoBetter : Bool → ℕ → ℕ → Type 0
NoBetter true a b = a ≤ b
NoBetter false a b = b ≤ a

-- the bounds that a turn goes by
abbrev pub bounds_of : Bool → Bounds → ℕ → ℕ
bounds_of true B = B.high
bounds_of false B = B.low

-- The rule of the pick, in words (`next_is`): r remains, and of the depots that remain none has a better bound, none with as good a bound a higher
-- degree, and none with as good a bound and as high a degree a lower code. The code of a listed depot is its key: itself, or its row's code.
pub record IsNext (key : ℕ → ℕ) (turn : Bool) (C : Chart) (B : Bounds) (r : ℕ) : Type 0 where
  pub depot : Memᴰ r C.depots
  pub stays : B.has_left r ≡ false
  pub bound : (w : ℕ) → Memᴰ w C.depots → B.has_left w ≡ false → NoBetter turn (bounds_of turn B w) (bounds_of turn B r)
  pub degree : (w : ℕ) → Memᴰ w C.depots → B.has_left w ≡ false → bounds_of turn B w ≡ bounds_of turn B r → C.degree w ≤ C.degree r
  pub code : (w : ℕ) → Memᴰ w C.depots → B.has_left w ≡ false → bounds_of turn B w ≡ bounds_of turn B r → C.degree w ≡ C.degree r → key r ≤ key w

-- The whole method by its rules: from the bounds B, with the turn that comes, it ends with the bounds X. It stops once the chain's bounds meet or no depot
-- remains; else it takes the reference that the rule of the pick names. `leiden_rules`: it ends with `leiden`; `leiden_only`: with nothing else, so
-- that the references, and how many they are, are settled by these rules alone.
pub data Settles (key : ℕ → ℕ) (C : Chart) : Bool → Bounds → Bounds → Type 0 where
  met : {turn : Bool} {B : Bounds} → chain_low C B ≡ chain_high C B → Settles key C turn B B
  none_remains : {turn : Bool} {B : Bounds} → ((v : ℕ) → Memᴰ v C.depots → B.has_left v ≡ true) → Settles key C turn B B
  takes : {turn : Bool} {B X : Bounds} (r : ℕ) → (chain_low C B ≡ chain_high C B → ⊥) → IsNext key turn C B r → Settles key C (not turn) (refer C r B) X
      → Settles key C turn B X

-- WHAT IS PROVED OF IT (`leiden_correct`): the chain is the diameter and the first engine's; the chain's bounds have met, so that the method ended by
-- its own rule; its references are open depots, none twice, and so no more than there are depots.
pub record IsLeiden (G : Network) (B : Bounds) : Type 0 where
  pub chain : IsDiameter G (delivers G) (chain_low (chart G) B)
  pub same : chain_low (chart G) B ≡ (reckon (chart G)).candidate
  pub met : chain_low (chart G) B ≡ chain_high (chart G) B
  pub inside : (v : ℕ) → T (memb v B.references) → T (G.is_open v)
  pub distinct : length B.references ≡ countb (λ v. memb v B.references) (vertices G)
  pub few : length B.references ≤ length (vertices G)
