-- THE BRANCH PROFILE IS CORRECT, by the published words: specs/Branch.antt has what is said. Assumes nothing.
use mathlib.Core.Path.{◌≡◌, refl, sym, ap, ◌∙◌, subst}
use mathlib.Core.Logic.{◌⊎◌, inl, inr, ◌↔◌}
use mathlib.Core.Bool.{Bool, true, false, cond, not}
use mathlib.Core.List.Memᴰ
use mathlib.Core.List.{List, [], ◌∷◌, Memᴰ}
use mathlib.Core.Option.{Option, none, some}
use Prim.Native.Nat.{ℕ, suc, ◌+◌, ◌≤◌, ◌<◌, max, min}
use native.Mathlib.Nat.{le_trans, le_of_eq, lt_irrefl, le_antisymm}
use native.Mathlib.Omega.{arith}
use lib.Dec.{T, eqb, ltb}
use lib.ListN.{length}
use borrow.Author.Tests.{ltb-true, ltb-false, eqb-true, eq-eqb, not-false}
use Rattle.lists.specs.Lists.{countb, sum_of, first_of}
use Rattle.lists.specs.Rising.{rises_by}
use Rattle.lists.specs.Conditions.{FirstHolds}
use Rattle.std.proofs.lemmas.Bool.{cases_lt, cases_eq}
use Rattle.lists.proofs.Tests.{not→false, t→true, true→t, clash}
use Rattle.lists.proofs.Members.{in_memb, memb_in, any_intro, any_elim}
use Rattle.lists.proofs.Conditions.{Decides, decides_iff, decides_not, Tells, tells_first}
use Rattle.lists.proofs.Rising.{rises_tail, rises_first}
use Rattle.lists.proofs.Counts.{count_none}
use Rattle.graph.specs.Network.{Network, IsSound, IsDist, delivers, HasNoYard, IsDiameter, IsFarthest}
use Rattle.graph.specs.Distance.{vertices, dist}
use Rattle.graph.specs.Chart.{chart, ecc, diameter}
use Rattle.graph.specs.Correct.{IsNet}
use Rattle.graph.specs.Branch.{link_count, looped, has_yard, looped_map, yards_open, branch_faults, IsLooped, HasYard, branch_conditions, lowest_of, lowest_farthest, Branch, branch, IsLowestFarthest, IsBranch}
use Rattle.graph.proofs.Distances.{vertices_in, vertices_out}
use Rattle.graph.proofs.Refusals.{AreListed}
use Rattle.graph.proofs.Delivers.{delivers_open, delivers_of}
use Rattle.graph.proofs.Metric.{IsMetric, ecc_ge, ecc_le, ecc_at}
use Rattle.graph.proofs.Right.{greatest_ge, greatest_le}
use Rattle.graph.proofs.Walks.{dist_unique, dist_self, dist-sym}
use Rattle.graph.proofs.Charts.{greatest_unique, chart_d, chart-dist, chart-only, chart_metric, chart-ecc, depot_in, depot_out}
use Rattle.graph.proofs.Theorems.{diameter_is, true_chain, reckoning_correct}
use Rattle.graph.specs.Rounds.{reckon}
use Rattle.lists.proofs.Sums.{count-not}
use Rattle.graph.proofs.Trees.{links_twice, stands_once, farthest_end}

-- ---- the lowest that passes

lowest_passes : (p : ℕ → Bool) (xs : List ℕ) {x : ℕ} → Memᴰ x xs → p x ≡ true → Memᴰ (lowest_of p xs) xs × (p (lowest_of p xs) ≡ true)
unfolding lowest_of
lowest_passes p [] m e = absurd (Memᴰ.not-nil m)
lowest_passes p (y ∷ ys) {x} m e = go (p y) refl (Memᴰ.cases_cons m) (λ n. lowest_passes p ys n e)
  where
    go : (b : Bool) → p y ≡ b → (x ≡ y) ⊎ Memᴰ x ys → (Memᴰ x ys → Memᴰ (lowest_of p ys) ys × (p (lowest_of p ys) ≡ true))
        → Memᴰ (cond b y (lowest_of p ys)) (y ∷ ys) × (p (cond b y (lowest_of p ys)) ≡ true)
    go true q o ih = (Memᴰ.head refl, q)
    go false q (inl h) ih = absurd (clash (ap p (sym h) ∙ e) q)
    go false q (inr n) ih = let r = ih n in (Memᴰ.tail r.0, r.1)

lowest_rises : (key : ℕ → ℕ) (p : ℕ → Bool) (xs : List ℕ) → rises_by key xs ≡ true → (w : ℕ) → Memᴰ w xs → p w ≡ true → key (lowest_of p xs) ≤ key w
unfolding lowest_of
lowest_rises key p [] h w m pw = absurd (Memᴰ.not-nil m)
lowest_rises key p (y ∷ ys) h w m pw = go (p y) refl (Memᴰ.cases_cons m) (λ n. lowest_rises key p ys (rises_tail key y ys h) w n pw)
  where
    go : (b : Bool) → p y ≡ b → (w ≡ y) ⊎ Memᴰ w ys → (Memᴰ w ys → key (lowest_of p ys) ≤ key w) → key (cond b y (lowest_of p ys)) ≤ key w
    go true q o ih = rises_first key y ys h w (in_memb w (y ∷ ys) m)
    go false q (inl e) ih = absurd (clash (ap p (sym e) ∙ pw) q)
    go false q (inr n) ih = ih n

module _ (key : ℕ → ℕ) (G : Network) (net : IsNet G) (up : rises_by key (vertices G) ≡ true) (without : HasNoYard G) where
  lowest_le : (p : ℕ → Bool) (w : ℕ) → T (G.is_open w) → p w ≡ true → key (lowest_of p (chart G).depots) ≤ key w
  unfolding chart
  lowest_le p w ow pw = lowest_rises key p (vertices G) up w (vertices_in G net.sound w ow) pw

  -- every open depot delivers
  all_deliver : (v : ℕ) → T (G.is_open v) → T (delivers G v)
  all_deliver v o = delivers_of G v o (without v)

  destination : (v : ℕ) → T (G.is_open v) → (chart G).is_destination v ≡ true
  unfolding chart
  destination v o = t→true (delivers G v) (all_deliver v o)

  -- from every depot some depot is farthest, it itself where the eccentricity is 0
  some-farthest : (u : ℕ) → T (G.is_open u) → (v : ℕ) × T (G.is_open v) × ((chart G).distance u v ≡ ecc (chart G) u)
  unfolding chart
  some-farthest u ou = go (ecc_at (chart G) (chart_metric G net) u)
    where
      go : (ecc (chart G) u ≡ 0) ⊎ ((v : ℕ) × ((chart G).is_destination v ≡ true) × ((chart G).distance u v ≡ ecc (chart G) u)) → (v : ℕ) × T (G.is_open v) × ((chart G).distance u v ≡ ecc (chart G) u)
      go (inl z) = (u, ou, (chart_metric G net).self u (depot_in G net u ou) ∙ sym z)
      go (inr x) = (x.0, delivers_open G x.0 (true→t x.1), x.2)

  pub lowest_farthest_lem : (u : ℕ) → T (G.is_open u) → IsLowestFarthest key G u (lowest_farthest (chart G) u)
  unfolding lowest_farthest
  lowest_farthest_lem u ou =
      let p : ℕ → Bool = λ v. eqb ((chart G).distance u v) (ecc (chart G) u) in
      let x = some-farthest u ou in
      let r = lowest_passes p (chart G).depots (depot_in G net x.0 x.1) (eq-eqb ((chart G).distance u x.0) (ecc (chart G) u) x.2) in
      let v = lowest_of p (chart G).depots in
      let ov = depot_out G net r.0 in
      record {
        is_open = ov;
        ecc = ecc (chart G) u;
        is_ecc = chart-ecc G net u ou;
        is_dist = subst (λ (n : ℕ). IsDist G u v n) (eqb-true ((chart G).distance u v) (ecc (chart G) u) r.1) (chart-dist G net u v ou ov);
        is_lowest = λ w ow q. lowest_le p w ow (eq-eqb ((chart G).distance u w) (ecc (chart G) u) (chart-only G net u w (ecc (chart G) u) ou ow q));
      }

  module _ (tree : suc (link_count G) ≡ length (vertices G)) where
    abbrev b : Branch
    b = branch (chart G)

    first_is : b.first_start ≡ lowest_of (λ v. true) (chart G).depots
    unfolding branch
    first_is = refl

    second_is : b.second_start ≡ lowest_farthest (chart G) b.first_start
    unfolding branch
    second_is = refl

    chain_is : b.chain ≡ ecc (chart G) b.second_start
    unfolding branch
    chain_is = refl

    pair_is : b.pair ≡ cond (ltb 1 (length (vertices G))) (some (b.second_start, lowest_farthest (chart G) b.second_start)) none
    unfolding branch chart
    pair_is = refl

    -- a tree has a depot
    some_open : (v : ℕ) × T (G.is_open v)
    some_open = go (vertices G) (λ v m. vertices_out G net.sound m) tree
      where
        go : (vs : List ℕ) → ((v : ℕ) → Memᴰ v vs → T (G.is_open v)) → suc (link_count G) ≡ length vs → (v : ℕ) × T (G.is_open v)
        go [] f e = absurd (lt_irrefl 0 (omega arith))
        go (v ∷ vs) f e = (v, f v (Memᴰ.head refl))

    first_open_lem : T (G.is_open b.first_start)
    first_open_lem = let x = some_open in subst (λ (v : ℕ). T (G.is_open v)) (sym first_is) (depot_out G net (lowest_passes (λ v. true) (chart G).depots (depot_in G net x.0 x.1) refl).0)

    second_far : IsLowestFarthest key G b.first_start b.second_start
    second_far = subst (λ (v : ℕ). IsLowestFarthest key G b.first_start v) (sym second_is) (lowest_farthest_lem b.first_start first_open_lem)

    second_open : T (G.is_open b.second_start)
    second_open = second_far.is_open

    -- the second start is farthest from the first
    far : (w : ℕ) → T (G.is_open w) → dist G b.first_start w ≤ dist G b.first_start b.second_start
    far w ow =
        let p = chart-dist G net b.first_start w first_open_lem ow in
        let a : (chart G).distance b.first_start w ≤ second_far.ecc = second_far.is_ecc.upper ((chart G).distance b.first_start w) (w, all_deliver w ow, p) in
        let c : (chart G).distance b.first_start b.second_start ≡ second_far.ecc = chart-only G net b.first_start b.second_start second_far.ecc first_open_lem second_open second_far.is_dist in
        let e : (chart G).distance b.first_start w ≡ dist G b.first_start w = chart_d G b.first_start w in
        let f : (chart G).distance b.first_start b.second_start ≡ dist G b.first_start b.second_start = chart_d G b.first_start b.second_start in
        omega arith

    -- THE SECOND ECCENTRICITY IS THE DIAMETER
    pub branch_chain : b.chain ≡ diameter G
    unfolding diameter chart
    branch_chain = chain_is ∙ le_antisymm (greatest_ge (chart G) M b.second_start (destination b.second_start second_open)) (greatest_le (chart G) M (ecc (chart G) b.second_start) every)
      where
        M : IsMetric (chart G)
        M = chart_metric G net

        near : (w : ℕ) → T (G.is_open w) → dist G b.second_start w ≤ ecc (chart G) b.second_start
        near w ow = ecc_ge (chart G) M b.second_start w (destination w ow)

        every : (v : ℕ) → delivers G v ≡ true → ecc (chart G) v ≤ ecc (chart G) b.second_start
        every v t =
            ecc_le (chart G) M v (ecc (chart G) b.second_start)
            (λ w tw m.
            let f : dist G v w ≤ max (dist G b.second_start w) (dist G b.second_start v) = farthest_end G net b.first_start first_open_lem tree b.second_start second_open far v w (delivers_open G v (true→t t)) (delivers_open G w (true→t tw)) in
            let p : dist G b.second_start w ≤ ecc (chart G) b.second_start = near w (delivers_open G w (true→t tw)) in
            let q : dist G b.second_start v ≤ ecc (chart G) b.second_start = near v (delivers_open G v (true→t t)) in
            omega arith)

    pub branch-diameter : IsDiameter G (delivers G) b.chain
    branch-diameter = subst (λ (n : ℕ). IsDiameter G (delivers G) n) (sym branch_chain) (diameter_is G net)

    -- ---- the pair

    -- among two depots or more the second start is at distance 0 of itself alone
    positive : 1 < length (vertices G) → 0 < b.chain
    positive two = go (cases_lt 0 b.chain)
      where
        alone : b.chain ≤ 0 → (v : ℕ) → Memᴰ v (vertices G) → not (eqb v b.second_start) ≡ false
        alone z v m =
            let ov = vertices_out G net.sound m in
            let e : b.chain ≡ ecc (chart G) b.second_start = chain_is in
            let p = chart-dist G net b.second_start v second_open ov in
            let l : (chart G).distance b.second_start v ≤ ecc (chart G) b.second_start = (chart-ecc G net b.second_start second_open).upper ((chart G).distance b.second_start v) (v, all_deliver v ov, p) in
            let q : b.second_start ≡ v = (chart_metric G net).apart b.second_start v (depot_in G net b.second_start second_open) (depot_in G net v ov) (omega arith) in
            ap not (eq-eqb v b.second_start (sym q))

        go : (0 < b.chain) ⊎ (b.chain ≤ 0) → 0 < b.chain
        go (inl l) = l
        go (inr z) =
            let n : countb (λ v. not (eqb v b.second_start)) (vertices G) ≡ 0 = count_none (λ v. not (eqb v b.second_start)) (vertices G) (alone z) in
            let o : countb (λ v. eqb v b.second_start) (vertices G) ≡ 1 = stands_once G net.sound b.second_start second_open in
            let s : countb (λ v. not (eqb v b.second_start)) (vertices G) + countb (λ v. eqb v b.second_start) (vertices G) ≡ length (vertices G) = count-not (λ v. eqb v b.second_start) (vertices G) in
            absurd (lt_irrefl 1 (omega arith))

    -- the second start and a depot farthest from it are a farthest pair
    farthest_pair : 1 < length (vertices G) → (v : ℕ) → IsLowestFarthest key G b.second_start v → IsFarthest G (delivers G) (min b.second_start v) (max b.second_start v)
    farthest_pair two v f = go (cases_lt a v)
      where
        a : ℕ
        a = b.second_start

        at : IsDist G a v b.chain
        at = subst (λ (n : ℕ). IsDist G a v n) (greatest_unique f.is_ecc (chart-ecc G net a second_open) ∙ sym chain_is) f.is_dist

        apart : a ≡ v → ⊥
        apart e =
            let z : b.chain ≡ 0 = dist_unique (subst (λ (w : ℕ). IsDist G a w b.chain) (sym e) at) dist_self in
            let p : 0 < b.chain = positive two in
            lt_irrefl 0 (omega arith)

        ordered : (x y : ℕ) → x < y → T (G.is_open x) → T (G.is_open y) → IsDist G x y b.chain → IsFarthest G (delivers G) x y
        ordered x y l ox oy d = record { before = l; first = all_deliver x ox; second = all_deliver y oy; diameter = b.chain; is_diameter = branch-diameter; is_dist = d }

        to : {x y : ℕ} → x ≡ min a v → y ≡ max a v → IsFarthest G (delivers G) x y → IsFarthest G (delivers G) (min a v) (max a v)
        to {x} {y} p q r = subst (λ (n : ℕ). IsFarthest G (delivers G) n (max a v)) p (subst (λ (n : ℕ). IsFarthest G (delivers G) x n) q r)

        go : (a < v) ⊎ (v ≤ a) → IsFarthest G (delivers G) (min a v) (max a v)
        go (inl l) = to (omega arith) (omega arith) (ordered a v l second_open f.is_open at)
        go (inr l) = to (omega arith) (omega arith) (ordered v a (strict (cases_eq a v)) f.is_open second_open (dist-sym net.sound at))
          where
            strict : (a ≡ v) ⊎ (a ≡ v → ⊥) → v < a
            strict (inl e) = absurd (apart e)
            strict (inr n) = omega arith

    -- the two answers of the pair
    shown : (t : Bool) → ltb 1 (length (vertices G)) ≡ t → (u v : ℕ) → cond {A = Option (ℕ × ℕ)} t (some (b.second_start, lowest_farthest (chart G) b.second_start)) none ≡ some (u, v)
        → (1 < length (vertices G)) × (b.second_start ≡ u) × (lowest_farthest (chart G) b.second_start ≡ v)
    shown true t u v q =
        let e : ◌≡◌ {A = ℕ × ℕ} (b.second_start, lowest_farthest (chart G) b.second_start) (u, v) = cc in
        (ltb-true 1 (length (vertices G)) t, ap (λ (x : ℕ × ℕ). x.0) e, ap (λ (x : ℕ × ℕ). x.1) e)
    shown false t u v q = let z : ◌≡◌ {A = ℕ} 0 1 = cc in absurd (lt_irrefl 0 (omega arith))

    unshown : (t : Bool) → ltb 1 (length (vertices G)) ≡ t → cond {A = Option (ℕ × ℕ)} t (some (b.second_start, lowest_farthest (chart G) b.second_start)) none ≡ none → length (vertices G) ≡ 1
    unshown true t q = let z : ◌≡◌ {A = ℕ} 0 1 = cc in absurd (lt_irrefl 0 (omega arith))
    unshown false t q = let l : length (vertices G) ≤ 1 = ltb-false 1 (length (vertices G)) t in omega arith

    -- THE BRANCH PROFILE IS CORRECT
    pub branch_correct : IsBranch key G (branch (chart G))
    branch_correct = record {
      first_open = first_open_lem;
      first_lowest = λ w ow. le_trans (le_of_eq (ap key first_is)) (lowest_le (λ v. true) w ow refl);
      second_farthest = second_far;
      chain = branch-diameter;
      same = branch_chain ∙ sym (true_chain G net (reckon (chart G)).candidate (reckon (chart G)).pairs (reckoning_correct G net).figures);
      pair = λ u v q. pair_of u v (shown (ltb 1 (length (vertices G))) refl u v (sym pair_is ∙ q));
      alone = λ q. unshown (ltb 1 (length (vertices G))) refl (sym pair_is ∙ q);
    }
      where
        pair_of : (u v : ℕ) → (1 < length (vertices G)) × (b.second_start ≡ u) × (lowest_farthest (chart G) b.second_start ≡ v) → (u ≡ b.second_start) × IsLowestFarthest key G u v × IsFarthest G (delivers G) (min u v) (max u v)
        pair_of u v x =
            let f : IsLowestFarthest key G b.second_start v = subst (λ (w : ℕ). IsLowestFarthest key G b.second_start w) x.2 (lowest_farthest_lem b.second_start second_open) in (
              sym x.1,
              subst (λ (w : ℕ). IsLowestFarthest key G w v) x.1 f,
              subst (λ (w : ℕ). IsFarthest G (delivers G) (min w v) (max w v)) x.1 (farthest_pair x.0 v f),
            )

-- ---- refusals

decides_looped : (G : Network) → Decides (looped G) (IsLooped G)
unfolding looped
decides_looped G = decides_not (eqb (suc (link_count G)) (length (vertices G))) (decides_iff (eqb-true (suc (link_count G)) (length (vertices G)), eq-eqb (suc (link_count G)) (length (vertices G))))

decides_yard : (G : Network) → AreListed G → Decides (has_yard G) (HasYard G)
unfolding has_yard
decides_yard G listed = record {
  holds = λ e. let x = any_elim G.is_yard (vertices G) e in (x.0, true→t (listed x.0 ∙ in_memb x.0 (vertices G) x.1), true→t x.2);
  fails = λ e x. clash (any_intro G.is_yard (vertices G) (memb_in x.0 (vertices G) (sym (listed x.0) ∙ t→true (G.is_open x.0) x.1)) (t→true (G.is_yard x.0) x.2)) e;
}

pub branch_tells : (G : Network) → AreListed G → Tells (branch_faults G) (branch_conditions G)
unfolding branch_faults
branch_tells G listed = (refl, decides_looped G, λ f18. (refl, decides_yard G listed, λ f19. tt))

pub branch_refusals : (G : Network) → IsSound G → (k : ℕ) → (first_of (branch_faults G) ≡ k) ↔ FirstHolds (branch_conditions G) k
branch_refusals G sound k = tells_first (branch_faults G) (branch_conditions G) (branch_tells G sound.listed) k

-- not refused: the links are one fewer than the depots
pub not-looped : (G : Network) → looped G ≡ false → suc (link_count G) ≡ length (vertices G)
unfolding looped
not-looped G h = eqb-true (suc (link_count G)) (length (vertices G)) (not-false (eqb (suc (link_count G)) (length (vertices G))) h)

-- and there is no yard
pub no_yard_of : (G : Network) → IsSound G → has_yard G ≡ false → HasNoYard G
no_yard_of G sound h v = not→false (G.is_yard v) (λ t. (decides_yard G sound.listed).fails h (v, sound.yards v t, t))

-- A PROFILE THAT IS NOT REFUSED IS CORRECT
pub branch_accepted : (key : ℕ → ℕ) (G : Network) → IsNet G → rises_by key (vertices G) ≡ true → first_of (branch_faults G) ≡ 0 → IsBranch key G (branch (chart G))
unfolding branch_faults first_of
branch_accepted key G net up = go (looped G) refl (has_yard G) refl
  where
    go : (l : Bool) → looped G ≡ l → (y : Bool) → has_yard G ≡ y → cond l looped_map (cond y yards_open 0) ≡ 0 → IsBranch key G (branch (chart G))
    go true p y q z = absurd (lt_irrefl 0 (omega arith))
    go false p true q z = absurd (lt_irrefl 0 (omega arith))
    go false p false q z = branch_correct key G net up (no_yard_of G net.sound q) (not-looped G p)

-- the same by the ones in all rows: each link is there twice
pub tree_degrees : (G : Network) → IsSound G → (suc (link_count G) ≡ length (vertices G)) ↔ (sum_of (λ u. countb (G.linked u) (vertices G)) (vertices G) + 2 ≡ length (vertices G) + length (vertices G))
tree_degrees G sound = (λ e. omega (arith, links_twice G sound), λ e. omega (arith, links_twice G sound))
