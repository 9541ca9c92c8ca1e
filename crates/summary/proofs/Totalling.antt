-- A loop that goes through the destinations in rising code, searches from each, adds its tally and counts its eccentricity. Assumes nothing.
use mathlib.Core.Path.{◌≡◌, sym, ap, ◌∙◌}
use mathlib.Core.Logic.{◌⊎◌, inl, inr, ◌≢◌}
use mathlib.Core.List.{List, [], ◌∷◌, Memᴰ}
use Prim.Native.Nat.{ℕ, ◌+◌, ◌-◌, ◌*◌, ◌≤◌, ◌<◌}
use native.Mathlib.Nat.{le_trans, mul-le-mul_left}
use native.Mathlib.Omega.{arith}
use lib.Dec.{ltb}
use lib.ListN.{length, get_or, set}
use lib.Seq.{get_or-set_same, get_or-set_other}
use Rattle.std.proofs.lemmas.Bool.{cases_eq}
use Rattle.lists.specs.Lists.{range, filterb, sum_of, max_of, mapl, overwrite}
use Rattle.lists.proofs.Members.{filter_out, length-filter}
use Rattle.lists.proofs.Counts.{max_le_of}
use Rattle.graph.specs.Network.{Network}
use Rattle.graph.specs.Distance.{vertices, dist}
use Rattle.graph.proofs.Summary.{sum_alike, sum_most}
use Rattle.map.specs.Memory.{network_of, table_network}
use Rattle.map.specs.Room.{Tables, tables}
use Rattle.map.proofs.Theorems.{network_most}
use Rattle.layers.specs.Layers.{searched, search_leaves, search_table}
use Rattle.search.proofs.Reaches.{target_below, search_leaves_lem, hop_is}
use Rattle.summary.specs.Steps.{tally_of, count_one, count_all, search_all, Totalled, totalled, total_by, total_over, AreNear}
use Rattle.summary.specs.declared.Tally.{Tally}

-- ---- one destination: what its search left

module _ (W : ℕ) (targets links : List ℕ) (u : ℕ) where
  abbrev N : Network
  N = table_network W links

  abbrev vs : List ℕ
  vs = vertices (network_of W targets [])

  -- its hops are the distances over the link table
  module _ (B : Tables) {d ecc : ℕ} {hops even odd : List ℕ}
      (is : searched d (tables hops even odd) ≡ search_table W links u B) (far : ecc ≡ max_of (dist (table_network W links) u) (vertices (network_of W targets []))) where
    pub tables_left : tables hops even odd ≡ search_leaves W (table_network W links) u B
    tables_left = search_leaves_lem W targets links u B is

    pub count_is : (l : List ℕ) → set l ecc (get_or l ecc 0 + 1) ≡ count_one (max_of (dist (table_network W links) u) (vertices (network_of W targets []))) l
    unfolding count_one
    count_is l = ap (λ (e : ℕ). set l e (get_or l e 0 + 1)) far

    pub tally_is : {sum pairs : ℕ}
        → (sum ≡ sum_of (λ v. get_or hops v 0) (filterb (λ v. ltb u v) (vertices (network_of W targets []))))
        × (pairs ≡ length (filterb (λ v. ltb u v) (vertices (network_of W targets []))))
        → record { sum = sum; pairs = pairs; ecc = ecc } ≡ tally_of (dist (table_network W links) u) u (vertices (network_of W targets []))
    unfolding tally_of
    tally_is {sum} {pairs} later =
        let s : sum ≡ sum_of (dist N u) (filterb (λ v. ltb u v) vs) =
        later.0
        ∙ sum_alike (filterb (λ v. ltb u v) vs) (λ v. get_or hops v 0) (dist N u)
        (λ v m. hop_is W targets links u B is v (target_below W targets links u v (filter_out (λ v. ltb u v) vs m).0)) in
        rw (s, later.1, far)

-- a count grows by at most one
count_most : (e i : ℕ) (l : List ℕ) → e < length l → get_or (count_one e l) i 0 ≤ get_or l i 0 + 1
unfolding count_one
count_most e i l h = go (cases_eq i e)
  where
    go : (i ≡ e) ⊎ (i ≢ e) → get_or (set l e (get_or l e 0 + 1)) i 0 ≤ get_or l i 0 + 1
    go (inl q) =
        let a : get_or (set l e (get_or l e 0 + 1)) i 0 ≡ get_or (set l e (get_or l e 0 + 1)) e 0 = ap (λ (k : ℕ). get_or (set l e (get_or l e 0 + 1)) k 0) q in
        let b : get_or l i 0 ≡ get_or l e 0 = ap (λ (k : ℕ). get_or l k 0) q in
        omega (arith, a, b, get_or-set_same l e (get_or l e 0 + 1) 0 h)
    go (inr n) = omega (arith, get_or-set_other l e i (get_or l e 0 + 1) 0 n)

-- ---- all destinations

module _ (tallied : ℕ → Tally) (W : ℕ) (N G : Network) (B₀ : Tables) (l₀ : List ℕ) where
  -- The loop's invariant: what is done, with the destinations that are left, gives what all give; and there is room in the counts for these.
  pub record IsTotalling (s p : ℕ) (B : Tables) (l left : List ℕ) : Type 0 where
    pub sum : sum_of (λ u. (tallied u).sum) (vertices G) ≡ s + sum_of (λ u. (tallied u).sum) left
    pub pairs : sum_of (λ u. (tallied u).pairs) (vertices G) ≡ p + sum_of (λ u. (tallied u).pairs) left
    pub lent : search_all W N (vertices G) B₀ ≡ search_all W N left B
    pub counts : count_all (λ u. (tallied u).ecc) (vertices G) l₀ ≡ count_all (λ u. (tallied u).ecc) left l
    pub room : (e : ℕ) → e < 64 * W → get_or l e 0 + length left ≤ 64 * W

  pub totalling_none : {left : List ℕ} → left ≡ vertices G → length (vertices G) ≤ 64 * W → ((e : ℕ) → e < 64 * W → get_or l₀ e 0 ≡ 0)
      → IsTotalling 0 0 B₀ l₀ left
  totalling_none {left} all few zeros =
      let a = ap (sum_of (λ u. (tallied u).sum)) all in
      let b = ap (sum_of (λ u. (tallied u).pairs)) all in
      record {
        sum = omega (arith, a);
        pairs = omega (arith, b);
        lent = ap (λ (us : List ℕ). search_all W N us B₀) (sym all);
        counts = ap (λ (us : List ℕ). count_all (λ u. (tallied u).ecc) us l₀) (sym all);
        room = λ e h. omega (arith, few, zeros e h, ap length all);
      }

  module _ {sum pairs : ℕ} {B : Tables} {l left : List ℕ} (w : IsTotalling sum pairs B l left) where
    -- no destination is left
    pub totalling_all : left ≡ [] → totalled sum pairs B l ≡ total_by tallied W N (vertices G) B₀ l₀
    unfolding total_by search_all count_all sum_of
    totalling_all z =
        let a = ap (sum_of (λ u. (tallied u).sum)) z in
        let b = ap (sum_of (λ u. (tallied u).pairs)) z in
        let s : sum_of (λ u. (tallied u).sum) (vertices G) ≡ sum = omega (arith, w.sum, a) in
        let p : sum_of (λ u. (tallied u).pairs) (vertices G) ≡ pairs = omega (arith, w.pairs, b) in
        let x : search_all W N (vertices G) B₀ ≡ B = w.lent ∙ ap (λ (us : List ℕ). search_all W N us B) z in
        let y : count_all (λ u. (tallied u).ecc) (vertices G) l₀ ≡ l = w.counts ∙ ap (λ (us : List ℕ). count_all (λ u. (tallied u).ecc) us l) z in
        rw (s, p, x, y)

    module _ {u : ℕ} {rest : List ℕ} (first : left ≡ u ∷ rest) where
      pub totalling_sum : sum + (tallied u).sum ≤ sum_of (λ u. (tallied u).sum) (vertices G)
      unfolding sum_of
      totalling_sum = omega (arith, w.sum, ap (sum_of (λ u. (tallied u).sum)) first)

      pub totalling_pairs : pairs + (tallied u).pairs ≤ sum_of (λ u. (tallied u).pairs) (vertices G)
      unfolding sum_of
      totalling_pairs = omega (arith, w.pairs, ap (sum_of (λ u. (tallied u).pairs)) first)

      -- there is room for one more
      pub totalling_room : (e : ℕ) → e < 64 * W → get_or l e 0 ≤ 64 * W
      totalling_room e h = omega (arith, w.room e h)

      -- one destination more
      pub totalling_more : {t : Tally} {B' : Tables} {l' : List ℕ} → (tallied u).ecc < length l → t ≡ tallied u → B' ≡ search_leaves W N u B
          → l' ≡ count_one (tallied u).ecc l → IsTotalling (sum + t.sum) (pairs + t.pairs) B' l' rest
      unfolding sum_of search_all count_all
      totalling_more {t} {B'} {l'} h e x y =
          let s : t.sum ≡ (tallied u).sum = ap (λ (t : Tally). t.sum) e in
          let p : t.pairs ≡ (tallied u).pairs = ap (λ (t : Tally). t.pairs) e in
          record {
            sum = omega (arith, s, w.sum, ap (sum_of (λ u. (tallied u).sum)) first);
            pairs = omega (arith, p, w.pairs, ap (sum_of (λ u. (tallied u).pairs)) first);
            lent = w.lent ∙ ap (λ (us : List ℕ). search_all W N us B) first ∙ ap (search_all W N rest) (sym x);
            counts =
                w.counts ∙ ap (λ (us : List ℕ). count_all (λ u. (tallied u).ecc) us l) first
                ∙ ap (count_all (λ u. (tallied u).ecc) rest) (sym y);
            room = λ i g.
                let a : get_or l' i 0 ≡ get_or (count_one (tallied u).ecc l) i 0 = ap (λ (l : List ℕ). get_or l i 0) y in
                omega (arith, a, count_most (tallied u).ecc i l h, w.room i g, ap length first);
          }

-- over the link table, the counts beginning with 0
pub total_all : (W : ℕ) (targets links : List ℕ) (B : Tables) (l : List ℕ) {l₀ : List ℕ} {x : Totalled} → l₀ ≡ overwrite (mapl (λ e. 0) (range (64 * W))) l
    → x ≡ total_by (λ u. tally_of (dist (table_network W links) u) u (vertices (network_of W targets []))) W (table_network W links) (vertices (network_of W targets [])) B l₀
    → x ≡ total_over W targets links B l
unfolding total_over
total_all W targets links B l zeros e = rw zeros at e

-- ---- nothing is too large

module _ (W : ℕ) (targets links : List ℕ) (near : AreNear W targets links) where
  abbrev M : Network
  M = table_network W links

  abbrev us : List ℕ
  us = vertices (network_of W targets [])

  few : length us ≤ 64 * W
  few = network_most W targets []

  pub ecc_small : (u : ℕ) → Memᴰ u (vertices (network_of W targets [])) → max_of (dist (table_network W links) u) (vertices (network_of W targets [])) < 64 * W
  ecc_small u m =
      let a : max_of (dist M u) us ≤ 64 * W - 1 = max_le_of (dist M u) us (64 * W - 1) (λ v k. omega (arith, near u v m k)) in
      omega (arith, near u u m m)

  pub sum_small : sum_of (λ u. (tally_of (dist (table_network W links) u) u (vertices (network_of W targets []))).sum) (vertices (network_of W targets []))
      ≤ 64 * W * (64 * W) * (64 * W)
  unfolding tally_of
  sum_small =
      le_trans (sum_most (λ u. sum_of (dist M u) (filterb (λ v. ltb u v) us)) (64 * W * (64 * W)) us row) (mul-le-mul_left (64 * W * (64 * W)) few)
    where
      row : (u : ℕ) → Memᴰ u us → sum_of (dist M u) (filterb (λ v. ltb u v) us) ≤ 64 * W * (64 * W)
      row u m =
          le_trans (sum_most (dist M u) (64 * W) (filterb (λ v. ltb u v) us) (λ v k. omega (arith, near u v m (filter_out (λ v. ltb u v) us k).0)))
          (mul-le-mul_left (64 * W) (le_trans (length-filter (λ v. ltb u v) us) few))

  pub pairs_small : sum_of (λ u. (tally_of (dist (table_network W links) u) u (vertices (network_of W targets []))).pairs) (vertices (network_of W targets []))
      ≤ 64 * W * (64 * W)
  unfolding tally_of
  pairs_small =
      le_trans (sum_most (λ u. length (filterb (λ v. ltb u v) us)) (64 * W) us (λ u m. le_trans (length-filter (λ v. ltb u v) us) few)) (mul-le-mul_left (64 * W) few)
