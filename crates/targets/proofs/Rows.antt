-- A loop that goes through the words of a row: the hops of the members below the next word, added or the greatest, and how many these are. Assumes
-- nothing.
use mathlib.Core.Path.{◌≡◌, refl, sym, ap, ap₂, ◌∙◌}
use mathlib.Core.Logic.{◌⊎◌, inl, inr}
use mathlib.Core.Bool.{Bool, true, false, cond, ◌&&◌, and-false, and-true as and-true_r}
use mathlib.Core.List.{List, [], ◌∷◌}
use Prim.Native.Nat.{ℕ, zero, suc, ◌+◌, ◌*◌, ◌/◌, ◌%◌, ◌≤◌, ◌<◌, max}
use native.Mathlib.Nat.{le_antisymm}
use native.Mathlib.Omega.{arith}
use lib.Dec.{ltb}
use lib.ListN.{length, get_or}
use borrow.Author.Tests.{lt-ltb, le-ltb}
use Rattle.std.proofs.lemmas.Bool.{and_parts, cases_lt}
use Rattle.lists.specs.Lists.{range, filterb, anyb, countb, sum_of, max_of}
use Rattle.lists.proofs.Members.{any_elim, filter_in, filter_out, filter-twice, length-range, range_out}
use Rattle.lists.proofs.Counts.{count_le_length, count_none, length_count, max_ge, max_le_of}
use Rattle.lists.proofs.RangeCounts.{count_same, count_split}
use Rattle.lists.proofs.Ranges.{sum_nothing, sum_more, sum_skip, sum_same, max-nothing, max_same, max-split}
use Rattle.words.specs.Bits.{bit, word_of}
use Rattle.words.proofs.Bits.{bit-word_of}
use Rattle.graph.specs.Distance.{vertices}
use Rattle.rows.specs.Rows.{row_bit}
use Rattle.rows.proofs.Written.{row_word}
use Rattle.map.specs.Memory.{network_of}
use Rattle.targets.specs.Hops.{hop_in, IsLastLayer}

-- a part at a time
sum_split : (f : ℕ → ℕ) (m n : ℕ) → sum_of f (range (m + n)) ≡ sum_of f (range m) + sum_of (λ k. f (m + k)) (range n)
sum_split f m zero =
    let e : sum_of f (range (m + 0)) ≡ sum_of f (range m) = ap (λ (n : ℕ). sum_of f (range n)) (omega arith) in
    omega (arith, e, sum_nothing (λ k. f (m + k)))
sum_split f m (suc n) =
    let e : sum_of f (range (m + suc n)) ≡ sum_of f (range ((m + n) + 1)) = ap (λ (n : ℕ). sum_of f (range n)) (omega arith) in
    let d : sum_of (λ k. f (m + k)) (range (suc n)) ≡ sum_of (λ k. f (m + k)) (range (n + 1)) = ap (λ (n : ℕ). sum_of (λ k. f (m + k)) (range n)) (omega arith) in
    omega (arith, e, d, sum_more f (m + n), sum_split f m n, sum_more (λ k. f (m + k)) n)

-- ---- the codes that pass a test, and their hops

-- the hop of a code that passes the test; 0 for what does not
unfoldable pub hop_of : (ℕ → Bool) → List ℕ → ℕ → ℕ
hop_of p hops v = cond (p v) (get_or hops v 0) 0

module _ (p : ℕ → Bool) (hops : List ℕ) where
  -- over those that pass
  sum_passing : (xs : List ℕ) → sum_of (hop_of p hops) xs ≡ sum_of (λ v. get_or hops v 0) (filterb p xs)
  unfolding sum_of filterb hop_of
  sum_passing [] = refl
  sum_passing (v ∷ vs) = go (p v) (sum_passing vs)
    where
      go : (b : Bool) → sum_of (hop_of p hops) vs ≡ sum_of (λ v. get_or hops v 0) (filterb p vs)
          → cond b (get_or hops v 0) 0 + sum_of (hop_of p hops) vs ≡ sum_of (λ v. get_or hops v 0) (cond b (v ∷ filterb p vs) (filterb p vs))
      go true ih = omega arith
      go false ih = omega arith

  max_passing : (xs : List ℕ) → max_of (hop_of p hops) xs ≡ max_of (λ v. get_or hops v 0) (filterb p xs)
  unfolding max_of filterb hop_of
  max_passing [] = refl
  max_passing (v ∷ vs) = go (p v) (max_passing vs)
    where
      go : (b : Bool) → max_of (hop_of p hops) vs ≡ max_of (λ v. get_or hops v 0) (filterb p vs)
          → max (cond b (get_or hops v 0) 0) (max_of (hop_of p hops) vs) ≡ max_of (λ v. get_or hops v 0) (cond b (v ∷ filterb p vs) (filterb p vs))
      go true ih = omega arith
      go false ih = omega arith

  -- ---- one word more

  module _ (w x : ℕ) (is : (b : ℕ) → b < 64 → p (64 * w + b) ≡ bit x b) where
    same : (b : ℕ) → b < 64 → hop_of p hops (64 * w + b) ≡ hop_in hops w x b
    unfolding hop_of hop_in
    same b l = rw (is b l)

    next : 64 * (w + 1) ≡ 64 * w + 64
    next = omega arith

    word_sum : sum_of (hop_of p hops) (range (64 * (w + 1))) ≡ sum_of (hop_of p hops) (range (64 * w)) + sum_of (hop_in hops w x) (range 64)
    word_sum =
        ap (λ (n : ℕ). sum_of (hop_of p hops) (range n)) next
        ∙ sum_split (hop_of p hops) (64 * w) 64
        ∙ ap (λ (n : ℕ). sum_of (hop_of p hops) (range (64 * w)) + n) (sum_same (λ b. hop_of p hops (64 * w + b)) (hop_in hops w x) 64 same)

    word_max : max_of (hop_of p hops) (range (64 * (w + 1))) ≡ max (max_of (hop_of p hops) (range (64 * w))) (max_of (hop_in hops w x) (range 64))
    word_max =
        ap (λ (n : ℕ). max_of (hop_of p hops) (range n)) next
        ∙ max-split (hop_of p hops) (64 * w) 64
        ∙ ap (max (max_of (hop_of p hops) (range (64 * w)))) (max_same (λ b. hop_of p hops (64 * w + b)) (hop_in hops w x) 64 same)

    word_count : countb p (range (64 * (w + 1))) ≡ countb p (range (64 * w)) + countb (bit x) (range 64)
    word_count =
        ap (λ (n : ℕ). countb p (range n)) next
        ∙ count_split (64 * w) 64 p
        ∙ ap (λ (n : ℕ). countb p (range (64 * w)) + n) (count_same 64 (λ b. p (64 * w + b)) (bit x) is)

module _ (W : ℕ) (targets hops : List ℕ) where
  -- ---- the greatest hop, by one pass

  -- of the targets in the first w words
  pub record WordsCompared (most w : ℕ) : Type 0 where
    pub within : w ≤ W
    pub is : most ≡ max_of (hop_of (row_bit W targets) hops) (range (64 * w))

  pub greatest_none : WordsCompared 0 0
  greatest_none = record { within = omega arith; is = sym (max-nothing (hop_of (row_bit W targets) hops)) }

  pub greatest_more : {most w m n : ℕ} → WordsCompared most w → w < W → m ≡ max_of (hop_in hops w (get_or targets w 0)) (range 64) → n ≡ max most m → WordsCompared n (w + 1)
  greatest_more {most} {w} {m} {n} g l e q = record {
    within = omega arith;
    is = q ∙ ap₂ max g.is e ∙ sym (word_max (row_bit W targets) hops w (get_or targets w 0) (λ b k. row_word W targets w b l k));
  }

  pub greatest_all : {most w : ℕ} → WordsCompared most w → W ≤ w → most ≡ max_of (λ v. get_or hops v 0) (vertices (network_of W targets []))
  unfolding network_of
  greatest_all {most} {w} g l =
      let e : w ≡ W = omega (arith, g.within) in
      g.is ∙ ap (λ (w : ℕ). max_of (hop_of (row_bit W targets) hops) (range (64 * w))) e ∙ max_passing (row_bit W targets) hops (range (64 * W))

  -- ---- or the depth

  pub greatest_last : (last : List ℕ) (depth : ℕ) → IsLastLayer W targets last hops depth
      → anyb (λ v. row_bit W last v && row_bit W targets v) (range (64 * W)) ≡ true → depth ≡ max_of (λ v. get_or hops v 0) (vertices (network_of W targets []))
  unfolding network_of
  greatest_last last depth is some =
      let v = any_elim (λ v. row_bit W last v && row_bit W targets v) (range (64 * W)) some in
      let both = and_parts (row_bit W last v.0) (row_bit W targets v.0) v.2 in
      let a = is.here v.0 both.0 in
      let b = max_ge (λ v. get_or hops v 0) (filterb (row_bit W targets) (range (64 * W))) (filter_in (row_bit W targets) (range (64 * W)) v.1 both.1) in
      le_antisymm (omega (arith, a, b))
      (max_le_of (λ v. get_or hops v 0) (filterb (row_bit W targets) (range (64 * W))) depth (λ v m. is.most v (filter_out (row_bit W targets) (range (64 * W)) m).1))

  -- ---- the targets above u

  module _ (u : ℕ) where
    abbrev later : ℕ → Bool
    later v = row_bit W targets v && ltb u v

    -- those in the first w words
    pub record WordsSummed (sum pairs w : ℕ) : Type 0 where
      pub within : w ≤ W
      pub past : u < 64 * w
      pub sum_is : sum ≡ sum_of (hop_of later hops) (range (64 * w))
      pub pairs_are : pairs ≡ countb later (range (64 * w))
      pub few : sum ≤ 65535 * (64 * w)

    -- none below u's word, and in that word those above its bit
    pub summed_first : {x s p : ℕ} → u < 64 * W → x ≡ word_of 64 (λ k. bit (get_or targets (u / 64) 0) k && ltb (u % 64) k)
        → s ≡ sum_of (hop_in hops (u / 64) x) (range 64) → s ≤ 65535 * 64 → p ≡ countb (bit x) (range 64) → WordsSummed s p (u / 64 + 1)
    unfolding hop_of
    summed_first {x} {s} {p} l e a q b = record {
      within = omega arith;
      past = omega arith;
      sum_is = omega (arith, a, word_sum later hops (u / 64) x is, none_sum);
      pairs_are = omega (arith, b, word_count later hops (u / 64) x is, none_count);
      few = omega arith;
    }
      where
        beside : (b : ℕ) → b < 64 → ltb u (64 * (u / 64) + b) ≡ ltb (u % 64) b
        beside b m = go (cases_lt (u % 64) b)
          where
            go : (u % 64 < b) ⊎ (b ≤ u % 64) → ltb u (64 * (u / 64) + b) ≡ ltb (u % 64) b
            go (inl k) = lt-ltb u (64 * (u / 64) + b) (omega arith) ∙ sym (lt-ltb (u % 64) b k)
            go (inr k) = le-ltb u (64 * (u / 64) + b) (omega arith) ∙ sym (le-ltb (u % 64) b k)

        is : (b : ℕ) → b < 64 → later (64 * (u / 64) + b) ≡ bit x b
        is b m =
            ap₂ (λ (x y : Bool). x && y) (row_word W targets (u / 64) b (omega arith) m) (beside b m)
            ∙ sym (ap (λ (x : ℕ). bit x b) e ∙ bit-word_of 64 (λ k. bit (get_or targets (u / 64) 0) k && ltb (u % 64) k) b m)

        below : (v : ℕ) → v < 64 * (u / 64) → later v ≡ false
        below v m = rw (le-ltb u v (omega arith)) (and-false (row_bit W targets v))

        none_sum : sum_of (hop_of later hops) (range (64 * (u / 64))) ≡ 0
        none_sum = sum_skip (hop_of later hops) 0 (64 * (u / 64)) (omega arith) (λ v k m. ap (λ (b : Bool). cond b (get_or hops v 0) 0) (below v m)) ∙ sum_nothing (hop_of later hops)

        none_count : countb later (range (64 * (u / 64))) ≡ 0
        none_count = count_none later (range (64 * (u / 64))) (λ v m. below v (range_out (64 * (u / 64)) m))

    -- a word further on whole
    pub summed_more : {sum pairs w s p : ℕ} → WordsSummed sum pairs w → w < W → s ≡ sum_of (hop_in hops w (get_or targets w 0)) (range 64)
        → s ≤ 65535 * 64 → p ≡ countb (bit (get_or targets w 0)) (range 64) → WordsSummed (sum + s) (pairs + p) (w + 1)
    summed_more {sum} {pairs} {w} {s} {p} g l a q b = record {
      within = omega arith;
      past = omega (arith, g.past);
      sum_is = omega (arith, g.sum_is, a, word_sum later hops w (get_or targets w 0) is);
      pairs_are = omega (arith, g.pairs_are, b, word_count later hops w (get_or targets w 0) is);
      few = omega (arith, g.few);
    }
      where
        is : (b : ℕ) → b < 64 → later (64 * w + b) ≡ bit (get_or targets w 0) b
        is b m = ap₂ (λ (x y : Bool). x && y) (row_word W targets w b l m) (lt-ltb u (64 * w + b) (omega (arith, g.past))) ∙ and-true_r (bit (get_or targets w 0) b)

    module _ {sum pairs w : ℕ} (g : WordsSummed sum pairs w) where
      pub summed_sum : W ≤ w → sum ≡ sum_of (λ v. get_or hops v 0) (filterb (λ v. ltb u v) (vertices (network_of W targets [])))
      unfolding network_of
      summed_sum l =
          let e : w ≡ W = omega (arith, g.within) in
          g.sum_is ∙ ap (λ (w : ℕ). sum_of (hop_of later hops) (range (64 * w))) e ∙ sum_passing later hops (range (64 * W))
          ∙ ap (sum_of (λ v. get_or hops v 0)) (sym (filter-twice (λ v. ltb u v) (row_bit W targets) (range (64 * W))))

      pub summed_pairs : W ≤ w → pairs ≡ length (filterb (λ v. ltb u v) (vertices (network_of W targets [])))
      unfolding network_of
      summed_pairs l =
          let e : w ≡ W = omega (arith, g.within) in
          g.pairs_are ∙ ap (λ (w : ℕ). countb later (range (64 * w))) e ∙ sym (length_count later (range (64 * W)))
          ∙ ap length (sym (filter-twice (λ v. ltb u v) (row_bit W targets) (range (64 * W))))

      -- nor are they too many
      pub summed_few : pairs ≤ 64 * w
      summed_few = omega (arith, g.pairs_are, count_le_length later (range (64 * w)), length-range (64 * w))

-- what the check is told of the pass
pub ruleset comparing = (greatest_none, greatest_more)
