-- Balls made and read: the rings, a row added to the one behind it, row after row, and a word of one. For any number of words per row. Assumes nothing.
use mathlib.Core.Path.{◌≡◌, refl, sym, ap, ap₂, ◌∙◌}
use mathlib.Core.Logic.{◌≢◌, ◌⊎◌, inl, inr}
use mathlib.Core.Bool.{Bool, true, false, ◌&&◌, ◌||◌}
use mathlib.Core.List.{List}
use Prim.Native.Nat.{ℕ, zero, suc, ◌+◌, ◌-◌, ◌*◌, ◌/◌, ◌%◌, ◌^◌, ◌≤◌, ◌<◌, min}
use native.Mathlib.Nat.{mul-le-mul_left}
use native.Mathlib.Omega.{arith}
use lib.Bits.{bit_or}
use lib.Dec.{eqb, ltb}
use lib.ListN.{length, get_or, set, replicate, length-set}
use lib.Seq.{get_or-set_same, get_or-set_other}
use borrow.Author.Tests.{eq-eqb, ne_eqb, lt-ltb, le-ltb}
use Rattle.std.proofs.lemmas.Bool.{cases_eq, cases_lt}
use Rattle.words.specs.Bits.{bit, word_of}
use Rattle.words.proofs.Bits.{bit_of_zero, bit_or_lem, bit-word_of, word_of_lt, word_is, word_of_ext, word_or}
use Rattle.rows.specs.Rows.{table_bit, put_bit, InTable}
use Rattle.rows.proofs.Places.{place_unique}
use Rattle.rows.proofs.Puts.{put_here, put_rest}
use Rattle.rows.proofs.Written.{table_in, table_agree, table_word}
use Rattle.stale_pairs.specs.Stale.{way_by, way_by_either}
use Rattle.stale_pairs.specs.Balls.{nearer, ring, AreBalls}

-- row k, and word j of it, stand in a table that has rows up to `most`
pub row_within : (W k most n : ℕ) → k ≤ most → W * most + W ≤ n → W * k + W ≤ n
row_within W k most n l h = let m : W * k ≤ W * most = mul-le-mul_left W l in omega arith

pub word_within : (W k j most n : ℕ) → k ≤ most → j < W → W * most + W ≤ n → W * k + j < n
word_within W k j most n l h s = omega (arith, row_within W k most n l s)

-- ---- the rings: codes passed stand in the row behind their hop's

module _ (W : ℕ) (hops : List ℕ) (most : ℕ) (t₀ : List ℕ) where
  unfoldable pub ring_below : ℕ → ℕ → ℕ → Bool
  ring_below at k v = ltb v at && ring hops most k v

  pub record Ringing (t : List ℕ) (at : ℕ) : Type 0 where
    pub size : length t ≡ length t₀
    pub rings : (k v : ℕ) → v < 64 * W → table_bit W t k v ≡ ring_below at k v

  below_at : (at k v : ℕ) → v < at → ring_below at k v ≡ ring hops most k v
  unfolding ring_below
  below_at at k v l = rw (lt-ltb v at l)

  past_at : (at k v : ℕ) → at ≤ v → ring_below at k v ≡ false
  unfolding ring_below
  past_at at k v l = rw (le-ltb v at l)

  pub ring_start : ((k v : ℕ) → table_bit W t₀ k v ≡ false) → Ringing t₀ 0
  ring_start none = record { size = refl; rings = λ k v l. none k v ∙ sym (past_at 0 k v (omega arith)) }

  -- the other codes
  at_other : (v p q : ℕ) → q ≢ v → ring_below v p q ≡ ring_below (v + 1) p q
  at_other v p q ne = go (cases_lt q v)
    where
      go : (q < v) ⊎ (v ≤ q) → ring_below v p q ≡ ring_below (v + 1) p q
      go (inl d) = below_at v p q d ∙ sym (below_at (v + 1) p q (omega arith))
      go (inr d) = past_at v p q d ∙ sym (past_at (v + 1) p q (omega arith))

  module _ {t : List ℕ} {v : ℕ} (i : Ringing t v) where
    -- the code's ring is put
    pub ring_put : {t' : List ℕ} → get_or hops v 0 < most → InTable W t (get_or hops v 0 + 1) v → t' ≡ put_bit W (get_or hops v 0 + 1) v true t → length t' ≡ length t
        → Ringing t' (v + 1)
    unfolding ring
    ring_put {t'} a m e s = record {
      size = s ∙ i.size;
      rings = λ p q l. ap (λ (x : List ℕ). table_bit W x p q) e ∙ at p q l (cases_eq p (h + 1)) (cases_eq q v);
    }
      where
        h : ℕ
        h = get_or hops v 0

        here : (p : ℕ) → ring hops most p v ≡ eqb p (h + 1)
        here p = rw (lt-ltb h most a)

        rest : (p q : ℕ) → ((p ≡ h + 1) × (q ≡ v) → ⊥) → q < 64 * W → table_bit W (put_bit W (h + 1) v true t) p q ≡ ring_below v p q
        rest p q ne l = put_rest W (h + 1) v true t m p q ne ∙ i.rings p q l

        at : (p q : ℕ) → q < 64 * W → (p ≡ h + 1) ⊎ (p ≢ h + 1) → (q ≡ v) ⊎ (q ≢ v) → table_bit W (put_bit W (h + 1) v true t) p q ≡ ring_below (v + 1) p q
        at p q l c (inr d) = rest p q (λ x. d x.1) l ∙ at_other v p q d
        at p q l (inl c) (inl d) = rw (c, d) (put_here W (h + 1) v true t m ∙ sym (below_at (v + 1) (h + 1) v (omega arith) ∙ here (h + 1) ∙ eq-eqb (h + 1) (h + 1) refl))
        at p q l (inr c) (inl d) =
            rest p q (λ x. c x.0) l
            ∙ rw d (past_at v p v (omega arith) ∙ sym (below_at (v + 1) p v (omega arith) ∙ here p ∙ ne_eqb p (h + 1) c))

    pub ring_fits : W * most + W ≤ length t₀ → most < 64 * W → v < 64 * W → get_or hops v 0 < most → InTable W t (get_or hops v 0 + 1) v
    ring_fits s m l h = let inside = row_within W (get_or hops v 0 + 1) most (length t₀) (omega arith) s in record { row = omega (arith, i.size); below = omega arith; column = l }

    -- the code has none
    pub ring_skip : most ≤ get_or hops v 0 → Ringing t (v + 1)
    unfolding ring
    ring_skip a = record { size = i.size; rings = λ p q l. i.rings p q l ∙ same p q (cases_eq q v) }
      where
        here : (p : ℕ) → ring hops most p v ≡ false
        here p = rw (le-ltb (get_or hops v 0) most a)

        same : (p q : ℕ) → (q ≡ v) ⊎ (q ≢ v) → ring_below v p q ≡ ring_below (v + 1) p q
        same p q (inl c) = rw c (past_at v p v (omega arith) ∙ sym (below_at (v + 1) p v (omega arith) ∙ here p))
        same p q (inr c) = at_other v p q c

  -- no code is left
  pub ring_end : {t : List ℕ} {at : ℕ} → Ringing t at → 64 * W ≤ at → (k v : ℕ) → v < 64 * W → table_bit W t k v ≡ ring hops most k v
  ring_end {at = at} i l k v h = i.rings k v h ∙ below_at at k v (omega arith)

-- ---- a row added to the one behind it, a word at a time

-- a word stored: bits of other words are as they were
module _ (W u j y : ℕ) (t : List ℕ) (d : u < 64 * W) (h : j < W) (m : W * u + j < length t) where
  word_here : (b : ℕ) → b < 64 → table_bit W (set t (W * u + j) y) u (64 * j + b) ≡ bit y b
  word_here b l = table_word W (set t (W * u + j) y) u j b d h l ∙ ap (λ (w : ℕ). bit w b) (get_or-set_same t (W * u + j) y 0 m)

  word_rest : (p q : ℕ) → (p ≡ u → q / 64 ≡ j → ⊥) → table_bit W (set t (W * u + j) y) p q ≡ table_bit W t p q
  word_rest p q ne =
      table_agree W (set t (W * u + j) y) t p q
      (λ l k. table_in W (set t (W * u + j) y) p q l k
      ∙ ap (λ (w : ℕ). bit w (q % 64)) (get_or-set_other t (W * u + j) (W * p + q / 64) y 0
      (λ e. (let r : (p ≡ u) × (q / 64 ≡ j) = place_unique W p (q / 64) u j (omega arith) h e in ne r.0 r.1)))
      ∙ sym (table_in W t p q l k))

module _ (W k : ℕ) (t₀ : List ℕ) where
  abbrev P : ℕ → ℕ → Bool
  P = table_bit W t₀

  unfoldable pub added_below : ℕ → ℕ → ℕ → Bool
  added_below at p v = P p v || (eqb p (k + 1) && ltb v at && P k v)

  pub record Adding (t : List ℕ) (at : ℕ) : Type 0 where
    pub size : length t ≡ length t₀
    pub bits : (p v : ℕ) → v < 64 * W → table_bit W t p v ≡ added_below at p v

  none_or : (x : Bool) → (x || false) ≡ x
  none_or true = refl
  none_or false = refl

  other_row : (at p v : ℕ) → p ≢ k + 1 → added_below at p v ≡ P p v
  unfolding added_below
  other_row at p v ne = rw (ne_eqb p (k + 1) ne) (none_or (P p v))

  added : (at v : ℕ) → v < at → added_below at (k + 1) v ≡ (P (k + 1) v || P k v)
  unfolding added_below
  added at v l = rw (eq-eqb (k + 1) (k + 1) refl, lt-ltb v at l)

  not_yet : (at v : ℕ) → at ≤ v → added_below at (k + 1) v ≡ P (k + 1) v
  unfolding added_below
  not_yet at v l = rw (eq-eqb (k + 1) (k + 1) refl, le-ltb v at l) (none_or (P (k + 1) v))

  pub add_start : Adding t₀ 0
  add_start = record { size = refl; bits = λ p v l. start p v (cases_eq p (k + 1)) }
    where
      start : (p v : ℕ) → (p ≡ k + 1) ⊎ (p ≢ k + 1) → P p v ≡ added_below 0 p v
      start p v (inl e) = rw e (sym (not_yet 0 v (omega arith)))
      start p v (inr e) = sym (other_row 0 p v e)

  module _ {t : List ℕ} {j : ℕ} (i : Adding t (64 * j)) (below : k + 1 < 64 * W) (h : j < W) (m : W * (k + 1) + W ≤ length t₀) where
    pub add_word : {x y : ℕ} → x ≡ get_or t (W * (k + 1) + j) 0 → y ≡ get_or t (W * k + j) 0 → Adding (set t (W * (k + 1) + j) (bit_or x y)) (64 * (j + 1))
    add_word {x} {y} ex ey = record {
      size = simp length-set i.size;
      bits = λ p q l. go p q l (cases_eq p (k + 1)) (cases_eq (q / 64) j);
    }
      where
        inside : W * (k + 1) + j < length t
        inside = omega (arith, i.size)

        bit_of : (p b : ℕ) → p < 64 * W → b < 64 → bit (get_or t (W * p + j) 0) b ≡ added_below (64 * j) p (64 * j + b)
        bit_of p b a l = sym (table_word W t p j b a h l) ∙ i.bits p (64 * j + b) (omega arith)

        here : (b : ℕ) → b < 64 → bit (bit_or x y) b ≡ added_below (64 * (j + 1)) (k + 1) (64 * j + b)
        here b l =
            bit_or_lem x y b
            ∙ ap₂ (λ (c d : Bool). c || d)
            (ap (λ (z : ℕ). bit z b) ex ∙ bit_of (k + 1) b below l ∙ not_yet (64 * j) (64 * j + b) (omega arith))
            (ap (λ (z : ℕ). bit z b) ey ∙ bit_of k b (omega arith) l ∙ other_row (64 * j) k (64 * j + b) (omega arith))
            ∙ sym (added (64 * (j + 1)) (64 * j + b) (omega arith))

        same : (p q : ℕ) → (p ≡ k + 1 → q / 64 ≡ j → ⊥) → (p ≡ k + 1) ⊎ (p ≢ k + 1) → (q < 64 * j) ⊎ (64 * j ≤ q) → (q < 64 * (j + 1)) ⊎ (64 * (j + 1) ≤ q)
            → added_below (64 * j) p q ≡ added_below (64 * (j + 1)) p q
        same p q ne (inr e) a b = other_row (64 * j) p q e ∙ sym (other_row (64 * (j + 1)) p q e)
        same p q ne (inl e) (inl a) b = rw e (added (64 * j) q a ∙ sym (added (64 * (j + 1)) q (omega arith)))
        same p q ne (inl e) (inr a) (inl b) = absurd (ne e (omega arith))
        same p q ne (inl e) (inr a) (inr b) = rw e (not_yet (64 * j) q a ∙ sym (not_yet (64 * (j + 1)) q b))

        rest : (p q : ℕ) → q < 64 * W → (p ≡ k + 1 → q / 64 ≡ j → ⊥) → table_bit W (set t (W * (k + 1) + j) (bit_or x y)) p q ≡ added_below (64 * (j + 1)) p q
        rest p q l ne =
            word_rest W (k + 1) j (bit_or x y) t below h inside p q ne ∙ i.bits p q l
            ∙ same p q ne (cases_eq p (k + 1)) (cases_lt q (64 * j)) (cases_lt q (64 * (j + 1)))

        go : (p q : ℕ) → q < 64 * W → (p ≡ k + 1) ⊎ (p ≢ k + 1) → (q / 64 ≡ j) ⊎ (q / 64 ≢ j)
            → table_bit W (set t (W * (k + 1) + j) (bit_or x y)) p q ≡ added_below (64 * (j + 1)) p q
        go p q l (inr c) d = rest p q l (λ a b. c a)
        go p q l (inl c) (inr d) = rest p q l (λ a b. d b)
        go p q l (inl c) (inl d) =
            let at : q ≡ 64 * j + q % 64 = omega arith in
            ap₂ (table_bit W (set t (W * (k + 1) + j) (bit_or x y))) c at
            ∙ word_here W (k + 1) j (bit_or x y) t below h inside (q % 64) (omega arith)
            ∙ here (q % 64) (omega arith)
            ∙ sym (ap₂ (added_below (64 * (j + 1))) c at)

  -- no word is left
  pub add_end : {t : List ℕ} {j : ℕ} → Adding t (64 * j) → W ≤ j → (p v : ℕ) → v < 64 * W → table_bit W t p v ≡ (P p v || (eqb p (k + 1) && P k v))
  unfolding added_below
  add_end {t} {j} i l p v h = i.bits p v h ∙ rw (lt-ltb v (64 * j) (omega arith)) (all (P p v) (eqb p (k + 1)) (P k v))
    where
      all : (x y z : Bool) → (x || (y && true && z)) ≡ (x || (y && z))
      all x true z = refl
      all x false z = refl

-- ---- row after row: rows up to k are balls, the others are rings

module _ (W most : ℕ) (hops t₀ : List ℕ) where
  pub record Balling (t : List ℕ) (k : ℕ) : Type 0 where
    pub size : length t ≡ length t₀
    pub balls : (p v : ℕ) → p ≤ k → v < 64 * W → table_bit W t p v ≡ ltb (get_or hops v 0) p
    pub rings : (p v : ℕ) → k < p → v < 64 * W → table_bit W t p v ≡ ring hops most p v

  pub ball_start : {t : List ℕ} → ((p v : ℕ) → v < 64 * W → table_bit W t p v ≡ ring hops most p v) → length t ≡ length t₀ → Balling t 0
  unfolding ring
  ball_start {t} e s = record {
    size = s;
    balls = λ p v a b. e p v b ∙ none p v a;
    rings = λ p v a b. e p v b;
  }
    where
      off : (x : Bool) → (x && false) ≡ false
      off true = refl
      off false = refl

      none : (p v : ℕ) → p ≤ 0 → ring hops most p v ≡ ltb (get_or hops v 0) p
      none p v a =
          ap (λ (x : Bool). ltb (get_or hops v 0) most && x) (ne_eqb p (get_or hops v 0 + 1) (λ q. omega arith))
          ∙ off (ltb (get_or hops v 0) most)
          ∙ sym (le-ltb (get_or hops v 0) p (omega arith))

  pub ball_more : {t t' : List ℕ} {k : ℕ} → Balling t k → k < most
      → ((p v : ℕ) → v < 64 * W → table_bit W t' p v ≡ (table_bit W t p v || (eqb p (k + 1) && table_bit W t k v))) → length t' ≡ length t → Balling t' (k + 1)
  unfolding ring
  ball_more {t} {t'} {k} i l at s = record {
    size = s ∙ i.size;
    balls = λ p v a b. at p v b ∙ go p v a b (cases_eq p (k + 1));
    rings = λ p v a b. at p v b ∙ other p v (omega arith) ∙ i.rings p v (omega arith) b;
  }
    where
      none_more : (x : Bool) → (x || false) ≡ x
      none_more true = refl
      none_more false = refl

      other : (p v : ℕ) → p ≢ k + 1 → (table_bit W t p v || (eqb p (k + 1) && table_bit W t k v)) ≡ table_bit W t p v
      other p v ne = rw (ne_eqb p (k + 1) ne) (none_more (table_bit W t p v))

      off : (x : Bool) → ((x && false) || false) ≡ false
      off true = refl
      off false = refl

      -- a hop below k + 1 is k, or below k
      grown : (h : ℕ) → (h < k) ⊎ (k ≤ h) → (h ≡ k) ⊎ (h ≢ k) → ((ltb h most && eqb (k + 1) (h + 1)) || ltb h k) ≡ ltb h (k + 1)
      grown h (inl a) b = rw (lt-ltb h k a, lt-ltb h (k + 1) (omega arith), ne_eqb (k + 1) (h + 1) (λ q. omega arith), lt-ltb h most (omega arith))
      grown h (inr a) (inl b) = rw (lt-ltb h (k + 1) (omega arith), eq-eqb (k + 1) (h + 1) (omega arith), lt-ltb h most (omega arith))
      grown h (inr a) (inr b) = rw (le-ltb h k a, le-ltb h (k + 1) (omega arith), ne_eqb (k + 1) (h + 1) (λ q. omega arith)) (off (ltb h most))

      here : (v : ℕ) → v < 64 * W → (table_bit W t (k + 1) v || table_bit W t k v) ≡ ltb (get_or hops v 0) (k + 1)
      here v b = rw (i.rings (k + 1) v (omega arith) b, i.balls k v (omega arith) b) (grown (get_or hops v 0) (cases_lt _ k) (cases_eq _ k))

      go : (p v : ℕ) → p ≤ k + 1 → v < 64 * W → (p ≡ k + 1) ⊎ (p ≢ k + 1) → (table_bit W t p v || (eqb p (k + 1) && table_bit W t k v)) ≡ ltb (get_or hops v 0) p
      go p v a b (inl c) = rw (c, eq-eqb (k + 1) (k + 1) refl) (here v b)
      go p v a b (inr c) = other p v c ∙ i.balls p v (omega arith) b

  pub ball_end : {t : List ℕ} {k : ℕ} → Balling t k → most ≤ k → most < 64 * W → W * most + W ≤ length t₀ → AreBalls W most hops t
  ball_end i l m s = record { rows = omega (arith, i.size); within = m; ball = λ p v a b. i.balls p v (omega arith) b }

-- balls up to a row are balls up to each row before it
pub fewer_balls : (W d most : ℕ) (hops balls : List ℕ) → AreBalls W most hops balls → d ≤ most → AreBalls W d hops balls
fewer_balls W d most hops balls a l = record { rows = row_within W d most (length balls) l a.rows; within = omega (arith, a.within); ball = λ k v b c. a.ball k v (omega arith) c }

-- a table of zeros has no bit
pub none_set : (W n k v : ℕ) → table_bit W (replicate n 0) k v ≡ false
unfolding table_bit
none_set W n k v = ap (λ (w : ℕ). ltb k (64 * W) && ltb v (64 * W) && bit w (v % 64)) (zero_at n (W * k + v / 64)) ∙ ap (λ (x : Bool). ltb k (64 * W) && ltb v (64 * W) && x) (bit_of_zero (v % 64)) ∙ off (ltb k (64 * W) && ltb v (64 * W))
  where
    zero_at : (n i : ℕ) → ◌≡◌ {A = ℕ} (get_or (replicate n 0) i 0) 0
    zero_at zero i = refl
    zero_at (suc n) zero = refl
    zero_at (suc n) (suc i) = zero_at n i

    off : (x : Bool) → (x && false) ≡ false
    off true = refl
    off false = refl

-- nearer by one search, or by the other
pub nearer_either : (near far : List ℕ) (u d j : ℕ)
    → bit_or (nearer (way_by near) u d j) (nearer (way_by far) u d j) ≡ nearer (way_by_either near far) u d j
unfolding nearer
nearer_either near far u d j =
    word_or 64 _ _ (word_of_lt 64 f) (word_of_lt 64 g)
    ∙ word_of_ext 64 (λ b. bit (word_of 64 f) b || bit (word_of 64 g) b) (λ b. ltb (way_by_either near far u (64 * j + b)) d)
    (λ b l. ap₂ (λ (x y : Bool). x || y) (bit-word_of 64 f b l) (bit-word_of 64 g b l) ∙ lesser (way_by near u (64 * j + b)) (way_by far u (64 * j + b)) (cases_lt _ d) (cases_lt _ d))
  where
    f : ℕ → Bool
    f b = ltb (way_by near u (64 * j + b)) d

    g : ℕ → Bool
    g b = ltb (way_by far u (64 * j + b)) d

    lesser : (a b : ℕ) → (a < d) ⊎ (d ≤ a) → (b < d) ⊎ (d ≤ b) → (ltb a d || ltb b d) ≡ ltb (min a b) d
    lesser a b (inl p) q = rw (lt-ltb a d p, lt-ltb (min a b) d (omega arith))
    lesser a b (inr p) (inl q) = rw (le-ltb a d p, lt-ltb b d q, lt-ltb (min a b) d (omega arith))
    lesser a b (inr p) (inr q) = rw (le-ltb a d p, le-ltb b d q, le-ltb (min a b) d (omega arith))

-- ---- a word of a ball: from u, which has a hop itself, the ball is the smaller

pub ball_fits : (W h d j n : ℕ) → j < W → W * d + W ≤ n → W * (d - h) + j < n
ball_fits W h d j n l s = word_within W (d - h) j d n (omega arith) l s

pub ball_word_lem : (W d u j : ℕ) (hops balls : List ℕ) → AreBalls W d hops balls → j < W → get_or balls (W * (d - get_or hops u 0) + j) 0 < 2 ^ 64
    → get_or balls (W * (d - get_or hops u 0) + j) 0 ≡ nearer (way_by hops) u d j
unfolding nearer
ball_word_lem W d u j hops balls a l f =
    let within = a.within in
    word_is 64 (get_or balls (W * (d - h) + j) 0) (λ b. ltb (h + get_or hops (64 * j + b) 0) d) f
    (λ b m. sym (table_word W balls (d - h) j b (omega arith) l m) ∙ a.ball (d - h) (64 * j + b) (omega arith) (omega arith) ∙ shift (get_or hops (64 * j + b) 0) (cases_lt (h + get_or hops (64 * j + b) 0) d))
  where
    h : ℕ
    h = get_or hops u 0

    shift : (k : ℕ) → (h + k < d) ⊎ (d ≤ h + k) → ltb k (d - h) ≡ ltb (h + k) d
    shift k (inl c) = lt-ltb k (d - h) (omega arith) ∙ sym (lt-ltb (h + k) d c)
    shift k (inr c) = le-ltb k (d - h) (omega arith) ∙ sym (le-ltb (h + k) d c)
