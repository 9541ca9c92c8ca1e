-- What sets of members are linked to, four words at a time, and the hops that they get: nobody, one member, one set after another. Assumes nothing.
use mathlib.Core.Path.{◌≡◌, refl, sym, ap, ◌∙◌, subst}
use mathlib.Core.Logic.{◌⊎◌, inl, inr}
use mathlib.Core.Bool.{Bool, true, false, cond, ◌&&◌, ◌||◌, and-false, or-false, or_assoc}
use mathlib.Core.List.{List, Memᴰ}
use Prim.Native.Nat.{ℕ, ◌+◌, ◌*◌, ◌^◌, ◌≤◌, ◌<◌}
use native.Mathlib.Nat.{mul-add}
use native.Mathlib.Omega.{arith}
use lib.Bits.{bit_or}
use lib.Dec.{eqb, ltb}
use lib.ListN.{length, get_or, set}
use borrow.Author.Tests.{eqb-true, eq-eqb, ne_eqb, lt-ltb, le-ltb}
use Rattle.std.proofs.lemmas.Bool.{and_parts, and_from, or_cases, or_left, or_right}
use Rattle.lists.specs.Lists.{range, mapl, anyb, overwrite}
use Rattle.lists.proofs.Tests.{same_test}
use Rattle.lists.proofs.Members.{any_none, any_intro, any_elim, any_ext, range_in, range_out}
use Rattle.lists.proofs.Fills.{fill_ext, fill_at, length_fill, overwrite_twice}
use Rattle.lists.proofs.Buffers.{fill_whole, fill_put}
use Rattle.words.specs.Bits.{bit, word_of}
use Rattle.words.proofs.Bits.{bit-word_of, word_of_ext, word_of_lt, word_is, word_or}
use Rattle.rows.specs.Rows.{table_bit}
use Rattle.rows.proofs.Written.{table_word}
use Rattle.frontier.specs.declared.Four.{Four}
use Rattle.frontier.specs.Steps.{hop_set, link_word, Reached, reached, reach_set, AreWords, put_word}

-- ---- four words and the hops

abbrev pub four : ℕ → ℕ → ℕ → ℕ → Four
four a b c d = record { a = a; b = b; c = c; d = d }

abbrev pub side : ℕ → ℕ → ℕ → ℕ → List ℕ → Reached
side a b c d h = reached (four a b c d) h

pub side_ext : {a b c d a' b' c' d' : ℕ} {h h' : List ℕ} → a ≡ a' → b ≡ b' → c ≡ c' → d ≡ d' → h ≡ h' → side a b c d h ≡ side a' b' c' d' h'
side_ext p q r s t = rw (p, q, r, s, t)

-- ---- one word of one row, as the code joins it

module _ (W : ℕ) (links : List ℕ) (x v j : ℕ) (fits : x < 2 ^ 64) where
  past : W ≤ j → (b : ℕ) → table_bit W links v (64 * j + b) ≡ false
  unfolding table_bit
  past h b = rw (le-ltb (64 * j + b) (64 * W) (omega arith), and-false (ltb v (64 * W)))

  pub with_none : W ≤ j → x ≡ word_of 64 (λ b. bit x b || table_bit W links v (64 * j + b))
  with_none h = word_is 64 x (λ b. bit x b || table_bit W links v (64 * j + b)) fits (λ b l. sym (ap (λ (t : Bool). bit x b || t) (past h b) ∙ or-false (bit x b)))

  with_more : v < 64 * W → j < W → get_or links (W * v + j) 0 < 2 ^ 64
      → bit_or x (get_or links (W * v + j) 0) ≡ word_of 64 (λ b. bit x b || table_bit W links v (64 * j + b))
  with_more l h m =
      word_or 64 x (get_or links (W * v + j) 0) fits m
      ∙ word_of_ext 64 (λ b. bit x b || bit (get_or links (W * v + j) 0) b) (λ b. bit x b || table_bit W links v (64 * j + b)) (λ b n. ap (λ (t : Bool). bit x b || t) (sym (table_word W links v j b l h n)))

-- the row of bit b of word w, where the code adds the word's place and the bit's
module _ (W w b : ℕ) (h : w < W) (l : b < 64) where
  place_sum : (j : ℕ) → W * (64 * w) + (W * b + j) ≡ W * (64 * w + b) + j
  place_sum j =
      let e = mul-add W (64 * w) b in
      omega arith

  pub with_bit_lem : (links : List ℕ) (x j : ℕ) → x < 2 ^ 64 → j < W → get_or links (W * (64 * w) + (W * b + j)) 0 < 2 ^ 64
      → bit_or x (get_or links (W * (64 * w) + (W * b + j)) 0) ≡ word_of 64 (λ i. bit x i || table_bit W links (64 * w + b) (64 * j + i))
  with_bit_lem links x j fits i =
      subst (λ (p : ℕ). get_or links p 0 < 2 ^ 64 → bit_or x (get_or links p 0) ≡ word_of 64 (λ i. bit x i || table_bit W links (64 * w + b) (64 * j + i))) (sym (place_sum j))
      (with_more W links x (64 * w + b) j fits (omega arith) i)

-- ---- one word of a row, as the code stores it

pub put_here : (W j x : ℕ) (row : List ℕ) → j < W → set row j x ≡ put_word W j x row
unfolding put_word
put_here W j x row h = rw (lt-ltb j W h)

pub put_past : (W j x : ℕ) (row : List ℕ) → W ≤ j → row ≡ put_word W j x row
unfolding put_word
put_past W j x row h = rw (le-ltb j W h)

module _ (W : ℕ) (links : List ℕ) (k : ℕ) where
  -- what the members of S are linked to
  abbrev pub linked_to : (ℕ → Bool) → ℕ → Bool
  linked_to S v = anyb (λ u. S u && table_bit W links u v) (range (64 * W))

  -- ---- sets

  linked_ext : (S R : ℕ → Bool) → ((u : ℕ) → u < 64 * W → S u ≡ R u) → (v : ℕ) → linked_to S v ≡ linked_to R v
  linked_ext S R h v =
      any_ext (λ u. S u && table_bit W links u v) (λ u. R u && table_bit W links u v) (range (64 * W))
      (λ u m. ap (λ (b : Bool). b && table_bit W links u v) (h u (range_out (64 * W) m)))

  linked_none : (v : ℕ) → linked_to (λ u. false) v ≡ false
  linked_none v = any_none (λ u. false && table_bit W links u v) (range (64 * W)) (λ u m. refl)

  linked_one : (m : ℕ) → m < 64 * W → (v : ℕ) → linked_to (λ u. eqb u m) v ≡ table_bit W links m v
  linked_one m l v = same_test (linked_to (λ u. eqb u m) v) (table_bit W links m v) to (λ h. any_intro p (range (64 * W)) (range_in (64 * W) l) (and_from _ _ (eq-eqb m m refl) h))
    where
      p : ℕ → Bool
      p u = eqb u m && table_bit W links u v

      to : linked_to (λ u. eqb u m) v ≡ true → table_bit W links m v ≡ true
      to h =
          let y = any_elim p (range (64 * W)) h in
          let z = and_parts (eqb y.0 m) (table_bit W links y.0 v) y.2 in
          subst (λ (u : ℕ). table_bit W links u v ≡ true) (eqb-true y.0 m z.0) z.1

  linked_both : (S R : ℕ → Bool) (v : ℕ) → (linked_to S v || linked_to R v) ≡ linked_to (λ u. S u || R u) v
  linked_both S R v = same_test (linked_to S v || linked_to R v) (linked_to (λ u. S u || R u) v) (λ h. to (or_cases (linked_to S v) (linked_to R v) h)) back
    where
      p : (ℕ → Bool) → ℕ → Bool
      p Q u = Q u && table_bit W links u v

      to : (linked_to S v ≡ true) ⊎ (linked_to R v ≡ true) → linked_to (λ u. S u || R u) v ≡ true
      to (inl h) =
          let y = any_elim (p S) (range (64 * W)) h in
          let z = and_parts (S y.0) (table_bit W links y.0 v) y.2 in
          any_intro (p (λ u. S u || R u)) (range (64 * W)) y.1 (and_from _ _ (or_left _ (R y.0) z.0) z.1)
      to (inr h) =
          let y = any_elim (p R) (range (64 * W)) h in
          let z = and_parts (R y.0) (table_bit W links y.0 v) y.2 in
          any_intro (p (λ u. S u || R u)) (range (64 * W)) y.1 (and_from _ _ (or_right (S y.0) _ z.0) z.1)

      back : linked_to (λ u. S u || R u) v ≡ true → (linked_to S v || linked_to R v) ≡ true
      back h =
          let y = any_elim (p (λ u. S u || R u)) (range (64 * W)) h in
          let z = and_parts (S y.0 || R y.0) (table_bit W links y.0 v) y.2 in
          on y.0 y.1 z.1 (or_cases (S y.0) (R y.0) z.0)
        where
          on : (u : ℕ) → Memᴰ u (range (64 * W)) → table_bit W links u v ≡ true → (S u ≡ true) ⊎ (R u ≡ true) → (linked_to S v || linked_to R v) ≡ true
          on u m t (inl a) = or_left _ (linked_to R v) (any_intro (p S) (range (64 * W)) m (and_from _ _ a t))
          on u m t (inr a) = or_right (linked_to S v) _ (any_intro (p R) (range (64 * W)) m (and_from _ _ a t))

  -- ---- one word of what they are linked to

  word_ext : (S R : ℕ → Bool) (j x : ℕ) → ((u : ℕ) → u < 64 * W → S u ≡ R u) → link_word W links S j x ≡ link_word W links R j x
  unfolding link_word
  word_ext S R j x h = word_of_ext 64 (λ b. bit x b || linked_to S (64 * j + b)) (λ b. bit x b || linked_to R (64 * j + b)) (λ b l. ap (λ (t : Bool). bit x b || t) (linked_ext S R h (64 * j + b)))

  word_none : (j x : ℕ) → x < 2 ^ 64 → x ≡ link_word W links (λ u. false) j x
  unfolding link_word
  word_none j x fits = word_is 64 x (λ b. bit x b || linked_to (λ u. false) (64 * j + b)) fits (λ b l. sym (ap (λ (t : Bool). bit x b || t) (linked_none (64 * j + b)) ∙ or-false (bit x b)))

  pub word_one : (j x y v : ℕ) → v < 64 * W → y ≡ word_of 64 (λ b. bit x b || table_bit W links v (64 * j + b)) → y ≡ link_word W links (λ u. eqb u v) j x
  unfolding link_word
  word_one j x y v l e =
      e ∙ word_of_ext 64 (λ b. bit x b || table_bit W links v (64 * j + b)) (λ b. bit x b || linked_to (λ u. eqb u v) (64 * j + b)) (λ b m. ap (λ (t : Bool). bit x b || t) (sym (linked_one v l (64 * j + b))))

  word_both : (S R : ℕ → Bool) (j x : ℕ) → link_word W links R j (link_word W links S j x) ≡ link_word W links (λ u. S u || R u) j x
  unfolding link_word
  word_both S R j x =
      word_of_ext 64 (λ b. bit (word_of 64 f) b || linked_to R (64 * j + b)) (λ b. bit x b || linked_to (λ u. S u || R u) (64 * j + b))
      (λ b l. ap (λ (t : Bool). t || linked_to R (64 * j + b)) (bit-word_of 64 f b l) ∙ or_assoc (bit x b) (linked_to S (64 * j + b)) (linked_to R (64 * j + b))
      ∙ ap (λ (t : Bool). bit x b || t) (linked_both S R (64 * j + b)))
    where
      f : ℕ → Bool
      f b = bit x b || linked_to S (64 * j + b)

  word_lt : (S : ℕ → Bool) (j x : ℕ) → link_word W links S j x < 2 ^ 64
  unfolding link_word
  word_lt S j x = word_of_lt 64 (λ b. bit x b || linked_to S (64 * j + b))

  -- ---- hops

  pub hop_ext : (S R : ℕ → Bool) (hops : List ℕ) → ((u : ℕ) → u < 64 * W → S u ≡ R u) → hop_set W k S hops ≡ hop_set W k R hops
  unfolding hop_set
  hop_ext S R hops h =
      ap (λ (r : List ℕ). overwrite r hops)
      (fill_ext (λ v. cond (S v) k (get_or hops v 0)) (λ v. cond (R v) k (get_or hops v 0)) (64 * W) (λ v m. ap (λ (b : Bool). cond b k (get_or hops v 0)) (h v m)))

  pub hop_none : (hops : List ℕ) → 64 * W ≤ length hops → hops ≡ hop_set W k (λ u. false) hops
  unfolding hop_set
  hop_none hops m = fill_whole (λ v. get_or hops v 0) (64 * W) hops m (λ v h. refl)

  pub hop_one : (v : ℕ) (hops : List ℕ) → v < 64 * W → 64 * W ≤ length hops → set hops v k ≡ hop_set W k (λ u. eqb u v) hops
  unfolding hop_set
  hop_one v hops l m =
      ap (λ (t : List ℕ). set t v k) (fill_whole (λ u. get_or hops u 0) (64 * W) hops m (λ u h. refl))
      ∙ fill_put (λ u. get_or hops u 0) (λ u. cond (eqb u v) k (get_or hops u 0)) (64 * W) hops v k l (rw (eq-eqb v v refl)) (λ u h ne. rw (ne_eqb u v ne))

  pub hop_both : (S R : ℕ → Bool) (hops : List ℕ) → hop_set W k R (hop_set W k S hops) ≡ hop_set W k (λ u. S u || R u) hops
  unfolding hop_set
  hop_both S R hops =
      overwrite_twice (mapl h (range (64 * W))) (mapl g (range (64 * W))) hops (omega (arith, length_fill h (64 * W), length_fill g (64 * W)))
      ∙ ap (λ (r : List ℕ). overwrite r hops)
      (fill_ext h (λ v. cond (S v || R v) k (get_or hops v 0)) (64 * W) (λ v m. ap (λ (x : ℕ). cond (R v) k x) (fill_at g hops (64 * W) v 0 m) ∙ two (S v) (R v) (get_or hops v 0)))
    where
      g : ℕ → ℕ
      g v = cond (S v) k (get_or hops v 0)

      h : ℕ → ℕ
      h v = cond (R v) k (get_or (overwrite (mapl g (range (64 * W))) hops) v 0)

      two : (a b : Bool) (x : ℕ) → cond b k (cond a k x) ≡ cond (a || b) k x
      two true true x = refl
      two true false x = refl
      two false b x = refl

  -- ---- visits of sets, for the four words from j on

  module _ (j : ℕ) where
    abbrev visit : (ℕ → Bool) → Reached → Reached
    visit S B = reach_set W links k j S B

    pub visit_ext : (S R : ℕ → Bool) (B : Reached) → ((u : ℕ) → u < 64 * W → S u ≡ R u) → visit S B ≡ visit R B
    unfolding reach_set
    visit_ext S R B h = side_ext (word_ext S R j B.four.a h) (word_ext S R (j + 1) B.four.b h) (word_ext S R (j + 2) B.four.c h) (word_ext S R (j + 3) B.four.d h) (hop_ext S R B.hops h)

    pub visit_none : (f : Four) (hops : List ℕ) → AreWords f → 64 * W ≤ length hops → reached f hops ≡ visit (λ u. false) (reached f hops)
    unfolding reach_set
    visit_none f hops i m = side_ext (word_none j f.a i.a_fits) (word_none (j + 1) f.b i.b_fits) (word_none (j + 2) f.c i.c_fits) (word_none (j + 3) f.d i.d_fits) (hop_none hops m)

    pub visit_both : (S R : ℕ → Bool) (B : Reached) → visit R (visit S B) ≡ visit (λ u. S u || R u) B
    unfolding reach_set
    visit_both S R B = side_ext (word_both S R j B.four.a) (word_both S R (j + 1) B.four.b) (word_both S R (j + 2) B.four.c) (word_both S R (j + 3) B.four.d) (hop_both S R B.hops)

    pub visit_fits : (S : ℕ → Bool) (B : Reached) (f : Four) (hops : List ℕ) → reached f hops ≡ visit S B → AreWords f
    unfolding reach_set
    visit_fits S B f hops e = record {
      a_fits = subst (λ (x : ℕ). x < 2 ^ 64) (sym (ap (λ (r : Reached). r.four.a) e)) (word_lt S j B.four.a);
      b_fits = subst (λ (x : ℕ). x < 2 ^ 64) (sym (ap (λ (r : Reached). r.four.b) e)) (word_lt S (j + 1) B.four.b);
      c_fits = subst (λ (x : ℕ). x < 2 ^ 64) (sym (ap (λ (r : Reached). r.four.c) e)) (word_lt S (j + 2) B.four.c);
      d_fits = subst (λ (x : ℕ). x < 2 ^ 64) (sym (ap (λ (r : Reached). r.four.d) e)) (word_lt S (j + 3) B.four.d);
    }
