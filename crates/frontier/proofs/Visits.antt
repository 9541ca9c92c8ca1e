-- The loops of a visit: over the set bits of a word, the words of a layer, and the fours of a row. Assumes nothing.
use mathlib.Core.Path.{◌≡◌, refl, sym, ap, ap₂, ◌∙◌}
use mathlib.Core.Logic.{◌≢◌, ◌⊎◌, inl, inr}
use mathlib.Core.Bool.{Bool, true, false, cond, not, ◌&&◌, ◌||◌, or_self, and-not_self}
use mathlib.Core.List.{List}
use Prim.Native.Nat.{ℕ, ◌+◌, ◌*◌, ◌≤◌, ◌<◌}
use native.Mathlib.Nat.{lt_irrefl}
use native.Mathlib.Omega.{arith}
use lib.Dec.{eqb, ltb}
use lib.ListN.{length, get_or, set}
use borrow.Author.Tests.{lt-ltb, le-ltb}
use Rattle.std.proofs.lemmas.Bool.{cases_lt, cases_eq}
use Rattle.lists.specs.Lists.{range, mapl, overwrite}
use Rattle.lists.proofs.Fills.{fill_more}
use Rattle.words.specs.Bits.{bit, word_of}
use Rattle.words.specs.Least.{IsLeast, WithoutLeast}
use Rattle.words.proofs.Bits.{bit_of_zero, word_of_ext}
use Rattle.rows.specs.Rows.{row_bit, encode_row, in_word}
use Rattle.rows.proofs.Turns.{turn_none}
use Rattle.frontier.specs.declared.Four.{Four}
use Rattle.frontier.specs.declared.Visit.{Visit}
use Rattle.frontier.specs.Steps.{reaches, hop_set, link_word, Reached, reached, reach_set, AreWords, no_words, put_word, visited, visit_of}
use Rattle.frontier.specs.Visits.{IsSameVisit, Goes}
use Rattle.frontier.proofs.Links.{put_here, put_past, linked_to, hop_ext, hop_both}
use Rattle.frontier.proofs.Members.{bits_inside, bits_one, bits_all, words_one}
use Rattle.frontier.proofs.Goes.{same_visit, same_after, goes_none, goes_ext, goes_both, goes_fits, goes_as}

module _ (j : ℕ) where
  -- ---- the set bits of a word

  module _ (w word : ℕ) where
    -- the members that have left the word are visited; what is left was in it
    pub record BitsVisited (v : Visit) (from : Four) (now : Visit) (got : Four) (x : ℕ) : Type 0 where
      pub inside : (b : ℕ) → b < 64 → bit x b ≡ true → bit word b ≡ true
      pub went : Goes j (λ u. in_word w word u && not (in_word w x u)) v from now got

    pub bits_start : (v : Visit) (from : Four) → AreWords from → BitsVisited v from v from word
    bits_start v from i = record {
      inside = λ b h e. e;
      went = goes_ext j (λ u. false) (λ u. in_word w word u && not (in_word w word u)) (goes_none j v from i) (λ u h. sym (and-not_self (in_word w word u)));
    }

    -- the least bit is visited, and leaves
    module _ (x y b : ℕ) (l : IsLeast x b) (d : WithoutLeast x y) where
      pub bits_next : {v : Visit} {from : Four} {now : Visit} {got : Four} (now' : Visit) (got' : Four) → BitsVisited v from now got x
          → Goes j (λ u. eqb u (64 * w + b)) now got now' got' → BitsVisited v from now' got' y
      bits_next now' got' I e = record {
        inside = bits_inside w word x y b l d I.inside;
        went =
            goes_ext j (λ u. (in_word w word u && not (in_word w x u)) || eqb u (64 * w + b)) (λ u. in_word w word u && not (in_word w y u))
            (goes_both j (λ u. in_word w word u && not (in_word w x u)) (λ u. eqb u (64 * w + b)) I.went e) (λ u n. bits_one w word x y b l d I.inside u);
      }

    -- no bit is left
    pub bits_end : {v : Visit} {from : Four} {now : Visit} {got : Four} (x : ℕ) → BitsVisited v from now got x → x ≡ 0 → Goes j (in_word w word) v from now got
    bits_end x I z = goes_ext j (λ u. in_word w word u && not (in_word w x u)) (in_word w word) I.went (λ u h. bits_all w word x z u)

  -- ---- the words of a layer

  module _ (layer : List ℕ) where
    -- the members in the first w words are visited
    pub record WordsVisited (v now : Visit) (got : Four) (w : ℕ) : Type 0 where
      pub within : w ≤ v.words
      pub went : Goes j (λ u. ltb u (64 * w) && row_bit v.words layer u) v no_words now got

    pub words_start : (v : Visit) → WordsVisited v v no_words 0
    words_start v = record {
      within = omega arith;
      went =
          goes_ext j (λ u. false) (λ u. ltb u (64 * 0) && row_bit v.words layer u)
          (goes_none j v no_words (record { a_fits = omega arith; b_fits = omega arith; c_fits = omega arith; d_fits = omega arith }))
          (λ u h. rw (le-ltb u (64 * 0) (omega arith)));
    }

    pub words_fit : {v now : Visit} (got : Four) (w : ℕ) → WordsVisited v now got w → AreWords got
    words_fit {v} got w I = goes_fits j (λ u. ltb u (64 * w) && row_bit v.words layer u) I.went

    pub words_next : {v now : Visit} {got : Four} (w : ℕ) (now' : Visit) (got' : Four) → WordsVisited v now got w → w < v.words
        → Goes j (in_word w (get_or layer w 0)) now got now' got' → WordsVisited v now' got' (w + 1)
    words_next {v} w now' got' I h e = record {
      within = omega arith;
      went =
          goes_ext j (λ u. (ltb u (64 * w) && row_bit v.words layer u) || in_word w (get_or layer w 0) u) (λ u. ltb u (64 * (w + 1)) && row_bit v.words layer u)
          (goes_both j (λ u. ltb u (64 * w) && row_bit v.words layer u) (in_word w (get_or layer w 0)) I.went e) (words_one layer v.words w h);
    }

    -- no word is left
    pub words_end : {v now : Visit} {got : Four} (w : ℕ) → WordsVisited v now got w → v.words ≤ w → Goes j (row_bit v.words layer) v no_words now got
    words_end {v} w I h = goes_ext j (λ u. ltb u (64 * w) && row_bit v.words layer u) (row_bit v.words layer) I.went (λ u m. rw (lt-ltb u (64 * w) (omega arith)))

module _ (W : ℕ) (links : List ℕ) (k : ℕ) where
  -- ---- the fours of a row

  -- so many words of a row are done after j
  abbrev up_to : ℕ → ℕ
  up_to j = cond (ltb j W) j W

  put_next : (f : ℕ → Bool) (i n x : ℕ) (row₀ row row' : List ℕ) → i + 1 ≡ n → W ≤ length row₀ → row ≡ overwrite (encode_row (up_to i) f) row₀ → x ≡ word_of 64 (λ b. f (64 * i + b))
      → row' ≡ put_word W i x row → row' ≡ overwrite (encode_row (up_to n) f) row₀
  unfolding encode_row
  put_next f i n x row₀ row row' e m p q s = s ∙ go (cases_lt i W)
    where
      g : ℕ → ℕ
      g w = word_of 64 (λ b. f (64 * w + b))

      few : i < W → up_to i ≡ i
      few h = rw (lt-ltb i W h)

      all : W ≤ i → up_to i ≡ W
      all h = rw (le-ltb i W h)

      last : i < W → (n < W) ⊎ (W ≤ n) → up_to n ≡ i + 1
      last h (inl l) = rw (lt-ltb n W l) (sym e)
      last h (inr l) = rw (le-ltb n W l) (omega arith)

      past : W ≤ i → up_to n ≡ W
      past h = rw (le-ltb n W (omega arith))

      go : (i < W) ⊎ (W ≤ i) → put_word W i x row ≡ overwrite (mapl g (range (up_to n))) row₀
      go (inl h) =
          sym (put_here W i x row h)
          ∙ ap₂ (λ (r : List ℕ) (y : ℕ). set r i y) (p ∙ ap (λ (c : ℕ). overwrite (mapl g (range c)) row₀) (few h)) q
          ∙ fill_more g row₀ i (omega arith)
          ∙ ap (λ (c : ℕ). overwrite (mapl g (range c)) row₀) (sym (last h (cases_lt n W)))
      go (inr h) = sym (put_past W i x row h) ∙ p ∙ ap (λ (c : ℕ). overwrite (mapl g (range c)) row₀) (all h ∙ sym (past h))

  module _ (layer : List ℕ) where
    -- the words before j are next's, and the hops are in place after the first four
    pub record FoursVisited (next₀ hops₀ next hops : List ℕ) (j : ℕ) : Type 0 where
      pub next_is : next ≡ overwrite (encode_row (up_to j) (reaches W links layer)) next₀
      pub hops_first : j ≡ 0 → hops ≡ hops₀
      pub hops_then : 0 < j → hops ≡ hop_set W k (row_bit W layer) hops₀

    pub fours_start : (next hops : List ℕ) → 0 < W → FoursVisited next hops next hops 0
    fours_start next hops h = record {
      next_is = turn_none (reaches W links layer) next ∙ ap (λ (c : ℕ). overwrite (encode_row c (reaches W links layer)) next) (sym (none (lt-ltb 0 W h)));
      hops_first = λ e. refl;
      hops_then = λ l. absurd (lt_irrefl 0 l);
    }
      where
        none : ltb 0 W ≡ true → up_to 0 ≡ 0
        none e = rw e

    -- a word of the four, as it is stored
    stored : (i x : ℕ) → x ≡ link_word W links (row_bit W layer) i 0 → x ≡ word_of 64 (λ b. reaches W links layer (64 * i + b))
    unfolding link_word reaches
    stored i x e = e ∙ word_of_ext 64 (λ b. bit 0 b || linked_to W links k (row_bit W layer) (64 * i + b)) (λ b. linked_to W links k (row_bit W layer) (64 * i + b)) (λ b l. ap (λ (t : Bool). t || linked_to W links k (row_bit W layer) (64 * i + b)) (bit_of_zero b))

    again : (hops : List ℕ) → hop_set W k (row_bit W layer) (hop_set W k (row_bit W layer) hops) ≡ hop_set W k (row_bit W layer) hops
    again hops = hop_both W links k (row_bit W layer) (row_bit W layer) hops ∙ hop_ext W links k (λ u. row_bit W layer u || row_bit W layer u) (row_bit W layer) hops (λ u l. or_self (row_bit W layer u))

    module _ {next₀ hops₀ next hops : List ℕ} (j : ℕ) (got : Four) (hops' : List ℕ) (I : FoursVisited next₀ hops₀ next hops j)
        (e : reached got hops' ≡ reach_set W links k j (row_bit W layer) (reached no_words hops)) where
      hops-set : hops' ≡ hop_set W k (row_bit W layer) hops
      unfolding reach_set
      hops-set = ap (λ (r : Reached). r.hops) e

      hops_now : hops' ≡ hop_set W k (row_bit W layer) hops₀
      hops_now = hops-set ∙ go (cases_eq j 0)
        where
          go : (j ≡ 0) ⊎ (j ≢ 0) → hop_set W k (row_bit W layer) hops ≡ hop_set W k (row_bit W layer) hops₀
          go (inl z) = ap (hop_set W k (row_bit W layer)) (I.hops_first z)
          go (inr z) = ap (hop_set W k (row_bit W layer)) (I.hops_then (omega (arith, z))) ∙ again hops₀

      pub fours_next : (n₁ n₂ n₃ n₄ : List ℕ) → W ≤ length next₀ → n₁ ≡ put_word W j got.a next → n₂ ≡ put_word W (j + 1) got.b n₁ → n₃ ≡ put_word W (j + 2) got.c n₂ → n₄ ≡ put_word W (j + 3) got.d n₃
          → FoursVisited next₀ hops₀ n₄ hops' (j + 4)
      unfolding reach_set
      fours_next n₁ n₂ n₃ n₄ m p q r s = record {
        next_is =
            put_next f (j + 3) (j + 4) got.d next₀ n₃ n₄ (omega arith) m
            (put_next f (j + 2) (j + 3) got.c next₀ n₂ n₃ (omega arith) m
            (put_next f (j + 1) (j + 2) got.b next₀ n₁ n₂ (omega arith) m
            (put_next f j (j + 1) got.a next₀ next n₁ (omega arith) m I.next_is (stored j got.a (ap (λ (x : Reached). x.four.a) e)) p)
            (stored (j + 1) got.b (ap (λ (x : Reached). x.four.b) e)) q)
            (stored (j + 2) got.c (ap (λ (x : Reached). x.four.c) e)) r)
            (stored (j + 3) got.d (ap (λ (x : Reached). x.four.d) e)) s;
        hops_first = λ z. absurd (lt_irrefl 0 (omega arith));
        hops_then = λ l. hops_now;
      }
        where
          f : ℕ → Bool
          f = reaches W links layer

    -- no word is left
    pub fours_end : {next₀ hops₀ next hops : List ℕ} (j : ℕ) → FoursVisited next₀ hops₀ next hops j → 0 < W → W ≤ j → visited next hops ≡ visit_of W links layer k (visited next₀ hops₀)
    unfolding visit_of hop_set
    fours_end {next₀} {hops₀} j I h l = ap₂ visited (I.next_is ∙ ap (λ (c : ℕ). overwrite (encode_row c (reaches W links layer)) next₀) (whole (le-ltb j W l))) (I.hops_then (omega arith))
      where
        whole : ltb j W ≡ false → up_to j ≡ W
        whole e = rw e

-- ---- the fours of a row, in the struct

module _ (layer : List ℕ) where
  -- the words before j are next's, and what the visit goes over is as it was
  pub record NextVisited (v : Visit) (next₀ : List ℕ) (now : Visit) (next : List ℕ) (j : ℕ) : Type 0 where
    pub same : IsSameVisit v now
    pub fours : FoursVisited v.words v.links.now v.k layer next₀ v.hops.now next now.hops.now j

  pub next_start : (v : Visit) (next : List ℕ) → NextVisited v next v next 0
  next_start v next = record {
    same = same_visit v;
    fours = fours_start v.words v.links.now v.k layer next v.hops.now v.room.positive;
  }

  pub next_next : {v : Visit} {next₀ : List ℕ} {now : Visit} {next : List ℕ} (j : ℕ) (got : Four) (now' : Visit) → NextVisited v next₀ now next j
      → Goes j (row_bit now.words layer) now no_words now' got → (n₁ n₂ n₃ n₄ : List ℕ) → v.words ≤ length next₀ → n₁ ≡ put_word v.words j got.a next
      → n₂ ≡ put_word v.words (j + 1) got.b n₁ → n₃ ≡ put_word v.words (j + 2) got.c n₂ → n₄ ≡ put_word v.words (j + 3) got.d n₃
      → NextVisited v next₀ now' n₄ (j + 4)
  next_next {v} {next₀} {now} {next} j got now' I e n₁ n₂ n₃ n₄ m p q r s = record {
    same = same_after I.same e.same;
    fours =
        fours_next v.words v.links.now v.k layer j got now'.hops.now I.fours (goes_as j (λ W. row_bit W layer) I.same e) n₁ n₂ n₃ n₄ m p q r s;
  }

  -- no word is left
  pub next_end : {v : Visit} {next₀ : List ℕ} {now : Visit} {next : List ℕ} (j : ℕ) → NextVisited v next₀ now next j → v.words ≤ j
      → visited next now.hops.now ≡ visit_of v.words v.links.now layer v.k (visited next₀ v.hops.now)
  next_end {v} j I l = fours_end v.words v.links.now v.k layer j I.fours v.room.positive l
