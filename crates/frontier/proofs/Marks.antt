-- The loops that give the members of the last layer their hops: over the set bits of a word, and the words of a layer. Assumes nothing.
use mathlib.Core.Path.{◌≡◌, sym, ap, ◌∙◌}
use mathlib.Core.Bool.{Bool, true, false, not, ◌&&◌, ◌||◌, and-not_self}
use mathlib.Core.List.{List}
use Prim.Native.Nat.{ℕ, ◌+◌, ◌*◌, ◌≤◌, ◌<◌}
use native.Mathlib.Omega.{arith}
use lib.Dec.{eqb, ltb}
use lib.ListN.{get_or, set}
use borrow.Author.Tests.{lt-ltb, le-ltb}
use Rattle.words.specs.Bits.{bit}
use Rattle.words.specs.Least.{IsLeast, WithoutLeast}
use Rattle.rows.specs.Rows.{row_bit, in_word}
use Rattle.frontier.specs.declared.Visit.{Visit}
use Rattle.frontier.specs.Steps.{hop_set}
use Rattle.frontier.specs.Visits.{IsSameVisit}
use Rattle.frontier.proofs.Links.{hop_none, hop_one, hop_ext, hop_both}
use Rattle.frontier.proofs.Members.{bits_inside, bits_one, bits_all, words_one}
use Rattle.frontier.proofs.Goes.{same_visit, same_after}

-- from v to now the members of S get the hop k, and nothing else happens
pub record Marks (S : ℕ → Bool) (v now : Visit) : Type 0 where
  pub same : IsSameVisit v now
  pub marked : now.hops.now ≡ hop_set v.words v.k S v.hops.now

marks_none : (v : Visit) → Marks (λ u. false) v v
marks_none v = record { same = same_visit v; marked = hop_none v.words v.links.now v.k v.hops.now v.room.places }

marks_ext : {v now : Visit} (S R : ℕ → Bool) → Marks S v now → ((u : ℕ) → u < 64 * v.words → S u ≡ R u) → Marks R v now
marks_ext {v} S R M h = record { same = M.same; marked = M.marked ∙ hop_ext v.words v.links.now v.k S R v.hops.now h }

marks_both : {v now now' : Visit} (S R : ℕ → Bool) → Marks S v now → IsSameVisit now now' → now'.hops.now ≡ hop_set now.words now.k R now.hops.now
    → Marks (λ u. S u || R u) v now'
marks_both {v} {now} {now'} S R M s e = record {
  same = same_after M.same s;
  marked = told ∙ ap (hop_set v.words v.k R) M.marked ∙ hop_both v.words v.links.now v.k S R v.hops.now;
}
  where
    told : now'.hops.now ≡ hop_set v.words v.k R now.hops.now
    told = rw (M.same.words, M.same.k) e

-- ---- the set bits of a word

module _ (w word : ℕ) where
  -- the members that have left the word have the hop; what is left was in it
  pub record BitsMarked (v now : Visit) (x : ℕ) : Type 0 where
    pub inside : (b : ℕ) → b < 64 → bit x b ≡ true → bit word b ≡ true
    pub marks : Marks (λ u. in_word w word u && not (in_word w x u)) v now

  pub marks_start : (v : Visit) → BitsMarked v v word
  marks_start v = record {
    inside = λ b h e. e;
    marks = marks_ext (λ u. false) (λ u. in_word w word u && not (in_word w word u)) (marks_none v) (λ u h. sym (and-not_self (in_word w word u)));
  }

  pub marks_next : {v now : Visit} (now' : Visit) (x y b : ℕ) → IsLeast x b → WithoutLeast x y → w < v.words → BitsMarked v now x → IsSameVisit now now'
      → now'.hops.now ≡ set now.hops.now (64 * w + b) now.k → BitsMarked v now' y
  marks_next {v} {now} now' x y b l d h I s e =
      let n : 64 * w + b < 64 * now.words = omega (arith, I.marks.same.words, l.below) in
      record {
        inside = bits_inside w word x y b l d I.inside;
        marks =
            marks_ext (λ u. (in_word w word u && not (in_word w x u)) || eqb u (64 * w + b)) (λ u. in_word w word u && not (in_word w y u))
            (marks_both (λ u. in_word w word u && not (in_word w x u)) (λ u. eqb u (64 * w + b)) I.marks s
            (e ∙ hop_one now.words now.links.now now.k (64 * w + b) now.hops.now n now.room.places))
            (λ u m. bits_one w word x y b l d I.inside u);
      }

  pub marks_end : {v now : Visit} (x : ℕ) → BitsMarked v now x → x ≡ 0 → now.hops.now ≡ hop_set v.words v.k (in_word w word) v.hops.now
  marks_end x I z = (marks_ext (λ u. in_word w word u && not (in_word w x u)) (in_word w word) I.marks (λ u h. bits_all w word x z u)).marked

-- ---- the words of a layer

module _ (layer : List ℕ) where
  -- the members in the first w words have the hop
  pub record LayerMarked (v now : Visit) (w : ℕ) : Type 0 where
    pub within : w ≤ v.words
    pub marks : Marks (λ u. ltb u (64 * w) && row_bit v.words layer u) v now

  pub layer_start : (v : Visit) → LayerMarked v v 0
  layer_start v = record {
    within = omega arith;
    marks = marks_ext (λ u. false) (λ u. ltb u (64 * 0) && row_bit v.words layer u) (marks_none v) (λ u h. rw (le-ltb u (64 * 0) (omega arith)));
  }

  pub layer_next : {v now : Visit} (now' : Visit) (w : ℕ) → LayerMarked v now w → w < v.words → IsSameVisit now now'
      → now'.hops.now ≡ hop_set now.words now.k (in_word w (get_or layer w 0)) now.hops.now → LayerMarked v now' (w + 1)
  layer_next {v} now' w I h s e = record {
    within = omega arith;
    marks =
        marks_ext (λ u. (ltb u (64 * w) && row_bit v.words layer u) || in_word w (get_or layer w 0) u) (λ u. ltb u (64 * (w + 1)) && row_bit v.words layer u)
        (marks_both (λ u. ltb u (64 * w) && row_bit v.words layer u) (in_word w (get_or layer w 0)) I.marks s e) (words_one layer v.words w h);
  }

  pub layer_end : {v now : Visit} (w : ℕ) → LayerMarked v now w → v.words ≤ w → now.hops.now ≡ hop_set v.words v.k (row_bit v.words layer) v.hops.now
  layer_end {v} w I h = (marks_ext (λ u. ltb u (64 * w) && row_bit v.words layer u) (row_bit v.words layer) I.marks (λ u m. rw (lt-ltb u (64 * w) (omega arith)))).marked
