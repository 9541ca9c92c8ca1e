-- Visits one after another, in the struct that the code keeps them in: of nobody, of one member, of one set and then of another. Assumes nothing.
use mathlib.Core.Path.{◌≡◌, refl, ap, ◌∙◌}
use mathlib.Core.Bool.{Bool, false, ◌||◌}
use Prim.Native.Nat.{ℕ, ◌+◌, ◌*◌, ◌<◌}
use native.Mathlib.Omega.{arith}
use lib.Dec.{eqb}
use lib.ListN.{set}
use Rattle.words.specs.Bits.{bit, word_of}
use Rattle.rows.specs.Rows.{table_bit}
use Rattle.frontier.specs.declared.Four.{Four}
use Rattle.frontier.specs.declared.Visit.{Visit}
use Rattle.frontier.specs.Steps.{reached, reach_set, AreWords}
use Rattle.frontier.specs.Visits.{IsSameVisit, Goes}
use Rattle.frontier.proofs.Links.{four, side, side_ext, word_one, hop_one, visit_ext, visit_none, visit_both, visit_fits}

pub same_visit : (v : Visit) → IsSameVisit v v
same_visit v = record { links = refl; words = refl; k = refl; name = refl; long = refl }

pub same_after : {v w x : Visit} → IsSameVisit v w → IsSameVisit w x → IsSameVisit v x
same_after s t = record { links = s.links ∙ t.links; words = s.words ∙ t.words; k = s.k ∙ t.k; name = s.name ∙ t.name; long = s.long ∙ t.long }

module _ (j : ℕ) where
  -- a visit, told over what an earlier one goes over; a set may be of the width
  pub goes_as : {o v : Visit} {f : Four} {w : Visit} {g : Four} (S : ℕ → ℕ → Bool) → IsSameVisit o v → Goes j (S v.words) v f w g
      → reached g w.hops.now ≡ reach_set o.words o.links.now o.k j (S o.words) (reached f v.hops.now)
  goes_as S s e = rw (s.words, s.links, s.k) e.visited

  pub goes_none : (v : Visit) (f : Four) → AreWords f → Goes j (λ u. false) v f v f
  goes_none v f i = record { same = same_visit v; visited = visit_none v.words v.links.now v.k j f v.hops.now i v.room.places }

  pub goes_ext : {v : Visit} {f : Four} {w : Visit} {g : Four} (S R : ℕ → Bool) → Goes j S v f w g → ((u : ℕ) → u < 64 * v.words → S u ≡ R u) → Goes j R v f w g
  goes_ext {v} {f} S R e h = record { same = e.same; visited = e.visited ∙ visit_ext v.words v.links.now v.k j S R (reached f v.hops.now) h }

  pub goes_both : {v : Visit} {f : Four} {w : Visit} {g : Four} {x : Visit} {h : Four} (S R : ℕ → Bool) → Goes j S v f w g → Goes j R w g x h
      → Goes j (λ u. S u || R u) v f x h
  goes_both {v} {f} S R d e = record {
    same = same_after d.same e.same;
    visited =
        goes_as (λ W. R) d.same e ∙ ap (reach_set v.words v.links.now v.k j R) d.visited
        ∙ visit_both v.words v.links.now v.k j S R (reached f v.hops.now);
  }

  pub goes_fits : {v : Visit} {f : Four} {w : Visit} {g : Four} (S : ℕ → Bool) → Goes j S v f w g → AreWords g
  goes_fits {v} {f} {w} {g} S e = visit_fits v.words v.links.now v.k j S (reached f v.hops.now) g w.hops.now e.visited

  -- ---- one member

  module _ (w b : ℕ) where
    -- a word with the links of the member besides, as the code has it
    abbrev Joins : Visit → ℕ → ℕ → ℕ → Type 0
    Joins v i p q = q ≡ word_of 64 (λ c. bit p c || table_bit v.words v.links.now (64 * w + b) (64 * i + c))

    pub one_goes : (v : Visit) (f : Four) (x : Visit) (p q r s : ℕ) → w < v.words → b < 64 → IsSameVisit v x → x.hops.now ≡ set v.hops.now (64 * w + b) v.k
        → Joins v j f.a p → Joins v (j + 1) f.b q → Joins v (j + 2) f.c r → Joins v (j + 3) f.d s
        → Goes j (λ u. eqb u (64 * w + b)) v f x (four p q r s)
    unfolding reach_set
    one_goes v f x p q r s within below same put d e g h =
        let n : 64 * w + b < 64 * v.words = omega arith in
        record { same = same; visited = ap (side p q r s) put ∙ whole n }
      where
        whole : 64 * w + b < 64 * v.words
            → side p q r s (set v.hops.now (64 * w + b) v.k) ≡ reach_set v.words v.links.now v.k j (λ u. eqb u (64 * w + b)) (reached f v.hops.now)
        whole n =
            side_ext (word_one v.words v.links.now v.k j f.a p (64 * w + b) n d) (word_one v.words v.links.now v.k (j + 1) f.b q (64 * w + b) n e)
            (word_one v.words v.links.now v.k (j + 2) f.c r (64 * w + b) n g) (word_one v.words v.links.now v.k (j + 3) f.d s (64 * w + b) n h)
            (hop_one v.words v.links.now v.k (64 * w + b) v.hops.now n v.room.places)
