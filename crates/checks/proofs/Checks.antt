-- Sound links and figures, from what the code finds. Assumes nothing.
use mathlib.Core.Path.{◌≡◌, sym, ◌∙◌}
use mathlib.Core.Bool.{Bool, true, false, not, and-true, and-false}
use mathlib.Core.List.{List, []}
use Prim.Native.Nat.{ℕ, ◌*◌, ◌≤◌, ◌<◌}
use lib.Dec.{eqb, ltb}
use borrow.Author.Tests.{eq-eqb, ne_eqb, lt-ltb, le-ltb}
use Rattle.lists.specs.Lists.{range, countb}
use Rattle.lists.proofs.Tests.{test_failed, test_passed}
use Rattle.lists.proofs.RangeCounts.{count_same}
use Rattle.rows.specs.Rows.{row_bit, table_bit}
use Rattle.rows.proofs.Written.{table_zero}
use Rattle.graph.specs.Chart.{count_pairs}
use Rattle.map.specs.Memory.{network_of, yard_network}
use Rattle.checks.specs.Sound.{all_set, sound_links, sound_figures}
use Rattle.map.specs.Bits.{sound_link, sound_yards, sound_pair}

-- ---- links

-- the open set is lent as row 0 of a table
members_count : (W : ℕ) (members : List ℕ) {r : ℕ} → r ≡ countb (table_bit W members 0) (range (64 * W)) → r ≡ countb (row_bit W members) (range (64 * W))
members_count W members e = e ∙ count_same (64 * W) (table_bit W members 0) (row_bit W members) (λ v l. table_zero W members v)

module _ (W : ℕ) (members yards links : List ℕ) {r number : ℕ} (e : r ≡ countb (table_bit W members 0) (range (64 * W))) where
  pub links_miscounted : (r ≡ number → ⊥) → false ≡ sound_links (64 * W) (yard_network W members yards links) number
  unfolding sound_links network_of
  links_miscounted ne =
      let q : eqb number (countb (row_bit W members) (range (64 * W))) ≡ false = ne_eqb number _ (λ p. ne (members_count W members e ∙ sym p)) in
      rw q

  module _ {y : Bool} (are : y ≡ sound_yards (64 * W) (yard_network W members yards [])) where
    pub links_closed_yard : r ≡ number → not y ≡ true → false ≡ sound_links (64 * W) (yard_network W members yards links) number
    unfolding sound_links sound_yards network_of
    links_closed_yard p failed =
        let q : eqb number (countb (row_bit W members) (range (64 * W))) ≡ true = eq-eqb number _ (sym p ∙ members_count W members e) in
        rw (q, test_failed are failed)

    pub links_scanned : r ≡ number → not y ≡ false → {f : Bool} → f ≡ all_set (64 * W) (table_bit W links) (sound_link (network_of W members links))
        → f ≡ sound_links (64 * W) (yard_network W members yards links) number
    unfolding sound_links sound_yards sound_link network_of
    links_scanned p ok h =
        let q : eqb number (countb (row_bit W members) (range (64 * W))) ≡ true = eq-eqb number _ (sym p ∙ members_count W members e) in
        rw (q, test_passed are ok) h

-- each test that fails is the answer, and the last is
pub ruleset link_answers = (links_miscounted, links_closed_yard, links_scanned)

-- ---- figures, whatever the links are

module _ (W : ℕ) (members links pairs : List ℕ) (chain count : ℕ) where
  pub figures_miscounted : {r : ℕ} → r ≡ count_pairs (range (64 * W)) (table_bit W pairs) → (r ≡ count → ⊥)
      → false ≡ sound_figures (64 * W) (network_of W members links) (table_bit W pairs) chain count
  unfolding sound_figures network_of
  figures_miscounted e ne =
      let q : eqb count (count_pairs (range (64 * W)) (table_bit W pairs)) ≡ false = ne_eqb count _ (λ p. ne (e ∙ sym p)) in
      rw (q, and-false (all_set (64 * W) (table_bit W pairs) (sound_pair (network_of W members links))))

  pub figures_too_long : 64 * W ≤ chain → false ≡ sound_figures (64 * W) (network_of W members links) (table_bit W pairs) chain count
  unfolding sound_figures network_of
  figures_too_long l =
      let q : ltb chain (64 * W) ≡ false = le-ltb chain (64 * W) l in
      rw (q, and-false _)

  pub figures_scanned : {r : ℕ} → r ≡ count_pairs (range (64 * W)) (table_bit W pairs) → r ≡ count → chain < 64 * W
      → {f : Bool} → f ≡ all_set (64 * W) (table_bit W pairs) (sound_pair (network_of W members links))
      → f ≡ sound_figures (64 * W) (network_of W members links) (table_bit W pairs) chain count
  unfolding sound_figures network_of
  figures_scanned e p l h =
      let q : eqb count (count_pairs (range (64 * W)) (table_bit W pairs)) ≡ true = eq-eqb count _ (sym p ∙ e) in
      let s : ltb chain (64 * W) ≡ true = lt-ltb chain (64 * W) l in
      rw (q, s) (h ∙ sym (and-true _ ∙ and-true _))

-- as with the links
pub ruleset figure_answers = (figures_miscounted, figures_too_long, figures_scanned)
