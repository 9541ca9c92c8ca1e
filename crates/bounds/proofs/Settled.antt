-- Settled bounds: where every remaining depot has a bound from the limit to the reference's eccentricity, relaxing changes nothing; and a reference that
-- leaves changes no bound of the others. For any number of words per row. Assumes nothing.
use mathlib.Core.Path.{◌≡◌, refl, sym, ap, ap₂, ◌∙◌}
use mathlib.Core.Logic.{◌≢◌, ◌⊎◌, inl, inr}
use mathlib.Core.Bool.{Bool, true, false, cond, not, ◌&&◌}
use mathlib.Core.List.{List}
use Prim.Native.Nat.{ℕ, ◌+◌, ◌*◌, ◌≤◌, ◌<◌, min}
use native.Mathlib.Omega.{arith}
use lib.Dec.{ltb}
use lib.ListN.{length, get_or}
use lib.Seq.{get_or-set_other}
use borrow.Author.Tests.{le-ltb}
use Rattle.std.proofs.lemmas.Bool.{cases_Bool, cases_eq}
use Rattle.lists.proofs.Tests.{clash}
use Rattle.lists.proofs.Buffers.{fill_whole}
use Rattle.rows.specs.Rows.{row_bit, put_bit, InTable}
use Rattle.rows.proofs.Written.{table_zero}
use Rattle.rows.proofs.Puts.{put_here, put_rest}
use Rattle.bounds.specs.Bounds.{Marks, marks, leave_of, bound_after, skip_after, waiting_after, relax_of, AreBetween}
use Rattle.ranks.specs.Ranks.{remains, waiting_of}
use Rattle.ranks.proofs.Ranks.{waiting_at, waiting_ext, over_waiting}

-- ---- a reference that leaves

module _ (W r e mark : ℕ) (M : Marks) (inside : r < 64 * W) (fits : W ≤ length M.waiting) where
  -- who remains then is another, and remained before
  pub left_bit : (v : ℕ) → row_bit W (leave_of W r e mark M).waiting v ≡ true → (v ≢ r) × (row_bit W M.waiting v ≡ true)
  unfolding leave_of
  left_bit v h = go (cases_eq v r)
    where
      in_table : InTable W M.waiting 0 r
      in_table = record { row = omega arith; below = omega arith; column = inside }

      go : (v ≡ r) ⊎ (v ≢ r) → (v ≢ r) × (row_bit W M.waiting v ≡ true)
      go (inl q) = absurd (clash (ap (row_bit W (put_bit W 0 r false M.waiting)) (sym q) ∙ h) (sym (table_zero W (put_bit W 0 r false M.waiting) r) ∙ put_here W 0 r false M.waiting in_table))
      go (inr n) = (n, sym (table_zero W M.waiting v) ∙ sym (put_rest W 0 r false M.waiting in_table 0 v (λ z. n z.1)) ∙ table_zero W (put_bit W 0 r false M.waiting) v ∙ h)

  pub left_between : (low high : ℕ) → AreBetween W low high M → AreBetween W low high (leave_of W r e mark M)
  unfolding leave_of
  left_between low high B = record { each = λ v l h. let k = left_bit v h in rw (get_or-set_other M.bounds r v e 0 k.0) (B.each v l k.1) }

-- ---- every code

module _ (W : ℕ) (hops : List ℕ) (r e c : ℕ) (bounds skips ranks : List ℕ)
    (settled : AreBetween W c e (marks bounds skips (waiting_of W ranks))) where
  abbrev M : Marks
  M = marks bounds skips (waiting_of W ranks)

  abbrev waits : ℕ → Bool
  waits v = row_bit W (waiting_of W ranks) v

  -- bound, skip and the depot itself stay: no offer e + hop is below a bound that is at most e
  bound_same : (v : ℕ) → v < 64 * W → get_or bounds v 0 ≡ bound_after W hops e M v
  unfolding bound_after
  bound_same v l = go (cases_Bool (waits v))
    where
      go : (waits v ≡ true) ⊎ (waits v ≡ false) → get_or bounds v 0 ≡ cond (waits v) (min (e + get_or hops v 0) (get_or bounds v 0)) (get_or bounds v 0)
      go (inl h) = rw h (omega (arith, settled.each v l h))
      go (inr h) = rw h refl

  skip_same : (v : ℕ) → v < 64 * W → get_or skips v 0 ≡ skip_after W hops r e M v
  unfolding skip_after
  skip_same v l = go (cases_Bool (waits v))
    where
      go : (waits v ≡ true) ⊎ (waits v ≡ false) → get_or skips v 0 ≡ cond (waits v && ltb (e + get_or hops v 0) (get_or bounds v 0)) r (get_or skips v 0)
      go (inl h) = rw (h, le-ltb (e + get_or hops v 0) (get_or bounds v 0) (omega (arith, settled.each v l h))) refl
      go (inr h) = rw h refl

  waits_same : (v : ℕ) → v < 64 * W → remains ranks v ≡ waiting_after W hops e c M v
  unfolding waiting_after
  waits_same v l = sym (waiting_at W ranks v l) ∙ go (cases_Bool (waits v))
    where
      go : (waits v ≡ true) ⊎ (waits v ≡ false) → waits v ≡ (waits v && not (ltb (bound_after W hops e M v) c))
      go (inl h) = rw (h, le-ltb (bound_after W hops e M v) c (omega (arith, bound_same v l, settled.each v l h))) refl
      go (inr h) = rw h refl

  -- THE LAW
  pub relax_settled : 64 * W ≤ length bounds → 64 * W ≤ length skips → marks bounds skips (waiting_of W ranks) ≡ relax_of W hops r e c M
  unfolding relax_of
  relax_settled lb ls =
      ap₂ (λ (f : List ℕ → Marks) (w : List ℕ). f w)
      (ap₂ marks
      (fill_whole (bound_after W hops e M) (64 * W) bounds lb bound_same)
      (fill_whole (skip_after W hops r e M) (64 * W) skips ls skip_same))
      (waiting_ext W ranks (waiting_after W hops e c M) waits_same ∙ sym (over_waiting W ranks (waiting_after W hops e c M)))
