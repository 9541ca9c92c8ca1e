-- The marks of a call that searched from one depot alone, or from two: two tables filled, and one or two places of each changed. Assumes nothing.
use mathlib.Core.Path.{◌≡◌, refl, sym, ap, ap₂, ◌∙◌}
use mathlib.Core.Bool.{Bool, cond}
use mathlib.Core.List.{List}
use Prim.Native.Nat.{ℕ, ◌*◌, ◌<◌}
use lib.Dec.{eqb}
use lib.ListN.{set}
use borrow.Author.Tests.{eq-eqb, ne_eqb}
use Rattle.lists.specs.Lists.{range, mapl, overwrite}
use Rattle.lists.proofs.Buffers.{fill_put}
use Rattle.graph.specs.Distance.{unreached}
use Rattle.bounds.specs.Once.{Marked, marking, mark_once, mark_twice}

-- a table filled by g, and x at a
fill_once : (g : ℕ → ℕ) (n a x : ℕ) (t t₁ : List ℕ) → a < n → t₁ ≡ overwrite (mapl g (range n)) t
    → set t₁ a x ≡ overwrite (mapl (λ v. cond (eqb v a) x (g v)) (range n)) t
fill_once g n a x t t₁ l e =
    ap (λ (s : List ℕ). set s a x) e
    ∙ fill_put g (λ v. cond (eqb v a) x (g v)) n t a x l (ap (λ (b : Bool). cond b x (g a)) (sym (eq-eqb a a refl)))
    (λ k m q. ap (λ (b : Bool). cond b x (g k)) (sym (ne_eqb k a q)))

pub mark_is : (W mark other a e : ℕ) (M : Marked) (b s : List ℕ) → a < 64 * W → b ≡ overwrite (mapl (λ v. unreached) (range (64 * W))) M.bounds
    → s ≡ overwrite (mapl (λ v. other) (range (64 * W))) M.skips
    → marking (set b a e) (set s a mark) ≡ mark_once W mark other a e M
unfolding mark_once
mark_is W mark other a e M b s l p q = ap₂ marking (fill_once (λ v. unreached) (64 * W) a e M.bounds b l p) (fill_once (λ v. other) (64 * W) a mark M.skips s l q)

pub twice_is : (W mark other a e b f : ℕ) (M : Marked) (bounds skips : List ℕ) → a < 64 * W → marking bounds skips ≡ mark_once W mark other b f M
    → marking (set bounds a e) (set skips a mark) ≡ mark_twice W mark other a e b f M
unfolding mark_once mark_twice
twice_is W mark other a e b f M bounds skips l q =
    ap₂ marking
    (fill_once (λ v. cond (eqb v b) f unreached) (64 * W) a e M.bounds bounds l (ap (λ (x : Marked). x.bounds) q))
    (fill_once (λ v. cond (eqb v b) mark other) (64 * W) a mark M.skips skips l (ap (λ (x : Marked). x.skips) q))
