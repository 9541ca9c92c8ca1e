-- A NOTICE, AND A LINK, IS REFUSED by the first condition of rule 8.1 that holds. Assumes nothing.
use mathlib.Core.Path.{◌≡◌, refl, sym, ap, ◌∙◌}
use mathlib.Core.Logic.{◌↔◌}
use mathlib.Core.Bool.{Bool, true, false, not, ◌&&◌}
use mathlib.Core.List.Memᴰ
use mathlib.Core.List.{List, [], ◌∷◌}
use Prim.Native.Nat.{ℕ, zero, suc, ◌≤◌, ◌<◌}
use native.Mathlib.Nat.{lt_irrefl}
use native.Mathlib.Omega.{arith}
use lib.Dec.{T, eqb, ltb}
use lib.ListN.{length, get_or}
use borrow.Author.Tests.{ltb-true, lt-ltb, ltb-false, eqb-true, eq-eqb}
use Rattle.lists.specs.Lists.{memb, first_of}
use Rattle.lists.specs.Conditions.{FirstHolds}
use Rattle.lists.proofs.Tests.{clash, t→true, true→t}
use Rattle.lists.proofs.Members.{in_memb}
use Rattle.lists.proofs.Distinct.{memb_nil}
use Rattle.lists.proofs.Conditions.{Decides, decides_iff, decides_test, decides_nand, decides_and, decides_fails, Tells, tells_first}
use Rattle.graph.specs.Network.{Network, IsSound}
use Rattle.graph.specs.Distance.{vertices}
use Rattle.graph.specs.Opening.{Notice, strictly_rising, is_empty, notice_faults, open_faults}
use Rattle.graph.specs.Linking.{link_faults}
use Rattle.graph.specs.Refusals.{IsUnsorted, IsItself, notice_conditions, link_conditions, own_conditions}
use Rattle.graph.specs.Updates.{Update, opens, joins, update_faults}

-- 6: no neighbours, and some depot
pub decides_none : (xs : List ℕ) → Decides (is_empty xs) (xs ≡ [])
unfolding is_empty
decides_none [] = record { holds = λ e. refl; fails = λ e q. clash refl e }
decides_none (x ∷ xs) = record { holds = λ e. absurd (clash e refl); fails = λ e q. lt_irrefl 0 (let z : suc (length xs) ≡ 0 = ap length q in omega arith) }

-- a network whose open depots are those listed
abbrev pub AreListed : Network → Type 0
AreListed G = (u : ℕ) → G.is_open u ≡ memb u (vertices G)

pub decides_some : (G : Network) → AreListed G → Decides (ltb 0 (length (vertices G))) ((u : ℕ) × T (G.is_open u))
decides_some G listed = go (vertices G) refl
  where
    go : (vs : List ℕ) → vertices G ≡ vs → Decides (ltb 0 (length vs)) ((u : ℕ) × T (G.is_open u))
    go [] q = record {
      holds = λ e. absurd (lt_irrefl 0 (ltb-true 0 0 e));
      fails = λ e x. clash (sym (listed x.0) ∙ t→true (G.is_open x.0) x.1) (ap (memb x.0) q ∙ memb_nil x.0);
    }
    go (r ∷ vs) q = record {
      holds = λ e. (r, true→t (listed r ∙ ap (memb r) q ∙ in_memb r (r ∷ vs) (Memᴰ.head refl)));
      fails = λ e x. clash (lt-ltb 0 (suc (length vs)) (omega arith)) e;
    }

-- 7: two neighbours side by side that do not rise
decides_unsorted : (ns : List ℕ) → Decides (not (strictly_rising ns)) (IsUnsorted ns)
unfolding strictly_rising
decides_unsorted [] = record { holds = λ e. absurd (clash e refl); fails = λ e x. omega (arith, x.1) }
decides_unsorted (x ∷ []) = record { holds = λ e. absurd (clash e refl); fails = λ e x. omega (arith, x.1) }
decides_unsorted (x ∷ y ∷ ys) = go (ltb x y) refl (decides_unsorted (y ∷ ys))
  where
    go : (b : Bool) → ltb x y ≡ b → Decides (not (strictly_rising (y ∷ ys))) (IsUnsorted (y ∷ ys)) → Decides (not (b && strictly_rising (y ∷ ys))) (IsUnsorted (x ∷ y ∷ ys))
    go false f d = record { holds = λ e. (0, omega arith, ltb-false x y f); fails = λ e. absurd (clash refl e) }
    go true t d = record { holds = λ e. let r = d.holds e in (suc r.0, omega (arith, r.1), r.2); fails = λ e z. at e z.0 z.1 z.2 }
      where
        at : not (strictly_rising (y ∷ ys)) ≡ false → (i : ℕ) → suc i < length (x ∷ y ∷ ys) → get_or (x ∷ y ∷ ys) (suc i) 0 ≤ get_or (x ∷ y ∷ ys) i 0 → ⊥
        at e zero l g = omega (arith, ltb-true x y t, g)
        at e (suc i) l g = d.fails e (i, omega (arith, l), g)

pub notice_tells : (G : Network) → AreListed G → (o : Notice) → Tells (open_faults G o) (notice_conditions G o)
unfolding open_faults notice_faults
notice_tells G listed o = (
  refl,
  decides_test (G.is_open o.code),
  λ f5. (
    refl,
    decides_and (is_empty o.neighbours) (decides_none o.neighbours) (decides_some G listed),
    λ f6. (refl, decides_unsorted o.neighbours, λ f7. (refl, decides_fails G.is_open o.neighbours, λ f8. tt)),
  ),
)

pub notice_refusals : (G : Network) → IsSound G → (o : Notice) (k : ℕ) → (first_of (open_faults G o) ≡ k) ↔ FirstHolds (notice_conditions G o) k
notice_refusals G sound o k = tells_first (open_faults G o) (notice_conditions G o) (notice_tells G sound.listed o) k

-- ---- a link

decides_itself : (a b : ℕ) → Decides (eqb a b) (IsItself a b)
decides_itself a b = decides_iff (eqb-true a b, eq-eqb a b)

pub link_tells : (G : Network) (a b : ℕ) → Tells (link_faults G a b) (link_conditions G a b)
unfolding link_faults
link_tells G a b = (
  refl,
  decides_nand (G.is_open a) (G.is_open b) (decides_test (G.is_open a)) (decides_test (G.is_open b)),
  λ f4. (refl, decides_itself a b, λ f13. (refl, decides_test (G.linked a b), λ f14. tt)),
)

pub link_refusals : (G : Network) (a b k : ℕ) → (first_of (link_faults G a b) ≡ k) ↔ FirstHolds (link_conditions G a b) k
link_refusals G a b k = tells_first (link_faults G a b) (link_conditions G a b) (link_tells G a b) k

-- ---- any update

pub update_tells : (G : Network) → AreListed G → (o : Update) → Tells (update_faults G o) (own_conditions G o)
unfolding update_faults
update_tells G listed (opens o) = notice_tells G listed o
update_tells G listed (joins a b) = link_tells G a b
