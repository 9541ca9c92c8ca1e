-- Bounds, marks and remaining depots of a round in lent memory are the network's. Assumes nothing.
use mathlib.Core.Path.{◌≡◌, refl, ap, ◌∙◌}
use mathlib.Core.Logic.{◌⊎◌, inl, inr}
use mathlib.Core.Bool.{Bool, true, false, cond, not, ◌&&◌}
use mathlib.Core.List.{List}
use Prim.Native.Nat.{ℕ, ◌+◌, ◌*◌, ◌≤◌, ◌<◌, min}
use native.Mathlib.Omega.{arith}
use lib.Dec.{eqb, ltb}
use lib.ListN.{get_or, set}
use borrow.Author.Tests.{eqb-true, eq-eqb, ne_eqb, ltb-true, ltb-false}
use Rattle.std.proofs.lemmas.Bool.{cases_Bool}
use Rattle.lists.specs.Lists.{range, mapl, overwrite}
use Rattle.lists.proofs.Fills.{overwrite_twice, length_fill, fill_at, fill_ext}
use Rattle.lists.proofs.Buffers.{fill_put}
use Rattle.graph.specs.Network.{Network}
use Rattle.graph.specs.Distance.{unreached, dist}
use Rattle.graph.specs.Rounds.{Status, waiting, skipped, searched, is_waiting, State, offer}
use Rattle.rows.specs.Rows.{row_bit, encode_row, put_bit}
use Rattle.rows.proofs.Written.{row_at}
use Rattle.rows.proofs.Wholes.{encode_row_ext, row_over}
use Rattle.rows.proofs.Puts.{put_row_lem}
use Rattle.bounds.specs.Bounds.{Marks, leave_of, bound_after, skip_after, waiting_after, relax_of}
use Rattle.rounds.proofs.Holding.{run_bound, run_mark, bound_place, skip_place, waiting_place}

-- ---- one depot that is not the reference

bound_offer : (o : Bool) (s : Status) (c r x : ℕ) → cond (o && is_waiting s) (min x (cond o (run_bound s) unreached)) (cond o (run_bound s) unreached) ≡ cond o (run_bound (offer c r x s)) unreached
unfolding offer
bound_offer false s c r x = refl
bound_offer true (waiting b g) c r x = go (ltb (min x b) c)
  where
    go : (t : Bool) → min x b ≡ run_bound (cond t (skipped (min x b) (cond (ltb x b) r g)) (waiting (min x b) (cond (ltb x b) r g)))
    go true = refl
    go false = refl
bound_offer true (skipped b g) c r x = refl
bound_offer true (searched e) c r x = refl

waiting_offer : (o : Bool) (s : Status) (c r x : ℕ)
    → ((o && is_waiting s) && not (ltb (cond (o && is_waiting s) (min x (cond o (run_bound s) unreached)) (cond o (run_bound s) unreached)) c)) ≡ (o && is_waiting (offer c r x s))
unfolding offer
waiting_offer false s c r x = refl
waiting_offer true (waiting b g) c r x = go (ltb (min x b) c)
  where
    go : (t : Bool) → not t ≡ is_waiting (cond t (skipped (min x b) (cond (ltb x b) r g)) (waiting (min x b) (cond (ltb x b) r g)))
    go true = refl
    go false = refl
waiting_offer true (skipped b g) c r x = refl
waiting_offer true (searched e) c r x = refl

-- a waiting depot's bound is at most 65,535
abbrev pub IsLow : Status → Type 0
IsLow s = run_bound s ≤ unreached

skip_offer : (mark other : ℕ) (o : Bool) (s : Status) (c r x : ℕ) → IsLow s → c ≤ unreached
    → cond ((o && is_waiting s) && ltb x (cond o (run_bound s) unreached)) r (cond o (run_mark mark other s) other) ≡ cond o (run_mark mark other (offer c r x s)) other
unfolding offer
skip_offer mark other false s c r x low top = refl
skip_offer mark other true (waiting b g) c r x low top = go (ltb x b) (ltb (min x b) c) refl refl
  where
    go : (t u : Bool) → ltb x b ≡ t → ltb (min x b) c ≡ u
        → cond t r (cond (eqb b unreached) other g) ≡ run_mark mark other (cond u (skipped (min x b) (cond t r g)) (waiting (min x b) (cond t r g)))
    go true true p q = refl
    go true false p q = let l : x < b = ltb-true x b p in rw (ne_eqb (min x b) unreached (λ z. omega arith))
    go false true p q = let l : min x b < c = ltb-true (min x b) c q in let m : b ≤ x = ltb-false x b p in rw (ne_eqb b unreached (λ z. omega arith))
    go false false p q = let m : b ≤ x = ltb-false x b p in let k : min x b ≡ b = omega arith in rw k
skip_offer mark other true (skipped b g) c r x low top = refl
skip_offer mark other true (searched e) c r x low top = refl

-- ---- the tables

module _ (W mark other : ℕ) (G : Network) (S S' : State) (r e c : ℕ) (rl : r < 64 * W) (o : G.is_open r ≡ true)
    (st : (v : ℕ) → S'.status v ≡ cond (eqb v r) (searched e) (offer c r (e + dist G r v) (S.status v)))
    (low : (v : ℕ) → G.is_open v ≡ true → IsLow (S.status v)) (top : c ≤ unreached)
    (bounds₀ skips₀ waiting₀ hops : List ℕ) (hop : (v : ℕ) → v < 64 * W → get_or hops v 0 ≡ dist G r v) (M : Marks)
    (bounds_are : M.bounds ≡ overwrite (mapl (bound_place G S) (range (64 * W))) bounds₀)
    (skips_are : M.skips ≡ overwrite (mapl (skip_place mark other G S) (range (64 * W))) skips₀)
    (waiting_is : M.waiting ≡ overwrite (encode_row W (waiting_place G S)) waiting₀) where
  abbrev M₁ : Marks
  M₁ = leave_of W r e mark M

  left_bound : ℕ → ℕ
  left_bound v = cond (eqb v r) e (bound_place G S v)

  left_skip : ℕ → ℕ
  left_skip v = cond (eqb v r) mark (skip_place mark other G S v)

  left_waiting : ℕ → Bool
  left_waiting v = cond (eqb v r) false (waiting_place G S v)

  -- ---- after r has left

  bounds_left : M₁.bounds ≡ overwrite (mapl left_bound (range (64 * W))) bounds₀
  unfolding leave_of left_bound
  bounds_left =
      ap (λ (l : List ℕ). set l r e) bounds_are
      ∙ fill_put (bound_place G S) left_bound (64 * W) bounds₀ r e rl (rw (eq-eqb r r refl)) (λ k l n. rw (ne_eqb k r n))

  skips_left : M₁.skips ≡ overwrite (mapl left_skip (range (64 * W))) skips₀
  unfolding leave_of left_skip
  skips_left =
      ap (λ (l : List ℕ). set l r mark) skips_are
      ∙ fill_put (skip_place mark other G S) left_skip (64 * W) skips₀ r mark rl (rw (eq-eqb r r refl)) (λ k l n. rw (ne_eqb k r n))

  waiting_left : M₁.waiting ≡ overwrite (encode_row W left_waiting) waiting₀
  unfolding leave_of left_waiting
  waiting_left = ap (put_bit W 0 r false) waiting_is ∙ put_row_lem W r false (waiting_place G S) waiting₀ rl

  bound_at_lem : (v : ℕ) → v < 64 * W → get_or M₁.bounds v 0 ≡ left_bound v
  bound_at_lem v l = ap (λ (t : List ℕ). get_or t v 0) bounds_left ∙ fill_at left_bound bounds₀ (64 * W) v 0 l

  skip_at : (v : ℕ) → v < 64 * W → get_or M₁.skips v 0 ≡ left_skip v
  skip_at v l = ap (λ (t : List ℕ). get_or t v 0) skips_left ∙ fill_at left_skip skips₀ (64 * W) v 0 l

  waiting_at : (v : ℕ) → v < 64 * W → row_bit W M₁.waiting v ≡ left_waiting v
  waiting_at v l = ap (λ (t : List ℕ). row_bit W t v) waiting_left ∙ row_at W left_waiting waiting₀ v l

  -- ---- each place after the pass

  open_at : (v : ℕ) → v ≡ r → G.is_open v ≡ true
  open_at v q = ap G.is_open q ∙ o

  bound_place_lem : (v : ℕ) → v < 64 * W → bound_after W hops e M₁ v ≡ bound_place G S' v
  unfolding bound_after bound_place left_bound left_waiting waiting_place
  bound_place_lem v l = rw (waiting_at v l, bound_at_lem v l, hop v l, st v) (go (cases_Bool (eqb v r)))
    where
      go : (eqb v r ≡ true) ⊎ (eqb v r ≡ false)
          → cond (cond (eqb v r) false (G.is_open v && is_waiting (S.status v))) (min (e + dist G r v) (cond (eqb v r) e (cond (G.is_open v) (run_bound (S.status v)) unreached))) (cond (eqb v r) e (cond (G.is_open v) (run_bound (S.status v)) unreached))
          ≡ cond (G.is_open v) (run_bound (cond (eqb v r) (searched e) (offer c r (e + dist G r v) (S.status v)))) unreached
      go (inl q) = rw (q, open_at v (eqb-true v r q))
      go (inr q) = rw q (bound_offer (G.is_open v) (S.status v) c r (e + dist G r v))

  skip_place_lem : (v : ℕ) → v < 64 * W → skip_after W hops r e M₁ v ≡ skip_place mark other G S' v
  unfolding skip_after skip_place bound_place left_bound left_skip left_waiting waiting_place
  skip_place_lem v l = rw (waiting_at v l, bound_at_lem v l, skip_at v l, hop v l, st v) (go (cases_Bool (eqb v r)))
    where
      at : (b : Bool) → G.is_open v ≡ b
          → cond ((G.is_open v && is_waiting (S.status v)) && ltb (e + dist G r v) (cond (G.is_open v) (run_bound (S.status v)) unreached)) r (cond (G.is_open v) (run_mark mark other (S.status v)) other)
          ≡ cond (G.is_open v) (run_mark mark other (offer c r (e + dist G r v) (S.status v))) other
      at true q = skip_offer mark other (G.is_open v) (S.status v) c r (e + dist G r v) (low v q) top
      at false q = rw q

      go : (eqb v r ≡ true) ⊎ (eqb v r ≡ false)
          → cond (cond (eqb v r) false (G.is_open v && is_waiting (S.status v)) && ltb (e + dist G r v) (cond (eqb v r) e (cond (G.is_open v) (run_bound (S.status v)) unreached))) r (cond (eqb v r) mark (cond (G.is_open v) (run_mark mark other (S.status v)) other))
          ≡ cond (G.is_open v) (run_mark mark other (cond (eqb v r) (searched e) (offer c r (e + dist G r v) (S.status v)))) other
      go (inl q) = rw (q, open_at v (eqb-true v r q))
      go (inr q) = rw q (at (G.is_open v) refl)

  waiting_place_lem : (v : ℕ) → v < 64 * W → waiting_after W hops e c M₁ v ≡ waiting_place G S' v
  unfolding waiting_after bound_after bound_place left_bound left_waiting waiting_place
  waiting_place_lem v l = rw (waiting_at v l, bound_at_lem v l, hop v l, st v) (go (cases_Bool (eqb v r)))
    where
      go : (eqb v r ≡ true) ⊎ (eqb v r ≡ false)
          → (cond (eqb v r) false (G.is_open v && is_waiting (S.status v))
          && not (ltb (cond (cond (eqb v r) false (G.is_open v && is_waiting (S.status v))) (min (e + dist G r v) (cond (eqb v r) e (cond (G.is_open v) (run_bound (S.status v)) unreached))) (cond (eqb v r) e (cond (G.is_open v) (run_bound (S.status v)) unreached))) c))
          ≡ (G.is_open v && is_waiting (cond (eqb v r) (searched e) (offer c r (e + dist G r v) (S.status v))))
      go (inl q) = rw (q, open_at v (eqb-true v r q))
      go (inr q) = rw q (waiting_offer (G.is_open v) (S.status v) c r (e + dist G r v))

  -- ---- THE TABLES AFTER A ROUND

  pub bounds_after : (relax_of W hops r e c M₁).bounds ≡ overwrite (mapl (bound_place G S') (range (64 * W))) bounds₀
  unfolding relax_of
  bounds_after =
      ap (overwrite (mapl (bound_after W hops e M₁) (range (64 * W)))) bounds_left
      ∙ overwrite_twice (mapl (bound_after W hops e M₁) (range (64 * W))) (mapl left_bound (range (64 * W))) bounds₀ (omega (arith, length_fill (bound_after W hops e M₁) (64 * W), length_fill left_bound (64 * W)))
      ∙ ap (λ (t : List ℕ). overwrite t bounds₀) (fill_ext (bound_after W hops e M₁) (bound_place G S') (64 * W) bound_place_lem)

  pub skips_after : (relax_of W hops r e c M₁).skips ≡ overwrite (mapl (skip_place mark other G S') (range (64 * W))) skips₀
  unfolding relax_of
  skips_after =
      ap (overwrite (mapl (skip_after W hops r e M₁) (range (64 * W)))) skips_left
      ∙ overwrite_twice (mapl (skip_after W hops r e M₁) (range (64 * W))) (mapl left_skip (range (64 * W))) skips₀ (omega (arith, length_fill (skip_after W hops r e M₁) (64 * W), length_fill left_skip (64 * W)))
      ∙ ap (λ (t : List ℕ). overwrite t skips₀) (fill_ext (skip_after W hops r e M₁) (skip_place mark other G S') (64 * W) skip_place_lem)

  pub waiting_after_lem : (relax_of W hops r e c M₁).waiting ≡ overwrite (encode_row W (waiting_place G S')) waiting₀
  unfolding relax_of
  waiting_after_lem =
      ap (overwrite (encode_row W (waiting_after W hops e c M₁))) waiting_left
      ∙ row_over W (waiting_after W hops e c M₁) left_waiting waiting₀
      ∙ ap (λ (t : List ℕ). overwrite t waiting₀) (encode_row_ext W (waiting_after W hops e c M₁) (waiting_place G S') waiting_place_lem)
