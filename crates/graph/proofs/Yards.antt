-- WHAT YARDS CHANGE IN THE STEPS, AND WHERE THERE ARE NONE. Assumes nothing.
use mathlib.Core.Path.{◌≡◌, refl, sym, ap, ◌∙◌}
use mathlib.Core.Logic.{◌⊎◌, ◌↔◌, inl, inr}
use mathlib.Core.Bool.{Bool, true, false, cond, not, ◌&&◌, ◌||◌}
use mathlib.Core.List.{List, [], ◌∷◌}
use Prim.Native.Nat.{ℕ}
use native.Mathlib.Nat.{lt_irrefl}
use native.Mathlib.Omega.{arith}
use lib.Dec.{eqb, ltb}
use borrow.Author.Tests.{eqb-true, eq-eqb}
use Rattle.std.proofs.lemmas.Bool.{cases_Bool, and_parts, or_cases}
use Rattle.lists.proofs.Tests.{false→not, clash}
use Rattle.outcome.specs.declared.Change.TheVariants.{Grew, Kept}
use Rattle.graph.specs.Network.{Network, with_yards, IsSound, Walk, stay, step, delivers, HasNoYard}
use Rattle.graph.specs.Distance.{vertices, dist, reached_all, connected}
use Rattle.graph.specs.Chart.{Chart, ecc, Pairs, own_pairs}
use Rattle.graph.specs.Rounds.{State, raise, join_pairs, round}
use Rattle.graph.specs.Opening.{empty_network, add_depot, with_depot, via, staying_pairs, any_pair, searched_once, grows_by, kept_by, opening}
use Rattle.graph.specs.Linking.{add_link}
use Rattle.graph.specs.Updates.{Update, opens, joins, applied}
use Rattle.graph.specs.Yards.{IsYardOpened, IsYardSearched, OpensNoYard}
use Rattle.graph.proofs.Tested.{by_tests}

or_none : (b c : Bool) → c ≡ false → (b || c) ≡ b
or_none true c q = refl
or_none false c q = q

-- ---- a depot that is no destination

module _ (C : Chart) (a : ℕ) (yard : C.is_destination a ≡ false) where
  -- it has no pairs of its own
  pub own_none : (e u v : ℕ) → own_pairs C a e u v ≡ false
  unfolding own_pairs
  own_none e u v = go (cases_Bool (own_pairs C a e u v))
    where
      at : C.is_destination u ≡ true → C.is_destination v ≡ true → ((eqb u a && eqb (C.distance a v) e) ≡ true) ⊎ ((eqb v a && eqb (C.distance a u) e) ≡ true) → ⊥
      at tu tv (inl h) = clash (ap C.is_destination (sym (eqb-true u a (and_parts (eqb u a) (eqb (C.distance a v) e) h).0)) ∙ tu) yard
      at tu tv (inr h) = clash (ap C.is_destination (sym (eqb-true v a (and_parts (eqb v a) (eqb (C.distance a u) e) h).0)) ∙ tv) yard

      go : (own_pairs C a e u v ≡ true) ⊎ (own_pairs C a e u v ≡ false) → own_pairs C a e u v ≡ false
      go (inl t) =
          let p = and_parts (ltb u v && C.is_destination u && C.is_destination v) _ t in
          let q = and_parts (ltb u v && C.is_destination u) (C.is_destination v) p.0 in
          absurd (at (and_parts (ltb u v) (C.is_destination u) q.0).1 q.1 (or_cases (eqb u a && eqb (C.distance a v) e) (eqb v a && eqb (C.distance a u) e) p.1))
      go (inr f) = f

  -- a round from it
  pub yard_searched : (S : State) → IsYardSearched C a S
  unfolding round raise join_pairs
  yard_searched S = record { candidate = rw yard refl; pairs = λ u v. pair u v (eqb (ecc C a) S.candidate && not (eqb (ecc C a) 0)) }
    where
      pair : (u v : ℕ) (same : Bool)
          → cond (C.is_destination a && ltb S.candidate (ecc C a)) (own_pairs C a (ecc C a)) (cond same (λ u v. S.pairs u v || own_pairs C a (ecc C a) u v) S.pairs) u v
          ≡ S.pairs u v
      pair u v true = rw yard (or_none (S.pairs u v) (own_pairs C a (ecc C a) u v) (own_none (ecc C a) u v))
      pair u v false = rw yard refl

  -- its opening
  module _ (D : ℕ) (P : Pairs) where
    grows_not : grows_by C a D ≡ false
    unfolding grows_by
    grows_not = rw yard refl

    kept_zero : kept_by C a D ≡ eqb D 0
    unfolding kept_by
    kept_zero = rw yard refl

    abbrev stays : Bool
    stays = any_pair C.depots (staying_pairs (via C a) D P)

    never : {A : Type 0} → ◌≡◌ {A = ℕ} 0 1 → A
    never z = absurd (lt_irrefl 0 (omega arith))

    grows_never : {A : Type 0} → grows_by C a D ≡ true → A
    grows_never p = absurd (clash p grows_not)

    -- what the test of rule 4.3 says of it
    zero_of : kept_by C a D ≡ true → D ≡ 0
    zero_of q = eqb-true D 0 (sym kept_zero ∙ q)

    pub yard_opened : IsYardOpened C a D P
    unfolding opening searched_once
    yard_opened = record {
      never = by_tests (λ o. o.change ≡ Grew → ⊥) (grows_by C a D) (kept_by C a D) stays grows_never (λ p q g. never (cc)) (λ p q r g. never (cc)) (λ p q r g. never (cc));
      kept = by_tests (λ o. (o.change ≡ Kept) ↔ ((D ≡ 0) ⊎ (stays ≡ true))) (grows_by C a D) (kept_by C a D) stays grows_never
          (λ p q. (λ g. inl (zero_of q), λ g. refl))
          (λ p q r. (λ g. inr r, λ g. refl))
          (λ p q r. (λ g. never (cc), neither q r));
      pairs = by_tests (λ o. o.change ≡ Kept → (u v : ℕ) → o.final.pairs u v ≡ staying_pairs (via C a) D P u v) (grows_by C a D) (kept_by C a D) stays grows_never
          (λ p q g u v. or_none (staying_pairs (via C a) D P u v) (own_pairs C a D u v) (own_none D u v))
          (λ p q r g u v. refl)
          (λ p q r g u v. never (cc));
    }
      where
        neither : kept_by C a D ≡ false → stays ≡ false → {A : Type 0} → (D ≡ 0) ⊎ (stays ≡ true) → A
        neither q r (inl z) = absurd (clash (kept_zero ∙ eq-eqb D 0 z) q)
        neither q r (inr k) = absurd (clash k r)

-- ---- the same network with other yards

module _ (Y : ℕ → Bool) (G : Network) where
  -- connectedness asks nothing of the yards
  pub yards_connected : connected (with_yards Y G) ≡ connected G
  unfolding connected reached_all dist
  yards_connected = go (vertices G)
    where
      go : (vs : List ℕ) → reached_all (with_yards Y G) vs ≡ reached_all G vs
      go [] = refl
      go (r ∷ vs) = refl

  pub yards_walk : {k u v : ℕ} → Walk G k u v → Walk (with_yards Y G) k u v
  yards_walk stay = stay
  yards_walk (step l p) = step l (yards_walk p)

  pub walk_yards : {k u v : ℕ} → Walk (with_yards Y G) k u v → Walk G k u v
  walk_yards stay = stay
  walk_yards (step l p) = step l (walk_yards p)

  -- a sound network without its yards
  pub sound_yardless : IsSound (with_yards Y G) → HasNoYard G → IsSound G
  sound_yardless s none = record {
    listed = s.listed;
    once = s.once;
    yards = λ v t. absurd (false→not (none v) t);
    ends = s.ends;
    loopless = s.loopless;
    symmetric = s.symmetric;
  }

-- ---- without yards

pub no_yard_delivers : (G : Network) → HasNoYard G → (v : ℕ) → delivers G v ≡ G.is_open v
unfolding delivers
no_yard_delivers G none v = rw (none v) (go (G.is_open v))
  where
    go : (b : Bool) → (b && true) ≡ b
    go true = refl
    go false = refl

pub no_yard_empty : HasNoYard empty_network
unfolding empty_network
no_yard_empty v = refl

pub no_yard_after : (G : Network) → HasNoYard G → (u : Update) → OpensNoYard u → HasNoYard (applied G u)
unfolding applied with_depot add_depot add_link
no_yard_after G none (opens o) p v = rw (p, none v) refl
no_yard_after G none (joins a b) p v = none v
