-- THE OPEN ROWS STAY THE FIRST, listed by their codes: after an opening, a link, and a closing whose gap the last row takes. Assumes nothing.
use mathlib.Core.Path.{◌≡◌, refl, sym, ap, ◌∙◌, subst}
use mathlib.Core.Logic.{◌⊎◌, ◌≢◌, inl, inr}
use mathlib.Core.Bool.{Bool, true, not, ◌&&◌, ◌||◌}
use mathlib.Core.List.{List, Memᴰ}
use Prim.Native.Nat.{ℕ, suc, ◌≤◌, ◌<◌}
use native.Mathlib.Nat.{lt_irrefl}
use native.Mathlib.Omega.{arith}
use lib.Dec.{T, eqb, ltb}
use borrow.Author.Tests.{ltb-true, lt-ltb, eqb-true, eq-eqb, eqb-false, ne_eqb, not-true}
use Rattle.std.proofs.lemmas.Bool.{and_parts, and_from, or_cases, or_left, or_right, cases_eq}
use Rattle.lists.specs.Lists.{range, mapl, memb}
use Rattle.lists.specs.Rising.{rises_by}
use Rattle.lists.proofs.Tests.{t→true, true→t, same_test}
use Rattle.lists.proofs.Members.{memb_in, in_memb}
use Rattle.lists.proofs.Distinct.{memb-range, distinct-range, insert_memb}
use Rattle.lists.proofs.Renamed.{map_in, map_out}
use Rattle.lists.proofs.Rising.{rises_one, insert_rises, sort_memb, sort_rises, rises_map, rises_ext, sort-range}
use Rattle.graph.specs.Network.{Network, IsSound}
use Rattle.graph.specs.Distance.{vertices}
use Rattle.graph.specs.Opening.{add_depot}
use Rattle.graph.specs.Linking.{add_link}
use Rattle.graph.specs.Closing.{remove_depot}
use Rattle.graph.specs.Renaming.{renamed_to, move_row}
use Rattle.graph.specs.Arrivals.{AreArrived}
use Rattle.graph.proofs.Distances.{vertices_in, vertices_out}
use Rattle.graph.proofs.Closed.{left_sound}
use Rattle.graph.proofs.Relabelled.{rising_closed}
use Rattle.graph.proofs.Moving.{moved_to, moved-not}

-- what is listed, and that it rises
module _ (code : ℕ → ℕ) (n : ℕ) (G : Network) (arrived : AreArrived code n G) where
  row_below : (v : ℕ) → memb v (range n) ≡ true → v < n
  row_below v m = ltb-true v n (sym (memb-range n v) ∙ m)

  pub arrived_rises : rises_by code (vertices G) ≡ true
  arrived_rises =
      ap (rises_by code) arrived.listed
      ∙ sort_rises code (range n) (distinct-range n) (λ u v mu mv e. arrived.differ u v (row_below u mu) (row_below v mv) e)

  pub arrived_memb : (v : ℕ) → memb v (vertices G) ≡ ltb v n
  arrived_memb v = ap (memb v) arrived.listed ∙ sort_memb code (range n) v ∙ memb-range n v

-- rows that are the first, listed so that their codes rise
arrived_of : (code : ℕ → ℕ) (n : ℕ) (G : Network) → rises_by code (vertices G) ≡ true → ((v : ℕ) → memb v (vertices G) ≡ ltb v n) → ((r : ℕ) → G.is_open r ≡ ltb r n)
    → AreArrived code n G
arrived_of code n G rising members first = record {
  listed = sort-range code n (vertices G) rising members;
  first = first;
  differ = λ u v lu lv e. rises_one code (vertices G) rising u v (members u ∙ lt-ltb u n lu) (members v ∙ lt-ltb v n lv) e;
}

-- ANOTHER TABLE that says the same of the open rows
pub arrived_same : (code code' : ℕ → ℕ) (n : ℕ) (G : Network) → ((r : ℕ) → r < n → code r ≡ code' r) → AreArrived code n G → AreArrived code' n G
arrived_same code code' n G same arrived =
    arrived_of code' n G
    (sym (rises_ext code code' (vertices G) (λ v m. same v (ltb-true v n (sym (arrived_memb code n G arrived v) ∙ in_memb v (vertices G) m)))) ∙ arrived_rises code n G arrived)
    (arrived_memb code n G arrived) arrived.first

-- AN OPENING takes the next row, whose code no open row has
pub arrived_opens : (code : ℕ → ℕ) (n : ℕ) (G : Network) → AreArrived code n G → ((r : ℕ) → r < n → code n ≡ code r → ⊥) → (y : Bool) (beside : ℕ → Bool)
    → AreArrived code (suc n) (add_depot code G y n beside)
unfolding add_depot
arrived_opens code n G arrived fresh y beside =
    arrived_of code (suc n) (add_depot code G y n beside)
    (insert_rises code n (vertices G) (λ r m e. fresh r (ltb-true r n (sym (arrived_memb code n G arrived r) ∙ m)) e) (arrived_rises code n G arrived))
    (λ v. insert_memb code n (vertices G) v ∙ ap (λ (b : Bool). eqb v n || b) (arrived_memb code n G arrived v) ∙ next v)
    (λ v. ap (λ (b : Bool). eqb v n || b) (arrived.first v) ∙ next v)
  where
    next : (v : ℕ) → (eqb v n || ltb v n) ≡ ltb v (suc n)
    next v = same_test (eqb v n || ltb v n) (ltb v (suc n)) (λ h. to (or_cases (eqb v n) (ltb v n) h)) (λ h. from (ltb-true v (suc n) h) (cases_eq v n))
      where
        to : (eqb v n ≡ true) ⊎ (ltb v n ≡ true) → ltb v (suc n) ≡ true
        to (inl e) = lt-ltb v (suc n) (omega (arith, eqb-true v n e))
        to (inr l) = lt-ltb v (suc n) (omega (arith, ltb-true v n l))

        from : v < suc n → (v ≡ n) ⊎ (v ≢ n) → (eqb v n || ltb v n) ≡ true
        from l (inl e) = or_left (eqb v n) (ltb v n) (eq-eqb v n e)
        from l (inr d) = or_right (eqb v n) (ltb v n) (lt-ltb v n (omega (arith, l, d)))

-- A LINK opens none
pub arrived_joins : (code : ℕ → ℕ) (n : ℕ) (G : Network) → AreArrived code n G → (a b : ℕ) → AreArrived code n (add_link G a b)
unfolding add_link
arrived_joins code n G arrived a b = record { listed = arrived.listed; first = arrived.first; differ = arrived.differ }

-- A CLOSING, after which the last row takes the gap
pub left_row : (code : ℕ → ℕ) (G : Network) (last gap : ℕ) → AreArrived code (suc last) G → (v : ℕ) → T ((remove_depot G gap).is_open v)
    → (v < suc last) × (v ≡ gap → ⊥)
unfolding remove_depot
left_row code G last gap arrived v o =
    let p = and_parts (G.is_open v) (not (eqb v gap)) (t→true (G.is_open v && not (eqb v gap)) o) in
    (ltb-true v (suc last) (sym (arrived.first v) ∙ p.0), eqb-false v gap (not-true (eqb v gap) p.1))

module _ (code code' : ℕ → ℕ) (G : Network) (sound : IsSound G) (last gap : ℕ) (low : gap ≤ last) (arrived : AreArrived code (suc last) G)
    (fits : (v : ℕ) → T ((remove_depot G gap).is_open v) → code' (move_row gap last v) ≡ code v) where
  abbrev left : Network
  left = remove_depot G gap

  rows : List ℕ
  rows = mapl (move_row gap last) (vertices left)

  rows_rise : rises_by code' rows ≡ true
  unfolding rows
  rows_rise =
      rises_map code' (move_row gap last) (vertices left)
      ∙ rises_ext (λ v. code' (move_row gap last v)) code (vertices left) (λ v m. fits v (vertices_out left (left_sound G sound gap) m))
      ∙ rising_closed code G gap (arrived_rises code (suc last) G arrived)

  row_left : (v : ℕ) → v < suc last → (v ≡ gap → ⊥) → T (left.is_open v)
  unfolding remove_depot
  row_left v l n = true→t (and_from _ _ (arrived.first v ∙ lt-ltb v (suc last) l) (ap not (ne_eqb v gap n)))

  rows_memb : (w : ℕ) → memb w rows ≡ ltb w last
  unfolding rows
  rows_memb w = same_test (memb w rows) (ltb w last) to (λ h. from (ltb-true w last h) (cases_eq w gap))
    where
      to : memb w rows ≡ true → ltb w last ≡ true
      to h =
          let r = map_out (move_row gap last) (vertices left) (memb_in w rows h) in
          let k = left_row code G last gap arrived r.0 (vertices_out left (left_sound G sound gap) r.1) in
          lt-ltb w last (by r.0 r.2 k.0 k.1 (cases_eq r.0 last))
        where
          by : (v : ℕ) → w ≡ move_row gap last v → v < suc last → (v ≡ gap → ⊥) → (v ≡ last) ⊎ (v ≢ last) → w < last
          by v q l n (inl e) = let g : w ≡ gap = q ∙ moved_to gap last v e in by_gap g (cases_eq gap last)
            where
              by_gap : w ≡ gap → (gap ≡ last) ⊎ (gap ≢ last) → w < last
              by_gap g (inl p) = absurd (n (e ∙ sym p))
              by_gap g (inr d) = omega (arith, g, low, d)
          by v q l n (inr d) = omega (arith, q ∙ moved-not gap last v d, l, d)

      into : (v : ℕ) → T (left.is_open v) → move_row gap last v ≡ w → memb w rows ≡ true
      into v o e = in_memb w rows (subst (λ (x : ℕ). Memᴰ x rows) e (map_in (move_row gap last) (vertices left) (vertices_in left (left_sound G sound gap) v o)))

      from : w < last → (w ≡ gap) ⊎ (w ≢ gap) → memb w rows ≡ true
      from l (inl e) = into last (row_left last (omega arith) (λ p. lt_irrefl last (omega (arith, l, e, p)))) (moved_to gap last last refl ∙ sym e)
      from l (inr d) = into w (row_left w (omega (arith, l)) d) (moved-not gap last w (λ p. lt_irrefl last (omega (arith, l, p))))

  pub arrived_closes : AreArrived code' last (renamed_to (move_row gap last) (remove_depot G gap))
  unfolding renamed_to rows
  arrived_closes = arrived_of code' last (renamed_to (move_row gap last) left) rows_rise rows_memb rows_memb
