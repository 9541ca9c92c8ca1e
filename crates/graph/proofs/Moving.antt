-- A ROW MOVES: after a closing the last row takes the place of the closed one, and nothing changes by code. Assumes nothing.
use mathlib.Core.Path.{◌≡◌, sym, ap, ap₂, ◌∙◌}
use mathlib.Core.Logic.{◌⊎◌, inl, inr}
use mathlib.Core.Bool.{not, ◌&&◌}
use Prim.Native.Nat.{ℕ}
use lib.Dec.{T, eqb}
use borrow.Author.Tests.{eqb-false, eq-eqb, ne_eqb, not-true}
use Rattle.std.proofs.lemmas.Bool.{and_parts, cases_eq}
use Rattle.lists.specs.Lists.{mapl}
use Rattle.lists.proofs.Tests.{t→true}
use Rattle.lists.proofs.Renamed.{map_ext, map-map}
use Rattle.graph.specs.Network.{Network, IsSound}
use Rattle.graph.specs.Distance.{vertices}
use Rattle.graph.specs.Closing.{remove_depot}
use Rattle.graph.specs.Renaming.{NamesDiffer, IsRelabelled, renamed_to, move_row}
use Rattle.graph.proofs.Distances.{vertices_out}
use Rattle.graph.proofs.Closed.{left_sound}
use Rattle.graph.proofs.Relabelled.{renamed_from}
use Rattle.graph.proofs.RelabelledUpdates.{relabelled_closed}
use Rattle.graph.proofs.Naming.{renamed_is, renamed_sound}

-- two renamings of one network: the second is one of the first, by names that fit
pub relabelled_over : (G M H : Network) → IsSound G → IsSound M → (t f g : ℕ → ℕ) → IsRelabelled G M t → IsRelabelled G H f → ((v : ℕ) → T (G.is_open v) → g (t v) ≡ f v) → IsRelabelled M H g
relabelled_over G M H sound sound' t f g p q fits = record {
  depots = q.depots ∙ sym (map_ext (λ v. g (t v)) f (vertices G) (λ v m. fits v (vertices_out G sound m))) ∙ sym (map-map t g (vertices G)) ∙ ap (mapl g) (sym p.depots);
  apart = λ x y ox oy e.
      let u = from x ox in
      let v = from y oy in
      u.2 ∙ ap t (q.apart u.0 v.0 u.1 v.1 (sym (name x u) ∙ e ∙ name y v)) ∙ sym v.2;
  linked = λ x y ox oy.
      let u = from x ox in
      let v = from y oy in
      ap₂ H.linked (name x u) (name y v) ∙ q.linked u.0 v.0 u.1 v.1 ∙ sym (p.linked u.0 v.0 u.1 v.1) ∙ ap₂ M.linked (sym u.2) (sym v.2);
  yard = λ x ox. let u = from x ox in ap H.is_yard (name x u) ∙ q.yard u.0 u.1 ∙ sym (p.yard u.0 u.1) ∙ ap M.is_yard (sym u.2);
}
  where
    from : (x : ℕ) → T (M.is_open x) → (v : ℕ) × T (G.is_open v) × (x ≡ t v)
    from x ox = renamed_from G M sound sound' t p x ox

    name : (x : ℕ) (u : (v : ℕ) × T (G.is_open v) × (x ≡ t v)) → g x ≡ f u.0
    name x u = ap g u.2 ∙ fits u.0 u.1

-- where a row goes
module _ (gap last : ℕ) where
  pub moved_to : (v : ℕ) → v ≡ last → move_row gap last v ≡ gap
  unfolding move_row
  moved_to v e = rw (eq-eqb v last e)

  pub moved-not : (v : ℕ) → (v ≡ last → ⊥) → move_row gap last v ≡ v
  unfolding move_row
  moved-not v n = rw (ne_eqb v last n)

module _ (G : Network) (sound : IsSound G) (gap last : ℕ) where
  abbrev left : Network
  left = remove_depot G gap

  not_gap : (v : ℕ) → T (left.is_open v) → v ≡ gap → ⊥
  unfolding remove_depot
  not_gap v o = eqb-false v gap (not-true (eqb v gap) (and_parts (G.is_open v) (not (eqb v gap)) (t→true (G.is_open v && not (eqb v gap)) o)).1)

  -- the place is free
  pub moves_apart : NamesDiffer left (move_row gap last)
  moves_apart u v ou ov e = go (cases_eq u last) (cases_eq v last)
    where
      go : (u ≡ last) ⊎ (u ≡ last → ⊥) → (v ≡ last) ⊎ (v ≡ last → ⊥) → u ≡ v
      go (inl p) (inl q) = p ∙ sym q
      go (inl p) (inr q) = absurd (not_gap v ov (sym (moved-not gap last v q) ∙ sym e ∙ moved_to gap last u p))
      go (inr p) (inl q) = absurd (not_gap u ou (sym (moved-not gap last u p) ∙ e ∙ moved_to gap last v q))
      go (inr p) (inr q) = sym (moved-not gap last u p) ∙ e ∙ moved-not gap last v q

  pub moved_sound : IsSound (renamed_to (move_row gap last) left)
  moved_sound = renamed_sound left (left_sound G sound gap) (move_row gap last) moves_apart

  -- NOTHING CHANGES BY CODE: the rows after the move, with their codes, are the network by code without the depot that closed
  pub move_keeps : (H : Network) → IsSound H → (code code' : ℕ → ℕ) → IsRelabelled G H code → T (G.is_open gap) → ((v : ℕ) → T (left.is_open v) → code' (move_row gap last v) ≡ code v)
      → IsRelabelled (renamed_to (move_row gap last) left) (remove_depot H (code gap)) code'
  move_keeps H sound' code code' re o fits =
      relabelled_over left (renamed_to (move_row gap last) left) (remove_depot H (code gap)) (left_sound G sound gap) moved_sound (move_row gap last) code code'
      (renamed_is left (left_sound G sound gap) (move_row gap last) moves_apart) (relabelled_closed G H sound sound' code re gap o) fits
