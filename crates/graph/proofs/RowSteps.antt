-- A STEP OF A HISTORY BY ROWS AND BY CODES: the rows stay those of the codes, and the step owes on the rows what it owes by code. Assumes nothing.
use mathlib.Core.Path.{◌≡◌, refl, sym, ◌∙◌, subst}
use mathlib.Core.Bool.{◌&&◌}
use Prim.Native.Nat.{ℕ, suc, ◌≤◌, ◌<◌}
use native.Mathlib.Nat.{lt_irrefl}
use native.Mathlib.Omega.{arith}
use lib.Dec.{T, lit<}
use lib.ListN.{length}
use borrow.Author.Tests.{ltb-true, lt-ltb, le-ltb}
use Rattle.lists.specs.Lists.{range, mapl, memb, distinct, first_of}
use Rattle.lists.specs.Rising.{rising_by}
use Rattle.lists.proofs.Tests.{t→true, true→t, false→not}
use Rattle.graph.specs.Network.{Network, IsSound}
use Rattle.graph.specs.Distance.{vertices, unreached}
use Rattle.graph.specs.Opening.{empty_network, Notice}
use Rattle.graph.specs.Closing.{remove_depot, close_faults}
use Rattle.graph.specs.Correct.{IsNet}
use Rattle.graph.specs.Updates.{opens, joins, update_faults, applied}
use Rattle.graph.specs.Renaming.{IsRelabelled, move_row, applied_by, IsNamed, IsLawfulBy, IsSameStep}
use Rattle.graph.specs.Arrivals.{AreArrived, closed_rows, AreClosedRows, AreRows}
use Rattle.graph.proofs.Opened.{admitted_of}
use Rattle.graph.proofs.Closed.{left_sound}
use Rattle.graph.proofs.Lawful.{update_lawful}
use Rattle.graph.proofs.Relabelled.{renamed_open, renamed_net, relabelled_same}
use Rattle.graph.proofs.RelabelledUpdates.{relabelled_update}
use Rattle.graph.proofs.RowUpdates.{lawful_by}
use Rattle.graph.proofs.Arrivals.{arrived_same, arrived_opens, arrived_joins}
use Rattle.graph.proofs.ClosedRows.{rows_closed}

-- THE EMPTY MAP, whatever its codes say
empty_sound : IsSound empty_network
unfolding empty_network memb distinct
empty_sound = record {
  listed = λ u. refl;
  once = refl;
  yards = λ u t. t;
  ends = λ u v l. l;
  loopless = λ u v l e. l;
  symmetric = λ u v l. l;
}

empty_is_net : IsNet empty_network
unfolding empty_network
empty_is_net = record { sound = empty_sound; connected = λ u v ou ov. absurd ou; small = lit< tt }

pub rows_empty : (code : ℕ → ℕ) → AreRows code 0 empty_network empty_network
unfolding empty_network mapl rising_by range
rows_empty code = record {
  net = empty_is_net;
  sound = empty_sound;
  relabelled = record { depots = refl; apart = λ u v ou ov e. absurd ou; linked = λ u v ou ov. absurd ou; yard = λ v o. absurd o };
  arrived = record { listed = refl; first = λ r. sym (le-ltb r 0 (omega arith)); differ = λ u v lu lv e. absurd (lt_irrefl u (omega (arith, lu))) };
}

module _ (code : ℕ → ℕ) (n : ℕ) (G H : Network) (rows : AreRows code n G H) where
  net' : IsNet H
  net' = renamed_net G H rows.net.sound rows.sound code rows.relabelled rows.net

  below : (r : ℕ) → T (G.is_open r) → r < n
  below r o = ltb-true r n (sym (rows.arrived.first r) ∙ t→true (G.is_open r) o)

  -- AN OPENING takes the row n; `code'` is the table after it
  module _ (room : suc (length (vertices H)) < unreached) (o : Notice) (ok : first_of (update_faults H (opens o)) ≡ 0)
      (code' : ℕ → ℕ) (kept : (r : ℕ) → r < n → code r ≡ code' r) (new : code' n ≡ o.code) where
    again : IsRelabelled G H code'
    again = relabelled_same G H rows.net.sound code code' (λ v ov. kept v (below v ov)) rows.relabelled

    free : T (G.is_open n) → ⊥
    free ot = lt_irrefl n (below n ot)

    fresh : (r : ℕ) → r < n → code' n ≡ code' r → ⊥
    unfolding update_faults
    fresh r l e =
        let open_row : T (G.is_open r) = true→t (rows.arrived.first r ∙ lt-ltb r n l) in
        false→not (admitted_of H net' o room ok).fresh (subst (λ (c : ℕ). T (H.is_open c)) (sym e ∙ new) (renamed_open G H rows.net.sound rows.sound code' again r open_row))

    step : IsSameStep code' (λ c. n) G H (opens o)
    step = relabelled_update code' (λ c. n) G H rows.net rows.sound again room (opens o) (free, new) ok

    arrived' : AreArrived code' (suc n) (applied_by code' (λ c. n) G (opens o))
    unfolding applied_by
    arrived' = arrived_opens code' n G (arrived_same code code' n G kept rows.arrived) fresh o.yard (λ v. G.is_open v && memb (code' v) o.neighbours)

    pub rows_opened : AreRows code' (suc n) (applied_by code' (λ c. n) G (opens o)) (applied H (opens o))
        × IsSameStep code' (λ c. n) G H (opens o) × IsLawfulBy code' (λ c. n) G (opens o)
    rows_opened = (
      record { net = step.net; sound = (update_lawful H net' (opens o) room ok).net.sound; relabelled = step.relabelled; arrived = arrived' },
      step,
      lawful_by code' (λ c. n) G H rows.net rows.sound again room (opens o) (free, new) ok,
    )

  -- A LINK between the rows of its codes
  module _ (room : suc (length (vertices H)) < unreached) (a b : ℕ) (ok : first_of (update_faults H (joins a b)) ≡ 0) (row : ℕ → ℕ) (named : IsNamed code row G (joins a b)) where
    joined : IsSameStep code row G H (joins a b)
    joined = relabelled_update code row G H rows.net rows.sound rows.relabelled room (joins a b) named ok

    arrived₂ : AreArrived code n (applied_by code row G (joins a b))
    unfolding applied_by
    arrived₂ = arrived_joins code n G rows.arrived (row a) (row b)

    pub rows_joined : AreRows code n (applied_by code row G (joins a b)) (applied H (joins a b)) × IsSameStep code row G H (joins a b) × IsLawfulBy code row G (joins a b)
    rows_joined = (
      record { net = joined.net; sound = (update_lawful H net' (joins a b) room ok).net.sound; relabelled = joined.relabelled; arrived = arrived₂ },
      joined,
      lawful_by code row G H rows.net rows.sound rows.relabelled room (joins a b) named ok,
    )

-- A CLOSING of the row `gap`, whose place the last one takes; `code'` is the table after it
module _ (code : ℕ → ℕ) (last : ℕ) (G H : Network) (rows : AreRows code (suc last) G H) (gap : ℕ) (low : gap ≤ last) (ok : first_of (close_faults H (code gap)) ≡ 0)
    (code' : ℕ → ℕ) (fits : (r : ℕ) → r < suc last → (r ≡ gap → ⊥) → code' (move_row gap last r) ≡ code r) where
  closed : AreClosedRows code code' gap last G H
  closed = rows_closed code code' G H rows.net rows.sound rows.relabelled gap last low rows.arrived fits ok

  pub rows_left : AreRows code' last (closed_rows gap last G) (remove_depot H (code gap)) × AreClosedRows code code' gap last G H
  rows_left = (
    record { net = closed.net; sound = left_sound H rows.sound (code gap); relabelled = closed.relabelled; arrived = closed.arrived },
    closed,
  )
