-- The bound that every remaining depot has, where it is known: a reference that leaves changes nothing of it, and where it lies from the limit to the
-- reference's eccentricity there is nothing to pass over. Assumes nothing.
use mathlib.Core.Path.{◌≡◌, sym, ap, ◌∙◌, subst}
use mathlib.Core.List.{List}
use Prim.Native.Nat.{ℕ, ◌*◌, ◌≤◌, ◌<◌}
use native.Mathlib.Omega.{arith}
use lib.ListN.{length}
use Rattle.std.specs.Prelude.{Option, None, Some}
use Rattle.bounds.specs.Bounds.{Marks, marks, leave_of, relax_of, AreBetween}
use Rattle.bounds.proofs.Settled.{left_between, relax_settled}
use Rattle.ranks.specs.Ranks.{waiting_of}
use Rattle.ranks.proofs.Ranks.{waiting_fits}
use Rattle.rounds.specs.Slices.{AreLevel, IsSettled}

module _ (W r e mark : ℕ) (bounds skips ranks bounds' skips' ranks' : List ℕ) (inside : r < 64 * W)
    (left : marks bounds' skips' (waiting_of W ranks') ≡ leave_of W r e mark (marks bounds skips (waiting_of W ranks))) where
  abbrev M : Marks
  M = marks bounds skips (waiting_of W ranks)

  abbrev M' : Marks
  M' = marks bounds' skips' (waiting_of W ranks')

  -- a reference leaves
  between_left : (low high : ℕ) → AreBetween W low high M → AreBetween W low high M'
  between_left low high B = subst (AreBetween W low high) (sym left) (left_between W r e mark M inside (waiting_fits W ranks) low high B)

  pub level_left : (level : Option ℕ) → AreLevel W level M → AreLevel W level M'
  level_left None B = B
  level_left (Some v) B = between_left v v B

  -- nothing to pass over
  pub level_stays : (hops : List ℕ) (c : ℕ) (level : Option ℕ) → IsSettled level e c → AreLevel W level M → 64 * W ≤ length bounds' → 64 * W ≤ length skips'
      → M' ≡ relax_of W hops r e c (leave_of W r e mark M)
  level_stays hops c None i B lb ls = absurd i
  level_stays hops c (Some v) i B lb ls = relax_settled W hops r e c bounds' skips' ranks' wide lb ls ∙ ap (relax_of W hops r e c) left
    where
      wide : AreBetween W c e M'
      wide = record { each = λ u l h. let b = (between_left v v B).each u l h in (omega arith, omega arith) }
