-- WHAT THE CALLERS KEEP of `drop_stale` and `drop_stale_either`: the table stays a counted one, and the greatest way is that of the pairs that were there. Assumes nothing.
use mathlib.Core.Path.{◌≡◌, ap}
use mathlib.Core.List.{List}
use Prim.Native.Nat.{ℕ, ◌*◌}
use Rattle.pairs.specs.Pairs.{tally, Counted}
use Rattle.pairs.proofs.Tallies.{HoldsPairs, holds_counted}
use Rattle.stale_pairs.specs.Stale.{Dropped, dropped, way_by, drop_of, HasHops}
use Rattle.graph.specs.Opening.{staying_pairs, shrunk_candidate}
use Rattle.lists.specs.Lists.{range}
use Rattle.rows.specs.Rows.{table_bit}

module _ (W : ℕ) (far : ℕ → ℕ → ℕ) (D : ℕ) (t : List ℕ) {t' : List ℕ} {n w : ℕ} (q : dropped (tally t' n) w ≡ drop_of W far D t) where
  pub drop_holds : HoldsPairs W (staying_pairs far D (table_bit W t)) t t' n
  unfolding drop_of
  drop_holds = record { is = ap (λ (x : Dropped). x.left) q }

  pub drop_way : w ≡ shrunk_candidate (range (64 * W)) far D (table_bit W t)
  unfolding drop_of
  drop_way = ap (λ (x : Dropped). x.way) q

pub drop_counted : (W : ℕ) (hops : List ℕ) (D : ℕ) (t : List ℕ) {t' : List ℕ} {n w : ℕ} → dropped (tally t' n) w ≡ drop_of W (way_by hops) D t → HasHops W t hops → Counted W t' n
drop_counted W hops D t q a = holds_counted (drop_holds W (way_by hops) D t q) a.positive a.most a.table
