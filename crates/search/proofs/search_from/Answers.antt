-- `search::search_from` meets its contract: the refusal is the definition's, and without one the search over the table is that of the network, with the
-- depots that deliver as its targets.
use native.Mathlib.Omega.{arith}
use Rattle.map.specs.Memory.{base}
use Rattle.map.proofs.Theorems.{base_shape}
use Rattle.layers.proofs.Ends.{yards_hold_ends}
use Rattle.search.proofs.Accepts.{granted, refused_call, granted_reached, accepted_call}
use Rattle.std.proofs.lemmas.Result.{err_from_is_err_and}
use Rattle.search.proofs.search_from.Goals as goal

pub search_to-requires : goal.search_to-requires
search_to-requires c =
    let g = granted base _ _ _ _ _ _ base_shape c.in_ok-search_refusal.ensures in (
      omega arith,
      g.long,
      yards_hold_ends 4 _ _ (omega arith) _ g.net.sound,
      omega (arith, c.ranges.code.fits),
      granted_reached base base_shape g c.keep_delivering.ensures,
    )

pub returns-clause-left : goal.returns-clause-left
returns-clause-left c =
    accepted_call base base_shape _ _ _ _ c.in_ok-search_refusal.ensures
    c.keep_delivering.ensures
    (c.search_to.ensures.left, c.search_to.ensures.ecc)

pub returns-in_err-search_refusal-clause-left : goal.returns-in_err-search_refusal-clause-left
returns-in_err-search_refusal-clause-left c =
    let p = err_from_is_err_and c.from_residual.result c.from_residual.ensures.1 in
    rw (p.1, p.2) (refused_call base base_shape _ _ _ _ _ c.in_err-search_refusal.ensures)
