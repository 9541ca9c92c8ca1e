-- `reckon::reckon_all` meets its contract: the refusal is the definition's, and without one the rounds are the network's reckoning.
use native.Mathlib.Omega.{arith}
use Rattle.std.proofs.lemmas.Result.{err_from_is_err_and}
use Rattle.map.specs.Memory.{base}
use Rattle.reckon.proofs.Reckons.{granted_long, granted_targets, granted_same, granted_target_net, refused_call, accepted_call}
use Rattle.map.proofs.Theorems.{base_shape}
use Rattle.reckon.proofs.reckon_all.Goals as goal

pub invariant_of-plan : goal.invariant_of-plan
invariant_of-plan c =
    let z = c.in_ok-reckon_refusal.ensures in
    record { are = granted_targets base _ _ _ base_shape z (omega arith) (omega arith) c.keep_delivering.ensures }

pub reckon_map-got-requires : goal.reckon_map-got-requires
reckon_map-got-requires c =
    let z = c.in_ok-reckon_refusal.ensures in
    let kept = c.keep_delivering.ensures in (
      granted_long base _ _ _ z,
      granted_target_net base _ _ _ base_shape z (omega arith) (omega arith) kept,
    )

pub returns-clause-left : goal.returns-clause-left
returns-clause-left c =
    let z = c.in_ok-reckon_refusal.ensures in
    accepted_call base base_shape _ _ _ _ _ _ _ _ z _
    (granted_same base _ _ _ base_shape z (omega arith) (omega arith) c.keep_delivering.ensures) _ _ _ _
    c.reckon_map-got.ensures.left

pub returns-in_err-reckon_refusal-clause-left : goal.returns-in_err-reckon_refusal-clause-left
returns-in_err-reckon_refusal-clause-left c =
    let p = err_from_is_err_and c.from_residual.result c.from_residual.ensures.1 in
    rw (p.1, p.2) (refused_call base base_shape _ _ _ _ _ _ _ _ _ c.in_err-reckon_refusal.ensures)
