-- `rounds::run_rounds` meets its contract. The loop's invariant is `AtRound` (Turns.antt): from here the rounds end where they end from the start.
-- The measure is the number of remaining depots.
use mathlib.Core.Path.{◌≡◌, subst}
use mathlib.Core.Option.{some}
use Rattle.ranks.specs.Ranks.{pick_in, waiting_of, PickIs}
use Rattle.ranks.proofs.Ranks.{waiting_fits, thinned_ranks}
use Rattle.ranks.specs.Order.{GoesOnBehind}
use Rattle.ranks.proofs.Picking.{ranked_pick, ranked_none}
use Rattle.ranks.proofs.Order.{ranks_low, goes_on_thinned}
use Rattle.rounds.proofs.Turns.{at_start_lem, at_next, going_end, picked_in, fewer_remain, room_left}
use borrow.Author.Rules.{rules}
use Rattle.rounds.proofs.run_rounds.Goals as goal
use Rattle.rounds.proofs.run_rounds.Goals.{In-Some}

-- the depot picked
picked : (c : In-Some) → pick_in c.args.words c.args.links.now (waiting_of c.args.words c.loop-r.desk.ranks.now) ≡ some c.in-Some.r
picked c =
    ranked_pick _ _ _ c.loop-r.invariant.3 _ (subst (PickIs _ _) c.in-Some.is c.pick_next.ensures.picked)

pub returns-clause-left : goal.returns-clause-left
returns-clause-left c =
    going_end _ _ _ _ _ _ c.loop-r.invariant.0.going
    (ranked_none _ _ _ c.loop-r.invariant.3 (subst (PickIs _ _) c.in_default.is c.pick_next.ensures.picked))

pub round-now-requires : goal.round-now-requires
round-now-requires c =
    let p = picked_in _ _ _ _ (picked (goal.at.round-now-requires c).In-Some) in (
      search rules,
      search rules,
      search rules,
      p.0,
      room_left _ _ _ _ _ _ _ c.loop-r.invariant.0 c.requires.4 (picked (goal.at.round-now-requires c).In-Some) (waiting_fits _ _),
      c.loop-r.invariant.4,
    )

pub loop-r-smaller : goal.loop-r-smaller
loop-r-smaller c =
    fewer_remain _ _ _ _ _ _ _ _ _ _ _ (picked (goal.at.loop-r-smaller c).In-Some) (waiting_fits _ _) c.round-now.ensures.left

pub loop-r-preserved : goal.loop-r-preserved
loop-r-preserved c =
    let v = c.loop-r.invariant in (
      at_next _ _ _ _ _ _ _ _ _ _ _ _ _ v.0 (picked (goal.at.loop-r-preserved c).In-Some) (waiting_fits _ _) c.round-now.ensures.left,
      search rules,
      search rules,
      search (thinned_ranks, rules),
      c.round-now.ensures.level,
      goes_on_thinned _ _ _ _ _ c.round-now.ensures.thinned (subst (GoesOnBehind _ _ _) c.in-Some.is c.pick_next.ensures.place),
    )

pub loop-r-init : goal.loop-r-init
loop-r-init c = search (at_start_lem, rules)

pub order_all-last-requires : goal.order_all-last-requires
order_all-last-requires c = search (ranks_low, rules)
