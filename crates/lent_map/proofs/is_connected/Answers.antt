-- `lent_map::is_connected` meets its contract: a search from an open code reaches all open codes exactly where the network is connected.
use mathlib.Core.Path.{subst, ◌∙◌}
use Rattle.rows.specs.Next.{IsNext, NextIs}
use Rattle.lent_map.proofs.Connects.{all_reached_is, hops_of}
use Rattle.lent_map.proofs.is_connected.Goals as goal

pub returns-clause-connected : goal.returns-clause-connected
returns-clause-connected c =
    let pre = c.requires in
    let lowest : IsNext c.args.words c.args.members.now 0 c.in-Some.start = subst (NextIs _ _ _) c.in-Some.is c.next_member-lowest.ensures in
    c.all_reached.ensures
    ∙ all_reached_is _ _ _ pre.0.positive pre.0.most pre.6 _ lowest.here c.search_table.new.scratch.hops.now
    (hops_of _ _ _ pre.0.positive pre.0.most pre.6 _ lowest.here _ _ _ _ _ c.search_table.ensures.left)
