-- `relink::take_low` meets its contract: its two calls are the two parts of the definition.
use native.Mathlib.Omega.{arith}
use Rattle.rounds.proofs.Turns.{begun_counted}
use borrow.Author.Rules.{rules}
use Rattle.relink.proofs.take_low.Goals as goal

pub absorb-requires : goal.absorb-requires
absorb-requires c =
    let pre = c.requires in (
      begun_counted _ _ _ _ _ _ (omega arith) (omega arith) pre.3 c.begin.ensures.begun,
      search rules,
      search rules,
      search rules,
      search rules,
      omega arith,
    )
