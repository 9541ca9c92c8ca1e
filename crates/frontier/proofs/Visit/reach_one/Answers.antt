-- `frontier::Visit::reach_one` meets its contract: each of the four words gets its word of the member's row.
use mathlib.Core.Path.{refl, sym}
use lib.ListN.{length-set}
use Rattle.frontier.proofs.Goes.{one_goes}
use Rattle.frontier.proofs.Visit.reach_one.Goals as goal

pub returns : goal.returns
returns c =
    one_goes _ _ _ _ _ _ _ _ _ _ c.requires.0 c.requires.1 (record { links = refl; words = refl; k = refl; name = refl; long = sym (length-set _ _ _) }) refl
    c.with_word.ensures c.with_word-2.ensures c.with_word-3.ensures c.with_word-4.ensures
