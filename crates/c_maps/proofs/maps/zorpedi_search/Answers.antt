-- `c_maps::maps::zorpedi_search` meets its contract: short, done or refused, as the call that it wraps.
use borrow.Author.Rules.{rules}
use Rattle.rounds.proofs.Turns.{same_tables}
use Rattle.c_values.specs.Outs.{handed}
use Rattle.c_maps.proofs.Answers.{search_called}
use Rattle.c_maps.proofs.maps.zorpedi_search.Goals as goal

pub returns-in-Ok : goal.returns-in-Ok
unfolding handed
returns-in-Ok c =
    search_called _ _ _ _ _ c.if-words-lt-RECORD_WORDS.false c.record_of-rec.ensures c.in-Ok.ensures.left (search (rules, same_tables))

pub returns-in-Err : goal.returns-in-Err
unfolding handed
returns-in-Err c =
    rw c.number-in-Err.ensures (search_called _ _ _ _ _ c.if-words-lt-RECORD_WORDS.false
    c.record_of-rec.ensures c.in-Err.ensures.left (search (rules, same_tables)))
