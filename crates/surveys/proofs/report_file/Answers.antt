-- `surveys::report_file`: the map that the stream leaves is that of what was read of the file, and so is its report.
use Rattle.std.proofs.Common.{rules, tests, ◌∙◌}
use Rattle.stream.proofs.Theorems.{stands_ready}
use Rattle.summaries.proofs.Theorems.{answered_as, answered_is}
use Rattle.summaries.proofs.Summed.{map_summed}
use Rattle.surveys.proofs.Follow.{follows_map}
use Rattle.surveys.proofs.report_file.Goals as goal

pub follow_file-followed-requires : goal.follow_file-followed-requires
follow_file-followed-requires g c = (stands_ready _ c.requires.begun, c.requires.room.0, c.requires.room.1)

pub returns : goal.returns
returns g c =
    let f = c.follow_file-followed.ensures.follows in
    record {
      read = f.read;
      is_read = f.is_read;
      is =
          answered_is _ _ _ _ _ _ c.summarise-answer.ensures.left c.map_err.ensures.cases (λ k n p. search (rules, tests))
          ∙ map_summed _ _ (follows_map _ _ _ _ c.requires.begun f) _ (c.requires.room.2);
      of_file = answered_as _ _ _ _ _ _ c.summarise-answer.ensures.left c.map_err.ensures.cases (λ k n p. search (rules, tests));
    }
