-- `surveys::survey`: the lines of what was read of the files so far are written, and these are the totals.
use Rattle.std.proofs.Common.{◌≡◌, List, ℕ, length}
use Rattle.std.specs.Io.KnownBytes.{Appends}
use Rattle.std.specs.Prelude.{flat_map}
use Rattle.summaries.specs.Run.{no_totals, file_line}
use Rattle.surveys.proofs.Lines.{totals_from}
use Rattle.summaries.specs.Calls.{AreOfFiles}
use Rattle.surveys.specs.Surveys.{AreReadOf}
use Rattle.surveys.proofs.survey.Given as goal

abbrev pub invariant-loop-i : goal.invariant-loop-i
invariant-loop-i g l =
    (length l.out ≡ length l.initial.out)
    × (length l.input ≡ length l.initial.input)
    × AreOfFiles l.totals
    × (l.totals.files ≡ l.i)
    × ((reads : List (List ℕ)) × (length reads ≡ l.i) × AreReadOf (g.S.Files.bytes l.files) 0 l.whole reads
    × (l.totals ≡ totals_from no_totals reads) × Appends (g.W.Write.contents l.initial.to) (g.W.Write.contents l.to) (flat_map file_line reads))
