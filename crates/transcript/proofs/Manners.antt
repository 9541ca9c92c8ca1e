-- TOLD AS REPORTS, an input has the transcript. Assumes nothing.
use mathlib.Core.Path.{◌≡◌, refl}
use mathlib.Core.List.{List}
use Prim.Native.Nat.{ℕ}
use Rattle.std.specs.Prelude.{flat_map}
use Rattle.graph.specs.Network.{Network}
use Rattle.transcript.specs.Transcript.{answers_from, transcript}
use Rattle.transcript.specs.Manner.{Manner, as_reports, told_in}

-- the answers of the lines behind the first n, on the map of the network G, told in the manner M
abbrev pub told_from : Manner → ℕ → Network → List (List ℕ) → List ℕ
told_from M n G ls = flat_map (λ a. M.text a.read a.report) (answers_from n G ls)

pub told_transcript : (input : List ℕ) → told_in as_reports input ≡ transcript input
unfolding told_in transcript
told_transcript input = refl
