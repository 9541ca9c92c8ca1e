-- WHERE THE STEP STOPS: no room for an answer, or no further line. Assumes nothing.
use mathlib.Core.Path.{◌≡◌}
use mathlib.Core.Bool.{false}
use Prim.Native.Nat.{ℕ, ◌+◌, ◌≤◌, ◌<◌}
use Rattle.std.proofs.lemmas.Bool.{or_parts}
use lib.Dec.{ltb, leb}
use borrow.Author.Tests.{le-ltb, ltb-false, leb-false}
use Rattle.transcript.specs.Transcript.{lines_limit}
use Rattle.line_buffer.specs.Lines.{is_stopped}

pub stopped_lines : (needed lines written room : ℕ) → written + needed ≤ room → leb lines_limit lines ≡ is_stopped needed lines written room
unfolding is_stopped
stopped_lines needed lines written room l = rw (le-ltb room (written + needed) l)

-- where it does not stop there is a line to come, and room for its answer
pub going : (needed lines written room : ℕ) → is_stopped needed lines written room ≡ false → (lines < lines_limit) × (written + needed ≤ room)
unfolding is_stopped
going needed lines written room e =
    let p = or_parts (ltb room (written + needed)) (leb lines_limit lines) e in
    (leb-false lines_limit lines p.1, ltb-false room (written + needed) p.0)
