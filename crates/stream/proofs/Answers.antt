-- A LINE'S ANSWER, by what the reader found. Assumes nothing.
use mathlib.Core.Path.{◌≡◌, sym, ap, ◌∙◌}
use mathlib.Core.Bool.{Bool, true, false, cond}
use mathlib.Core.List.{List}
use Prim.Native.Nat.{ℕ, ◌<◌}
use native.Mathlib.Omega.{arith}
use lib.Dec.{eqb}
use lib.ListN.{get_or, take, drop}
use borrow.Author.Tests.{ltb-true}
use Rattle.std.specs.Prelude.{Option, Some, None}
use Rattle.lists.proofs.Scans.{all-at}
use Rattle.graph.specs.Opening.{notice_of}
use Rattle.graph.specs.Updates.{opens, joins}
use Rattle.map.specs.Memory.{base}
use Rattle.hexadecimal.specs.Hex.{is_byte}
use Rattle.notice.specs.Lines.{yard_kind, opens_depot, frame, read_line}
use Rattle.notice.proofs.Tests.{frame_parts}
use Rattle.notice.proofs.Theorems.{read_is_frame}
use Rattle.notice.specs.Calls.{line_found}
use Rattle.update.specs.UpdateCall.{IsWithin}
use Rattle.transcript.specs.Transcript.{update_in, frame_in}

-- ---- a frame, by its kind

-- what a frame asks for is in the map's shape, its bytes being bytes
pub read-within : (text f : List ℕ) (u : ℕ) → read_line text ≡ frame f u → IsWithin base (update_in f)
unfolding update_in is_byte
read-within text f u e = go (opens_depot (get_or f 0 0))
  where
    low : get_or f 1 0 < 256
    low = let p = read_is_frame text f u e in ltb-true (get_or f 1 0) 256 (all-at is_byte f 1 0 (omega (arith, frame_parts f p.0)) p.1)

    go : (b : Bool) → IsWithin base (cond b (opens (notice_of (eqb (get_or f 0 0) yard_kind) (get_or f 1 0) (drop 3 f))) (joins (get_or f 1 0) (get_or f 2 0)))
    go true = low
    go false = tt

-- ---- a line

-- what the reader's answer says of the frame: it stands in the buffer, or there is none
pub framed : (text buffer : List ℕ) {n : ℕ} {o : Option ℕ} → line_found o buffer ≡ read_line text → o ≡ Some n → Some (take n buffer) ≡ frame_in (read_line text)
unfolding line_found
framed text buffer {n} e q = ap (λ (o : Option ℕ). frame_in (line_found o buffer)) (sym q) ∙ ap frame_in e

pub unframed : (text buffer : List ℕ) {o : Option ℕ} → line_found o buffer ≡ read_line text → o ≡ None → None ≡ frame_in (read_line text)
unfolding line_found
unframed text buffer e q = ap (λ (o : Option ℕ). frame_in (line_found o buffer)) (sym q) ∙ ap frame_in e

pub ruleset readings = (framed, unframed)
