-- THE STEP OF THE STREAM on lent memory: the answer and every byte, for a piece of the input. The
-- code's contracts are equations with `feed_call` and `finish_call`. Assumes nothing.
use Rattle.std.specs.Prelude.{◌≡◌, Bool, cond, ◌||◌, List, [], ◌∷◌, ℕ, ◌+◌, ◌≤◌, eqb, length, take, Option, Some, None}
use Rattle.lists.specs.Lists.{overwrite}
use Rattle.map.specs.Memory.{base, table_words}
use Rattle.map.specs.Empty.{zeros, empty_record}
use Rattle.map.specs.declared.Record.{Record}
use Rattle.map.specs.Room.{Lent, sizes_of}
use Rattle.outcome.specs.Numbers.{garbled_line}
use Rattle.update.specs.UpdateCall.{UpdateLeft, left_of, update_call}
use Rattle.update.specs.Steps.{map_refusal, refused_with}
use Rattle.notice.specs.Lines.{line_limit, line_end, read_line}
use Rattle.transcript.specs.Transcript.{update_in, frame_in}
use Rattle.transcript.specs.Manner.{Manner}
use Rattle.line_buffer.specs.Lines.{holding, hold_byte, report_of, pasted, is_stopped}
use Rattle.stream.specs.declared.Progress.{Progress}
use Rattle.stream.specs.declared.Fed.{Fed}

-- ---- the begin

-- what the beginning leaves: progress, link table and pair table
abbrev pub Begun : Type 0
Begun = Progress × List ℕ × List ℕ

abbrev pub progress_of : Record → ℕ → ℕ → Progress
progress_of rec lines held = record { rec = rec; lines = lines; held = held }

-- the map is emptied, and no line is read
unfoldable pub begin_call : List ℕ → List ℕ → Begun
begin_call links pairs =
    let emptied = overwrite (zeros (table_words base)) in
    (progress_of (empty_record base.words) 0 0, emptied links, emptied pairs)

-- what the step asks of lent memory and leaves: nothing refuses the map; the line buffer has room
-- for a line, of which at most that is held
pub record IsReady (p : Progress) (links : List ℕ) (B : Lent) (line : List ℕ) : Type 0 where
  pub free : map_refusal base p.rec links B.pairs (sizes_of links B) ≡ 0
  pub room : line_limit ≤ length line
  pub held : p.held ≤ line_limit

-- ---- a line's answer

-- the reader's refusal of a line that spells no frame, or the call that its frame asks for
unfoldable pub answer_to : Option (List ℕ) → Record → List ℕ → Lent → UpdateLeft
answer_to None rec links B =
    let x = refused_with garbled_line rec in
    left_of x.report x.after links B
answer_to (Some f) rec links B = update_call base rec links B (update_in f)

-- ---- the step, for a manner of telling the answers of lines

-- what stands in lent memory while a piece is fed, with the progress
pub record Feeding : Type 0 where
  pub fed : Fed
  pub links : List ℕ
  pub lent : Lent
  pub line : List ℕ
  pub out : List ℕ

abbrev pub feeding : Fed → List ℕ → Lent → List ℕ → List ℕ → Feeding
feeding fed links B line out = record { fed = fed; links = links; lent = B; line = line; out = out }

abbrev pub fed_of : Progress → ℕ → ℕ → Fed
fed_of p used written = record { progress = p; used = used; written = written }

abbrev pub stopped : Manner → Feeding → Bool
stopped M F = is_stopped M.room F.fed.progress.lines F.fed.written (length F.out)

-- the held bytes are answered as a line, and the answer's text stands behind what was written
unfoldable pub took_line : Manner → Feeding → Feeding
took_line M F =
    let p = F.fed.progress in
    let read = frame_in (read_line (take p.held F.line)) in
    let x = answer_to read p.rec F.links F.lent in
    let n = p.lines + 1 in
    let text = M.text read (report_of n (record { report = x.report; after = x.after })) in
    let fed = fed_of (progress_of x.after n 0) F.fed.used (F.fed.written + length text) in
    feeding fed x.links x.lent F.line (pasted text F.fed.written F.out)

-- a byte is held
unfoldable pub held_byte : ℕ → Feeding → Feeding
held_byte b F =
    let p = F.fed.progress in
    let h = hold_byte b (holding F.line p.held) in
    let fed = fed_of (progress_of p.rec p.lines h.held) (F.fed.used + 1) F.fed.written in
    feeding fed F.links F.lent h.line F.out

unfoldable pub take_byte : Manner → ℕ → Feeding → Feeding
take_byte M b F = cond (eqb b line_end) (took_line M (held_byte b F)) (held_byte b F)

-- the bytes of a piece, until the step stops
unfoldable pub feed_bytes : Manner → List ℕ → Feeding → Feeding
feed_bytes M [] F = F
feed_bytes M (b ∷ bs) F = cond (stopped M F) F (feed_bytes M bs (take_byte M b F))

-- a piece is fed: nothing of it is used and nothing is written before
unfoldable pub feed_call : Manner → Progress → List ℕ → Lent → List ℕ → List ℕ → List ℕ → Feeding
feed_call M p links B line out piece = feed_bytes M piece (feeding (fed_of p 0 0) links B line out)

-- the input has ended: a stretch that is held is a line too
unfoldable pub finish_call : Manner → Progress → List ℕ → Lent → List ℕ → List ℕ → Feeding
finish_call M p links B line out =
    let F = feeding (fed_of p 0 0) links B line out in
    cond (eqb p.held 0 || stopped M F) F (took_line M F)
