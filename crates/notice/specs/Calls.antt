-- The two calls (rules 7.3 to 7.5) on lent memory. Each is one definition from what was lent to the answer and every byte.
-- Assumes nothing.
use Rattle.std.specs.Prelude.{cond, List, ℕ, ◌+◌, ◌*◌, ltb, length, take, Option, Some, None, Ok, Err}
use Rattle.lists.specs.Lists.{overwrite}
use Rattle.outcome.specs.Numbers.{short_buffer, garbled_line}
use Rattle.outcome.specs.Answers.{Left, leaves}
use Rattle.notice.specs.Lines.{line_limit, is_frame, line_of, Line, garbled, frame, read_line}
use Rattle.notice.specs.declared.Frame.{Frame}

-- the size of the buffer that a frame is read into: 3 bytes and 255 neighbours
abbrev pub frame_limit : ℕ
frame_limit = 258

-- the frame over the first bytes of the buffer; nothing is written where the line does not read
unfoldable pub read_into : Line → List ℕ → Left Frame (List ℕ)
read_into garbled buffer = leaves (Err garbled_line) buffer
read_into (frame f used) buffer =
    leaves (Ok (record { length = length f; used = used })) (overwrite f buffer)

-- the reader: the line that the input begins with, into a buffer of at least 258 bytes
unfoldable pub read_call : List ℕ → List ℕ → Left Frame (List ℕ)
read_call input buffer =
    cond (ltb (length buffer) frame_limit) (leaves (Err short_buffer) buffer)
    (read_into (read_line input) buffer)

-- the writer: a frame's line, into a buffer of at least 517 bytes
unfoldable pub write_call : List ℕ → List ℕ → Left ℕ (List ℕ)
write_call f buffer =
    cond (ltb (length buffer) line_limit) (leaves (Err short_buffer) buffer)
    (cond (is_frame f) (leaves (Ok (length (line_of f))) (overwrite (line_of f) buffer))
    (leaves (Err garbled_line) buffer))

-- what stands at the start of an input, by how many bytes of its frame are in the buffer: its line has two digits for each, and 0A
unfoldable pub line_found : Option ℕ → List ℕ → Line
line_found None buffer = garbled
line_found (Some n) buffer = frame (take n buffer) (2 * n + 1)
