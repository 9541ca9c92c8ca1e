-- WHAT IS PROVED OF THE STREAM: however the input is cut into pieces, and whatever buffers are lent
-- for the answers, the output is that of the whole input, told in the stream's manner: for a stream
-- of reports, the transcript. The theorems are `pieces_told` and `rest_untold`, and for reports
-- `pieces_alike`, `rest_unread`, `turn_uses` and `turn_all` (proofs/Theorems). Assumes nothing.
use Rattle.std.specs.Prelude.{◌≡◌, true, List, [], ◌∷◌, ◌++◌, ℕ, ◌≤◌, length, take}
use Rattle.map.specs.Memory.{base}
use Rattle.map.specs.Room.{Lent, sizes_of, long_enough}
use Rattle.notice.specs.Lines.{line_limit}
use Rattle.transcript.specs.Transcript.{lines_limit, transcript}
use Rattle.transcript.specs.Manner.{Manner, as_reports, told_in}
use Rattle.stream.specs.Feeding.{Begun, begin_call, Feeding, feed_call, finish_call}
use Rattle.stream.specs.declared.Progress.{Progress}

-- where a stream stands between two calls: progress, link table, the other tables of its map, line
-- buffer
pub record Standing : Type 0 where
  pub progress : Progress
  pub links : List ℕ
  pub lent : Lent
  pub line : List ℕ

-- a turn: the piece that is fed, and the buffer that is lent for the answers
pub record Turn : Type 0 where
  pub piece : List ℕ
  pub out : List ℕ

unfoldable pub standing_after : Feeding → Standing
standing_after F =
    record { progress = F.fed.progress; links = F.links; lent = F.lent; line = F.line }

-- ---- told in any manner

unfoldable pub turn_told : Manner → Standing → Turn → Feeding
turn_told M s t = feed_call M s.progress s.links s.lent s.line t.out t.piece

-- after some turns: where the stream stands, the bytes used, and the bytes written
unfoldable pub stands_told : Manner → Standing → List Turn → Standing
stands_told M s [] = s
stands_told M s (t ∷ ts) = stands_told M (standing_after (turn_told M s t)) ts

unfoldable pub used_told : Manner → Standing → List Turn → List ℕ
used_told M s [] = []
used_told M s (t ∷ ts) =
    let F = turn_told M s t in
    take F.fed.used t.piece ++ used_told M (standing_after F) ts

unfoldable pub written_told : Manner → Standing → List Turn → List ℕ
written_told M s [] = []
written_told M s (t ∷ ts) =
    let F = turn_told M s t in
    take F.fed.written F.out ++ written_told M (standing_after F) ts

-- what the end of the input adds
unfoldable pub last_told : Manner → Standing → List ℕ → List ℕ
last_told M s out =
    let F = finish_call M s.progress s.links s.lent s.line out in
    take F.fed.written F.out

-- ---- the beginning

-- a stream has begun on lent memory that is long enough, whatever it held
pub record HasBegun (s : Standing) : Type 0 where
  pub links : List ℕ
  pub pairs : List ℕ
  pub begun : ◌≡◌ {A = Begun} (s.progress, s.links, s.lent.pairs) (begin_call links pairs)
  pub long : long_enough base (sizes_of s.links s.lent) ≡ true
  pub room : line_limit ≤ length s.line

-- ---- what is proved

-- However the input is cut, and whatever buffers are lent for the answers, what is written is the
-- whole output of the bytes used; behind the last line of a stream nothing is read. Told as
-- reports, the output is the transcript.
pub record PiecesAlike : Type 0 where
  pub told : (M : Manner) (s : Standing) → HasBegun s → (ts : List Turn) (out : List ℕ)
      → M.room ≤ length out
      → written_told M s ts ++ last_told M (stands_told M s ts) out ≡ told_in M (used_told M s ts)
  pub unread : (M : Manner) (s : Standing) → HasBegun s → (ts : List Turn) (rest : List ℕ)
      → lines_limit ≤ (stands_told M s ts).progress.lines
      → written_told M s ts ≡ told_in M (used_told M s ts ++ rest)
  pub reports : (input : List ℕ) → told_in as_reports input ≡ transcript input
