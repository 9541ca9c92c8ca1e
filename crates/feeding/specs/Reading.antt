-- THE READING LOOP over a reader and a writer whose bytes may be known: a stream's turns, the bytes
-- that they used and told, and what was handed on of these. Where the bytes of a reader or a writer
-- are not known, as at a pipe, nothing is said of them. Assumes nothing.
use Rattle.std.specs.Prelude.{◌≡◌, true, false, List, ◌++◌, ℕ, ◌-◌, ◌^◌, ◌≤◌, length, Option, Result, Ok, Err, IfSome, Bool}
use Rattle.std.specs.declared.io.Error.{Error}
use Rattle.std.specs.Io.KnownBytes.{Appends, Consumes, IsAtEnd}
use Rattle.map.specs.Room.{Lent}
use Rattle.transcript.specs.Transcript.{lines_limit}
use Rattle.transcript.specs.Manner.{Manner, told_in}
use Rattle.stream.specs.Pieces.{Standing, Turn, stands_told, used_told, written_told, last_told}
use Rattle.stream.specs.declared.Progress.{Progress}
use Rattle.feeding.specs.declared.Ending.{Ending}
use Rattle.feeding.specs.declared.Ending.TheVariants.{Stopped, Whole, Failed, Unwritten, Endless}

abbrev pub standing : Progress → List ℕ → Lent → List ℕ → Standing
standing p links B line = record { progress = p; links = links; lent = B; line = line }

-- a first part of the bytes was appended, and nothing else
pub record AppendsPart (old new : Option (List ℕ)) (bytes : List ℕ) : Type 0 where
  pub sent : List ℕ
  pub lost : List ℕ
  pub parts : sent ++ lost ≡ bytes
  pub appends : Appends old new sent

-- turns of the stream led from s to t; they used these bytes, and told those
pub record HasTurned (M : Manner) (s t : Standing) (used told : List ℕ) : Type 0 where
  pub turns : List Turn
  pub stands : stands_told M s turns ≡ t
  pub uses : used_told M s turns ≡ used
  pub tells : written_told M s turns ≡ told

-- ---- a piece, from s to t; the writer's bytes before and after

-- all of the bytes were used, and what was told of them is written
pub record IsAnswered (M : Manner) (s t : Standing) (w v : Option (List ℕ)) (bytes : List ℕ) : Type 0 where
  pub told : List ℕ
  pub turned : HasTurned M s t bytes told
  pub written : Appends w v told

-- the stream has had its lines: the first bytes were used, and what was told of them is written
pub record IsOver (M : Manner) (s t : Standing) (w v : Option (List ℕ)) (bytes : List ℕ) : Type 0 where
  pub used : List ℕ
  pub rest : List ℕ
  pub parts : used ++ rest ≡ bytes
  pub told : List ℕ
  pub turned : HasTurned M s t used told
  pub written : Appends w v told
  pub over : lines_limit ≤ t.progress.lines

-- a write failed: the first bytes were used, and a first part of what was told of them is written
pub record IsCut (M : Manner) (s t : Standing) (w v : Option (List ℕ)) (bytes : List ℕ) : Type 0 where
  pub used : List ℕ
  pub rest : List ℕ
  pub parts : used ++ rest ≡ bytes
  pub told : List ℕ
  pub turned : HasTurned M s t used told
  pub written : AppendsPart w v told

-- what the answer to a piece leaves, by what it returns: whether to go on
abbrev pub Answers : Manner → Standing → Standing → Option (List ℕ) → Option (List ℕ) → List ℕ
    → Result Bool Error → Type 0
Answers M s t w v bytes (Ok true) = IsAnswered M s t w v bytes
Answers M s t w v bytes (Ok false) = IsOver M s t w v bytes
Answers M s t w v bytes (Err why) = IsCut M s t w v bytes

-- ---- an input, to its end; the reader's bytes before and after too

-- reads that each gave a byte at least were made as often as a loop counts turns
abbrev pub IsTooLong : List ℕ → Type 0
IsTooLong read = 2 ^ 64 - 1 ≤ length read

-- what was read of it, by how the reading came to its end
abbrev pub Reads : Manner → Standing → Standing → Option (List ℕ) → Option (List ℕ)
    → Option (List ℕ) → Option (List ℕ) → Ending → Type 0
Reads M s t r q w v Whole =
    (read : List ℕ) × Consumes r q read × IsAnswered M s t w v read × IsAtEnd q
Reads M s t r q w v (Failed why) =
    (read : List ℕ) × Consumes r q read × IsAnswered M s t w v read
Reads M s t r q w v Endless =
    (read : List ℕ) × Consumes r q read × IsAnswered M s t w v read × IsTooLong read
Reads M s t r q w v Stopped =
    (read : List ℕ) × Consumes r q read × IsOver M s t w v read
Reads M s t r q w v (Unwritten why) =
    (read : List ℕ) × Consumes r q read × IsCut M s t w v read

-- what the end of the input adds is written, or a first part of it
abbrev pub AppendsLast : Manner → Standing → List ℕ → Option (List ℕ) → Option (List ℕ)
    → Result Unit Error → Type 0
AppendsLast M t out w v (Ok x) = Appends w v (last_told M t out)
AppendsLast M t out w v (Err why) = AppendsPart w v (last_told M t out)

-- THE WHOLE OF IT: the output of all that the reader had; where a read failed, of what was read
-- before; where a write failed, a first part of that
abbrev pub IsTold : Manner → Option (List ℕ) → Option (List ℕ) → Option (List ℕ)
    → Option (List ℕ) → Ending → Type 0
IsTold M r q w v Whole = IfSome r (λ input. Appends w v (told_in M input))
IsTold M r q w v Stopped = IfSome r (λ input. Appends w v (told_in M input))
IsTold M r q w v (Failed why) =
    (read : List ℕ) × Consumes r q read × Appends w v (told_in M read)
IsTold M r q w v Endless =
    (read : List ℕ) × Consumes r q read × Appends w v (told_in M read) × IsTooLong read
IsTold M r q w v (Unwritten why) =
    (read : List ℕ) × Consumes r q read × AppendsPart w v (told_in M read)

-- the exit status of a program that ended so
abbrev pub status_of : Ending → ℕ
status_of Whole = 0
status_of Stopped = 0
status_of (Failed why) = 1
status_of Endless = 1
status_of (Unwritten why) = 1
