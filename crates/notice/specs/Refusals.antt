-- FRAMES, LINES AND REFUSALS in the published words (rules 7.1, 7.2, 8.1 and 11.1): what a frame is, what reads as one,
-- and which refusals reader and writer give. `frame_is`, `line_is`, `reader_refusals` and `writer_refusals`
-- (proofs/Refusals) prove it of `is_frame`, `read_line`, `read_call` and `write_call`.
-- Assumes nothing.
use Rattle.std.specs.Prelude.{◌≡◌, ◌⊎◌, List, [], ◌∷◌, ◌++◌, ℕ, ◌≤◌, ◌<◌, length, take, Contains, Any, All}
use Rattle.lists.specs.Conditions.{IsShort}
use Rattle.outcome.specs.Numbers.{short_buffer, garbled_line}
use Rattle.outcome.specs.Answers.{Left, Refuses}
use Rattle.hexadecimal.specs.Hex.{digits_of}
use Rattle.notice.specs.Lines.{line_limit, line_end, opening_kind, link_kind, yard_kind, line_of}
use Rattle.notice.specs.Calls.{frame_limit}
use Rattle.notice.specs.declared.Frame.{Frame}

-- ---- frames

-- kind 01 opens a depot that delivers, kind 04 a yard: code, number of neighbours, neighbours
abbrev pub IsOpening : List ℕ → Type 0
IsOpening f =
    (kind : ℕ) × (code : ℕ) × (neighbours : List ℕ)
    × ((kind ≡ opening_kind) ⊎ (kind ≡ yard_kind))
    × (f ≡ kind ∷ code ∷ length neighbours ∷ neighbours)

-- kind 02 links two depots: their codes, and no count
abbrev pub IsLink : List ℕ → Type 0
IsLink f = (a : ℕ) × (b : ℕ) × (f ≡ link_kind ∷ a ∷ b ∷ [])

-- there is no other kind
abbrev pub IsFrame : List ℕ → Type 0
IsFrame f = IsOpening f ⊎ IsLink f

-- ---- lines

-- 0 to 9, or A to F
abbrev pub IsHexadecimal : ℕ → Type 0
IsHexadecimal c = ((48 ≤ c) × (c ≤ 57)) ⊎ ((65 ≤ c) × (c ≤ 70))

-- a byte is no digit, or they are not the digits of a frame
abbrev pub SpellsNone : List ℕ → Type 0
SpellsNone text =
    Any (λ c. IsHexadecimal c → ⊥) text
    ⊎ ((f : List ℕ) → IsFrame f → text ≡ digits_of f → ⊥)

-- the text stands before the first 0A
pub record EndsFirst (bytes text : List ℕ) : Type 0 where
  pub behind : List ℕ
  pub stands : bytes ≡ text ++ line_end ∷ behind
  pub first : Contains text line_end → ⊥

-- 9, garbled: the first 517 bytes have no 0A, or what stands before it spells no frame
abbrev pub IsGarbled : List ℕ → Type 0
IsGarbled input =
    let head = take line_limit input in
    (Contains head line_end → ⊥) ⊎ ((text : List ℕ) × EndsFirst head text × SpellsNone text)

-- the input begins with the line of the frame f, which takes n bytes
pub record BeginsWith (f : List ℕ) (n : ℕ) (input : List ℕ) : Type 0 where
  pub is_frame : IsFrame f
  pub of_bytes : All (λ b. b < 256) f
  pub used : n ≡ length (line_of f)
  pub stands : take n input ≡ line_of f

-- ---- the calls: of a program whose call is `step`

-- the reader: 1 short, 9 garbled
abbrev pub ReadRefuses : (List ℕ → List ℕ → Left Frame (List ℕ)) → Type 0
ReadRefuses step =
    (input buffer : List ℕ)
    → let short = IsShort ((frame_limit, length buffer) ∷ []) in
    Refuses ((short, short_buffer) ∷ (IsGarbled input, garbled_line) ∷ []) buffer (step input buffer)

-- the writer: 1 short, 9 garbled, which is what is no frame
abbrev pub WriteRefuses : (List ℕ → List ℕ → Left ℕ (List ℕ)) → Type 0
WriteRefuses step =
    (f buffer : List ℕ)
    → let short = IsShort ((line_limit, length buffer) ∷ []) in
    Refuses ((short, short_buffer) ∷ (IsFrame f → ⊥, garbled_line) ∷ []) buffer (step f buffer)
