-- THE WHOLE OUTPUT of what was read: pieces one after another, and the end. Assumes nothing.
use Rattle.std.proofs.Common.{◌≡◌, ℕ, List, [], ◌∷◌, ◌++◌, Option, None, Some, IfSome, OnOk, Result, Ok, Err, take, refl, sym, ap, ◌∙◌, append_assoc, append-nil, length, ◌+◌, ◌≤◌, ◌<◌, subst, arith}
use mathlib.Core.Path.{ap₂}
use mathlib.Core.Bool.{Bool, true, false}
use mathlib.Core.Logic.{◌⊎◌, inl, inr}
use lib.ListN.{length-append}
use lib.Seq.{length-take-le}
use Rattle.std.proofs.lemmas.Bool.{cases_lt}
use borrow.Author.Tests.{le-leb}
use native.Mathlib.Nat.{lt_irrefl}
use Rattle.std.specs.declared.io.Error.{Error}
use Rattle.std.specs.Io.KnownBytes.{Appends, Consumes}
use Rattle.std.proofs.KnownBytes.{Appends-trans, Appends-nil, Consumes-trans, Consumes-whole}
use Rattle.map.specs.Room.{Lent}
use Rattle.transcript.specs.Transcript.{lines_limit}
use Rattle.transcript.specs.Manner.{Manner, told_in}
use Rattle.line_buffer.proofs.Stops.{stopped_lines}
use Rattle.stream.specs.declared.Progress.{Progress}
use Rattle.stream.specs.declared.Fed.{Fed}
use Rattle.stream.specs.Feeding.{Feeding, feeding, feed_call, finish_call}
use Rattle.stream.specs.Pieces.{Standing, Turn, turn_told, last_told, HasBegun}
use Rattle.stream.proofs.Feeds.{bytes_stop}
use Rattle.stream.proofs.Turning.{entering, turn_is}
use Rattle.stream.proofs.Theorems.{told_uses, pieces_told, rest_untold, first_told}
use Rattle.feeding.specs.Reading.{standing, AppendsPart, HasTurned, IsAnswered, IsOver, IsCut, Answers, AppendsLast, Reads, IsTold}
use Rattle.feeding.specs.declared.Ending.{Ending}
use Rattle.feeding.specs.declared.Ending.TheVariants.{Stopped, Whole, Failed, Unwritten, Endless}
use Rattle.feeding.proofs.Turns.{part_next, part_longer, turned_none, turned_both}

module _ (M : Manner) where
  -- ---- where the step uses no byte, the stream has had its lines

  over_stays : (s : Standing) (t : Turn) → M.room ≤ length t.out → lines_limit ≤ s.progress.lines → turn_told M s t ≡ entering s t.out
  over_stays s t room l =
      turn_is M s t
      ∙ bytes_stop M t.piece (entering s t.out) (sym (stopped_lines M.room s.progress.lines 0 (length t.out) (omega (arith, room))) ∙ le-leb lines_limit s.progress.lines l)

  over_turn : (s : Standing) (piece out : List ℕ) → M.room ≤ length out → 0 < length piece → (turn_told M s (record { piece = piece; out = out })).fed.used ≡ 0
      → lines_limit ≤ (turn_told M s (record { piece = piece; out = out })).fed.progress.lines
  over_turn s [] out room some none = absurd (lt_irrefl 0 some)
  over_turn s (b ∷ bs) out room some none = go (cases_lt s.progress.lines lines_limit)
    where
      t : Turn
      t = record { piece = b ∷ bs; out = out }

      go : (s.progress.lines < lines_limit) ⊎ (lines_limit ≤ s.progress.lines) → lines_limit ≤ (turn_told M s t).fed.progress.lines
      go (inl l) = absurd (lt_irrefl 0 (subst (λ (n : ℕ). 0 < n) none (told_uses M s out b bs l room)))
      go (inr l) = subst (λ (F : Feeding). lines_limit ≤ F.fed.progress.lines) (sym (over_stays s t room l)) l

  pub over_none : (p : Progress) (links : List ℕ) (B : Lent) (line out piece : List ℕ) {F : Feeding} → F ≡ feed_call M p links B line out piece
      → M.room ≤ length out → 0 < length piece → F.fed.used ≡ 0 → lines_limit ≤ F.fed.progress.lines
  unfolding turn_told
  over_none p links B line out piece {F} e room some none =
      subst (λ (G : Feeding). lines_limit ≤ G.fed.progress.lines) (sym e)
      (over_turn (standing p links B line) piece out room some (sym (ap (λ (G : Feeding). G.fed.used) e) ∙ none))

  -- ---- pieces

  pub answered_none : (s : Standing) (w : Option (List ℕ)) → IsAnswered M s s w w []
  answered_none s w = record { told = []; turned = turned_none M s; written = Appends-nil w }

  module _ (s t x : Standing) (w v y : Option (List ℕ)) (read piece : List ℕ) (so : IsAnswered M s t w v read) where
    pub answered_then : IsAnswered M t x v y piece → IsAnswered M s x w y (read ++ piece)
    answered_then is = record {
      told = so.told ++ is.told;
      turned = turned_both M s t x read piece so.told is.told so.turned is.turned;
      written = Appends-trans w v y so.told is.told so.written is.written;
    }

    pub over_then : IsOver M t x v y piece → IsOver M s x w y (read ++ piece)
    over_then is = record {
      used = read ++ is.used;
      rest = is.rest;
      parts = append_assoc read is.used is.rest ∙ ap (λ (l : List ℕ). read ++ l) is.parts;
      told = so.told ++ is.told;
      turned = turned_both M s t x read is.used so.told is.told so.turned is.turned;
      written = Appends-trans w v y so.told is.told so.written is.written;
      over = is.over;
    }

    pub cut_then : IsCut M t x v y piece → IsCut M s x w y (read ++ piece)
    cut_then is = record {
      used = read ++ is.used;
      rest = is.rest;
      parts = append_assoc read is.used is.rest ∙ ap (λ (l : List ℕ). read ++ l) is.parts;
      told = so.told ++ is.told;
      turned = turned_both M s t x read is.used so.told is.told so.turned is.turned;
      written = part_next w v y so.told is.told (so.told ++ is.told) so.written is.written refl;
    }

  -- ---- the end

  -- what the turns told, and what the end adds, are the whole output of the bytes used
  turned_told : (s t : Standing) → HasBegun s → (used told out : List ℕ) → M.room ≤ length out → HasTurned M s t used told → told ++ last_told M t out ≡ told_in M used
  turned_told s t is used told out room turned =
      ap₂ (λ (l m : List ℕ). l ++ m) (sym turned.tells) (ap (λ (z : Standing). last_told M z out) (sym turned.stands))
      ∙ pieces_told M s is turned.turns out room
      ∙ ap (told_in M) turned.uses

  module _ (s t : Standing) (is : HasBegun s) (w v y : Option (List ℕ)) (read out : List ℕ) (room : M.room ≤ length out) (so : IsAnswered M s t w v read) where
    pub whole_told : Appends v y (last_told M t out) → Appends w y (told_in M read)
    whole_told h = subst (Appends w y) (turned_told s t is read so.told out room so.turned) (Appends-trans w v y so.told (last_told M t out) so.written h)

    pub whole_part : AppendsPart v y (last_told M t out) → AppendsPart w y (told_in M read)
    whole_part h = part_next w v y so.told (last_told M t out) (told_in M read) so.written h (turned_told s t is read so.told out room so.turned)

  pub cut_told : (s t : Standing) → HasBegun s → (w v : Option (List ℕ)) (read : List ℕ) → IsCut M s t w v read → AppendsPart w v (told_in M read)
  cut_told s t is w v read so =
      let more = first_told M s is so.turned.turns so.rest in
      part_longer w v so.told more.0 (told_in M read) so.written
      (ap (λ (l : List ℕ). l ++ more.0) (sym so.turned.tells)
      ∙ more.1
      ∙ ap (λ (l : List ℕ). told_in M (l ++ so.rest)) so.turned.uses
      ∙ ap (told_in M) so.parts)

  -- whatever follows
  over_untold : (s t : Standing) → HasBegun s → (w v : Option (List ℕ)) (read more : List ℕ) → (so : IsOver M s t w v read) → so.told ≡ told_in M (read ++ more)
  over_untold s t is w v read more so =
      sym so.turned.tells
      ∙ rest_untold M s is so.turned.turns (so.rest ++ more) (subst (λ (z : Standing). lines_limit ≤ z.progress.lines) (sym so.turned.stands) so.over)
      ∙ ap (λ (l : List ℕ). told_in M (l ++ (so.rest ++ more))) so.turned.uses
      ∙ ap (told_in M) (sym (append_assoc so.used so.rest more) ∙ ap (λ (l : List ℕ). l ++ more) so.parts)

  pub over_told : (s t : Standing) → HasBegun s → (r q w v : Option (List ℕ)) (read : List ℕ) → Consumes r q read → IsOver M s t w v read → IfSome r (λ input. Appends w v (told_in M input))
  over_told s t is None q w v read p so = tt
  over_told s t is (Some x) None w v read p so = absurd p
  over_told s t is (Some x) (Some z) w v read p so = subst (Appends w v) (over_untold s t is w v read z so ∙ ap (told_in M) (sym p)) so.written

-- a read that gives a byte is one more that did
pub counted_on : (read bytes : List ℕ) (n turn : ℕ) → turn ≤ length read → (n ≡ 0 → ⊥) → n ≤ length bytes → turn + 1 ≤ length (read ++ take n bytes)
counted_on read bytes n turn l z h = simp length-append (rw (length-take-le n bytes h) (omega (arith, l, z)))

-- a read that gives nothing consumes nothing
pub consumed_none : (a b c : Option (List ℕ)) (read bytes : List ℕ) (n : ℕ) → n ≡ 0 → Consumes a b read → Consumes b c (take n bytes) → Consumes a c read
consumed_none a b c read bytes n z p q =
    subst (Consumes a c) (append-nil read)
    (Consumes-trans a b c read [] p (subst (λ (k : ℕ). Consumes b c (take k bytes)) z q))

module _ (M : Manner) where
  -- ---- by what the answer to a piece says

  pub answers_on : (s t : Standing) (w v : Option (List ℕ)) (bytes : List ℕ) {b : Bool} → b ≡ true → Answers M s t w v bytes (Ok b) → IsAnswered M s t w v bytes
  answers_on s t w v bytes e is = subst (λ (b : Bool). Answers M s t w v bytes (Ok b)) e is

  pub answers_over : (s t : Standing) (w v : Option (List ℕ)) (bytes : List ℕ) {b : Bool} → b ≡ false → Answers M s t w v bytes (Ok b) → IsOver M s t w v bytes
  answers_over s t w v bytes e is = subst (λ (b : Bool). Answers M s t w v bytes (Ok b)) e is

  -- ---- the last stretch

  pub last_is : (p : Progress) (links : List ℕ) (B : Lent) (line out : List ℕ) {fed : Fed} {links' : List ℕ} {B' : Lent} {out' : List ℕ}
      → feeding fed links' B' line out' ≡ finish_call M p links B line out → take fed.written out' ≡ last_told M (standing p links B line) out
  unfolding last_told
  last_is p links B line out e = ap (λ (F : Feeding). take F.fed.written F.out) e

  pub last_by : (t : Standing) (out : List ℕ) (w v : Option (List ℕ)) {text : List ℕ} (r : Result Unit Error) → text ≡ last_told M t out → OnOk r (Appends w v text) → AppendsPart w v text
      → AppendsLast M t out w v r
  last_by t out w v {text} (Ok x) e all part = subst (Appends w v) e all
  last_by t out w v {text} (Err why) e all part = subst (AppendsPart w v) e part

  -- ---- by how the reading came to its end

  pub told_stopped : (s t : Standing) → HasBegun s → (r q w v : Option (List ℕ)) {e : Ending} → (e ≡ Stopped) ⊎ ((x : Error) × (e ≡ Unwritten x)) → Reads M s t r q w v e → IsTold M r q w v e
  told_stopped s t is r q w v {e} (inl p) =
      subst (λ (x : Ending). Reads M s t r q w v x → IsTold M r q w v x) (sym p) (λ so. over_told M s t is r q w v so.0 so.1 so.2)
  told_stopped s t is r q w v {e} (inr p) =
      subst (λ (x : Ending). Reads M s t r q w v x → IsTold M r q w v x) (sym p.1) (λ so. (so.0, so.1, cut_told M s t is w v so.0 so.2))

  module _ (s t : Standing) (is : HasBegun s) (r q w v y : Option (List ℕ)) (out : List ℕ) (room : M.room ≤ length out) where
    -- the input is whole, or a read failed, or there were too many
    abbrev pub AndOn : Ending → Type 0
    AndOn e = (e ≡ Whole) ⊎ (((x : Error) × (e ≡ Failed x)) ⊎ (e ≡ Endless))

    pub told_whole : {e : Ending} → AndOn e → Reads M s t r q w v e → Appends v y (last_told M t out) → IsTold M r q w y e
    told_whole {e} (inl p) =
        subst (λ (x : Ending). Reads M s t r q w v x → Appends v y (last_told M t out) → IsTold M r q w y x) (sym p)
        (λ so h. Consumes-whole r q so.0 (λ (l : List ℕ). Appends w y (told_in M l)) so.1 so.3 (whole_told M s t is w v y so.0 out room so.2 h))
    told_whole {e} (inr (inl p)) =
        subst (λ (x : Ending). Reads M s t r q w v x → Appends v y (last_told M t out) → IsTold M r q w y x) (sym p.1)
        (λ so h. (so.0, so.1, whole_told M s t is w v y so.0 out room so.2 h))
    told_whole {e} (inr (inr p)) =
        subst (λ (x : Ending). Reads M s t r q w v x → Appends v y (last_told M t out) → IsTold M r q w y x) (sym p)
        (λ so h. (so.0, so.1, whole_told M s t is w v y so.0 out room so.2 h, so.3))

    pub told_cut : {e : Ending} (why : Error) → AndOn e → Reads M s t r q w v e → AppendsPart v y (last_told M t out) → IsTold M r q w y (Unwritten why)
    told_cut {e} why (inl p) =
        subst (λ (x : Ending). Reads M s t r q w v x → AppendsPart v y (last_told M t out) → IsTold M r q w y (Unwritten why)) (sym p)
        (λ so h. (so.0, so.1, whole_part M s t is w v y so.0 out room so.2 h))
    told_cut {e} why (inr (inl p)) =
        subst (λ (x : Ending). Reads M s t r q w v x → AppendsPart v y (last_told M t out) → IsTold M r q w y (Unwritten why)) (sym p.1)
        (λ so h. (so.0, so.1, whole_part M s t is w v y so.0 out room so.2 h))
    told_cut {e} why (inr (inr p)) =
        subst (λ (x : Ending). Reads M s t r q w v x → AppendsPart v y (last_told M t out) → IsTold M r q w y (Unwritten why)) (sym p)
        (λ so h. (so.0, so.1, whole_part M s t is w v y so.0 out room so.2 h))
