-- THE TURNS of a stream, one after another, and what was handed on of what they told. Assumes nothing.
use Rattle.std.proofs.Common.{◌≡◌, ℕ, List, [], ◌∷◌, ◌++◌, Option, refl, sym, ap, ◌∙◌, append_assoc, append-nil, take, drop, length, ◌-◌, ◌≤◌, subst, take-append-drop, arith, Result, Ok, Err, not}
use mathlib.Core.Path.{ap₂}
use mathlib.Core.Bool.{Bool, true, false}
use Rattle.std.proofs.lemmas.List.{take_rest, nil_from_length}
use borrow.Author.Tests.{leb-true}
use Rattle.std.specs.Result.{IsErr}
use Rattle.std.specs.declared.io.Error.{Error}
use Rattle.std.specs.Io.KnownBytes.{Appends}
use Rattle.std.proofs.KnownBytes.{Appends-trans, Appends-nil}
use Rattle.lists.proofs.Tests.{clash}
use Rattle.map.specs.Room.{Lent}
use Rattle.transcript.specs.Transcript.{lines_limit}
use Rattle.transcript.specs.Manner.{Manner}
use Rattle.line_buffer.specs.Lines.{is_stopped}
use Rattle.line_buffer.proofs.Stops.{stopped_lines}
use Rattle.stream.specs.declared.Progress.{Progress}
use Rattle.stream.specs.declared.Fed.{Fed}
use Rattle.stream.specs.Feeding.{Feeding, feeding, feed_call}
use Rattle.stream.specs.Pieces.{Standing, Turn, turn_told, standing_after, stands_told, used_told, written_told}
use Rattle.feeding.specs.Reading.{standing, AppendsPart, HasTurned, IsOver, IsCut, Answers}

-- ---- parts of what is told

-- all of a text, and a part of the next
pub part_next : (a b c : Option (List ℕ)) (xs ys all : List ℕ) → Appends a b xs → AppendsPart b c ys → xs ++ ys ≡ all → AppendsPart a c all
part_next a b c xs ys all p q e = record {
  sent = xs ++ q.sent;
  lost = q.lost;
  parts = append_assoc xs q.sent q.lost ∙ ap (λ (l : List ℕ). xs ++ l) q.parts ∙ e;
  appends = Appends-trans a b c xs q.sent p q.appends;
}

-- a part of a text is a part of a longer one
pub part_longer : (a b : Option (List ℕ)) (xs ys all : List ℕ) → AppendsPart a b xs → xs ++ ys ≡ all → AppendsPart a b all
part_longer a b xs ys all p e = record {
  sent = p.sent;
  lost = p.lost ++ ys;
  parts = sym (append_assoc p.sent p.lost ys) ∙ ap (λ (l : List ℕ). l ++ ys) p.parts ∙ e;
  appends = p.appends;
}

-- behind what is written so far, a first part of what is left is appended: the slice that is left then
pub part_on : (a b c : Option (List ℕ)) (sent rest all : List ℕ) (n : ℕ) → sent ++ rest ≡ all → Appends a b sent → Appends b c (take n rest)
    → (x : List ℕ) × (x ++ take (length rest - n) (drop n rest) ≡ all) × Appends a c x
part_on a b c sent rest all n e p q = (
  sent ++ take n rest,
  append_assoc sent (take n rest) (take (length rest - n) (drop n rest))
      ∙ ap (λ (l : List ℕ). sent ++ (take n rest ++ l)) (take_rest rest n)
      ∙ ap (λ (l : List ℕ). sent ++ l) (take-append-drop n rest)
      ∙ e,
  Appends-trans a b c sent (take n rest) p q,
)

-- ---- turns

module _ (M : Manner) where
  stands_both : (s : Standing) (ts us : List Turn) → stands_told M s (ts ++ us) ≡ stands_told M (stands_told M s ts) us
  unfolding stands_told
  stands_both s [] us = refl
  stands_both s (t ∷ ts) us = stands_both (standing_after (turn_told M s t)) ts us

  used_both : (s : Standing) (ts us : List Turn) → used_told M s (ts ++ us) ≡ used_told M s ts ++ used_told M (stands_told M s ts) us
  unfolding stands_told used_told
  used_both s [] us = refl
  used_both s (t ∷ ts) us =
      let F = turn_told M s t in
      ap (λ (l : List ℕ). take F.fed.used t.piece ++ l) (used_both (standing_after F) ts us)
      ∙ sym (append_assoc (take F.fed.used t.piece) (used_told M (standing_after F) ts) (used_told M (stands_told M (standing_after F) ts) us))

  written_both : (s : Standing) (ts us : List Turn) → written_told M s (ts ++ us) ≡ written_told M s ts ++ written_told M (stands_told M s ts) us
  unfolding stands_told written_told
  written_both s [] us = refl
  written_both s (t ∷ ts) us =
      let F = turn_told M s t in
      ap (λ (l : List ℕ). take F.fed.written F.out ++ l) (written_both (standing_after F) ts us)
      ∙ sym (append_assoc (take F.fed.written F.out) (written_told M (standing_after F) ts) (written_told M (stands_told M (standing_after F) ts) us))

  pub turned_none : (s : Standing) → HasTurned M s s [] []
  unfolding stands_told used_told written_told
  turned_none s = record { turns = []; stands = refl; uses = refl; tells = refl }

  pub turned_both : (s t v : Standing) (u w x y : List ℕ) → HasTurned M s t u x → HasTurned M t v w y → HasTurned M s v (u ++ w) (x ++ y)
  turned_both s t v u w x y p q = record {
    turns = p.turns ++ q.turns;
    stands = stands_both s p.turns q.turns ∙ ap (λ (z : Standing). stands_told M z q.turns) p.stands ∙ q.stands;
    uses = used_both s p.turns q.turns ∙ ap₂ (λ (l m : List ℕ). l ++ m) p.uses (ap (λ (z : Standing). used_told M z q.turns) p.stands ∙ q.uses);
    tells = written_both s p.turns q.turns ∙ ap₂ (λ (l m : List ℕ). l ++ m) p.tells (ap (λ (z : Standing). written_told M z q.turns) p.stands ∙ q.tells);
  }

  -- one turn is a call of the step
  turn_one : (s : Standing) (t : Turn) → HasTurned M s (standing_after (turn_told M s t)) (take (turn_told M s t).fed.used t.piece) (take (turn_told M s t).fed.written (turn_told M s t).out)
  unfolding stands_told used_told written_told
  turn_one s t = record { turns = t ∷ []; stands = refl; uses = append-nil (take (turn_told M s t).fed.used t.piece); tells = append-nil (take (turn_told M s t).fed.written (turn_told M s t).out) }

  pub turned_one : (out piece : List ℕ) {p : Progress} {links line : List ℕ} {B : Lent} {fed : Fed} {links' line' out' : List ℕ} {B' : Lent}
      → feeding fed links' B' line' out' ≡ feed_call M p links B line out piece
      → HasTurned M (standing p links B line) (standing fed.progress links' B' line') (take fed.used piece) (take fed.written out')
  unfolding standing_after turn_told
  turned_one out piece {p} {links} {line} {B} {fed} {links'} {line'} {out'} {B'} e =
      subst (λ (F : Feeding). HasTurned M (standing p links B line) (standing_after F) (take F.fed.used piece) (take F.fed.written F.out)) (sym e)
      (turn_one (standing p links B line) (record { piece = piece; out = out }))

  -- ---- the pieces' rests

  -- the first bytes of a piece are used, and what was told of them is written
  pub record IsOn (s t : Standing) (w v : Option (List ℕ)) (rest piece : List ℕ) : Type 0 where
    pub used : List ℕ
    pub parts : used ++ rest ≡ piece
    pub told : List ℕ
    pub turned : HasTurned M s t used told
    pub written : Appends w v told

  pub on_first : (s : Standing) (w : Option (List ℕ)) (piece : List ℕ) → IsOn s s w w piece piece
  on_first s w piece = record { used = []; parts = refl; told = []; turned = turned_none s; written = Appends-nil w }

  module _ (s t x : Standing) (w v y : Option (List ℕ)) (rest piece text : List ℕ) (n : ℕ) (on : IsOn s t w v rest piece) (turn : HasTurned M t x (take n rest) text) where
    further : (on.used ++ take n rest) ++ drop n rest ≡ piece
    further = append_assoc on.used (take n rest) (drop n rest) ∙ ap (λ (l : List ℕ). on.used ++ l) (take-append-drop n rest) ∙ on.parts

    both : HasTurned M s x (on.used ++ take n rest) (on.told ++ text)
    both = turned_both s t x on.used (take n rest) on.told text on.turned turn

    pub on_next : Appends v y text → IsOn s x w y (take (length rest - n) (drop n rest)) piece
    on_next h = record {
      used = on.used ++ take n rest;
      parts = ap (λ (l : List ℕ). (on.used ++ take n rest) ++ l) (take_rest rest n) ∙ further;
      told = on.told ++ text;
      turned = both;
      written = Appends-trans w v y on.told text on.written h;
    }

    pub on_cut : AppendsPart v y text → IsCut M s x w y piece
    on_cut h = record {
      used = on.used ++ take n rest;
      rest = drop n rest;
      parts = further;
      told = on.told ++ text;
      turned = both;
      written = part_next w v y on.told text (on.told ++ text) on.written h refl;
    }

    -- nothing of it was used: the stream has had its lines
    pub on_over : Appends v y text → lines_limit ≤ x.progress.lines → IsOver M s x w y piece
    on_over h l = record {
      used = on.used ++ take n rest;
      rest = drop n rest;
      parts = further;
      told = on.told ++ text;
      turned = both;
      written = Appends-trans w v y on.told text on.written h;
      over = l;
    }

  -- a write failed
  pub on_failed : (s t : Standing) (w v : Option (List ℕ)) (piece : List ℕ) (r : Result Bool Error) → IsErr r → IsCut M s t w v piece → Answers M s t w v piece r
  on_failed s t w v piece (Ok b) e cut = absurd (clash e refl)
  on_failed s t w v piece (Err why) e cut = cut

  -- all of it was used, and the stream stops, or goes on
  pub on_end : (s t : Standing) (w v : Option (List ℕ)) (rest piece : List ℕ) (room : ℕ) {b : Bool} → IsOn s t w v rest piece → length rest ≡ 0 → M.room ≤ room
      → b ≡ is_stopped M.room t.progress.lines 0 room → Answers M s t w v piece (Ok (not b))
  on_end s t w v rest piece room {b = true} on z l e = record {
    used = on.used;
    rest = rest;
    parts = on.parts;
    told = on.told;
    turned = on.turned;
    written = on.written;
    over = leb-true lines_limit t.progress.lines (stopped_lines M.room t.progress.lines 0 room (omega (arith, l)) ∙ sym e);
  }
  on_end s t w v rest piece room {b = false} on z l e = record {
    told = on.told;
    turned = subst (λ (u : List ℕ). HasTurned M s t u on.told) (sym (append-nil on.used) ∙ ap (λ (r : List ℕ). on.used ++ r) (sym (nil_from_length rest z)) ∙ on.parts) on.turned;
    written = on.written;
  }
