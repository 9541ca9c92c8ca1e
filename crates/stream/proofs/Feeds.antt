-- THE BYTES OF A PIECE, part by part: what the line buffer takes up to the end of a line is what the bytes give one by one. And what holds at
-- each turn of the loop. Assumes nothing.
use mathlib.Core.Path.{◌≡◌, refl, sym, ap, ◌∙◌, subst}
use mathlib.Core.Bool.{Bool, true, false, cond}
use mathlib.Core.List.{List, [], ◌∷◌}
use Prim.Native.Nat.{ℕ, suc, ◌+◌, ◌≤◌, ◌<◌}
use native.Mathlib.Omega.{arith}
use lib.Dec.{eqb}
use lib.ListN.{length, get_or, take, drop, length-drop, drop_of_length-le}
use lib.Seq.{drop-cons, drop-drop}
use Rattle.lists.proofs.Tests.{clash}
use Rattle.map.specs.Room.{Lent, sizes_of}
use Rattle.map.specs.Memory.{base}
use Rattle.map.specs.declared.Record.{Record}
use Rattle.notice.specs.Lines.{line_limit, line_end, Line, garbled, frame, read_line}
use Rattle.update.specs.Steps.{map_refusal}
use Rattle.update.proofs.Keeps.{map_kept}
use Rattle.transcript.specs.Transcript.{update_in, frame_in}
use Rattle.transcript.specs.Manner.{Manner}
use Rattle.line_buffer.specs.Lines.{Holding, holding, hold_byte, PartLeft, part_from}
use Rattle.line_buffer.proofs.Stops.{going}
use Rattle.line_buffer.proofs.Holding.{part_most}
use Rattle.stream.specs.Feeding.{answer_to, Feeding, feeding, progress_of, fed_of, stopped, took_line, held_byte, take_byte, feed_bytes}
use Rattle.stream.proofs.Answers.{read-within}
use Rattle.map.proofs.Theorems.{base_shape}

-- ---- a part of the piece

-- the bytes held in F's line buffer
abbrev holding_of : Feeding → Holding
holding_of F = holding F.line F.fed.progress.held

-- F when its line buffer has taken a part
abbrev pub with_part : PartLeft → Feeding → Feeding
with_part P F = feeding (fed_of (progress_of F.fed.progress.rec F.fed.progress.lines P.buffer.held) P.at F.fed.written) F.links F.lent P.buffer.line F.out

-- the byte behind the used ones
next_drop : (piece : List ℕ) (at b : ℕ) (bs : List ℕ) → (b ∷ bs) ≡ drop at piece → bs ≡ drop (at + 1) piece
next_drop piece at b bs e = ap (drop 1) e ∙ drop-drop 1 at piece

held_part : (b : ℕ) (F : Feeding) (P : PartLeft) → with_part P (held_byte b F) ≡ with_part P F
unfolding held_byte
held_part b F P = refl

held_used : (b : ℕ) (F : Feeding) → (held_byte b F).fed.used ≡ F.fed.used + 1
unfolding held_byte
held_used b F = refl

held_all : (b : ℕ) (F : Feeding) → held_byte b F ≡ with_part (record { at = F.fed.used + 1; ended = true; buffer = hold_byte b (holding_of F) }) F
unfolding held_byte
held_all b F = refl

held_next : (b : ℕ) (F : Feeding) (bs : List ℕ) → part_from (F.fed.used + 1) (hold_byte b (holding_of F)) bs ≡ part_from (held_byte b F).fed.used (holding_of (held_byte b F)) bs
unfolding held_byte
held_next b F bs = refl

part_cons : (at : ℕ) (h : Holding) (b : ℕ) (bs : List ℕ) → part_from at h (b ∷ bs) ≡ cond (eqb b line_end) (record { at = at + 1; ended = true; buffer = hold_byte b h }) (part_from (at + 1) (hold_byte b h) bs)
unfolding part_from
part_cons at h b bs = refl

part_nil : (at : ℕ) (h : Holding) → part_from at h [] ≡ record { at = at; ended = false; buffer = h }
unfolding part_from
part_nil at h = refl

-- a part takes at least a byte where one is left
part_past : (at : ℕ) (h : Holding) (bs : List ℕ) → at ≤ (part_from at h bs).at
unfolding part_from
part_past at h [] = omega arith
part_past at h (b ∷ bs) = go (eqb b line_end) (part_past (at + 1) (hold_byte b h) bs)
  where
    go : (x : Bool) → at + 1 ≤ (part_from (at + 1) (hold_byte b h) bs).at
        → at ≤ (cond x (record { at = at + 1; ended = true; buffer = hold_byte b h }) (part_from (at + 1) (hold_byte b h) bs)).at
    go true l = omega arith
    go false l = omega arith

pub part_more : (at : ℕ) (h : Holding) (piece : List ℕ) → at < length piece → at < (part_from at h (drop at piece)).at
part_more at h piece l = subst (λ (bs : List ℕ). at < (part_from at h bs).at) (sym (drop-cons piece at 0 l)) (one (get_or piece at 0) (drop (suc at) piece))
  where
    pick : (b : ℕ) (bs : List ℕ) (x : Bool) → at + 1 ≤ (part_from (at + 1) (hold_byte b h) bs).at
        → at < (cond x (record { at = at + 1; ended = true; buffer = hold_byte b h }) (part_from (at + 1) (hold_byte b h) bs)).at
    pick b bs true l = omega arith
    pick b bs false l = omega arith

    one : (b : ℕ) (bs : List ℕ) → at < (part_from at h (b ∷ bs)).at
    one b bs = subst (λ (P : PartLeft). at < P.at) (sym (part_cons at h b bs)) (pick b bs (eqb b line_end) (part_past (at + 1) (hold_byte b h) bs))

-- and no more than there are
past_within : (at : ℕ) (h : Holding) (bs : List ℕ) → (part_from at h bs).at ≤ at + length bs
unfolding part_from
past_within at h [] = omega arith
past_within at h (b ∷ bs) = go (eqb b line_end) (past_within (at + 1) (hold_byte b h) bs)
  where
    go : (x : Bool) → (part_from (at + 1) (hold_byte b h) bs).at ≤ at + 1 + length bs
        → (cond x (record { at = at + 1; ended = true; buffer = hold_byte b h }) (part_from (at + 1) (hold_byte b h) bs)).at ≤ at + suc (length bs)
    go true l = omega arith
    go false l = omega arith

pub part_within : (at : ℕ) (h : Holding) (piece : List ℕ) → at ≤ length piece → (part_from at h (drop at piece)).at ≤ length piece
part_within at h piece l = omega (arith, past_within at h (drop at piece), length-drop at piece)

-- nothing refuses F's map
abbrev pub IsFree : Feeding → Type 0
IsFree F = map_refusal base F.fed.progress.rec F.links F.lent.pairs (sizes_of F.links F.lent) ≡ 0

-- a line's answer keeps the map free
answer_free : (text : List ℕ) (rec : Record) (links : List ℕ) (B : Lent) → map_refusal base rec links B.pairs (sizes_of links B) ≡ 0
    → (l : Line) → read_line text ≡ l
    → (let x = answer_to (frame_in l) rec links B in map_refusal base x.after x.links x.lent.pairs (sizes_of x.links x.lent) ≡ 0)
unfolding answer_to
answer_free text rec links B free garbled e = free
answer_free text rec links B free (frame f u) e = map_kept base base_shape rec links B (update_in f) (read-within text f u e) free

-- ---- told in any manner

module _ (M : Manner) where
  -- what the bytes bs of the piece give, by the part P of them: all are held, or a line is taken and the rest goes on
  pub record IsFed (piece bs : List ℕ) (F : Feeding) (P : PartLeft) : Type 0 where
    pub all : P.ended ≡ false → with_part P F ≡ feed_bytes M bs F
    pub line : P.ended ≡ true → feed_bytes M (drop P.at piece) (took_line M (with_part P F)) ≡ feed_bytes M bs F

  bytes_on : (b : ℕ) (bs : List ℕ) (F : Feeding) → stopped M F ≡ false → feed_bytes M bs (take_byte M b F) ≡ feed_bytes M (b ∷ bs) F
  unfolding feed_bytes
  bytes_on b bs F e = rw (e)

  bytes_none : (F : Feeding) → F ≡ feed_bytes M [] F
  unfolding feed_bytes
  bytes_none F = refl

  held_stopped : (b : ℕ) (F : Feeding) → stopped M (held_byte b F) ≡ stopped M F
  unfolding held_byte
  held_stopped b F = refl

  -- a byte that ends the line, and one that does not
  byte_end : (piece : List ℕ) (b : ℕ) (bs : List ℕ) (F : Feeding) → eqb b line_end ≡ true → (b ∷ bs) ≡ drop F.fed.used piece → stopped M F ≡ false
      → IsFed piece (b ∷ bs) F (record { at = F.fed.used + 1; ended = true; buffer = hold_byte b (holding_of F) })
  unfolding take_byte
  byte_end piece b bs F t e s = record {
    all = λ q. absurd (clash refl q);
    line = λ q.
        ap (λ (xs : List ℕ). feed_bytes M xs (took_line M (with_part (record { at = F.fed.used + 1; ended = true; buffer = hold_byte b (holding_of F) }) F))) (sym (next_drop piece F.fed.used b bs e))
        ∙ ap (λ (G : Feeding). feed_bytes M bs (took_line M G)) (sym (held_all b F))
        ∙ ap (λ (x : Bool). feed_bytes M bs (cond x (took_line M (held_byte b F)) (held_byte b F))) (sym t)
        ∙ bytes_on b bs F s;
  }

  byte_on : (piece : List ℕ) (b : ℕ) (bs : List ℕ) (F : Feeding) (P : PartLeft) → eqb b line_end ≡ false → stopped M F ≡ false → IsFed piece bs (held_byte b F) P → IsFed piece (b ∷ bs) F P
  unfolding take_byte
  byte_on piece b bs F P t s ih =
      let on : feed_bytes M bs (held_byte b F) ≡ feed_bytes M (b ∷ bs) F = ap (λ (x : Bool). feed_bytes M bs (cond x (took_line M (held_byte b F)) (held_byte b F))) (sym t) ∙ bytes_on b bs F s in
      record {
        all = λ q. sym (held_part b F P) ∙ ih.all q ∙ on;
        line = λ q. sym (ap (λ (G : Feeding). feed_bytes M (drop P.at piece) (took_line M G)) (held_part b F P)) ∙ ih.line q ∙ on;
      }

  pub part_fed : (piece bs : List ℕ) (F : Feeding) → bs ≡ drop F.fed.used piece → stopped M F ≡ false → IsFed piece bs F (part_from F.fed.used (holding_of F) bs)
  part_fed piece [] F e s =
      subst (IsFed piece [] F) (sym (part_nil F.fed.used (holding_of F)))
      (record { all = λ q. bytes_none F; line = λ q. absurd (clash q refl) })
  part_fed piece (b ∷ bs) F e s =
      subst (IsFed piece (b ∷ bs) F) (sym (part_cons F.fed.used (holding_of F) b bs))
      (go (eqb b line_end) refl (part_fed piece bs (held_byte b F) (next_drop piece F.fed.used b bs e ∙ ap (λ (k : ℕ). drop k piece) (sym (held_used b F))) (held_stopped b F ∙ s)))
    where
      go : (x : Bool) → eqb b line_end ≡ x → IsFed piece bs (held_byte b F) (part_from (held_byte b F).fed.used (holding_of (held_byte b F)) bs)
          → IsFed piece (b ∷ bs) F (cond x (record { at = F.fed.used + 1; ended = true; buffer = hold_byte b (holding_of F) }) (part_from (F.fed.used + 1) (hold_byte b (holding_of F)) bs))
      go true t ih = byte_end piece b bs F t e s
      go false t ih = byte_on piece b bs F (part_from (F.fed.used + 1) (hold_byte b (holding_of F)) bs) t s (subst (IsFed piece bs (held_byte b F)) (sym (held_next b F bs)) ih)

  -- a line's answer uses no more of the piece
  pub took_used : (F : Feeding) → (took_line M F).fed.used ≡ F.fed.used
  unfolding took_line
  took_used F = refl

  -- ---- the loop

  -- at each turn: the rest of the piece ends where all of it ends from the start; nothing refuses the map; at most a line is held
  pub record AtTurn (piece : List ℕ) (F₀ F : Feeding) : Type 0 where
    pub going : feed_bytes M (drop F.fed.used piece) F ≡ feed_bytes M piece F₀
    pub free : IsFree F
    pub held : F.fed.progress.held ≤ line_limit

  pub took_free : (F : Feeding) → IsFree F → IsFree (took_line M F)
  unfolding took_line
  took_free F free = answer_free (take F.fed.progress.held F.line) F.fed.progress.rec F.links F.lent free (read_line (take F.fed.progress.held F.line)) refl

  pub took_held : (F : Feeding) → (took_line M F).fed.progress.held ≡ 0
  unfolding took_line
  took_held F = refl

  -- the step stops, or the piece is used up
  pub bytes_stop : (bs : List ℕ) (F : Feeding) → stopped M F ≡ true → feed_bytes M bs F ≡ F
  unfolding feed_bytes
  bytes_stop [] F e = refl
  bytes_stop (b ∷ bs) F e = rw (e)

  pub bytes_over : (piece : List ℕ) (k : ℕ) (F : Feeding) → length piece ≤ k → feed_bytes M (drop k piece) F ≡ F
  bytes_over piece k F l = ap (λ (bs : List ℕ). feed_bytes M bs F) (drop_of_length-le piece l) ∙ sym (bytes_none F)

  -- a part of the rest of the piece: all of it is held, or it ends a line and the bytes behind it go on
  module _ (piece : List ℕ) (F : Feeding) (on : stopped M F ≡ false) where
    abbrev P : PartLeft
    P = part_from F.fed.used (holding F.line F.fed.progress.held) (drop F.fed.used piece)

    fed : IsFed piece (drop F.fed.used piece) F P
    fed = part_fed piece (drop F.fed.used piece) F refl on

    pub part_held_all : P.ended ≡ false → feed_bytes M (drop F.fed.used piece) F ≡ with_part P F
    part_held_all e = sym (fed.all e)

    pub part_line : P.ended ≡ true → feed_bytes M (drop F.fed.used piece) F ≡ feed_bytes M (drop P.at piece) (took_line M (with_part P F))
    part_line e = sym (fed.line e)

    -- where a line was taken, which left N, it holds of N what holds at each turn
    pub turn_next : {F₀ N : Feeding} {Q : PartLeft} → AtTurn piece F₀ F → Q ≡ P → Q.ended ≡ true → N ≡ took_line M (with_part Q F) → AtTurn piece F₀ N
    turn_next {F₀} turn same e is =
        let T : Feeding = took_line M (with_part P F) in
        subst (AtTurn piece F₀) (sym (is ∙ ap (λ (R : PartLeft). took_line M (with_part R F)) same)) (record {
          going = ap (λ (k : ℕ). feed_bytes M (drop k piece) T) (took_used (with_part P F)) ∙ sym (part_line (sym (ap (λ (R : PartLeft). R.ended) same) ∙ e)) ∙ turn.going;
          free = took_free (with_part P F) turn.free;
          held = omega (arith, took_held (with_part P F));
        })

-- what is known of a part
pub ruleset parts = (part_most, part_more, part_within, took_used)

-- what is known of the bytes that are left, where the step stops and where it does not
pub ruleset bytes = (parts, bytes_stop, bytes_over, part_held_all, going)
