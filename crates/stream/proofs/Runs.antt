-- THE BYTES ONE BY ONE: where the stream stands after each, against the lines of the whole input. Assumes nothing.
use mathlib.Core.Path.{◌≡◌, refl, sym, ap, ap₂, ◌∙◌, subst}
use mathlib.Core.Logic.{◌⊎◌, inl, inr}
use mathlib.Core.Bool.{Bool, true, false, cond}
use mathlib.Core.List.{List, [], ◌∷◌, ◌++◌}
use Prim.Native.Nat.{ℕ, suc, ◌+◌, ◌-◌, ◌≤◌, ◌<◌}
use native.Mathlib.Omega.{arith}
use lib.Dec.{eqb}
use lib.ListN.{length, take, drop}
use lib.Seq.{take_at, take-nil, take-append-add, append_snoc, length-take-le}
use borrow.Author.Tests.{eqb-true}
use Rattle.std.proofs.lemmas.Bool.{cases_Bool}
use Rattle.lists.specs.Lists.{overwrite}
use Rattle.graph.specs.Network.{Network}
use Rattle.map.specs.Memory.{base}
use Rattle.map.specs.Room.{sizes_of, long_enough}
use Rattle.notice.specs.Lines.{line_end, read_line, lines_of}
use Rattle.update.proofs.Memories.{IsHeld, Says}
use Rattle.transcript.specs.Transcript.{lines_limit, follow_line, report_on, network_after, frame_in, answers_from}
use Rattle.transcript.specs.Manner.{Manner}
use Rattle.transcript.proofs.Manners.{told_from}
use Rattle.line_buffer.specs.Lines.{holding, pasted}
use Rattle.stream.specs.Feeding.{Feeding, stopped, took_line, held_byte, take_byte, feed_bytes}
use Rattle.line_buffer.proofs.Stops.{going}
use Rattle.stream.proofs.Lines.{is_open_line, lines_ended, open_none, open_more, read_first, HoldsLine, holds_byte}
use Rattle.stream.proofs.Following.{IsLine, line_is}
use Rattle.lists.proofs.Appends.{append_append}

-- a stream after n lines, on the map of the network G, with the bytes p of the next line
pub record Place : Type 0 where
  pub lines : ℕ
  pub network : Network
  pub begun : List ℕ

-- the answers to the rest r of the input, from there
unfoldable pub rest_from : Manner → Place → List ℕ → List ℕ
rest_from M a r = told_from M a.lines a.network (take (lines_limit - a.lines) (lines_of (a.begun ++ r)))

-- the network after the rest r of the input, from there
unfoldable pub network_from : Place → List ℕ → Network
network_from a r = network_after a.network (take (lines_limit - a.lines) (lines_of (a.begun ++ r)))

-- lent memory and progress stand at a place
pub record StandsAt (a : Place) (F : Feeding) : Type 0 where
  pub lines : F.fed.progress.lines ≡ a.lines
  pub is_held : IsHeld base a.network
  pub is_said : Says base a.network F.fed.progress.rec F.links F.lent.pairs
  pub long : long_enough base (sizes_of F.links F.lent) ≡ true
  pub holds : HoldsLine a.begun (holding F.line F.fed.progress.held)

-- ---- a line is taken

-- the place after the line that is begun
abbrev after_line : Place → Place
after_line a = record { lines = a.lines + 1; network = (follow_line a.network (read_line a.begun)).network; begun = [] }

-- the text of its answer
abbrev pub line_told : Manner → Place → List ℕ
line_told M a = M.text (frame_in (read_line a.begun)) (report_on (a.lines + 1) (follow_line a.network (read_line a.begun)))

pub pasted_read : (text : List ℕ) (at : ℕ) (out : List ℕ) → at ≤ length out → take (at + length text) (pasted text at out) ≡ take at out ++ text
unfolding pasted overwrite
pasted_read text at out l =
    ap (λ (k : ℕ). take (k + length text) (take at out ++ (text ++ drop (length text) (drop at out)))) (sym (length-take-le at out l))
    ∙ take-append-add (take at out) (text ++ drop (length text) (drop at out)) (length text)
    ∙ ap (λ (r : List ℕ). take at out ++ r) (take_at text (drop (length text) (drop at out)) (length text) refl)

-- a place with a further byte of the line
abbrev with_byte : Place → ℕ → Place
with_byte a b = record { lines = a.lines; network = a.network; begun = a.begun ++ (b ∷ []) }

-- the network after a line
network_line : (a : Place) (l : List ℕ) (ls : List (List ℕ)) → a.lines < lines_limit
    → network_after a.network (take (lines_limit - a.lines) (l ∷ ls)) ≡ network_after (follow_line a.network (read_line l)).network (take (lines_limit - (a.lines + 1)) ls)
unfolding network_after
network_line a l ls h =
    let e : lines_limit - a.lines ≡ suc (lines_limit - (a.lines + 1)) = omega arith in
    ap (λ (k : ℕ). network_after a.network (take k (l ∷ ls))) e

network_ended : (a : Place) (r : List ℕ) → is_open_line a.begun ≡ true → a.lines < lines_limit → network_from a (line_end ∷ r) ≡ network_from (after_line (with_byte a line_end)) r
unfolding network_from
network_ended a r o h =
    ap (λ (ls : List (List ℕ)). network_after a.network (take (lines_limit - a.lines) ls)) (lines_ended a.begun r o)
    ∙ network_line a (a.begun ++ (line_end ∷ [])) (lines_of r) h

network_held : (a : Place) (b : ℕ) (r : List ℕ) → network_from (with_byte a b) r ≡ network_from a (b ∷ r)
unfolding network_from
network_held a b r = ap (λ (t : List ℕ). network_after a.network (take (lines_limit - a.lines) (lines_of t))) (append_snoc a.begun b r)

held_stands : (a : Place) (F : Feeding) (b : ℕ) → StandsAt a F → StandsAt (with_byte a b) (held_byte b F)
unfolding held_byte
held_stands a F b is = record {
  lines = is.lines;
  is_held = is.is_held;
  is_said = is.is_said;
  long = is.long;
  holds = holds_byte a.begun (holding F.line F.fed.progress.held) b is.holds;
}

held_written : (F : Feeding) (b : ℕ) → ((held_byte b F).fed.written ≡ F.fed.written) × ((held_byte b F).out ≡ F.out)
unfolding held_byte
held_written F b = (refl, refl)

-- ---- told in any manner

module _ (M : Manner) where
  module _ (a : Place) (F : Feeding) (is : StandsAt a F) where
    -- what is held reads as the whole line
    text_reads : read_line (take F.fed.progress.held F.line) ≡ read_line a.begun
    text_reads = ap read_line is.holds.text ∙ read_first a.begun

    line_here : IsLine a.network is.is_held F.fed.progress.rec F.links F.lent is.is_said is.long (read_line a.begun)
    line_here = line_is a.network is.is_held F.fed.progress.rec F.links F.lent is.is_said is.long a.begun (read_line a.begun) refl

    pub took_stands : StandsAt (after_line a) (took_line M F)
    unfolding took_line
    took_stands = rw (text_reads) (record {
      lines = ap (λ (n : ℕ). n + 1) is.lines;
      is_held = line_here.is_held;
      is_said = line_here.is_said;
      long = ap (long_enough base) line_here.sizes ∙ is.long;
      holds = record { text = refl; count = refl; room = is.holds.room };
    })

    pub took_written : F.fed.written ≤ length F.out → take (took_line M F).fed.written (took_line M F).out ≡ take F.fed.written F.out ++ line_told M a
    unfolding took_line
    took_written l = rw (text_reads, is.lines, line_here.report (a.lines + 1)) (pasted_read (line_told M a) F.fed.written F.out l)

  -- ---- the rest after a line

  pub rest_line : (a : Place) (l : List ℕ) (ls : List (List ℕ)) → a.lines < lines_limit
      → told_from M a.lines a.network (take (lines_limit - a.lines) (l ∷ ls))
      ≡ M.text (frame_in (read_line l)) (report_on (a.lines + 1) (follow_line a.network (read_line l))) ++ told_from M (a.lines + 1) (follow_line a.network (read_line l)).network (take (lines_limit - (a.lines + 1)) ls)
  unfolding answers_from
  rest_line a l ls h =
      let e : lines_limit - a.lines ≡ suc (lines_limit - (a.lines + 1)) = omega arith in
      ap (λ (k : ℕ). told_from M a.lines a.network (take k (l ∷ ls))) e

  rest_ended : (a : Place) (r : List ℕ) → is_open_line a.begun ≡ true → a.lines < lines_limit → rest_from M a (line_end ∷ r) ≡ line_told M (with_byte a line_end) ++ rest_from M (after_line (with_byte a line_end)) r
  unfolding rest_from
  rest_ended a r o h =
      ap (λ (ls : List (List ℕ)). told_from M a.lines a.network (take (lines_limit - a.lines) ls)) (lines_ended a.begun r o)
      ∙ rest_line a (a.begun ++ (line_end ∷ [])) (lines_of r) h

  rest_held : (a : Place) (b : ℕ) (r : List ℕ) → rest_from M (with_byte a b) r ≡ rest_from M a (b ∷ r)
  unfolding rest_from
  rest_held a b r = ap (λ (t : List ℕ). told_from M a.lines a.network (take (lines_limit - a.lines) (lines_of t))) (append_snoc a.begun b r)

  -- ---- a byte

  -- from F to F' the bytes c are used: what is written then, with the rest from there, is what was written before with the rest from F; and the
  -- network after the rest is one
  pub record Goes (a : Place) (F F' : Feeding) (c : List ℕ) : Type 0 where
    pub place : Place
    pub stands : StandsAt place F'
    pub is_open : is_open_line place.begun ≡ true
    pub rest : (r : List ℕ) → take F'.fed.written F'.out ++ rest_from M place r ≡ take F.fed.written F.out ++ rest_from M a (c ++ r)
    pub follows : (r : List ℕ) → network_from place r ≡ network_from a (c ++ r)

  module _ (a : Place) (F : Feeding) (is : StandsAt a F) (o : is_open_line a.begun ≡ true) (on : stopped M F ≡ false) where
    room : (F.fed.progress.lines < lines_limit) × (F.fed.written + M.room ≤ length F.out)
    room = going M.room F.fed.progress.lines F.fed.written (length F.out) on

    ended_goes : Goes a F (took_line M (held_byte line_end F)) (line_end ∷ [])
    ended_goes =
        let F₁ = held_byte line_end F in
        let w = held_written F line_end in
        let is₁ = held_stands a F line_end is in
        record {
          place = after_line (with_byte a line_end);
          stands = took_stands (with_byte a line_end) F₁ is₁;
          is_open = open_none;
          rest = λ r.
              ap (λ (t : List ℕ). t ++ rest_from M (after_line (with_byte a line_end)) r) (took_written (with_byte a line_end) F₁ is₁ (omega (arith, room.1, w.0, ap length w.1)))
              ∙ ap (λ (t : List ℕ). t ++ line_told M (with_byte a line_end) ++ rest_from M (after_line (with_byte a line_end)) r) (ap₂ (λ (k : ℕ) (out : List ℕ). take k out) w.0 w.1)
              ∙ append_append (take F.fed.written F.out) (line_told M (with_byte a line_end)) (rest_from M (after_line (with_byte a line_end)) r)
              ∙ ap (λ (t : List ℕ). take F.fed.written F.out ++ t) (sym (rest_ended a r o (omega (arith, room.0, is.lines))));
          follows = λ r. sym (network_ended a r o (omega (arith, room.0, is.lines)));
        }

    held_goes : (b : ℕ) → eqb b line_end ≡ false → Goes a F (held_byte b F) (b ∷ [])
    held_goes b e =
        let w = held_written F b in
        record {
          place = with_byte a b;
          stands = held_stands a F b is;
          is_open = open_more a.begun b o e;
          rest = λ r. ap₂ (λ (t u : List ℕ). t ++ u) (ap₂ (λ (k : ℕ) (out : List ℕ). take k out) w.0 w.1) (rest_held a b r);
          follows = network_held a b;
        }

    byte_goes : (b : ℕ) → Goes a F (take_byte M b F) (b ∷ [])
    unfolding take_byte
    byte_goes b = go (eqb b line_end) refl
      where
        go : (x : Bool) → eqb b line_end ≡ x → Goes a F (cond x (took_line M (held_byte b F)) (held_byte b F)) (b ∷ [])
        go true e = subst (λ (c : ℕ). Goes a F (took_line M (held_byte c F)) (c ∷ [])) (sym (eqb-true b line_end e)) ended_goes
        go false e = held_goes b e

  -- ---- the bytes of a piece

  byte_used : (b : ℕ) (F : Feeding) → (take_byte M b F).fed.used ≡ F.fed.used + 1
  unfolding take_byte took_line held_byte
  byte_used b F = go (eqb b line_end)
    where
      go : (x : Bool) → (cond x (took_line M (held_byte b F)) (held_byte b F)).fed.used ≡ F.fed.used + 1
      go true = refl
      go false = refl

  bytes_stop : (b : ℕ) (bs : List ℕ) (F : Feeding) → stopped M F ≡ true → feed_bytes M (b ∷ bs) F ≡ F
  unfolding feed_bytes
  bytes_stop b bs F e = rw (e)

  bytes_next : (b : ℕ) (bs : List ℕ) (F : Feeding) → stopped M F ≡ false → feed_bytes M (b ∷ bs) F ≡ feed_bytes M bs (take_byte M b F)
  unfolding feed_bytes
  bytes_next b bs F e = rw (e)

  bytes_nil : (F : Feeding) → feed_bytes M [] F ≡ F
  unfolding feed_bytes
  bytes_nil F = refl

  -- bytes are only added to those used, and all are used unless the step stops
  pub bytes_past : (bs : List ℕ) (F : Feeding) → F.fed.used ≤ (feed_bytes M bs F).fed.used
  bytes_past [] F = omega (arith, ap (λ (G : Feeding). G.fed.used) (bytes_nil F))
  bytes_past (b ∷ bs) F = go (cases_Bool (stopped M F)) (bytes_past bs (take_byte M b F))
    where
      go : (stopped M F ≡ true) ⊎ (stopped M F ≡ false) → (take_byte M b F).fed.used ≤ (feed_bytes M bs (take_byte M b F)).fed.used → F.fed.used ≤ (feed_bytes M (b ∷ bs) F).fed.used
      go (inl e) l = omega (arith, ap (λ (G : Feeding). G.fed.used) (bytes_stop b bs F e))
      go (inr e) l = omega (arith, byte_used b F, ap (λ (G : Feeding). G.fed.used) (bytes_next b bs F e))

  -- where the step does not stop, the next byte is used
  pub bytes_first : (b : ℕ) (bs : List ℕ) (F : Feeding) → stopped M F ≡ false → F.fed.used < (feed_bytes M (b ∷ bs) F).fed.used
  bytes_first b bs F e = omega (arith, byte_used b F, ap (λ (G : Feeding). G.fed.used) (bytes_next b bs F e), bytes_past bs (take_byte M b F))

  pub bytes_all : (bs : List ℕ) (F : Feeding) → (stopped M (feed_bytes M bs F) ≡ true) ⊎ ((feed_bytes M bs F).fed.used ≡ F.fed.used + length bs)
  bytes_all [] F = inr (omega (arith, ap (λ (G : Feeding). G.fed.used) (bytes_nil F)))
  bytes_all (b ∷ bs) F = go (cases_Bool (stopped M F)) (bytes_all bs (take_byte M b F))
    where
      go : (stopped M F ≡ true) ⊎ (stopped M F ≡ false) → (stopped M (feed_bytes M bs (take_byte M b F)) ≡ true) ⊎ ((feed_bytes M bs (take_byte M b F)).fed.used ≡ (take_byte M b F).fed.used + length bs)
          → (stopped M (feed_bytes M (b ∷ bs) F) ≡ true) ⊎ ((feed_bytes M (b ∷ bs) F).fed.used ≡ F.fed.used + length (b ∷ bs))
      go (inl e) ih = inl (ap (stopped M) (bytes_stop b bs F e) ∙ e)
      go (inr e) (inl s) = inl (ap (stopped M) (bytes_next b bs F e) ∙ s)
      go (inr e) (inr n) = inr (omega (arith, n, byte_used b F, ap (λ (G : Feeding). G.fed.used) (bytes_next b bs F e)))

  -- along two equations at once
  goes_along : {a : Place} {F G G' : Feeding} {c c' : List ℕ} → G ≡ G' → c ≡ c' → Goes a F G c → Goes a F G' c'
  goes_along {a} {F} {G} {G'} {c} {c'} p q g = subst (λ (d : List ℕ). Goes a F G' d) q (subst (λ (H : Feeding). Goes a F H c) p g)

  goes_none : (a : Place) (F : Feeding) → StandsAt a F → is_open_line a.begun ≡ true → Goes a F F []
  goes_none a F is o = record { place = a; stands = is; is_open = o; rest = λ r. refl; follows = λ r. refl }

  goes_both : (a : Place) (F F₁ F₂ : Feeding) (b : ℕ) (c : List ℕ) (one : Goes a F F₁ (b ∷ [])) → Goes one.place F₁ F₂ c → Goes a F F₂ (b ∷ c)
  goes_both a F F₁ F₂ b c one two = record { place = two.place; stands = two.stands; is_open = two.is_open; rest = λ r. two.rest r ∙ one.rest (c ++ r); follows = λ r. two.follows r ∙ one.follows (c ++ r) }

  pub bytes_go : (bs : List ℕ) (a : Place) (F : Feeding) → StandsAt a F → is_open_line a.begun ≡ true → Goes a F (feed_bytes M bs F) (take ((feed_bytes M bs F).fed.used - F.fed.used) bs)
  bytes_go [] a F is o = goes_along (sym (bytes_nil F)) (sym (take-nil ((feed_bytes M [] F).fed.used - F.fed.used))) (goes_none a F is o)
  bytes_go (b ∷ bs) a F is o = go (cases_Bool (stopped M F)) (λ on. bytes_go bs (byte_goes a F is o on b).place (take_byte M b F) (byte_goes a F is o on b).stands (byte_goes a F is o on b).is_open)
    where
      n : ℕ
      n = (feed_bytes M (b ∷ bs) F).fed.used - F.fed.used

      go : (stopped M F ≡ true) ⊎ (stopped M F ≡ false)
          → ((on : stopped M F ≡ false) → Goes (byte_goes a F is o on b).place (take_byte M b F) (feed_bytes M bs (take_byte M b F)) (take ((feed_bytes M bs (take_byte M b F)).fed.used - (take_byte M b F).fed.used) bs))
          → Goes a F (feed_bytes M (b ∷ bs) F) (take n (b ∷ bs))
      go (inl e) ih =
          let z : 0 ≡ n = omega (arith, ap (λ (G : Feeding). G.fed.used) (bytes_stop b bs F e)) in
          goes_along (sym (bytes_stop b bs F e)) (ap (λ (k : ℕ). take k (b ∷ bs)) z) (goes_none a F is o)
      go (inr on) ih =
          let m = (feed_bytes M bs (take_byte M b F)).fed.used - (take_byte M b F).fed.used in
          let z : suc m ≡ n = omega (arith, ap (λ (G : Feeding). G.fed.used) (bytes_next b bs F on), byte_used b F, bytes_past bs (take_byte M b F)) in
          goes_along (sym (bytes_next b bs F on)) (ap (λ (k : ℕ). take k (b ∷ bs)) z)
          (goes_both a F (take_byte M b F) (feed_bytes M bs (take_byte M b F)) b (take m bs) (byte_goes a F is o on b) (ih on))
