-- THE THEOREMS OF THE STREAM, about the very definitions that the contracts cite. Assumes nothing.
use mathlib.Core.Path.{◌≡◌, refl, sym, ap, ◌∙◌, subst}
use mathlib.Core.Logic.{◌⊎◌}
use mathlib.Core.Bool.{true}
use mathlib.Core.List.{List, [], ◌∷◌, ◌++◌}
use Prim.Native.Nat.{ℕ, ◌≤◌, ◌<◌, zero-le}
use native.Mathlib.Nat.{zero-add}
use native.Mathlib.Omega.{arith}
use lib.ListN.{length, take}
use borrow.Author.Tests.{lt-leb, le-leb}
use Rattle.graph.specs.Network.{Network}
use Rattle.graph.specs.Opening.{empty_network}
use Rattle.map.specs.Memory.{base, places, table_words}
use Rattle.map.specs.Room.{Lent, sizes_of, long_enough}
use Rattle.notice.specs.Lines.{line_limit}
use Rattle.report.specs.Line.{buffer_limit}
use Rattle.update.proofs.Memories.{IsHeld, Says}
use Rattle.update.proofs.Empties.{empty_held}
use Rattle.transcript.specs.Transcript.{lines_limit, answers_in, transcript, network_in}
use Rattle.transcript.specs.Manner.{Manner, as_reports, told_in}
use Rattle.transcript.proofs.Manners.{told_transcript}
use Rattle.stream.specs.Feeding.{Begun, begin_call, IsReady, Feeding, stopped, feed_bytes}
use Rattle.stream.specs.Pieces.{Standing, Turn, turn_told, stands_told, used_told, written_told, last_told, HasBegun, PiecesAlike}
use Rattle.stream.specs.declared.Progress.{Progress}
use Rattle.line_buffer.proofs.Stops.{stopped_lines}
use Rattle.stream.proofs.Lines.{open_none}
use Rattle.stream.proofs.Following.{begun_says, says_free}
use Rattle.stream.proofs.Runs.{Place, rest_from, network_from, bytes_all, bytes_first}
use Rattle.stream.proofs.Turning.{entering, StandsOn, turn_is, Turned, turns_go, rest_over, network_over, finish_goes, network_still}
use Rattle.map.proofs.Theorems.{base_shape}
use Rattle.lists.proofs.Appends.{append_none}

-- ---- the beginning

at_start : Place
at_start = record { lines = 0; network = empty_network; begun = [] }

whole_network : (input : List ℕ) → network_from at_start input ≡ network_in input
unfolding at_start network_from network_in
whole_network input = refl

begun_on : (s : Standing) → HasBegun s → StandsOn at_start s
unfolding at_start begin_call
begun_on s is = record {
  lines = ap (λ (z : Begun). z.0.lines) is.begun;
  is_held = empty_held base base_shape;
  is_said = subst (λ (z : Begun). Says base empty_network z.0.rec z.1 z.2) (sym is.begun) (begun_says is.links is.pairs);
  long = is.long;
  holds = record {
    text = ap (λ (z : Begun). take z.0.held s.line) is.begun;
    count = ap (λ (z : Begun). z.0.held) is.begun;
    room = is.room;
  };
}

-- a stream stands on the map of a network, in buffers that have their named sizes
pub record IsMapOf (G : Network) (s : Standing) : Type 0 where
  pub is_held : IsHeld base G
  pub is_said : Says base G s.progress.rec s.links s.lent.pairs
  pub long : long_enough base (sizes_of s.links s.lent) ≡ true

-- ---- TOLD IN ANY MANNER

module _ (M : Manner) where
  whole_rest : (input : List ℕ) → rest_from M at_start input ≡ told_in M input
  unfolding at_start rest_from told_in answers_in
  whole_rest input = refl

  turned : (s : Standing) → HasBegun s → (ts : List Turn) → Turned M at_start s ts
  unfolding at_start
  turned s is ts = turns_go M ts at_start s (begun_on s is) open_none

  -- ---- HOWEVER THE INPUT IS CUT INTO PIECES, and whatever buffers are lent for the answers: what the turns and the end write is the whole output of
  -- the bytes used
  pub pieces_told : (s : Standing) → HasBegun s → (ts : List Turn) (out : List ℕ) → M.room ≤ length out
      → written_told M s ts ++ last_told M (stands_told M s ts) out ≡ told_in M (used_told M s ts)
  pieces_told s is ts out room =
      let t = turned s is ts in
      ap (λ (x : List ℕ). written_told M s ts ++ x) (finish_goes M (stands_told M s ts) out room t.place.lines t.place.network t.place.begun t.stands t.is_open)
      ∙ t.rest []
      ∙ ap (rest_from M at_start) (append_none (used_told M s ts))
      ∙ whole_rest (used_told M s ts)

  -- and after the turns the memory is the map of the bytes used, a stretch that is held being no line yet
  pub network_told : (s : Standing) → HasBegun s → (ts : List Turn) → IsMapOf (network_in (used_told M s ts)) (stands_told M s ts)
  network_told s is ts =
      let t = turned s is ts in
      subst (λ (G : Network). IsMapOf G (stands_told M s ts))
      (sym (network_still t.place.lines t.place.network t.place.begun t.is_open)
      ∙ t.follows []
      ∙ ap (network_from at_start) (append_none (used_told M s ts))
      ∙ whole_network (used_told M s ts))
      (record { is_held = t.stands.is_held; is_said = t.stands.is_said; long = t.stands.long })

  -- after the last line of a stream nothing is read: whatever follows, the output is what was written
  pub rest_untold : (s : Standing) → HasBegun s → (ts : List Turn) (rest : List ℕ) → lines_limit ≤ (stands_told M s ts).progress.lines
      → written_told M s ts ≡ told_in M (used_told M s ts ++ rest)
  rest_untold s is ts rest l =
      let t = turned s is ts in
      sym (append_none (written_told M s ts))
      ∙ sym (ap (λ (x : List ℕ). written_told M s ts ++ x) (rest_over M t.place rest (omega (arith, l, t.stands.lines))))
      ∙ t.rest rest
      ∙ whole_rest (used_told M s ts ++ rest)

  -- what the turns write is a first part of the whole output, whatever follows
  pub first_told : (s : Standing) → HasBegun s → (ts : List Turn) (rest : List ℕ) → (more : List ℕ) × (written_told M s ts ++ more ≡ told_in M (used_told M s ts ++ rest))
  first_told s is ts rest =
      let t = turned s is ts in
      (rest_from M t.place rest, t.rest rest ∙ whole_rest (used_told M s ts ++ rest))

  -- nor followed
  pub unfollowed_told : (s : Standing) → HasBegun s → (ts : List Turn) (rest : List ℕ) → lines_limit ≤ (stands_told M s ts).progress.lines
      → network_in (used_told M s ts) ≡ network_in (used_told M s ts ++ rest)
  unfollowed_told s is ts rest l =
      let t = turned s is ts in
      let over : lines_limit ≤ t.place.lines = omega (arith, l, t.stands.lines) in
      sym (whole_network (used_told M s ts))
      ∙ sym (ap (network_from at_start) (append_none (used_told M s ts)))
      ∙ sym (t.follows [])
      ∙ network_over t.place [] over
      ∙ sym (network_over t.place rest over)
      ∙ t.follows rest
      ∙ whole_network (used_told M s ts ++ rest)

  -- a turn uses a byte at least where one is left, a line may come and the buffer has room for an answer; it leaves none unless it stops
  pub told_uses : (s : Standing) (out : List ℕ) (b : ℕ) (bs : List ℕ) → s.progress.lines < lines_limit → M.room ≤ length out
      → 0 < (turn_told M s (record { piece = b ∷ bs; out = out })).fed.used
  told_uses s out b bs l room =
      subst (λ (F : Feeding). 0 < F.fed.used) (sym (turn_is M s (record { piece = b ∷ bs; out = out })))
      (bytes_first M b bs (entering s out) (sym (stopped_lines M.room s.progress.lines 0 (length out) (omega (arith, room))) ∙ lt-leb lines_limit s.progress.lines l))

  pub told_all : (s : Standing) (t : Turn) → (stopped M (turn_told M s t) ≡ true) ⊎ ((turn_told M s t).fed.used ≡ length t.piece)
  told_all s t =
      subst (λ (F : Feeding). (stopped M F ≡ true) ⊎ (F.fed.used ≡ length t.piece)) (sym (turn_is M s t))
      (subst (λ (n : ℕ). (stopped M (feed_bytes M t.piece (entering s t.out)) ≡ true) ⊎ ((feed_bytes M t.piece (entering s t.out)).fed.used ≡ n)) (zero-add (length t.piece))
      (bytes_all M t.piece (entering s t.out)))

-- ---- TOLD AS REPORTS

pub pieces_alike : (s : Standing) → HasBegun s → (ts : List Turn) (out : List ℕ) → buffer_limit ≤ length out
    → written_told as_reports s ts ++ last_told as_reports (stands_told as_reports s ts) out ≡ transcript (used_told as_reports s ts)
pieces_alike s is ts out room = pieces_told as_reports s is ts out room ∙ told_transcript (used_told as_reports s ts)

pub pieces_network : (s : Standing) → HasBegun s → (ts : List Turn) → IsMapOf (network_in (used_told as_reports s ts)) (stands_told as_reports s ts)
pieces_network s is ts = network_told as_reports s is ts

pub rest_unread : (s : Standing) → HasBegun s → (ts : List Turn) (rest : List ℕ) → lines_limit ≤ (stands_told as_reports s ts).progress.lines
    → written_told as_reports s ts ≡ transcript (used_told as_reports s ts ++ rest)
rest_unread s is ts rest l = rest_untold as_reports s is ts rest l ∙ told_transcript (used_told as_reports s ts ++ rest)

pub rest_unfollowed : (s : Standing) → HasBegun s → (ts : List Turn) (rest : List ℕ) → lines_limit ≤ (stands_told as_reports s ts).progress.lines
    → network_in (used_told as_reports s ts) ≡ network_in (used_told as_reports s ts ++ rest)
rest_unfollowed s is ts rest l = unfollowed_told as_reports s is ts rest l

pub turn_uses : (s : Standing) (out : List ℕ) (b : ℕ) (bs : List ℕ) → s.progress.lines < lines_limit → buffer_limit ≤ length out
    → 0 < (turn_told as_reports s (record { piece = b ∷ bs; out = out })).fed.used
turn_uses s out b bs l room = told_uses as_reports s out b bs l room

pub turn_all : (s : Standing) (t : Turn) → (stopped as_reports (turn_told as_reports s t) ≡ true) ⊎ ((turn_told as_reports s t).fed.used ≡ length t.piece)
turn_all s t = told_all as_reports s t

-- ---- in any manner, as one promise

pub pieces_promised : PiecesAlike
pieces_promised = record { told = pieces_told; unread = rest_untold; reports = told_transcript }

-- ---- a stream that has begun is ready, on buffers that have their named sizes

long_by : (links : List ℕ) (B : Lent) → table_words base ≤ length links → table_words base ≤ length B.pairs → places base ≤ length B.searched.hops → places base ≤ length B.bounds
    → places base ≤ length B.skips → base.words ≤ length B.searched.even → base.words ≤ length B.searched.odd → long_enough base (sizes_of links B) ≡ true
unfolding long_enough sizes_of
long_by links B l p h b s e o =
    rw (
      le-leb (table_words base) (length links) l,
      le-leb (table_words base) (length B.pairs) p,
      le-leb (places base) (length B.searched.hops) h,
      le-leb (places base) (length B.bounds) b,
      le-leb (places base) (length B.skips) s,
      le-leb base.words (length B.searched.even) e,
      le-leb base.words (length B.searched.odd) o,
    )

pub begun_ready : (links₀ pairs₀ : List ℕ) {p : Progress} {links : List ℕ} {B : Lent} {line : List ℕ} → ◌≡◌ {A = Begun} (p, links, B.pairs) (begin_call links₀ pairs₀)
    → table_words base ≤ length links → table_words base ≤ length B.pairs → places base ≤ length B.searched.hops → places base ≤ length B.bounds
    → places base ≤ length B.skips → base.words ≤ length B.searched.even → base.words ≤ length B.searched.odd → line_limit ≤ length line
    → IsReady p links B line
unfolding begin_call
begun_ready links₀ pairs₀ {p} {links} {B} {line} e l q h b s x y room = record {
  free =
      says_free empty_network (empty_held base base_shape) p.rec links B
      (subst (λ (z : Begun). Says base empty_network z.0.rec z.1 z.2) (sym e) (begun_says links₀ pairs₀))
      (long_by links B l q h b s x y);
  room = room;
  held = subst (λ (z : Begun). z.0.held ≤ line_limit) (sym e) zero-le;
}

pub begun_stands : (links₀ pairs₀ : List ℕ) {p : Progress} {links : List ℕ} {B : Lent} {line : List ℕ} → ◌≡◌ {A = Begun} (p, links, B.pairs) (begin_call links₀ pairs₀)
    → table_words base ≤ length links → table_words base ≤ length B.pairs → places base ≤ length B.searched.hops → places base ≤ length B.bounds
    → places base ≤ length B.skips → base.words ≤ length B.searched.even → base.words ≤ length B.searched.odd → line_limit ≤ length line
    → HasBegun (record { progress = p; links = links; lent = B; line = line })
begun_stands links₀ pairs₀ {p} {links} {B} {line} e l q h b s x y room = record {
  links = links₀;
  pairs = pairs₀;
  begun = e;
  long = long_by links B l q h b s x y;
  room = room;
}

-- and ready
pub stands_ready : (s : Standing) → HasBegun s → IsReady s.progress s.links s.lent s.line
unfolding begin_call at_start
stands_ready s is =
    let a = begun_on s is in
    record {
      free = says_free empty_network (empty_held base base_shape) s.progress.rec s.links s.lent a.is_said a.long;
      room = is.room;
      held = subst (λ (z : Begun). z.0.held ≤ line_limit) (sym is.begun) zero-le;
    }
