-- THE TURNS, and the end of the input. Assumes nothing.
use mathlib.Core.Path.{◌≡◌, refl, sym, ap, ◌∙◌, subst}
use mathlib.Core.Logic.{◌⊎◌, inl, inr}
use mathlib.Core.Bool.{Bool, true, false, ◌||◌}
use mathlib.Core.List.{List, [], ◌∷◌, ◌++◌}
use Prim.Native.Nat.{ℕ, zero, suc, ◌+◌, ◌-◌, ◌≤◌, ◌<◌, zero-le}
use native.Mathlib.Nat.{lt_irrefl}
use native.Mathlib.Omega.{arith}
use lib.Dec.{eqb}
use lib.ListN.{length, take}
use lib.Seq.{take-nil}
use borrow.Author.Tests.{eq-eqb, ne_eqb, leb-true}
use Rattle.std.proofs.lemmas.Bool.{cases_Bool, or_left}
use Rattle.graph.specs.Network.{Network}
use Rattle.notice.specs.Lines.{Line, read_line, lines_of}
use Rattle.transcript.specs.Transcript.{lines_limit, follow_line, network_after, answers_from}
use Rattle.transcript.specs.Manner.{Manner}
use Rattle.transcript.proofs.Manners.{told_from}
use Rattle.stream.specs.Feeding.{Feeding, feeding, fed_of, stopped, took_line, feed_bytes, feed_call, finish_call}
use Rattle.stream.specs.Pieces.{Standing, Turn, turn_told, standing_after, stands_told, used_told, written_told, last_told}
use Rattle.line_buffer.proofs.Stops.{going, stopped_lines}
use Rattle.stream.proofs.Lines.{is_open_line, lines_open, open_garbled}
use Rattle.stream.proofs.Runs.{Place, rest_from, network_from, StandsAt, Goes, line_told, took_written, rest_line, bytes_go}
use Rattle.lists.proofs.Appends.{append_append, append_none}

-- a stream between two calls, as a call finds it
abbrev pub entering : Standing → List ℕ → Feeding
entering s out = feeding (fed_of s.progress 0 0) s.links s.lent s.line out

abbrev pub StandsOn : Place → Standing → Type 0
StandsOn a s = StandsAt a (entering s [])

-- it does not depend on the buffer lent
on_any : (a : Place) (s : Standing) (out : List ℕ) → StandsOn a s → StandsAt a (entering s out)
on_any a s out is = record { lines = is.lines; is_held = is.is_held; is_said = is.is_said; long = is.long; holds = is.holds }

after_on : (a : Place) (F : Feeding) → StandsAt a F → StandsOn a (standing_after F)
unfolding standing_after
after_on a F is = record { lines = is.lines; is_held = is.is_held; is_said = is.is_said; long = is.long; holds = is.holds }

-- ---- the network of a rest

pub network_over : (a : Place) (r : List ℕ) → lines_limit ≤ a.lines → network_from a r ≡ a.network
unfolding network_from network_after
network_over a r l = let e : lines_limit - a.lines ≡ 0 = omega arith in ap (λ (k : ℕ). network_after a.network (take k (lines_of (a.begun ++ r)))) e

-- ---- a stretch that is held changes no map

pub network_still : (n : ℕ) (G : Network) (p : List ℕ) → is_open_line p ≡ true → network_from (record { lines = n; network = G; begun = p }) [] ≡ G
unfolding network_from network_after follow_line lines_of
network_still n G [] o = ap (network_after G) (take-nil (lines_limit - n))
network_still n G (b ∷ p) o =
    ap (λ (t : List ℕ). network_after G (take (lines_limit - n) (lines_of t))) (append_none (b ∷ p))
    ∙ ap (λ (ls : List (List ℕ)). network_after G (take (lines_limit - n) ls)) (lines_open b p o)
    ∙ go (lines_limit - n)
  where
    go : (k : ℕ) → network_after G (take k ((b ∷ p) ∷ [])) ≡ G
    go zero = refl
    go (suc k) =
        ap (network_after (follow_line G (read_line (b ∷ p))).network) (take-nil k)
        ∙ ap (λ (l : Line). (follow_line G l).network) (open_garbled (b ∷ p) o)

-- ---- told in any manner

less_none : (n : ℕ) → n - 0 ≡ n
less_none n = omega arith

module _ (M : Manner) where
  pub turn_is : (s : Standing) (t : Turn) → turn_told M s t ≡ feed_bytes M t.piece (entering s t.out)
  unfolding turn_told feed_call
  turn_is s t = refl

  -- ---- a turn

  turn_goes : (a : Place) (s : Standing) (t : Turn) → StandsOn a s → is_open_line a.begun ≡ true → Goes M a (entering s t.out) (turn_told M s t) (take (turn_told M s t).fed.used t.piece)
  turn_goes a s t is o =
      subst (λ (F : Feeding). Goes M a (entering s t.out) F (take F.fed.used t.piece)) (sym (turn_is s t))
      (subst (λ (k : ℕ). Goes M a (entering s t.out) (feed_bytes M t.piece (entering s t.out)) (take k t.piece)) (less_none (feed_bytes M t.piece (entering s t.out)).fed.used)
      (bytes_go M t.piece a (entering s t.out) (on_any a s t.out is) o))

  -- ---- turns

  pub record Turned (a : Place) (s : Standing) (ts : List Turn) : Type 0 where
    pub place : Place
    pub stands : StandsOn place (stands_told M s ts)
    pub is_open : is_open_line place.begun ≡ true
    pub rest : (r : List ℕ) → written_told M s ts ++ rest_from M place r ≡ rest_from M a (used_told M s ts ++ r)
    pub follows : (r : List ℕ) → network_from place r ≡ network_from a (used_told M s ts ++ r)

  turned_nil : (a : Place) (s : Standing) → StandsOn a s → is_open_line a.begun ≡ true → Turned a s []
  unfolding stands_told written_told used_told
  turned_nil a s is o = record { place = a; stands = is; is_open = o; rest = λ r. refl; follows = λ r. refl }

  turned_cons : (a : Place) (s : Standing) (t : Turn) (ts : List Turn) (one : Goes M a (entering s t.out) (turn_told M s t) (take (turn_told M s t).fed.used t.piece))
      → Turned one.place (standing_after (turn_told M s t)) ts → Turned a s (t ∷ ts)
  unfolding stands_told written_told used_told
  turned_cons a s t ts one more =
      let s₁ = standing_after (turn_told M s t) in
      let w = take (turn_told M s t).fed.written (turn_told M s t).out in
      let c = take (turn_told M s t).fed.used t.piece in
      record {
        place = more.place;
        stands = more.stands;
        is_open = more.is_open;
        rest = λ r.
            append_append w (written_told M s₁ ts) (rest_from M more.place r)
            ∙ ap (λ (x : List ℕ). w ++ x) (more.rest r)
            ∙ one.rest (used_told M s₁ ts ++ r)
            ∙ ap (rest_from M a) (sym (append_append c (used_told M s₁ ts) r));
        follows = λ r. more.follows r ∙ one.follows (used_told M s₁ ts ++ r) ∙ ap (network_from a) (sym (append_append c (used_told M s₁ ts) r));
      }

  pub turns_go : (ts : List Turn) (a : Place) (s : Standing) → StandsOn a s → is_open_line a.begun ≡ true → Turned a s ts
  turns_go [] a s is o = turned_nil a s is o
  turns_go (t ∷ ts) a s is o =
      let one = turn_goes a s t is o in
      turned_cons a s t ts one (turns_go ts one.place (standing_after (turn_told M s t)) (after_on one.place (turn_told M s t) one.stands) one.is_open)

  -- ---- the end of the input

  -- the rest of a stream that has had its lines, and of one with nothing begun, is nothing
  pub rest_over : (a : Place) (r : List ℕ) → lines_limit ≤ a.lines → rest_from M a r ≡ []
  unfolding rest_from answers_from
  rest_over a r l = let e : lines_limit - a.lines ≡ 0 = omega arith in ap (λ (k : ℕ). told_from M a.lines a.network (take k (lines_of (a.begun ++ r)))) e

  rest_none : (n : ℕ) (G : Network) → rest_from M (record { lines = n; network = G; begun = [] }) [] ≡ []
  unfolding rest_from answers_from lines_of
  rest_none n G = ap (told_from M n G) (take-nil (lines_limit - n))

  none_after : (n : ℕ) (G : Network) (k : ℕ) → told_from M n G (take k []) ≡ []
  unfolding answers_from
  none_after n G k = ap (told_from M n G) (take-nil k)

  -- a last stretch is a line
  rest_stretch : (n : ℕ) (G : Network) (b : ℕ) (p : List ℕ) → is_open_line (b ∷ p) ≡ true → n < lines_limit
      → rest_from M (record { lines = n; network = G; begun = b ∷ p }) [] ≡ line_told M (record { lines = n; network = G; begun = b ∷ p })
  unfolding rest_from
  rest_stretch n G b p o l =
      let a : Place = record { lines = n; network = G; begun = b ∷ p } in
      ap (λ (t : List ℕ). told_from M n G (take (lines_limit - n) (lines_of t))) (append_none (b ∷ p))
      ∙ ap (λ (ls : List (List ℕ)). told_from M n G (take (lines_limit - n) ls)) (lines_open b p o)
      ∙ rest_line M a (b ∷ p) [] l
      ∙ ap (λ (x : List ℕ). line_told M a ++ x) (none_after (n + 1) (follow_line G (read_line (b ∷ p))).network (lines_limit - (n + 1)))
      ∙ append_none (line_told M a)

  module _ (s : Standing) (out : List ℕ) (room : M.room ≤ length out) where
    abbrev F : Feeding
    F = entering s out

    finish_skips : (eqb s.progress.held 0 || stopped M F) ≡ true → last_told M s out ≡ []
    unfolding last_told finish_call
    finish_skips e = rw (e)

    finish_takes : (eqb s.progress.held 0 || stopped M F) ≡ false → last_told M s out ≡ take (took_line M F).fed.written (took_line M F).out
    unfolding last_told finish_call
    finish_takes e = rw (e)

    pub finish_goes : (n : ℕ) (G : Network) (p : List ℕ) → StandsOn (record { lines = n; network = G; begun = p }) s → is_open_line p ≡ true
        → last_told M s out ≡ rest_from M (record { lines = n; network = G; begun = p }) []
    finish_goes n G [] is o =
        let e : s.progress.held ≡ 0 = is.holds.count in
        finish_skips (or_left _ (stopped M F) (eq-eqb s.progress.held 0 e)) ∙ sym (rest_none n G)
    finish_goes n G (b ∷ p) is o = go (cases_Bool (stopped M F))
      where
        some : s.progress.held ≡ 0 → ⊥
        some e = lt_irrefl 0 (omega (arith, is.holds.count))

        go : (stopped M F ≡ true) ⊎ (stopped M F ≡ false) → last_told M s out ≡ rest_from M (record { lines = n; network = G; begun = b ∷ p }) []
        go (inl e) =
            let l = leb-true lines_limit s.progress.lines (stopped_lines M.room s.progress.lines 0 (length out) (omega (arith, room)) ∙ e) in
            finish_skips (ap (λ (x : Bool). x || stopped M F) (ne_eqb s.progress.held 0 some) ∙ e)
            ∙ sym (rest_over (record { lines = n; network = G; begun = b ∷ p }) [] (omega (arith, l, is.lines)))
        go (inr e) =
            let l = (going M.room s.progress.lines 0 (length out) e).0 in
            finish_takes (ap (λ (x : Bool). x || stopped M F) (ne_eqb s.progress.held 0 some) ∙ e)
            ∙ took_written M (record { lines = n; network = G; begun = b ∷ p }) F (on_any (record { lines = n; network = G; begun = b ∷ p }) s out is) zero-le
            ∙ sym (rest_stretch n G b p o (omega (arith, l, is.lines)))
