-- WHAT IS SAID OF A LINE LIES WITHIN ITS WIDTHS: codes are bytes, and a map of 256 places has few depots, pairs and searches. Assumes nothing.
use mathlib.Core.Path.{◌≡◌, refl, ap, ◌∙◌}
use mathlib.Core.Bool.{Bool, true, false, cond}
use mathlib.Core.List.{List, [], ◌∷◌}
use Prim.Native.Nat.{ℕ, zero, suc, ◌*◌, ◌≤◌, ◌<◌, zero-le}
use native.Mathlib.Omega.{arith}
use lib.Dec.{eqb, leb, ltb}
use lib.ListN.{length, get_or, drop}
use borrow.Author.Tests.{ltb-true, leb-true}
use Rattle.std.proofs.lemmas.Bool.{and_parts}
use Rattle.lists.specs.Lists.{range, filterb, countb, allb, sum_of, insert_by, first_of}
use Rattle.lists.proofs.Counts.{count_le_length}
use Rattle.lists.proofs.Distinct.{insert_filter}
use Rattle.lists.proofs.Scans.{all-at}
use Rattle.outcome.specs.Outcome.{refusal_of}
use Rattle.outcome.specs.declared.Change.TheVariants.{Grew, Kept, Shrank}
use Rattle.outcome.specs.declared.Outcome.TheVariants.{Accepted}
use Rattle.graph.specs.Network.{Network}
use Rattle.graph.specs.Distance.{vertices, unreached}
use Rattle.graph.specs.Chart.{Pairs, diameter, farthest, count_pairs}
use Rattle.graph.specs.Opening.{notice_of, with_depot, by_code, notice_faults, open_faults}
use Rattle.graph.specs.Linking.{add_link, link_faults}
use Rattle.graph.specs.Updates.{Update, opens, joins, update_faults, applied, IsLawful}
use Rattle.graph.proofs.Opened.{admitted_of}
use Rattle.graph.proofs.Lawful.{update_lawful}
use Rattle.map.specs.Memory.{base, places}
use Rattle.map.proofs.Theorems.{base_shape}
use Rattle.hexadecimal.specs.Hex.{is_byte}
use Rattle.notice.specs.Lines.{yard_kind, opens_depot, Line, garbled, frame, read_line}
use Rattle.notice.proofs.Tests.{frame_parts}
use Rattle.notice.proofs.Theorems.{read_is_frame}
use Rattle.rounds.proofs.Reading.{few_searches}
use Rattle.update.specs.UpdateCall.{IsWithin as IsOfMap}
use Rattle.update.proofs.Memories.{IsHeld, depots_few}
use Rattle.update.proofs.Grants.{figures_are_sound_lem}
use Rattle.plain_list.specs.PlainList.{moved, plain_answer, plain_next}
use Rattle.sentences.specs.Sentence.{EventWithin, IsWithin}
use Rattle.sentences.specs.declared.Event.TheVariants.{Depot, Yard, Link}
use Rattle.transcript.specs.Transcript.{update_in, Followed, searches_by, follow_by, follow_line, report_on}
use Rattle.narration.specs.Narration.{event_in, said_on}

-- ---- the bytes of a frame

module _ (text f : List ℕ) (u : ℕ) (e : read_line text ≡ frame f u) where
  byte_at : (i : ℕ) → i < 3 → get_or f i 0 < 256
  unfolding is_byte
  byte_at i l = let p = read_is_frame text f u e in ltb-true (get_or f i 0) 256 (all-at is_byte f i 0 (omega (arith, frame_parts f p.0)) p.1)

  code_low : get_or f 1 0 < 256
  code_low = byte_at 1 (omega arith)

  event_within : EventWithin (event_in f)
  unfolding event_in
  event_within = go (opens_depot (get_or f 0 0)) (eqb (get_or f 0 0) yard_kind)
    where
      go : (b c : Bool) → EventWithin (cond b (cond c (Yard (get_or f 1 0)) (Depot (get_or f 1 0))) (Link (get_or f 1 0) (get_or f 2 0)))
      go true true = omega (arith, code_low)
      go true false = omega (arith, code_low)
      go false c = (omega (arith, code_low), omega (arith, byte_at 2 (omega arith)))

  update_of_map : IsOfMap base (update_in f)
  unfolding update_in
  update_of_map = go (opens_depot (get_or f 0 0))
    where
      go : (b : Bool) → IsOfMap base (cond b (opens (notice_of (eqb (get_or f 0 0) yard_kind) (get_or f 1 0) (drop 3 f))) (joins (get_or f 1 0) (get_or f 2 0)))
      go true = code_low
      go false = tt

-- ---- refusals

first_few : (cs : List (Bool × ℕ)) → allb (λ c. leb c.1 255) cs ≡ true → first_of cs ≤ 255
unfolding first_of allb
first_few [] h = zero-le
first_few (c ∷ cs) h = let q = and_parts (leb c.1 255) (allb (λ d. leb d.1 255) cs) h in go c.0 (leb-true c.1 255 q.0) (first_few cs q.1)
  where
    go : (b : Bool) → c.1 ≤ 255 → first_of cs ≤ 255 → cond b c.1 (first_of cs) ≤ 255
    go true l r = l
    go false l r = r

faults_few : (G : Network) (u : Update) → allb (λ c. leb c.1 255) (update_faults G u) ≡ true
unfolding update_faults open_faults notice_faults link_faults allb
faults_few G (opens o) = refl
faults_few G (joins a b) = refl

moved_few : (D E : ℕ) → refusal_of (moved D E) ≤ 255
unfolding moved refusal_of
moved_few D E = go (ltb D E) (eqb D E)
  where
    go : (b c : Bool) → refusal_of (cond b (Accepted Grew) (cond c (Accepted Kept) (Accepted Shrank))) ≤ 255
    go true c = zero-le
    go false true = zero-le
    go false false = zero-le

-- ---- what a line leaves

sum_most : (f : ℕ → ℕ) (xs : List ℕ) → ((x : ℕ) → f x ≤ 256) → sum_of f xs ≤ 256 * length xs
unfolding sum_of
sum_most f [] h = zero-le
sum_most f (x ∷ xs) h = let a = h x in let b = sum_most f xs h in omega arith

pairs_most : (G : Network) → IsHeld base G → (P : Pairs) → count_pairs (vertices G) P ≤ 65536
unfolding count_pairs
pairs_most G held P =
    let few = depots_few base G held in
    let row : (u : ℕ) → countb (λ v. P u v) (vertices G) ≤ 256 = λ u. omega (arith, few, count_le_length (λ v. P u v) (vertices G)) in
    omega (arith, few, sum_most (λ u. countb (λ v. P u v) (vertices G)) (vertices G) row)

-- a network of the map, with few searches and a refusal of 8 bits
pub record IsTold (x : Followed) : Type 0 where
  pub held : IsHeld base x.network
  pub refusal : refusal_of x.outcome ≤ 255
  pub searches : x.searches ≤ 256

module _ (G : Network) (held : IsHeld base G) where
  module _ (u : Update) (low : IsOfMap base u) where
    room : suc (length (vertices G)) < unreached
    room = omega (arith, depots_few base G held)

    module _ (ok : first_of (update_faults G u) ≡ 0) where
      lawful : IsLawful G u
      lawful = update_lawful G held.net u room ok

      depots_after : vertices (applied G u) ≡ filterb (applied G u).is_open (range (places base))
      unfolding update_faults applied with_depot add_link
      depots_after = go u ok low
        where
          go : (v : Update) → first_of (update_faults G v) ≡ 0 → IsOfMap base v → vertices (applied G v) ≡ filterb (applied G v).is_open (range (places base))
          go (opens o) k l = ap (insert_by by_code o.code) held.depots ∙ insert_filter G.is_open o.code (admitted_of G held.net o room k).fresh (places base) l
          go (joins a b) k l = held.depots

      held_applied : IsHeld base (applied G u)
      held_applied = record { net = lawful.net; depots = depots_after }

      searches_few : searches_by zero G (applied G u) u ≤ 256
      unfolding searches_by
      searches_few =
          let below = (figures_are_sound_lem base base_shape G held).below in
          let found = lawful.covered (diameter G) (farthest G) (omega (arith, below)) in
          omega (arith, few_searches (applied G u) _ found.references, depots_few base (applied G u) held_applied)

    update_told : (k : ℕ) → first_of (update_faults G u) ≡ k → k ≤ 255 → IsTold (follow_by k G u)
    unfolding follow_by plain_next plain_answer searches_by refusal_of
    update_told zero ok few = record { held = held_applied ok; refusal = moved_few (diameter G) (diameter (applied G u)); searches = searches_few ok }
    update_told (suc k) ok few = record { held = held; refusal = few; searches = zero-le }

  line_by : (text : List ℕ) (l : Line) → read_line text ≡ l → IsTold (follow_line G l)
  unfolding follow_line refusal_of
  line_by text garbled e = record { held = held; refusal = omega arith; searches = zero-le }
  line_by text (frame f n) e =
      let u = update_in f in
      update_told u (update_of_map text f n e) (first_of (update_faults G u)) refl (first_few (update_faults G u) (faults_few G u))

  pub line_told : (text : List ℕ) → IsTold (follow_line G (read_line text))
  line_told text = line_by text (read_line text) refl

-- so what is said of a frame, with the figures that its line leaves, lies within its widths
pub said_within : (n : ℕ) (x : Followed) → IsTold x → (text f : List ℕ) (u : ℕ) → read_line text ≡ frame f u → IsWithin (said_on (event_in f) (report_on n x))
unfolding report_on
said_within n x told text f u e =
    let H = x.network in
    record {
      event = event_within text f u e;
      refusal = told.refusal;
      depots = omega (arith, depots_few base H told.held);
      chain = omega (arith, (figures_are_sound_lem base base_shape H told.held).below);
      pairs = omega (arith, pairs_most H told.held (farthest H));
      searches = omega (arith, told.searches);
    }
