-- THE STREAM'S OPENINGS ON LENT MEMORY: from the memory of a network, the lines of a list of calls are those of the same notices on the network.
-- Assumes nothing.
use mathlib.Core.Path.{◌≡◌, refl, sym, ap, ap₂, ◌∙◌}
use mathlib.Core.Bool.{true}
use mathlib.Core.List.{List, [], ◌∷◌, map, Memᴰ}
use Prim.Native.Nat.{ℕ, zero, suc, ◌<◌}
use native.Mathlib.Omega.{arith}
use lib.ListN.{length}
use Rattle.outcome.specs.declared.Outcome.TheVariants.{Accepted}
use Rattle.lists.specs.Lists.{range, filterb, first_of}
use Rattle.lists.proofs.Tests.{t→true, true→t}
use Rattle.graph.specs.Network.{Network}
use Rattle.graph.specs.Distance.{vertices, unreached}
use Rattle.graph.specs.Chart.{chart, Pairs, diameter, farthest, count_pairs}
use Rattle.graph.specs.Opening.{Opened}
use Rattle.outcome.specs.declared.Change.{Change}
use Rattle.graph.specs.Updates.{Update, update_faults, applied, steps}
use Rattle.graph.specs.Cases.{pair_list, AnswerLine, PlainMap, line_for, follow_one, follow_all}
use Rattle.graph.proofs.Theorems.{figures_are, true_chain, true_pairs, farthest_is}
use Rattle.map.specs.Memory.{base}
use Rattle.map.specs.declared.Record.{Record}
use Rattle.map.specs.Room.{Lent, sizes_of, long_enough}
use Rattle.outcome.specs.Outcome as Outcome
use Rattle.update.specs.UpdateCall.{update_refusal, network_after, updated_by, UpdateLeft, update_given, update_call, IsWithin}
use Rattle.plain_list.specs.PlainList.{plain_next}
use Rattle.update.specs.Memory.{Memory}
use Rattle.batch_update.specs.BatchCall.{memory_left}
use Rattle.history.specs.History.{lend, lent_to, memory_after, lent_sizes}
use Rattle.update.proofs.Memories.{IsHeld, Stores, memory_for, depots_few}
use Rattle.update.proofs.Grants.{held_after}
use Rattle.history.proofs.Steps.{lent_says, refusal_is, IsUpdated, updated}
use Rattle.update.proofs.Keeps.{left_ends, left_stores}
use Rattle.cases.specs.Results.{pairs_in, Line, answer_of, LentUpdate, left_on, answers_of, updates_of, AllLong}
use Rattle.cases.proofs.Listings.{pairs_open, count_open}
use Rattle.map.proofs.Theorems.{base_shape}
use Rattle.graph.proofs.Delivers.{delivers_open}
use Rattle.graph.proofs.Lawful.{update_lawful}

-- a network with its own figures
abbrev pub figured_for : Network → PlainMap
figured_for G = record { net = G; chain = diameter G; pairs = farthest G }

-- ---- graph's definitions, opened one step

line_is : (l k s : ℕ) (N : Network) (D : ℕ) (P : Pairs) → line_for l k s (record { net = N; chain = D; pairs = P })
    ≡ record { letter = l; refusal = k; number = length (vertices N); chain = D; count = count_pairs (vertices N) P; searches = s; pairs = pair_list (vertices N) P }
unfolding line_for
line_is l k s N D P = refl

-- a line as the network's own cases have it
unfoldable pub line_left : UpdateLeft → AnswerLine
line_left l = record {
  letter = Outcome.letter_of l.report.outcome;
  refusal = Outcome.refusal_of l.report.outcome;
  number = l.after.number;
  chain = l.after.chain;
  count = l.after.count;
  searches = l.report.searches;
  pairs = pairs_in l.lent.pairs;
}

unfoldable pub lines_left : Memory → List LentUpdate → List AnswerLine
lines_left M [] = []
lines_left M (c ∷ cs) =
    let l = left_on (update_call base) M c in
    line_left l ∷ lines_left (memory_after M c.lending (memory_left l)) cs

-- and as the table has it
abbrev pub row : AnswerLine → Line
row a = ((a.letter, a.refusal), (a.number, a.chain, a.count), a.searches, a.pairs)

pub rows_are : (M : Memory) (cs : List LentUpdate) → answers_of (update_call base) M cs ≡ map row (lines_left M cs)
unfolding answers_of answer_of lines_left line_left
rows_are M [] = refl
rows_are M (c ∷ cs) =
    let l = left_on (update_call base) M c in
    ap (λ (rs : List Line). answer_of l ∷ rs) (rows_are (memory_after M c.lending (memory_left l)) cs)

-- the figures and the line of an opening that leaves x in the network N
abbrev figured_by : Network → Opened → PlainMap
figured_by N x = record { net = N; chain = x.final.candidate; pairs = x.final.pairs }

abbrev line_by : Network → Opened → AnswerLine
line_by N x = line_for (Outcome.letter_of (Accepted x.change)) 0 (length x.final.references) (figured_by N x)

accepted_is : (M : PlainMap) (o : Update)
    → follow_one zero M o ≡ (
      figured_by (applied M.net o) (steps (chart (applied M.net o)) o M.chain M.pairs),
      line_by (applied M.net o) (steps (chart (applied M.net o)) o M.chain M.pairs),
    )
unfolding follow_one
accepted_is M o = refl

refused_is : (k : ℕ) (M : PlainMap) (o : Update) → follow_one (suc k) M o ≡ (M, line_for 82 (suc k) 0 M)
unfolding follow_one
refused_is k M o = refl

follow_cons : (M : PlainMap) (o : Update) (os : List Update)
    → follow_all M (o ∷ os) ≡ (follow_one (first_of (update_faults M.net o)) M o).1 ∷ follow_all (follow_one (first_of (update_faults M.net o)) M o).0 os
unfolding follow_all
follow_cons M o os = refl

-- ---- a line read from a memory that stores a network with figures

line_read : (N : Network) (D : ℕ) (P : Pairs) → vertices N ≡ filterb N.is_open (range 256) → ((u v : ℕ) → P u v ≡ true → (N.is_open u ≡ true) × (N.is_open v ≡ true))
    → (l : UpdateLeft) → Stores base N D P l.after l.links l.lent.pairs
    → line_left l ≡ line_for (Outcome.letter_of l.report.outcome) (Outcome.refusal_of l.report.outcome) l.report.searches (record { net = N; chain = D; pairs = P })
unfolding line_left pairs_in
line_read N D P depots ends l s =
    (λ i. record {
      letter = Outcome.letter_of l.report.outcome;
      refusal = Outcome.refusal_of l.report.outcome;
      number = s.number i;
      chain = s.chain i;
      count = (s.count ∙ counted) i;
      searches = l.report.searches;
      pairs = (ap (pair_list (range 256)) s.pairs ∙ listed) i;
    })
    ∙ sym (line_is (Outcome.letter_of l.report.outcome) (Outcome.refusal_of l.report.outcome) l.report.searches N D P)
  where
    counted : count_pairs (range 256) P ≡ count_pairs (vertices N) P
    counted = sym (count_open P N.is_open ends (range 256)) ∙ ap (λ (vs : List ℕ). count_pairs vs P) (sym depots)

    listed : pair_list (range 256) P ≡ pair_list (vertices N) P
    listed = sym (pairs_open P N.is_open ends (range 256)) ∙ ap (λ (vs : List ℕ). pair_list vs P) (sym depots)

accepted_none : (c : Change) → Outcome.refusal_of (Accepted c) ≡ 0
unfolding Outcome.refusal_of
accepted_none c = refl

-- an opening on memory that stores a network with figures is the network's
opened_is : (G : Network) (D : ℕ) (P : Pairs) (rec : Record) (links stored : List ℕ) (o : Update) → Stores base G D P rec links stored
    → (network_after base rec links o ≡ applied G o) × (updated_by base rec links stored o ≡ steps (chart (applied G o)) o D P)
unfolding network_after updated_by
opened_is G D P rec links stored o s = (rw s.network, rw (s.network, s.chain, s.pairs))

-- ---- ONE CALL

module _ (G : Network) (held : IsHeld base G) (c : LentUpdate) (within : IsWithin base c.update) (long : long_enough base (lent_sizes base c.lending) ≡ true) where
  abbrev o : Update
  o = c.update

  abbrev R : Record
  R = (memory_for base G).rec

  abbrev L : List ℕ
  L = lend c.lending.links (memory_for base G).links

  abbrev B : Lent
  B = (lent_to (memory_for base G) c.lending).lent

  abbrev N : Network
  N = applied G c.update

  abbrev y : Opened
  y = steps (chart (applied G c.update)) c.update (diameter G) (farthest G)

  says : Stores base G (diameter G) (farthest G) R L B.pairs
  says = lent_says base base_shape G held c.lending long

  plain_is : update_refusal base R L B.pairs (sizes_of L B) o ≡ first_of (update_faults G o)
  unfolding first_of
  plain_is = refusal_is base base_shape G held c.lending o ∙ rw long

  -- ---- accepted

  module _ (ok : update_refusal base R L B.pairs (sizes_of L B) o ≡ 0) where
    abbrev l : UpdateLeft
    l = update_given zero base R L B o

    abbrev H : Network
    H = network_after base R L o

    abbrev x : Opened
    x = updated_by base R L B.pairs o

    ends : (u v : ℕ) → x.final.pairs u v ≡ true → (H.is_open u ≡ true) × (H.is_open v ≡ true)
    ends u v h = let e = left_ends base R L B o base_shape ok within u v (true→t h) in (t→true (H.is_open u) e.0, t→true (H.is_open v) e.1)

    given_line : line_for (Outcome.letter_of l.report.outcome) (Outcome.refusal_of l.report.outcome) l.report.searches (figured_by H x) ≡ line_by H x
    unfolding update_given
    given_line = rw (accepted_none x.change)

    accepted_line : line_left (update_given zero base R L B o) ≡ (follow_one zero (figured_for G) o).1
    accepted_line =
        let same = opened_is G (diameter G) (farthest G) R L B.pairs o says in
        line_read H x.final.candidate x.final.pairs (held_after base base_shape R L B.pairs (sizes_of L B) o ok within).depots ends l (left_stores base R L B o base_shape ok within)
        ∙ given_line
        ∙ ap₂ line_by same.0 same.1
        ∙ sym (ap (λ (r : PlainMap × AnswerLine). r.1) (accepted_is (figured_for G) o))

  accepted_next : first_of (update_faults G o) ≡ 0 → (follow_one zero (figured_for G) o).0 ≡ figured_for N
  accepted_next ok =
      let room : suc (length (vertices G)) < unreached = omega (arith, depots_few base G held) in
      let lawful = update_lawful G held.net o room ok in
      let figures = (lawful.correct (diameter G) (farthest G) (figures_are G held.net)).figures in
      ap (λ (r : PlainMap × AnswerLine). r.0) (accepted_is (figured_for G) o)
      ∙ (λ i. record {
        net = N;
        chain = true_chain N lawful.net y.final.candidate y.final.pairs figures i;
        pairs = true_pairs N lawful.net y.final.candidate y.final.pairs figures i;
      })

  -- ---- refused

  own_ends : (u v : ℕ) → farthest G u v ≡ true → (G.is_open u ≡ true) × (G.is_open v ≡ true)
  own_ends u v h = let f = (farthest_is G held.net u v).0 (true→t h) in (t→true (G.is_open u) (delivers_open G u f.first), t→true (G.is_open v) (delivers_open G v f.second))

  refused_line : (k : ℕ) → line_left (update_given (suc k) base R L B o) ≡ (follow_one (suc k) (figured_for G) o).1
  unfolding update_given Outcome.letter_of Outcome.refusal_of
  refused_line k =
      line_read G (diameter G) (farthest G) held.depots own_ends (update_given (suc k) base R L B o) says
      ∙ sym (ap (λ (r : PlainMap × AnswerLine). r.1) (refused_is k (figured_for G) o))

  -- ---- either

  call_line : line_left (left_on (update_call base) (memory_for base G) c) ≡ (follow_one (first_of (update_faults G o)) (figured_for G) o).1
  unfolding left_on update_call
  call_line = go (update_refusal base R L B.pairs (sizes_of L B) o) refl ∙ ap (λ (k : ℕ). (follow_one k (figured_for G) o).1) plain_is
    where
      go : (k : ℕ) → update_refusal base R L B.pairs (sizes_of L B) o ≡ k → line_left (update_given k base R L B o) ≡ (follow_one k (figured_for G) o).1
      go zero ok = accepted_line ok
      go (suc k) ko = refused_line k

  call_next : (follow_one (first_of (update_faults G o)) (figured_for G) o).0 ≡ figured_for (plain_next (first_of (update_faults G o)) G o)
  unfolding plain_next
  call_next = go (first_of (update_faults G o)) refl
    where
      go : (k : ℕ) → first_of (update_faults G o) ≡ k → (follow_one k (figured_for G) o).0 ≡ figured_for (plain_next k G o)
      go zero ok = accepted_next ok
      go (suc k) ko = ap (λ (r : PlainMap × AnswerLine). r.0) (refused_is k (figured_for G) o)

  -- what the call leaves, by the plain list
  call_left_lem : IsUpdated base base_shape G held c.lending c.update (first_of (update_faults G c.update)) (update_refusal base R L B.pairs (sizes_of L B) c.update)
  call_left_lem = updated base base_shape G held c.lending c.update within (first_of (update_faults G c.update)) plain_is

  call_memory : memory_after (memory_for base G) c.lending (memory_left (left_on (update_call base) (memory_for base G) c)) ≡ memory_for base (plain_next (first_of (update_faults G c.update)) G c.update)
  unfolding left_on update_call
  call_memory = call_left_lem.memory

-- ---- A LIST OF CALLS

lines_cons : (M : Memory) (c : LentUpdate) (cs : List LentUpdate)
    → lines_left M (c ∷ cs) ≡ line_left (left_on (update_call base) M c) ∷ lines_left (memory_after M c.lending (memory_left (left_on (update_call base) M c))) cs
unfolding lines_left
lines_cons M c cs = refl

lines_nil : (M : Memory) (F : PlainMap) → lines_left M [] ≡ follow_all F []
unfolding lines_left follow_all
lines_nil M F = refl

-- the codes that the updates open are codes of the map
abbrev pub AreWithin : List LentUpdate → Type 0
AreWithin cs = (c : LentUpdate) → Memᴰ c cs → IsWithin base c.update

pub lines_are : (G : Network) → IsHeld base G → (cs : List LentUpdate) → AreWithin cs → AllLong cs → lines_left (memory_for base G) cs ≡ follow_all (figured_for G) (updates_of cs)
unfolding updates_of
lines_are G held [] calls lent = lines_nil (memory_for base G) (figured_for G)
lines_are G held (c ∷ cs) calls lent =
    let within = calls c (Memᴰ.head refl) in
    let long = lent c (Memᴰ.head refl) in
    let H = plain_next (first_of (update_faults G c.update)) G c.update in
    lines_cons (memory_for base G) c cs
    ∙ ap₂ (λ (r : AnswerLine) (M : Memory). r ∷ lines_left M cs) (call_line G held c within long) (call_memory G held c within long)
    ∙ ap₂ (λ (r : AnswerLine) (rs : List AnswerLine). r ∷ rs) refl (lines_are H (call_left_lem G held c within long).is_held cs (λ d m. calls d (Memᴰ.tail m)) (λ d m. lent d (Memᴰ.tail m)))
    ∙ ap (λ (M : PlainMap). (follow_one (first_of (update_faults G c.update)) (figured_for G) c.update).1 ∷ follow_all M (updates_of cs)) (sym (call_next G held c within long))
    ∙ sym (follow_cons (figured_for G) c.update (updates_of cs))
