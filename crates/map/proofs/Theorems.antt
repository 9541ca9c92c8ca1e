-- What an open set and links read from words mean, and the emptying: theorems that are no function's contract. Assumes nothing.
use mathlib.Core.Path.{◌≡◌, refl, sym, ap, ◌∙◌}
use mathlib.Core.Bool.{Bool, true, false, not, ◌&&◌, and-true as and-with-true}
use mathlib.Core.List.{List, [], ◌∷◌}
use Prim.Native.Nat.{ℕ, zero, suc, ◌*◌, ◌≤◌, ◌<◌}
use native.Mathlib.Nat.{le_trans, le_of_eq}
use native.Mathlib.Omega.{arith}
use lib.Dec.{T, ltb, lit<, lit≤}
use lib.ListN.{length}
use borrow.Author.Tests.{ltb-true, lt-ltb}
use Rattle.std.proofs.lemmas.Bool.{and_parts, and_from}
use Rattle.lists.specs.Lists.{range, filterb, allb, countb, memb, distinct, overwrite}
use Rattle.lists.specs.Conditions.{IsShort}
use Rattle.lists.proofs.Conditions.{decides_short}
use Rattle.lists.proofs.Tests.{t→true, true→t, same_test}
use Rattle.lists.proofs.Members.{length-filter, length-range, filter-ext, filter-twice}
use Rattle.lists.proofs.Counts.{length_count}
use Rattle.lists.proofs.Distinct.{memb_filter, memb-range, distinct_filter, distinct-range}
use Rattle.graph.specs.Network.{delivers, HasNoYard}
use Rattle.graph.specs.Distance.{vertices}
use Rattle.graph.specs.Chart.{chart, destinations}
use Rattle.graph.specs.Nearby.{IsRising}
use Rattle.graph.proofs.Delivers.{delivers_open}
use Rattle.graph.proofs.Rising.{range_rising, filter_rising}
use Rattle.rows.specs.Rows.{row_bit, table_bit, encode_row}
use Rattle.rows.proofs.Written.{row_within}
use Rattle.map.specs.Memory.{Shape, table_words, network_of, yard_network, IsShape, base}
use Rattle.std.specs.Prelude.{Option, Some, None, Ok}
use Rattle.std.proofs.lemmas.Option.{none-some}
use Rattle.std.proofs.lemmas.Result.{IfOk-at_ok}
use Rattle.outcome.specs.Answers.{refusal_in, Left, leaves, unless}
use Rattle.outcome.proofs.Answers.{refuses_by}
use Rattle.map.specs.Empty.{zeros, empty_record, empty_refusal, empty_call, IsEmpty, EmptyRefuses, LeavesEmpty}
use Rattle.map.specs.declared.Record.{Record}
use Rattle.map.proofs.Empties.{row_zeros, table_zeros}

-- ---- codes and links read from words lie below the number of places

pub network_open_below : (W : ℕ) (members links : List ℕ) (u : ℕ) → T ((network_of W members links).is_open u) → u < 64 * W
unfolding network_of row_bit
network_open_below W members links u o = ltb-true u (64 * W) (and_parts (ltb u (64 * W)) _ (t→true _ o)).0

-- the depots are the open codes, each once
pub network_listed : (W : ℕ) (members links : List ℕ) (u : ℕ) → (network_of W members links).is_open u ≡ memb u (vertices (network_of W members links))
unfolding network_of
network_listed W members links u =
    same_test (row_bit W members u) (memb u (filterb (row_bit W members) (range (64 * W))))
    (λ h.
    memb_filter (row_bit W members) (range (64 * W)) u
    ∙ and_from _ _ (memb-range (64 * W) u ∙ lt-ltb u (64 * W) (network_open_below W members links u (true→t h))) h)
    (λ h. (and_parts (memb u (range (64 * W))) (row_bit W members u) (sym (memb_filter (row_bit W members) (range (64 * W)) u) ∙ h)).1)

pub network_once : (W : ℕ) (members links : List ℕ) → distinct (vertices (network_of W members links)) ≡ true
unfolding network_of
network_once W members links = distinct_filter (row_bit W members) (range (64 * W)) (distinct-range (64 * W))

-- so many are open, and no more than there are places
pub network_length : (W : ℕ) (members links : List ℕ) → length (vertices (network_of W members links)) ≡ countb (network_of W members links).is_open (range (64 * W))
unfolding network_of
network_length W members links = length_count (row_bit W members) (range (64 * W))

pub network_most : (W : ℕ) (members links : List ℕ) → length (vertices (network_of W members links)) ≤ 64 * W
unfolding network_of
network_most W members links = le_trans (length-filter (row_bit W members) (range (64 * W))) (le_of_eq (length-range (64 * W)))

-- and they rise
pub network_rising : (W : ℕ) (members links : List ℕ) → IsRising (vertices (network_of W members links))
unfolding network_of
network_rising W members links = filter_rising (row_bit W members) (range (64 * W)) (range_rising (64 * W))

-- no code is a yard without a yard set; with one, a yard's code lies below the number of places too
pub network_yardless : (W : ℕ) (members links : List ℕ) → HasNoYard (network_of W members links)
unfolding network_of
network_yardless W members links v = refl

pub network_yard_below : (W : ℕ) (members yards links : List ℕ) (u : ℕ) → T ((yard_network W members yards links).is_yard u) → u < 64 * W
unfolding row_bit
network_yard_below W members yards links u t = ltb-true u (64 * W) (and_parts (ltb u (64 * W)) _ (t→true _ t)).0

-- the depots that deliver lie below it, and are read where they are written
pub network_delivers_below : (W : ℕ) (members yards links : List ℕ) (u : ℕ) → T (delivers (yard_network W members yards links) u) → u < 64 * W
network_delivers_below W members yards links u t = network_open_below W members links u (delivers_open (yard_network W members yards links) u t)

pub delivering_read : (W : ℕ) (members yards links old : List ℕ) (v : ℕ)
    → row_bit W (overwrite (encode_row W (delivers (yard_network W members yards links))) old) v ≡ delivers (yard_network W members yards links) v
delivering_read W members yards links old v =
    row_within W (delivers (yard_network W members yards links)) old (network_delivers_below W members yards links) v

-- so that such a row lists the destinations
pub delivering_depots : (W : ℕ) (members yards links row : List ℕ) → row ≡ overwrite (encode_row W (delivers (yard_network W members yards []))) members
    → vertices (network_of W row []) ≡ destinations (chart (yard_network W members yards links))
unfolding network_of delivers destinations chart
delivering_depots W members yards links row e =
    filter-ext (row_bit W row) (λ v. member v && (member v && not (row_bit W yards v))) (range (64 * W)) (λ v m. read v ∙ again (member v) (not (row_bit W yards v)))
    ∙ sym (filter-twice (λ v. member v && not (row_bit W yards v)) member (range (64 * W)))
  where
    member : ℕ → Bool
    member = row_bit W members

    read : (v : ℕ) → row_bit W row v ≡ (member v && not (row_bit W yards v))
    read v = ap (λ (r : List ℕ). row_bit W r v) e ∙ delivering_read W members yards [] members v

    again : (a b : Bool) → (a && b) ≡ (a && (a && b))
    again true b = refl
    again false b = refl

pub network_linked_below : (W : ℕ) (members links : List ℕ) (u v : ℕ) → T ((network_of W members links).linked u v) → (u < 64 * W) × (v < 64 * W)
unfolding network_of table_bit
network_linked_below W members links u v l =
    let p = and_parts (ltb u (64 * W) && ltb v (64 * W)) _ (t→true _ l) in
    let q = and_parts (ltb u (64 * W)) (ltb v (64 * W)) p.0 in
    (ltb-true u (64 * W) q.0, ltb-true v (64 * W) q.1)

-- ---- AN EMPTYING IS REFUSED ONLY WITH 1, and an emptied map is empty

-- refused if and only if a table is short, and then nothing changes
pub empty_refusals : (K : Shape) → EmptyRefuses K (empty_call K)
unfolding empty_call empty_refusal allb
empty_refusals K links pairs =
    let buffers : List (ℕ × ℕ) = (table_words K, length links) ∷ (table_words K, length pairs) ∷ [] in
    refuses_by _ ((IsShort buffers, 1) ∷ []) (refl, rw and-with-true at (decides_short buffers), λ f. tt) refl (links, pairs) _ refl

pub emptied_is_empty : (K : Shape) → LeavesEmpty K (empty_call K)
unfolding empty_call unless empty_record network_of
emptied_is_empty K links pairs rec h = go (empty_refusal K links pairs) h
  where
    emptied : List ℕ → List ℕ
    emptied = overwrite (zeros (table_words K))

    done : Left Record (List ℕ × List ℕ)
    done = leaves (Ok (empty_record K.words)) (emptied links, emptied pairs)

    empty : IsEmpty K.words (empty_record K.words) (emptied links) (emptied pairs)
    empty = record {
      closed = row_zeros K.words;
      yardless = row_zeros K.words;
      unlinked = table_zeros K.words links;
      unpaired = table_zeros K.words pairs;
      number = refl;
      chain = refl;
      count = refl;
    }

    go : (k : Option ℕ) → (unless k (links, pairs) done).answer ≡ Ok rec → IsEmpty K.words rec (unless k (links, pairs) done).lent.0 (unless k (links, pairs) done).lent.1
    go None e = IfOk-at_ok (λ (r : Record). IsEmpty K.words r (emptied links) (emptied pairs)) e empty
    go (Some k) e = absurd (none-some k (ap refusal_in (sym e)))

-- ---- the shape of the rules is one

pub base_shape : IsShape base
base_shape = record { positive = lit< tt; most = lit< tt; searched_free = lit≤ tt; other_free = lit≤ tt; marks_differ = λ e. omega arith }
