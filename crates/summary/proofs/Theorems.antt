-- THE THEOREMS of this crate: which refusals the report gives, and what an accepted one answers and leaves, by the published words. Assumes nothing.
use mathlib.Core.Path.{◌≡◌, refl, sym, ap, subst}
use mathlib.Core.Logic.{◌⊎◌, inl, inr}
use mathlib.Core.Bool.{Bool, true, false, ◌&&◌, and_assoc, and-true as and-with-true}
use mathlib.Core.List.Memᴰ
use mathlib.Core.List.{List, [], ◌∷◌, ◌++◌, Memᴰ}
use Prim.Native.Nat.{ℕ, zero, suc, ◌-◌, ◌/◌, ◌%◌, ◌≤◌, ◌<◌}
use native.Mathlib.Nat.{le_refl}
use native.Mathlib.Omega.{arith}
use lib.Dec.{leb, ltb}
use lib.ListN.{length, get_or}
use borrow.Author.Tests.{le-leb, ltb-true, lt-ltb}
use Rattle.outcome.specs.Numbers.{too_few}
use Rattle.lists.specs.Lists.{range, filterb, countb, allb, last_or, mapl, overwrite}
use Rattle.lists.proofs.Tests.{t→true, true→t}
use Rattle.lists.proofs.Members.{filter_in, filter_out}
use Rattle.lists.proofs.Counts.{length_count}
use Rattle.lists.proofs.Conditions.{all_fit, Tells, decides_iff, decides_short}
use Rattle.std.specs.Prelude.{None, Ok}
use Rattle.outcome.specs.Answers.{Left, leaves, unless}
use Rattle.outcome.proofs.Answers.{done_leaves, refuses_by}
use Rattle.lists.proofs.Fills.{length_fill, fill_at}
use Rattle.graph.specs.Network.{Network, delivers}
use Rattle.graph.specs.Distance.{vertices}
use Rattle.graph.specs.Chart.{chart, destinations, ecc}
use Rattle.graph.specs.Nearby.{IsRising}
use Rattle.graph.specs.Summary.{distance_sum, pair_number, ecc_count}
use Rattle.graph.proofs.Delivers.{delivers_open}
use Rattle.graph.proofs.Distances.{vertices_in}
use Rattle.graph.proofs.Rising.{filter_rising}
use Rattle.graph.proofs.Summary.{sum_bound, summary_is}
use Rattle.map.specs.Memory.{Shape, places, table_words, IsShape, map_network}
use Rattle.map.specs.Room.{Tables, long_enough}
use Rattle.map.proofs.Theorems.{network_rising, network_open_below, network_most}
use Rattle.layers.specs.Layers.{depth_from}
use Rattle.lent_map.proofs.Refuses.{lent_tells}
use Rattle.search.specs.SearchCall.{search_sizes, reach}
use Rattle.summary.specs.declared.Summary.{Summary}
use Rattle.lent_map.specs.Faults.{lent_faults}
use Rattle.layers.specs.Layers.{search_leaves}
use Rattle.search.specs.Refusals.{search_buffers}
use Rattle.search.proofs.Theorems.{over_keeps, leaves_search}
use Rattle.summary.specs.SummaryCall.{summary_refusal, summed, summary_call}
use Rattle.summary.specs.Refusals.{AreTooFew, summary_conditions, SummaryRefuses}
use Rattle.summary.specs.Correct.{IsSummaryLeft, SummaryCorrect}
use Rattle.summary.proofs.Accepts.{IsGranted, granted}

-- ---- WHICH REFUSAL

module _ (K : Shape) (links : List ℕ) (B : Tables) (counts : List ℕ) where
  abbrev fits : Bool
  fits = long_enough K (search_sizes K (length links) (length B.hops) (length B.even) (length B.odd)) && leb (places K) (length counts)

  abbrev buffers : List (ℕ × ℕ)
  buffers = search_buffers K links B ++ (places K, length counts) ∷ []

  -- the test of the sizes, and the condition's
  room : fits ≡ all_fit buffers
  unfolding long_enough allb
  room = simp (le-leb (table_words K) (table_words K) (le_refl (table_words K)), le-leb (places K) (places K) (le_refl (places K)), and_assoc, and-with-true)

pub summary_refusals : (K : Shape) → IsShape K → SummaryRefuses K (summary_call K)
unfolding summary_call summary_refusal lent_faults allb
summary_refusals K shape rec links B counts =
    let G = map_network K rec links in
    let n = countb (delivers G) (vertices G) in
    let test : List (Bool × ℕ) = (ltb n 2, too_few) ∷ [] in
    let few : Tells test ((AreTooFew G, too_few) ∷ []) = (refl, decides_iff (ltb-true n 2, lt-ltb n 2), λ g. tt) in
    refuses_by _ (summary_conditions K rec links B counts)
    (lent_tells K shape (fits K links B counts) false (buffers K links B counts) (rw (← room K links B counts) at (decides_short (buffers K links B counts)))
    rec links [] test ((AreTooFew G, too_few) ∷ []) few)
    refl (B, counts) _ refl

-- ---- the last of a rising list

last_in : (x : ℕ) (xs : List ℕ) → Memᴰ (last_or x xs) (x ∷ xs)
unfolding last_or
last_in x [] = Memᴰ.head refl
last_in x (y ∷ ys) = Memᴰ.tail (last_in y ys)

last_high : (x : ℕ) (xs : List ℕ) → IsRising (x ∷ xs) → (v : ℕ) → Memᴰ v (x ∷ xs) → v ≤ last_or x xs
unfolding last_or
last_high x [] up v m = go (Memᴰ.cases_cons m)
  where
    go : (v ≡ x) ⊎ Memᴰ v [] → v ≤ x
    go (inl e) = omega (arith, e)
    go (inr n) = absurd (Memᴰ.not-nil n)
last_high x (y ∷ ys) up v m = go (Memᴰ.cases_cons m) (last_high y ys (λ i l. up (suc i) (omega arith)))
  where
    go : (v ≡ x) ⊎ Memᴰ v (y ∷ ys) → ((w : ℕ) → Memᴰ w (y ∷ ys) → w ≤ last_or y ys) → v ≤ last_or y ys
    go (inl e) ih = let l : x < y = up 0 (omega arith) in omega (arith, e, ih y (Memᴰ.head refl))
    go (inr n) ih = ih v n

last_of : (l : List ℕ) → 0 < length l → IsRising l → Memᴰ (last_or 0 l) l × ((v : ℕ) → Memᴰ v l → v ≤ last_or 0 l)
unfolding last_or
last_of [] some up = absurd (omega (arith, some))
last_of (x ∷ xs) some up = (last_in x xs, last_high x xs up)

-- ---- WHAT AN ACCEPTED REPORT ANSWERS AND LEAVES

pub summary_correct : (K : Shape) → IsShape K → SummaryCorrect K
unfolding summary_call unless destinations chart
summary_correct K shape rec links B counts z =
    subst
    (λ (l : Left Summary (Tables × List ℕ)). (s : Summary) × (l.answer ≡ Ok s) × IsSummaryLeft K G B counts s l.lent.0 l.lent.1)
    (done_leaves (B, counts) (leaves (Ok s) (search_leaves K.words G (last_or 0 ds) B, new)) (sym z)) (
      s,
      refl,
      record {
        is_summary = summary_is G grants.net (places K) (λ e. get_or new e 0) few grants.two (λ e h. fill_at (ecc_count (chart G)) counts (places K) e 0 h);
        most = sum_bound G grants.net (places K - 1) (omega (arith, few));
        kept = over_keeps (places K) (mapl (ecc_count (chart G)) (range (places K))) counts (length_fill (ecc_count (chart G)) (places K)) grants.room;
        last = last_or 0 ds;
        is_last = (true→t is_destination, λ v t. highest.1 v (filter_in (delivers G) (vertices G) (vertices_in G grants.net.sound v (delivers_open G v t)) (t→true (delivers G v) t)));
        searched = (
          reach (ecc (chart G) (last_or 0 ds)) (depth_from G (last_or 0 ds)),
          leaves_search K G grants.net (network_open_below K.words rec.members links) (last_or 0 ds) (delivers_open G (last_or 0 ds) (true→t is_destination))
              B grants.long.hops grants.long.even grants.long.odd,
        );
      },
    )
  where
    G : Network
    G = map_network K rec links

    s : Summary
    s = summed (distance_sum (chart G)) (pair_number (chart G))

    grants : IsGranted K rec links (length B.hops) (length B.even) (length B.odd) (length counts)
    grants = granted K rec links (length B.hops) (length B.even) (length B.odd) (length counts) shape (sym z)

    new : List ℕ
    new = overwrite (mapl (ecc_count (chart G)) (range (places K))) counts

    few : length (vertices G) ≤ places K
    few = network_most K.words rec.members links

    ds : List ℕ
    ds = filterb (delivers G) (vertices G)

    highest : Memᴰ (last_or 0 ds) ds × ((v : ℕ) → Memᴰ v ds → v ≤ last_or 0 ds)
    highest =
        last_of ds (omega (arith, grants.two, length_count (delivers G) (vertices G)))
        (filter_rising (delivers G) (vertices G) (network_rising K.words rec.members links))

    is_destination : delivers G (last_or 0 ds) ≡ true
    is_destination = (filter_out (delivers G) (vertices G) highest.0).1
