-- THE THEOREMS of this crate: which refusals the two calls give, and what accepted ones answer and leave, by the published words. Assumes nothing.
use mathlib.Core.Path.{◌≡◌, refl, sym, ap, ◌∙◌, subst}
use mathlib.Core.Logic.{◌⊎◌, inl, inr, ◌≢◌}
use mathlib.Core.Bool.{Bool, true, false, not, ◌&&◌, and_assoc, and-true as and-with-true}
use mathlib.Core.List.{List, [], ◌∷◌, ◌++◌}
use Prim.Native.Nat.{ℕ, zero, suc, ◌≤◌, ◌<◌}
use native.Mathlib.Nat.{le_refl}
use native.Mathlib.Omega.{arith}
use lib.Dec.{T, leb}
use lib.ListN.{length, take}
use borrow.Author.Tests.{le-leb, not-true, not-false}
use Rattle.std.proofs.lemmas.Bool.{cases_lt, cases_eq}
use Rattle.lists.specs.Lists.{anyb, allb, overwrite}
use Rattle.lists.proofs.Tests.{clash, t→true, true→t}
use Rattle.lists.proofs.Members.{any_intro, any_elim, length-filter, first_zero}
use Rattle.lists.proofs.Conditions.{all_fit, Decides, Tells, decides_test, decides_not, decides_short}
use Rattle.std.specs.Prelude.{Option, Some, None, Ok}
use Rattle.std.proofs.lemmas.Option.{none-some}
use Rattle.lists.specs.Lists.{first_of}
use Rattle.outcome.specs.Answers.{numbered, Left, leaves, unless}
use Rattle.outcome.proofs.Answers.{none_is, done_leaves, refuses_by}
use Rattle.lists.proofs.Fills.{overwrite_take}
use Rattle.graph.specs.Network.{Network}
use Rattle.graph.specs.Distance.{vertices, dist}
use Rattle.graph.specs.Chart.{chart, ecc}
use Rattle.graph.specs.Nearby.{within_list, nearest_listed, AreWithin}
use Rattle.graph.specs.Refusals.{IsAbsent}
use Rattle.graph.proofs.Nearby.{within_is, nearest_is}
use Rattle.map.specs.Memory.{Shape, places, table_words, IsShape, map_network}
use Rattle.map.specs.Room.{Tables, long_enough}
use Rattle.map.specs.declared.Record.{Record}
use Rattle.map.proofs.Theorems.{network_rising, network_open_below, network_most}
use Rattle.layers.specs.Layers.{depth_from, search_leaves}
use Rattle.lent_map.proofs.Refuses.{lent_tells}
use Rattle.search.specs.SearchCall.{search_refusal, search_sizes}
use Rattle.search.specs.Refusals.{search_buffers}
use Rattle.search.proofs.Accepts.{IsGranted, granted}
use Rattle.search.proofs.Theorems.{over_keeps, leaves_search}
use Rattle.nearby.specs.WithinCall.{within_refusal, within_call}
use Rattle.nearby.specs.NearestCall.{nearest_refusal, nearest_depot, nearest_call}
use Rattle.nearby.specs.Refusals.{within_conditions, WithinRefuses, IsNobody, nearest_conditions, NearestRefuses}
use Rattle.search.specs.declared.Reach.{Reach}
use Rattle.search.specs.SearchCall.{reach}
use Rattle.search.specs.Correct.{KeepsPast, IsSearch}
use Rattle.graph.specs.Nearby.{IsNearest}
use Rattle.nearby.specs.declared.NearestDepot.{NearestDepot}
use Rattle.lent_map.specs.Faults.{lent_faults}
use Rattle.nearby.specs.Correct.{WithinCorrect, NearestCorrect}
use Rattle.nearby.proofs.Accepts.{within_short, within_as_search, nearest_as_search, nearest_by_list}

-- ---- WHICH REFUSAL

module _ (K : Shape) (links : List ℕ) (B : Tables) where
  abbrev fits : Bool
  fits = long_enough K (search_sizes K (length links) (length B.hops) (length B.even) (length B.odd))

  -- the test of the sizes, and the condition's
  search_room : fits ≡ all_fit (search_buffers K links B)
  unfolding long_enough allb
  search_room = simp (le-leb (table_words K) (table_words K) (le_refl (table_words K)), le-leb (places K) (places K) (le_refl (places K)), and_assoc, and-with-true)

  within_room : (codes : List ℕ) → (fits && leb (places K) (length codes)) ≡ all_fit (search_buffers K links B ++ (places K, length codes) ∷ [])
  unfolding long_enough allb
  within_room codes =
      simp (le-leb (table_words K) (table_words K) (le_refl (table_words K)), le-leb (places K) (places K) (le_refl (places K)), and_assoc, and-with-true)

pub within_refusals : (K : Shape) → IsShape K → WithinRefuses K (within_call K)
unfolding within_call within_refusal lent_faults allb
within_refusals K shape rec links B codes code k =
    let b = (map_network K rec links).is_open code in
    let test : List (Bool × ℕ) = (not b, 4) ∷ [] in
    let buffers = search_buffers K links B ++ (places K, length codes) ∷ [] in
    let absent : Tells test ((IsAbsent (map_network K rec links) code, 4) ∷ []) = (refl, decides_not b (decides_test b), λ g. tt) in
    refuses_by _ (within_conditions K rec links B codes code)
    (lent_tells K shape (fits K links B && leb (places K) (length codes)) false buffers (rw (← within_room K links B codes) at (decides_short buffers))
    rec links [] test ((IsAbsent (map_network K rec links) code, 4) ∷ []) absent)
    refl (B, codes) _ refl

-- no listed depot is open
decides_nobody : (G : Network) (listed : List ℕ) → Decides (not (anyb G.is_open listed)) (IsNobody G listed)
decides_nobody G listed = record {
  holds = λ e v m o. clash (any_intro G.is_open listed m (t→true (G.is_open v) o)) (not-true (anyb G.is_open listed) e);
  fails = λ e n. (let x = any_elim G.is_open listed (not-false (anyb G.is_open listed) e) in n x.0 x.1 (true→t x.2));
}

pub nearest_refusals : (K : Shape) → IsShape K → NearestRefuses K (nearest_call K)
unfolding nearest_call nearest_refusal lent_faults allb
nearest_refusals K shape rec links B code listed =
    let G = map_network K rec links in
    let b = G.is_open code in
    let tests : List (Bool × ℕ) = (not b, 4) ∷ (not (anyb G.is_open listed), 10) ∷ [] in
    let own : Tells tests ((IsAbsent G code, 4) ∷ (IsNobody G listed, 10) ∷ []) =
    (refl, decides_not b (decides_test b), λ g. (refl, decides_nobody G listed, λ g. tt)) in
    refuses_by _ (nearest_conditions K rec links B code listed)
    (lent_tells K shape (fits K links B) false (search_buffers K links B) (rw (← search_room K links B) at (decides_short (search_buffers K links B)))
    rec links [] tests ((IsAbsent G code, 4) ∷ (IsNobody G listed, 10) ∷ []) own)
    refl B _ refl

-- ---- WHAT ACCEPTED CALLS ANSWER AND LEAVE

module _ (K : Shape) (shape : IsShape K) (rec : Record) (links : List ℕ) (B : Tables) (code : ℕ) where
  abbrev G : Network
  G = map_network K rec links

  abbrev refusal : Option ℕ
  refusal = search_refusal K rec links (length B.hops) (length B.even) (length B.odd) code

  module _ (z : None ≡ refusal) where
    grants : IsGranted K rec links (length B.hops) (length B.even) (length B.odd) code
    grants = granted K rec links (length B.hops) (length B.even) (length B.odd) code shape z

    present : T (G.is_open code)
    present = true→t grants.present

    holds_search : (r : Reach) × IsSearch K G code B r (search_leaves K.words G code B)
    holds_search = (
      reach (ecc (chart G) code) (depth_from G code),
      leaves_search K G grants.net (network_open_below K.words rec.members links) code present
          B grants.long.hops grants.long.even grants.long.odd,
    )

  -- an accepted listing has room for its codes, and what refuses a search does not refuse it
  within_granted : (codes : List ℕ) → within_refusal K rec links B codes code ≡ None → (places K ≤ length codes) × (None ≡ refusal)
  within_granted codes z = go (cases_lt (length codes) (places K))
    where
      go : (length codes < places K) ⊎ (places K ≤ length codes) → (places K ≤ length codes) × (None ≡ refusal)
      go (inl l) = absurd (none-some 1 (sym z ∙ sym (within_short K rec links B code codes l)))
      go (inr l) = (l, sym (within_as_search K rec links B code codes l ∙ z))

  -- an accepted choice has an open depot in its list
  nearest_granted : (listed : List ℕ) → nearest_refusal K rec links B code listed ≡ None → (None ≡ refusal) × (anyb G.is_open listed ≡ true)
  nearest_granted listed z = go refusal refl
    where
      go : (r : Option ℕ) → r ≡ refusal → (None ≡ refusal) × (anyb G.is_open listed ≡ true)
      go None e =
          let n = none_is _ (sym (nearest_by_list K rec links B code listed e ∙ z)) in
          (e, not-false (anyb G.is_open listed) (first_zero (not (anyb G.is_open listed)) 9 [] n).0)
      go (Some k) e = absurd (none-some k (sym (nearest_as_search K rec links B code listed e ∙ z)))

pub within_correct : (K : Shape) → IsShape K → WithinCorrect K
unfolding within_call within_list unless
within_correct K shape rec links B codes code k z =
    let g = within_granted K shape rec links B code codes z in
    subst is_left (done_leaves (B, codes) given (sym z)) (left g.0 g.1)
  where
    N : Network
    N = map_network K rec links

    found : List ℕ
    found = within_list (map_network K rec links) code k

    given : Left ℕ (Tables × List ℕ)
    given = leaves (Ok (length found)) (search_leaves K.words N code B, overwrite found codes)

    is_left : Left ℕ (Tables × List ℕ) → Type 0
    is_left l =
        (count : ℕ) × (l.answer ≡ Ok count) × AreWithin N code k (take count l.lent.1) × KeepsPast count codes l.lent.1
        × ((r : Reach) × IsSearch K N code B r l.lent.0)

    room : places K ≤ length codes → length found ≤ length codes
    room l = omega (arith, l, length-filter (λ v. leb (dist N code v) k) (vertices N), network_most K.words rec.members links)

    left : places K ≤ length codes → None ≡ search_refusal K rec links (length B.hops) (length B.even) (length B.odd) code
        → is_left given
    left l e = (
      length found,
      refl,
      subst (AreWithin N code k) (sym (overwrite_take found codes))
          (within_is N (grants K shape rec links B code e).net code (present K shape rec links B code e) k (network_rising K.words rec.members links)),
      over_keeps (length found) found codes refl (room l),
      holds_search K shape rec links B code e,
    )

pub nearest_correct : (K : Shape) → IsShape K → NearestCorrect K
unfolding nearest_call unless
nearest_correct K shape rec links B code listed z =
    let G = map_network K rec links in
    let g = nearest_granted K shape rec links B code listed z in
    let v = nearest_listed G code listed in
    let n = nearest_depot v (dist G code v) in
    subst
    (λ (l : Left NearestDepot Tables).
    (n : NearestDepot) × (l.answer ≡ Ok n) × IsNearest G code listed n.code n.distance × ((r : Reach) × IsSearch K G code B r l.lent))
    (done_leaves B (leaves (Ok n) (search_leaves K.words G code B)) (sym z))
    (n, refl, nearest_is G (grants K shape rec links B code g.0).net code (present K shape rec links B code g.0) listed g.1, holds_search K shape rec links B code g.0)
