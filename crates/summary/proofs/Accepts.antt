-- The refusals of the report one by one, and what an accepted one leaves. Assumes nothing.
use mathlib.Core.Path.{◌≡◌, refl, sym, ap, ◌∙◌}
use mathlib.Core.Bool.{Bool, true, false, ◌&&◌, and-true as and-with-true}
use mathlib.Core.List.{List, [], ◌∷◌}
use Prim.Native.Nat.{ℕ, zero, suc, ◌*◌, ◌/◌, ◌%◌, ◌≤◌, ◌<◌}
use native.Mathlib.Omega.{arith}
use lib.Dec.{leb, ltb}
use lib.ListN.{length}
use borrow.Author.Tests.{leb-true, le-leb, lt-leb, lt-ltb, le-ltb, ltb-false}
use Rattle.std.proofs.lemmas.Bool.{and_parts}
use Rattle.outcome.specs.Numbers.{short_buffer, too_few}
use Rattle.lists.specs.Lists.{range, countb, last_or, mapl, overwrite, first_of}
use Rattle.lists.proofs.Members.{first_zero}
use Rattle.graph.specs.Network.{Network, delivers}
use Rattle.graph.specs.Distance.{vertices}
use Rattle.graph.specs.Chart.{chart, destinations}
use Rattle.graph.specs.Correct.{IsNet}
use Rattle.graph.specs.Summary.{distance_sum, pair_number, ecc_count}
use Rattle.graph.proofs.Summary.{pairs_positive}
use Rattle.rows.specs.Rows.{table_bit, encode_row}
use Rattle.map.specs.Memory.{Shape, places, IsShape, map_network}
use Rattle.map.specs.Room.{Tables, AreLong, long_enough}
use Rattle.map.specs.declared.Record.{Record}
use Rattle.map.proofs.Longs.{are_long_lem}
use Rattle.layers.specs.Layers.{search_leaves}
use Rattle.lent_map.specs.Faults.{lent_faults, lent_refusal}
use Rattle.lent_map.proofs.Passes.{lent_first, lent_then, lent-passed, passed_net}
use Rattle.search.specs.SearchCall.{search_sizes}
use Rattle.std.specs.Prelude.{Option, Some, None, Ok, Err}
use Rattle.outcome.specs.Answers.{numbered, leaves, unless}
use Rattle.outcome.specs.Refusals.{number_of}
use Rattle.outcome.specs.declared.Refusal.{Refusal}
use Rattle.outcome.proofs.Answers.{none_is, number_is as refusal_is, refused_leaves, done_leaves}
use Rattle.outcome.proofs.Numbering.{refuses}
use Rattle.summary.specs.SummaryCall.{summary_refusal, summed, summary_call}
use Rattle.summary.specs.Steps.{Totalled, totalled, total_over}
use Rattle.summary.proofs.Leaving.{number_is, total_is}

-- ---- what no refusal says

-- a map that is lent whole with room for the counts, sound and connected, with two destinations or more
pub record IsGranted (K : Shape) (rec : Record) (links : List ℕ) (hops even odd counts : ℕ) : Type 0 where
  pub long : AreLong K (search_sizes K (length links) hops even odd)
  pub room : places K ≤ counts
  pub net : IsNet (map_network K rec links)
  pub two : 1 < countb (delivers (map_network K rec links)) (vertices (map_network K rec links))

module _ (K : Shape) (rec : Record) (links : List ℕ) (hops even odd counts : ℕ) where
  abbrev G : Network
  G = map_network K rec links

  abbrev long : Bool
  long = long_enough K (search_sizes K (length links) hops even odd)

  abbrev few : List (Bool × ℕ)
  few = (ltb (countb (delivers (map_network K rec links)) (vertices (map_network K rec links))) 2, too_few) ∷ []

  pub granted : IsShape K → None ≡ summary_refusal K rec links hops even odd counts → IsGranted K rec links hops even odd counts
  unfolding summary_refusal
  granted shape z =
      let p = lent-passed K (long && leb (places K) counts) false rec links [] few (none_is _ z) in
      let whole = and_parts long (leb (places K) counts) p.whole in
      let two : 2 ≤ countb (delivers G) (vertices G) = ltb-false (countb (delivers G) (vertices G)) 2 (first_zero (ltb (countb (delivers G) (vertices G)) 2) 14 [] p.others).0 in
      record {
        long = are_long_lem K (search_sizes K (length links) hops even odd) whole.0;
        room = leb-true (places K) counts whole.1;
        net = passed_net K (long && leb (places K) counts) false rec links [] few shape p;
        two = omega (arith, two);
      }

  -- ---- each refusal, by its test: the counts, those of the lent map, then the number of destinations

  pub refused_counts : counts < places K → Some short_buffer ≡ summary_refusal K rec links hops even odd counts
  unfolding summary_refusal lent_faults first_of numbered
  refused_counts l = rw (lt-leb (places K) counts l, none long)
    where
      none : (b : Bool) → (b && false) ≡ false
      none true = refl
      none false = refl

  lent_is : {k : ℕ} {b : Bool} → places K ≤ counts → b ≡ long → k ≡ lent_refusal K b false rec links []
      → k ≡ lent_refusal K (long && leb (places K) counts) false rec links []
  lent_is l q e = rw (le-leb (places K) counts l, and-with-true) (e ∙ ap (λ (b : Bool). lent_refusal K b false rec links []) q)

  pub refused_map : (k : Refusal) {b : Bool} → places K ≤ counts → b ≡ long → number_of k ≡ lent_refusal K b false rec links []
      → Some (number_of k) ≡ summary_refusal K rec links hops even odd counts
  unfolding summary_refusal
  refused_map k l q e = refusal_is k (lent_first K (long && leb (places K) counts) false rec links [] few (lent_is l q e) (refuses k))

  passed : {b : Bool} → places K ≤ counts → b ≡ long → 0 ≡ lent_refusal K b false rec links [] → numbered (first_of few) ≡ summary_refusal K rec links hops even odd counts
  unfolding summary_refusal
  passed l q e = ap numbered (lent_then K (long && leb (places K) counts) false rec links [] few (lent_is l q e))

  -- the number is that of a row of the depots that deliver
  module _ {row : List ℕ} (kept : row ≡ overwrite (encode_row K.words (delivers (map_network K rec []))) rec.members) where
    pub refused_few : {n : ℕ} {b : Bool} → places K ≤ counts → b ≡ long → 0 ≡ lent_refusal K b false rec links []
        → n ≡ countb (table_bit K.words row 0) (range (64 * K.words)) → n < 2 → Some too_few ≡ summary_refusal K rec links hops even odd counts
    unfolding first_of numbered
    refused_few l q e d s =
        rw (lt-ltb (countb (delivers G) (vertices G)) 2 (omega (arith, d, s, number_is K.words rec.members rec.yards links kept))) at (passed l q e)

    pub refused_never : {n : ℕ} {b : Bool} → places K ≤ counts → b ≡ long → 0 ≡ lent_refusal K b false rec links []
        → n ≡ countb (table_bit K.words row 0) (range (64 * K.words)) → 2 ≤ n → None ≡ summary_refusal K rec links hops even odd counts
    unfolding first_of numbered
    refused_never l q e d s =
        rw (le-ltb (countb (delivers G) (vertices G)) 2 (omega (arith, d, s, number_is K.words rec.members rec.yards links kept))) at (passed l q e)

-- ---- the call

module _ (K : Shape) (rec : Record) (links : List ℕ) (B : Tables) (counts : List ℕ) where
  abbrev M : Network
  M = map_network K rec links

  pub summary_refused : {r : ℕ} → Some r ≡ summary_refusal K rec links (length B.hops) (length B.even) (length B.odd) (length counts)
      → leaves (Err r) (B, counts) ≡ summary_call K rec links B counts
  unfolding summary_call
  summary_refused e = refused_leaves (B, counts) _ e

  module _ (shape : IsShape K) (z : None ≡ summary_refusal K rec links (length B.hops) (length B.even) (length B.odd) (length counts)) where
    grants : IsGranted K rec links (length B.hops) (length B.even) (length B.odd) (length counts)
    grants = granted K rec links (length B.hops) (length B.even) (length B.odd) (length counts) shape z

    module _ {row : List ℕ} (kept : row ≡ overwrite (encode_row K.words (delivers (map_network K rec []))) rec.members)
        {sum pairs : ℕ} {B' : Tables} {counts' : List ℕ} (is : totalled sum pairs B' counts' ≡ total_over K.words row links B counts) where
      whole : totalled sum pairs B' counts' ≡ totalled (distance_sum (chart M)) (pair_number (chart M)) (search_leaves K.words M (last_or 0 (destinations (chart M))) B)
          (overwrite (mapl (ecc_count (chart M)) (range (places K))) counts)
      whole =
          is
          ∙ total_is K.words rec.members rec.yards links kept shape.most grants.net B counts grants.room (omega (arith, grants.two))

      -- there is a pair
      pub some_pair : 0 < pairs
      some_pair =
          let e : pairs ≡ pair_number (chart M) = ap (λ (t : Totalled). t.pairs) whole in
          omega (arith, e, pairs_positive M grants.net grants.two)

      pub summary_accepted : leaves (Ok (summed sum pairs)) (B', counts') ≡ summary_call K rec links B counts
      unfolding summary_call
      summary_accepted =
          ap (λ (t : Totalled). leaves (Ok (summed t.sum t.pairs)) (t.lent, t.counts)) whole
          ∙ done_leaves (B, counts) _ z

-- what the check is told of the refusals
pub ruleset refused = (refused_counts, refused_map, refused_few, refused_never)
