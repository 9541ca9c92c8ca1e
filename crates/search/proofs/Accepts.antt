-- The refusals of a search one by one, and what an accepted one leaves. Assumes nothing.
use mathlib.Core.Path.{◌≡◌, refl, sym, ap, ap₂, ◌∙◌}
use mathlib.Core.Bool.{true, false, not, Bool}
use mathlib.Core.List.{List, [], ◌∷◌}
use Prim.Native.Nat.{ℕ, zero, suc, ◌%◌, ◌<◌}
use native.Mathlib.Omega.{arith}
use lib.Dec.{T}
use lib.ListN.{length}
use borrow.Author.Tests.{not-false}
use Rattle.lists.specs.Lists.{first_of, max_of, overwrite}
use Rattle.lists.proofs.Tests.{true→t}
use Rattle.lists.proofs.Members.{first_zero}
use Rattle.graph.specs.Network.{Network, delivers}
use Rattle.graph.specs.Distance.{vertices, unreached, dist}
use Rattle.graph.specs.Chart.{chart, ecc}
use Rattle.graph.specs.Correct.{IsNet}
use Rattle.map.specs.Room.{Tables, tables, AreLong, long_enough}
use Rattle.rows.specs.Rows.{encode_row}
use Rattle.layers.specs.Layers.{depth_from, Searched, searched, search_leaves, search_table}
use Rattle.layers.proofs.Theorems.{table_depth, table_leaves}
use Rattle.map.specs.Memory.{Shape, places, IsShape, network_of, yard_network, map_network, table_network}
use Rattle.map.specs.declared.Record.{Record}
use Rattle.map.proofs.Theorems.{network_open_below}
use Rattle.outcome.specs.Numbers.{absent_code}
use Rattle.std.specs.Prelude.{Option, Some, None, Ok, Err}
use Rattle.outcome.specs.Answers.{numbered, leaves, unless}
use Rattle.outcome.specs.Refusals.{number_of}
use Rattle.outcome.specs.declared.Refusal.{Refusal}
use Rattle.outcome.proofs.Answers.{none_is, number_is, refused_leaves, done_leaves}
use Rattle.outcome.proofs.Numbering.{refuses}
use Rattle.search.specs.SearchCall.{search_sizes, search_refusal, reach, search_call}
use Rattle.map.proofs.Longs.{are_long_lem}
use Rattle.lent_map.specs.Faults.{lent_refusal}
use Rattle.lent_map.proofs.Passes.{lent_first, lent_then, lent-passed, passed_net}
use Rattle.search.proofs.Reaches.{ecc_over, all_reached_lem}

-- ---- what no refusal says

-- a map that is lent whole, sound and connected, with an open code
pub record IsGranted (K : Shape) (rec : Record) (links : List ℕ) (hops even odd code : ℕ) : Type 0 where
  pub long : AreLong K (search_sizes K (length links) hops even odd)
  pub net : IsNet (map_network K rec links)
  pub present : (map_network K rec links).is_open code ≡ true

module _ (K : Shape) (rec : Record) (links : List ℕ) (hops even odd code : ℕ) where
  abbrev G : Network
  G = map_network K rec links

  abbrev long : Bool
  long = long_enough K (search_sizes K (length links) hops even odd)

  abbrev absent : List (Bool × ℕ)
  absent = (not ((map_network K rec links).is_open code), absent_code) ∷ []

  pub granted : IsShape K → None ≡ search_refusal K rec links hops even odd code → IsGranted K rec links hops even odd code
  unfolding search_refusal
  granted shape z =
      let p = lent-passed K long false rec links [] absent (none_is _ z) in
      record {
        long = are_long_lem K (search_sizes K (length links) hops even odd) p.whole;
        net = passed_net K long false rec links [] absent shape p;
        present = not-false (G.is_open code) (first_zero (not (G.is_open code)) 3 [] p.others).0;
      }

  -- ---- each refusal, by its test: those of the lent map, then the code's

  lent_is : {k : ℕ} {b : Bool} → b ≡ long → k ≡ lent_refusal K b false rec links [] → k ≡ lent_refusal K long false rec links []
  lent_is q e = e ∙ ap (λ (b : Bool). lent_refusal K b false rec links []) q

  pub refused_map : (k : Refusal) {b : Bool} → b ≡ long → number_of k ≡ lent_refusal K b false rec links []
      → Some (number_of k) ≡ search_refusal K rec links hops even odd code
  unfolding search_refusal
  refused_map k q e = number_is k (lent_first K long false rec links [] absent (lent_is q e) (refuses k))

  passed : {k : ℕ} {b : Bool} → b ≡ long → k ≡ lent_refusal K b false rec links [] → k ≡ 0
      → numbered (first_of absent) ≡ search_refusal K rec links hops even odd code
  unfolding search_refusal
  passed q e z = ap numbered (lent_then K long false rec links [] absent (sym z ∙ lent_is q e))

  pub refused_absent : {k : ℕ} {b : Bool} → b ≡ long → k ≡ lent_refusal K b false rec links [] → k ≡ 0 → G.is_open code ≡ false
      → Some absent_code ≡ search_refusal K rec links hops even odd code
  unfolding first_of numbered
  refused_absent q e z d = rw d at (passed q e z)

  pub refused_never : {k : ℕ} {b : Bool} → b ≡ long → k ≡ lent_refusal K b false rec links [] → k ≡ 0 → G.is_open code ≡ true
      → None ≡ search_refusal K rec links hops even odd code
  unfolding first_of numbered
  refused_never q e z d = rw d at (passed q e z)

-- ---- the search over a map's link table is the network's

few : (K : Shape) → IsShape K → places K < unreached
few K shape = omega (arith, shape.most)

module _ (K : Shape) (shape : IsShape K) (members yards links : List ℕ) where
  abbrev M : Network
  M = yard_network K.words members yards links

  pub search_is : IsNet M → (s : ℕ) → T (M.is_open s) → (B : Tables) (d : ℕ) (left : Tables) → searched d left ≡ search_table K.words links s B
      → (d ≡ depth_from M s) × (left ≡ search_leaves K.words M s B)
  unfolding search_table network_of
  search_is net s o B d left is = (
    ap (λ (x : Searched). x.depth) is ∙ table_depth M net.sound (places K) below (few K shape) s o K.words links refl refl,
    ap (λ (x : Searched). x.left) is ∙ table_leaves M net.sound (places K) below (few K shape) s o K.words links B refl refl,
  )
    where
      below : (v : ℕ) → T (M.is_open v) → v < places K
      below = network_open_below K.words members links

-- every depot that delivers is reached
pub granted_reached : (K : Shape) → IsShape K → {rec : Record} {links : List ℕ} {hops even odd code : ℕ} → IsGranted K rec links hops even odd code
    → {row : List ℕ} → row ≡ overwrite (encode_row K.words (delivers (map_network K rec []))) rec.members
    → max_of (dist (table_network K.words links) code) (vertices (network_of K.words row [])) < unreached
granted_reached K shape {rec} {links} {code = code} g kept =
    all_reached_lem K.words (few K shape) rec.members rec.yards links g.net code (true→t g.present) kept

-- ---- the call

module _ (K : Shape) (shape : IsShape K) (rec : Record) (links : List ℕ) (B : Tables) (code : ℕ) where
  abbrev N : Network
  N = map_network K rec links

  pub refused_call : (k : ℕ) → Some k ≡ search_refusal K rec links (length B.hops) (length B.even) (length B.odd) code
      → leaves (Err k) B ≡ search_call K rec links B code
  unfolding search_call
  refused_call k e = refused_leaves B _ e

  -- an accepted call goes by the row of the depots that deliver
  pub accepted_call : None ≡ search_refusal K rec links (length B.hops) (length B.even) (length B.odd) code
      → {row : List ℕ} → row ≡ overwrite (encode_row K.words (delivers (map_network K rec []))) rec.members
      → {e d : ℕ} {hops even odd : List ℕ}
      → (searched d (tables hops even odd) ≡ search_table K.words links code B)
      × (e ≡ max_of (dist (table_network K.words links) code) (vertices (network_of K.words row [])))
      → leaves (Ok (reach e d)) (tables hops even odd) ≡ search_call K rec links B code
  unfolding search_call
  accepted_call z {row} kept {e} {d} {hops} {even} {odd} is =
      let g = granted K rec links (length B.hops) (length B.even) (length B.odd) code shape z in
      let found = search_is K shape rec.members rec.yards links g.net code (true→t g.present) B d (tables hops even odd) is.0 in
      let far : e ≡ ecc (chart N) code =
      is.1 ∙ ecc_over K.words (few K shape) rec.members rec.yards links g.net code (true→t g.present) kept in
      ap (λ (x : ℕ). leaves (Ok (reach x d)) (tables hops even odd)) far
      ∙ ap₂ (λ (x : ℕ) (t : Tables). leaves (Ok (reach (ecc (chart N) code) x)) t) found.0 found.1
      ∙ done_leaves B _ z
