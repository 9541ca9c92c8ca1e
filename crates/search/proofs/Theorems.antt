-- THE THEOREMS of this crate: which refusal a search gives, and what an accepted one leaves, both by the published words. Assumes nothing.
use mathlib.Core.Path.{◌≡◌, refl, sym, ap, ◌∙◌, subst, fun_ext}
use mathlib.Core.Logic.{◌⊎◌, inl, inr, ◌↔◌}
use mathlib.Core.Bool.{Bool, true, false, not, cond, ◌&&◌, and_assoc, and-true as and-with-true}
use mathlib.Core.List.{List, [], ◌∷◌}
use Prim.Native.Nat.{ℕ, zero, suc, ◌-◌, ◌*◌, ◌%◌, ◌≤◌, ◌<◌}
use native.Mathlib.Nat.{lt_irrefl}
use native.Mathlib.Omega.{arith}
use lib.Dec.{T, eqb}
use lib.ListN.{length, get_or, take, drop}
use lib.Seq.{drop-append_seam}
use borrow.Author.Tests.{eqb-false, eq-eqb, ne_eqb}
use Rattle.std.proofs.lemmas.Bool.{cases_Bool, cases_lt}
use Rattle.lists.specs.Lists.{range, allb, mapl, overwrite}
use Rattle.lists.proofs.Tests.{true→t, false→not}
use Rattle.lists.proofs.Conditions.{all_fit, Tells, decides_test, decides_not, decides_short}
use Rattle.outcome.specs.Answers.{Left, leaves, unless}
use Rattle.outcome.proofs.Answers.{done_leaves, refuses_by}
use Rattle.std.specs.Prelude.{None, Ok}
use Rattle.lists.proofs.Fills.{length_fill, overwrite_length, fill_at}
use Rattle.graph.specs.Network.{Network, IsDist}
use Rattle.graph.specs.Distance.{unreached, dist}
use Rattle.graph.specs.Chart.{chart, ecc}
use Rattle.graph.specs.Correct.{IsNet}
use Rattle.graph.specs.Refusals.{IsAbsent}
use Rattle.graph.proofs.Walks.{walk_open}
use Rattle.graph.proofs.Connected.{hop_open, hop_closed}
use Rattle.graph.proofs.Theorems.{eccentricity_is}
use Rattle.rows.specs.Rows.{row_bit, encode_row}
use Rattle.rows.proofs.Written.{row_past, row_at, encode_row_length}
use Rattle.layers.specs.Layers.{depth_from, layer_bit, search_leaves, last_layer}
use Rattle.map.specs.Room.{Tables, long_enough}
use Rattle.layers.proofs.Theorems.{depth_is, depth_low, layer_is_lem}
use Rattle.map.specs.Memory.{Shape, places, IsShape, map_network, table_words}
use Rattle.map.proofs.Theorems.{network_open_below}
use Rattle.search.specs.SearchCall.{search_refusal, reach, search_call, search_sizes}
use Rattle.search.specs.Refusals.{search_buffers, search_conditions, SearchRefuses}
use Rattle.search.specs.Correct.{HoldsLayer, HoldsBefore, KeepsPast, IsSearch, SearchCorrect}
use Rattle.outcome.specs.Numbers.{absent_code}
use Rattle.layers.proofs.Parts.{part_is}
use Rattle.search.proofs.Accepts.{granted}
use Rattle.lent_map.specs.Faults.{lent_faults}
use Rattle.lent_map.proofs.Refuses.{lent_tells}
use Rattle.search.specs.declared.Reach.{Reach}
use native.Mathlib.Nat.{le_refl}
use borrow.Author.Tests.{le-leb}

-- ---- WHICH REFUSAL

-- the test of the sizes, and the condition's
room_is : (K : Shape) (links : List ℕ) (B : Tables)
    → long_enough K (search_sizes K (length links) (length B.hops) (length B.even) (length B.odd)) ≡ all_fit (search_buffers K links B)
unfolding long_enough allb
room_is K links B = simp (le-leb (table_words K) (table_words K) (le_refl (table_words K)), le-leb (places K) (places K) (le_refl (places K)), and_assoc, and-with-true)

pub search_refusals : (K : Shape) → IsShape K → SearchRefuses K (search_call K)
unfolding search_call search_refusal lent_faults allb
search_refusals K shape rec links B code =
    let G = map_network K rec links in
    let b = G.is_open code in
    let test : List (Bool × ℕ) = (not b, absent_code) ∷ [] in
    let absent : Tells test ((IsAbsent G code, absent_code) ∷ []) = (refl, decides_not b (decides_test b), λ g. tt) in
    refuses_by _ (search_conditions K rec links B code)
    (lent_tells K shape (long_enough K (search_sizes K (length links) (length B.hops) (length B.even) (length B.odd))) false (search_buffers K links B)
    (rw (← room_is K links B) at (decides_short (search_buffers K links B))) rec links [] test ((IsAbsent G code, absent_code) ∷ []) absent)
    refl B _ refl

-- ---- WHAT AN ACCEPTED SEARCH LEAVES

-- a first part written over a buffer keeps its size and the rest
pub over_keeps : (n : ℕ) (new old : List ℕ) → length new ≡ n → n ≤ length old → KeepsPast n old (overwrite new old)
unfolding overwrite
over_keeps n new old e l = record {
  size = overwrite_length new old (omega (arith, e, l));
  past = subst (λ (k : ℕ). drop k (overwrite new old) ≡ drop k old) e (drop-append_seam new (drop (length new) old));
}

-- the part of a row holds what the row holds
part_holds : (W : ℕ) (G : Network) (s d : ℕ) (row : List ℕ) → HoldsLayer W G s d row → HoldsLayer W G s d (take W row)
part_holds W G s d row h v = subst (λ (b : Bool). T b ↔ IsDist G s v d) (sym (part_is W row v)) (h v)

-- by the parity, the last layer is a part of the one row or of the other
last_by : (W d : ℕ) (even odd : List ℕ) (P : List ℕ → Type 0) → (eqb (d % 2) 0 ≡ true → P (take W even)) → (eqb (d % 2) 1 ≡ true → P (take W odd)) → P (last_layer W d even odd)
unfolding last_layer
last_by W d even odd P p q = go (cases_Bool (eqb (d % 2) 0))
  where
    go : (eqb (d % 2) 0 ≡ true) ⊎ (eqb (d % 2) 0 ≡ false) → P (take W (cond (eqb (d % 2) 0) even odd))
    go (inl t) = subst (λ (b : Bool). P (take W (cond b even odd))) (sym t) (p t)
    go (inr f) =
        let n : d % 2 ≡ 1 = omega (arith, eqb-false (d % 2) 0 f) in
        subst (λ (b : Bool). P (take W (cond b even odd))) (sym f) (q (eq-eqb (d % 2) 1 n))

module _ (W : ℕ) (G : Network) (net : IsNet G) (inside : (v : ℕ) → T (G.is_open v) → v < 64 * W) (s : ℕ) (o : T (G.is_open s)) where
  -- a row written with the depots at distance k holds exactly those, codes past the row included
  holds_layer : (k : ℕ) (old : List ℕ) → k < unreached → HoldsLayer W G s k (overwrite (encode_row W (λ x. eqb (dist G s x) k)) old)
  holds_layer k old low v = go (cases_lt v (64 * W))
    where
      row : List ℕ
      row = overwrite (encode_row W (λ x. eqb (dist G s x) k)) old

      go : (v < 64 * W) ⊎ (64 * W ≤ v) → T (row_bit W row v) ↔ IsDist G s v k
      go (inl l) = layer_is_lem G net s o W k old low v l
      go (inr l) = (
        λ t. absurd (false→not (row_past W row v l) t),
        λ d. let b : v < 64 * W = inside v (walk_open net.sound o d.walk) in absurd (lt_irrefl v (omega (arith, b, l))),
      )

  -- the row of the last layer's parity, and the other
  row_last : (e parity : ℕ) (old : List ℕ) → e < unreached → eqb (e % 2) parity ≡ true → HoldsLayer W G s e (overwrite (encode_row W (layer_bit (dist G s) e parity)) old)
  unfolding layer_bit
  row_last e parity old low q =
      subst (λ (f : ℕ → Bool). HoldsLayer W G s e (overwrite (encode_row W f) old))
      (ap {B = ℕ → Bool} (λ (b : Bool) (v : ℕ). cond b (eqb (dist G s v) e) (not (eqb e 0) && eqb (dist G s v) (e - 1))) (sym q))
      (holds_layer e old low)

  row_before : (e parity : ℕ) (old : List ℕ) → e < unreached → eqb (e % 2) parity ≡ false → HoldsBefore W G s e (overwrite (encode_row W (layer_bit (dist G s) e parity)) old)
  unfolding layer_bit
  row_before zero parity old low q = λ v. go v (cases_lt v (64 * W))
    where
      row : List ℕ
      row = overwrite (encode_row W (layer_bit (dist G s) zero parity)) old

      go : (v : ℕ) → (v < 64 * W) ⊎ (64 * W ≤ v) → row_bit W row v ≡ false
      go v (inl l) = row_at W (layer_bit (dist G s) zero parity) old v l ∙ ap (λ (b : Bool). cond b (eqb (dist G s v) 0) false) q
      go v (inr l) = row_past W row v l
  row_before (suc k) parity old low q =
      let z : eqb (suc k) 0 ≡ false = ne_eqb (suc k) 0 (λ p. omega (arith, p)) in
      let m : suc k - 1 ≡ k = omega arith in
      let is : layer_bit (dist G s) (suc k) parity ≡ (λ v. eqb (dist G s v) k) = fun_ext (λ v. rw (q, z, m)) in
      subst (λ (f : ℕ → Bool). HoldsLayer W G s k (overwrite (encode_row W f) old)) (sym is) (holds_layer k old (omega (arith, low)))

module _ (K : Shape) (G : Network) (net : IsNet G) (inside : (v : ℕ) → T (G.is_open v) → v < places K) (s : ℕ) (o : T (G.is_open s)) (B : Tables)
    (hops-fit : places K ≤ length B.hops) (even-fit : K.words ≤ length B.even) (odd-fit : K.words ≤ length B.odd) where
  -- what a search from s leaves, in any network that a map of this shape can hold
  pub leaves_search : IsSearch K G s B (reach (ecc (chart G) s) (depth_from G s)) (search_leaves K.words G s B)
  unfolding search_leaves
  leaves_search = record {
    is_ecc = eccentricity_is G net s o;
    is_depth = depth_is G net s o;
    is_hop = λ v ov. subst (λ (d : ℕ). IsDist G s v d) (sym (hop v (inside v ov))) (hop_open G net s o v ov);
    closed = λ v l c. hop v l ∙ hop_closed G net s o v c;
    even_last = λ q. (last 0 B.even (eq-eqb (d % 2) 0 q), before 1 B.odd (ne_eqb (d % 2) 1 (λ p. omega (arith, p, q))));
    odd_last = λ q. (last 1 B.odd (eq-eqb (d % 2) 1 q), before 0 B.even (ne_eqb (d % 2) 0 (λ p. omega (arith, p, q))));
    part =
        last_by K.words d _ _ (HoldsLayer K.words G s d)
        (λ q. part_holds K.words G s d _ (last 0 B.even q))
        (λ q. part_holds K.words G s d _ (last 1 B.odd q));
    hops_kept = over_keeps (places K) (mapl (dist G s) (range (places K))) B.hops (length_fill (dist G s) (places K)) hops-fit;
    even_kept = over_keeps K.words (encode_row K.words (bits 0)) B.even (encode_row_length K.words (bits 0)) even-fit;
    odd_kept = over_keeps K.words (encode_row K.words (bits 1)) B.odd (encode_row_length K.words (bits 1)) odd-fit;
  }
    where
      d : ℕ
      d = depth_from G s

      bits : ℕ → ℕ → Bool
      bits parity = layer_bit (dist G s) d parity

      hop : (v : ℕ) → v < places K → get_or (overwrite (mapl (dist G s) (range (places K))) B.hops) v 0 ≡ dist G s v
      hop v l = fill_at (dist G s) B.hops (places K) v 0 l

      last : (parity : ℕ) (old : List ℕ) → eqb (d % 2) parity ≡ true → HoldsLayer K.words G s d (overwrite (encode_row K.words (bits parity)) old)
      last parity old q = row_last K.words G net inside s o d parity old (depth_low G net s o) q

      before : (parity : ℕ) (old : List ℕ) → eqb (d % 2) parity ≡ false → HoldsBefore K.words G s d (overwrite (encode_row K.words (bits parity)) old)
      before parity old q = row_before K.words G net inside s o d parity old (depth_low G net s o) q

pub search_correct : (K : Shape) → IsShape K → SearchCorrect K
unfolding search_call unless
search_correct K shape rec links B code z =
    let G = map_network K rec links in
    let g = granted K rec links (length B.hops) (length B.even) (length B.odd) code shape (sym z) in
    let r = reach (ecc (chart G) code) (depth_from G code) in
    subst (λ (left : Left Reach Tables). (r : Reach) × (left.answer ≡ Ok r) × IsSearch K G code B r left.lent)
    (done_leaves B (leaves (Ok r) (search_leaves K.words G code B)) (sym z))
    (r, refl, leaves_search K G g.net (network_open_below K.words rec.members links) code (true→t g.present) B g.long.hops g.long.even g.long.odd)
