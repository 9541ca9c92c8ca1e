-- WHAT A CALLER HAS: the refusals 5 to 8 look neither at links nor at yards, and the linked table is the network with the new depot. Assumes nothing.
use mathlib.Core.Path.{◌≡◌, refl, sym, ap, ◌∙◌, fun_ext}
use mathlib.Core.Logic.{◌⊎◌, inl, inr}
use mathlib.Core.Bool.{Bool, true, false, ◌&&◌, ◌||◌}
use mathlib.Core.List.{List, [], ◌∷◌}
use Prim.Native.Nat.{ℕ, suc, ◌*◌, ◌<◌}
use native.Mathlib.Omega.{arith}
use lib.Dec.{T, eqb}
use lib.ListN.{length, get_or}
use borrow.Author.Tests.{eqb-true}
use Rattle.std.proofs.lemmas.Bool.{and_parts, or_cases}
use Rattle.lists.specs.Lists.{range, filterb, anyb, memb, insert_by, overwrite}
use Rattle.lists.proofs.Tests.{t→true, true→t, clash}
use Rattle.lists.proofs.Distinct.{insert_filter}
use Rattle.graph.specs.Opening.{notice_of, open_faults, by_code, with_depot}
use Rattle.rows.specs.Rows.{row_bit, table_bit, encode_table}
use Rattle.rows.proofs.Written.{table_within}
use Rattle.map.specs.Memory.{network_of, yard_network}
use Rattle.map.proofs.Theorems.{network_linked_below}

-- `notice_refusal` is lent no links and no yards, and is not told whether a yard is to open: its answer is that of the map with any, for either
pub faults_any : (W : ℕ) (members yards links : List ℕ) (y : Bool) (code : ℕ) (ns : List ℕ)
    → open_faults (network_of W members []) (notice_of false code ns) ≡ open_faults (yard_network W members yards links) (notice_of y code ns)
unfolding open_faults network_of
faults_any W members yards links y code ns = refl

-- what `link_depot` encodes is the links of the network with the new depot
pub linked_is : (W : ℕ) (members yards links : List ℕ) (y : Bool) (code : ℕ) (ns : List ℕ)
    → (with_depot (yard_network W members yards links) (notice_of y code ns)).linked
    ≡ (λ u v. (eqb u code && memb v ns) || (eqb v code && memb u ns) || table_bit W links u v)
unfolding with_depot network_of
linked_is W members yards links y code ns = refl

-- ---- the network after an opening

-- a member of a list of low numbers is low
memb_below : (n v : ℕ) (ns : List ℕ) → ((k : ℕ) → k < length ns → get_or ns k 0 < n) → memb v ns ≡ true → v < n
unfolding memb anyb
memb_below n v [] h e = absurd (clash e refl)
memb_below n v (x ∷ xs) h e = go (or_cases (eqb v x) (memb v xs) e) (memb_below n v xs (λ k l. h (suc k) (omega arith)))
  where
    go : (eqb v x ≡ true) ⊎ (memb v xs ≡ true) → (memb v xs ≡ true → v < n) → v < n
    go (inl q) rest = let l : x < n = h 0 (omega arith) in omega (arith, eqb-true v x q)
    go (inr m) rest = rest m

module _ (W code : ℕ) (ns : List ℕ) (low : code < 64 * W) (lows : (k : ℕ) → k < length ns → get_or ns k 0 < 64 * W) where
  -- every link lies within the table
  link_below : (u v : ℕ) → (eqb u code && memb v ns) ≡ true → (u < 64 * W) × (v < 64 * W)
  link_below u v e =
      let b = and_parts (eqb u code) (memb v ns) e in
      (omega (arith, eqb-true u code b.0), memb_below (64 * W) v ns lows b.1)

  links_below : (links : List ℕ) (u v : ℕ) → T ((eqb u code && memb v ns) || (eqb v code && memb u ns) || table_bit W links u v) → (u < 64 * W) × (v < 64 * W)
  unfolding network_of
  links_below links u v t = go (or_cases _ (table_bit W links u v) (t→true _ t))
    where
      new : ((eqb u code && memb v ns) ≡ true) ⊎ ((eqb v code && memb u ns) ≡ true) → (u < 64 * W) × (v < 64 * W)
      new (inl e) = link_below u v e
      new (inr e) = let l = link_below v u e in (l.1, l.0)

      go : (((eqb u code && memb v ns) || (eqb v code && memb u ns)) ≡ true) ⊎ (table_bit W links u v ≡ true) → (u < 64 * W) × (v < 64 * W)
      go (inl e) = new (or_cases (eqb u code && memb v ns) (eqb v code && memb u ns) e)
      go (inr e) = network_linked_below W [] links u v (true→t e)

  -- THE NEW NETWORK: an open set with the code put, a yard set with it too where a yard opens, and the table that `link_depot` leaves
  pub linked_after : (members after yards marked links left : List ℕ) (y : Bool) → row_bit W members code ≡ false
      → ((v : ℕ) → row_bit W after v ≡ (eqb v code || row_bit W members v))
      → ((v : ℕ) → row_bit W marked v ≡ ((y && eqb v code) || row_bit W yards v))
      → left ≡ overwrite (encode_table W (λ u v. (eqb u code && memb v ns) || (eqb v code && memb u ns) || table_bit W links u v)) links
      → yard_network W after marked left ≡ with_depot (yard_network W members yards links) (notice_of y code ns)
  unfolding with_depot network_of
  linked_after members after yards marked links left y new h m e =
      λ i. record { depots = listed i; is_open = λ c. h c i; is_yard = λ c. m c i; linked = joined i }
    where
      listed : filterb (row_bit W after) (range (64 * W)) ≡ insert_by by_code code (filterb (row_bit W members) (range (64 * W)))
      listed = ap (λ (p : ℕ → Bool). filterb p (range (64 * W))) (fun_ext h) ∙ sym (insert_filter (row_bit W members) code new (64 * W) (omega arith))

      joined : table_bit W left ≡ (λ u v. (eqb u code && memb v ns) || (eqb v code && memb u ns) || table_bit W links u v)
      joined = ap (table_bit W) e ∙ fun_ext (λ u. fun_ext (λ v. table_within W _ links (links_below links) u v))
