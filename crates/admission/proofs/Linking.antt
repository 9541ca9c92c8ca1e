-- A depot linked to its neighbours one by one: the table after some of them, at the start, a turn and the end of the loop. Assumes nothing.
use mathlib.Core.Path.{◌≡◌, refl, sym, ap, ◌∙◌}
use mathlib.Core.Bool.{Bool, true, false, cond, ◌&&◌, ◌||◌}
use mathlib.Core.List.{List, []}
use Prim.Native.Nat.{ℕ, suc, ◌+◌, ◌*◌, ◌^◌, ◌≤◌, ◌<◌}
use native.Mathlib.Omega.{arith}
use lib.Dec.{eqb}
use lib.ListN.{length, get_or, take}
use lib.Seq.{take_all, take-suc}
use Rattle.lists.specs.Lists.{memb, overwrite}
use Rattle.lists.proofs.Members.{memb_snoc}
use Rattle.rows.specs.Rows.{table_bit, encode_table, put_bit, InTable}
use Rattle.rows.proofs.Places.{row_fits}
use Rattle.rows.proofs.Wholes.{table_whole, encode_table_ext}
use Rattle.rows.proofs.Puts.{put_table}

-- the links f with those of a to each of ms, and from each of ns
abbrev joined : ℕ → List ℕ → List ℕ → (ℕ → ℕ → Bool) → ℕ → ℕ → Bool
joined a ms ns f u v = (eqb u a && memb v ms) || (eqb v a && memb u ns) || f u v

-- the table that the loop has made of old when a is linked to each of ns
abbrev pub with_links : ℕ → ℕ → List ℕ → List ℕ → List ℕ
with_links W a ns old = overwrite (encode_table W (joined a ns ns (table_bit W old))) old

pub linked_start : (W a : ℕ) (ns old : List ℕ) → W * (64 * W) ≤ length old → ((i : ℕ) → i < W * (64 * W) → get_or old i 0 < 2 ^ 64) → old ≡ with_links W a (take 0 ns) old
unfolding memb
linked_start W a ns old l fits =
    table_whole W old l fits
    ∙ ap (λ (t : List ℕ). overwrite t old) (encode_table_ext W (table_bit W old) (joined a [] [] (table_bit W old)) (λ u v h k. go (eqb u a) (eqb v a) (table_bit W old u v)))
  where
    go : (x y z : Bool) → z ≡ ((x && false) || (y && false) || z)
    go true true z = refl
    go true false z = refl
    go false true z = refl
    go false false z = refl

-- ---- a turn: a bit each way

-- a buffer as long as one that holds a table has each row of it
pub in_table : (W u v n : ℕ) (l : List ℕ) → W * (64 * W) ≤ n → length l ≡ n → u < 64 * W → v < 64 * W → InTable W l u v
in_table W u v n l h e lu lv = record { row = row_fits W u (length l) lu (omega arith); below = lu; column = lv }

-- c and d say that this is the bit, m tests the neighbours so far, r and x are the rest
put_there : (c d m r x : Bool) → cond (c && d) true ((c && m) || r || x) ≡ ((c && (m || d)) || r || x)
put_there false d m r x = refl
put_there true true true r x = refl
put_there true true false r x = refl
put_there true false true r x = refl
put_there true false false r x = refl

put_back : (y a b n x : Bool) → cond (a && b) true (y || (b && n) || x) ≡ (y || (b && (n || a)) || x)
put_back true true true n x = refl
put_back true true false n x = refl
put_back true false b n x = refl
put_back false true false n x = refl
put_back false false false n x = refl
put_back false true true true x = refl
put_back false true true false x = refl
put_back false false true true x = refl
put_back false false true false x = refl

memb-take : (v : ℕ) (ns : List ℕ) (i : ℕ) → i < length ns → memb v (take (i + 1) ns) ≡ (memb v (take i ns) || eqb v (get_or ns i 0))
memb-take v ns i l =
    let e : i + 1 ≡ suc i = omega arith in
    ap (λ (k : ℕ). memb v (take k ns)) e
    ∙ ap (λ (ms : List ℕ). memb v ms) (take-suc ns i 0 l)
    ∙ memb_snoc v (take i ns) (get_or ns i 0)

pub linked_turn : (W a : ℕ) (ns old : List ℕ) (i : ℕ) {l m r : List ℕ} → l ≡ with_links W a (take i ns) old → m ≡ put_bit W a (get_or ns i 0) true l → r ≡ put_bit W (get_or ns i 0) a true m
    → i < length ns → a < 64 * W → get_or ns i 0 < 64 * W → r ≡ with_links W a (take (i + 1) ns) old
linked_turn W a ns old i e e₁ e₂ h la ln =
    e₂
    ∙ ap (λ (t : List ℕ). put_bit W n a true t) (e₁ ∙ ap (λ (t : List ℕ). put_bit W a n true t) e ∙ put_table W a n true (joined a (take i ns) (take i ns) f) old la ln ∙ again there)
    ∙ put_table W n a true (joined a (take (i + 1) ns) (take i ns) f) old ln la
    ∙ again back
  where
    n : ℕ
    n = get_or ns i 0

    f : ℕ → ℕ → Bool
    f = table_bit W old

    again : {g k : ℕ → ℕ → Bool} → ((u v : ℕ) → u < 64 * W → v < 64 * W → g u v ≡ k u v) → overwrite (encode_table W g) old ≡ overwrite (encode_table W k) old
    again {g} {k} s = ap (λ (t : List ℕ). overwrite t old) (encode_table_ext W g k s)

    more : (v : ℕ) → (memb v (take i ns) || eqb v n) ≡ memb v (take (i + 1) ns)
    more v = sym (memb-take v ns i h)

    there : (u v : ℕ) → u < 64 * W → v < 64 * W → cond (eqb u a && eqb v n) true (joined a (take i ns) (take i ns) f u v) ≡ joined a (take (i + 1) ns) (take i ns) f u v
    there u v lu lv =
        put_there (eqb u a) (eqb v n) (memb v (take i ns)) (eqb v a && memb u (take i ns)) (f u v)
        ∙ ap (λ (m : Bool). (eqb u a && m) || (eqb v a && memb u (take i ns)) || f u v) (more v)

    back : (u v : ℕ) → u < 64 * W → v < 64 * W → cond (eqb u n && eqb v a) true (joined a (take (i + 1) ns) (take i ns) f u v) ≡ joined a (take (i + 1) ns) (take (i + 1) ns) f u v
    back u v lu lv =
        put_back (eqb u a && memb v (take (i + 1) ns)) (eqb u n) (eqb v a) (memb u (take i ns)) (f u v)
        ∙ ap (λ (m : Bool). (eqb u a && memb v (take (i + 1) ns)) || (eqb v a && m) || f u v) (more u)

-- ---- the end

pub linked_end : (W a : ℕ) (ns old l : List ℕ) (i : ℕ) → l ≡ with_links W a (take i ns) old → length ns ≤ i → l ≡ with_links W a ns old
linked_end W a ns old l i e h = e ∙ ap (λ (ms : List ℕ). with_links W a ms old) (take_all i ns h)

-- the loop over the neighbours
pub ruleset linking = (linked_start, linked_turn, linked_end)

-- ---- two codes linked

both_bits : (a b c d x : Bool) → cond (c && d) true (cond (a && b) true x) ≡ ((a && b) || (d && c) || x)
both_bits true true true true x = refl
both_bits true true true false x = refl
both_bits true true false true x = refl
both_bits true true false false x = refl
both_bits true false true true x = refl
both_bits true false true false x = refl
both_bits true false false true x = refl
both_bits true false false false x = refl
both_bits false b true true x = refl
both_bits false b true false x = refl
both_bits false b false true x = refl
both_bits false b false false x = refl

pub codes_linked : (W a b : ℕ) (old : List ℕ) {m r : List ℕ} → W * (64 * W) ≤ length old → ((i : ℕ) → i < W * (64 * W) → get_or old i 0 < 2 ^ 64) → a < 64 * W → b < 64 * W
    → m ≡ put_bit W a b true old → r ≡ put_bit W b a true m → r ≡ overwrite (encode_table W (λ u v. (eqb u a && eqb v b) || (eqb v a && eqb u b) || table_bit W old u v)) old
codes_linked W a b old l fits la lb e₁ e₂ =
    e₂
    ∙ ap (put_bit W b a true) (e₁ ∙ ap (put_bit W a b true) (table_whole W old l fits) ∙ put_table W a b true (table_bit W old) old la lb)
    ∙ put_table W b a true (λ u v. cond (eqb u a && eqb v b) true (table_bit W old u v)) old lb la
    ∙ ap (λ (t : List ℕ). overwrite t old)
    (encode_table_ext W _ (λ u v. (eqb u a && eqb v b) || (eqb v a && eqb u b) || table_bit W old u v) (λ u v lu lv. both_bits (eqb u a) (eqb v b) (eqb u b) (eqb v a) (table_bit W old u v)))
