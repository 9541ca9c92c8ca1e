-- THE REPORT OF THE PATH OF SEVEN, in the published words, with the misreadings that it excludes; and that these words leave no second report.
-- The case rests on distances and eccentricities, not on `summary_is`. Assumes nothing.
use mathlib.Core.Path.{◌≡◌, refl, sym, ap, ◌∙◌}
use mathlib.Core.Bool.{Bool}
use mathlib.Core.List.{List, [], ◌∷◌, Memᴰ}
use Prim.Native.Nat.{ℕ, ◌+◌, ◌*◌, ◌<◌, ◌/◌}
use native.Mathlib.Omega.{arith}
use lib.Dec.{T, eqb, ltb}
use Rattle.std.proofs.lemmas.Nat.{div-mul-add}
use Rattle.lists.specs.Lists.{filterb, countb, sum_of}
use Rattle.lists.proofs.Tests.{true→t}
use Rattle.lists.proofs.Members.{filter_out}
use Rattle.lists.proofs.Counts.{count_ext}
use Rattle.graph.proofs.Summary.{sum_alike}
use Rattle.graph.specs.Network.{Network, delivers}
use Rattle.graph.specs.Distance.{dist}
use Rattle.graph.specs.Chart.{chart, ecc, count_pairs}
use Rattle.graph.specs.Correct.{IsNet}
use Rattle.graph.specs.Summary.{listed_by, IsSummary}
use Rattle.graph.specs.Cases.{path}
use Rattle.graph.proofs.Walks.{dist_unique}
use Rattle.graph.proofs.Charts.{greatest_unique}
use Rattle.graph.proofs.Delivers.{delivers_open}
use Rattle.graph.proofs.Theorems.{distance_is, eccentricity_is}
use Rattle.graph.proofs.Paths.{path_net}

-- The distances are 6 times 1, 5 times 2, .. once 6: 56 over 21 pairs, 2 each and 14 over. Eccentricities: 3 once; 4, 5 and 6 twice each.
-- Wrong: each pair counted twice, or from its lower code down; a depot as a pair with itself; the mean over depots; a remainder of 21 or more; the
-- counts of another row.
pub seven : IsSummary (path 7) (delivers (path 7)) 8 56 21 2 14 (λ e. countb (λ x. eqb e x) (6 ∷ 5 ∷ 4 ∷ 3 ∷ 4 ∷ 5 ∷ 6 ∷ []))
unfolding delivers path dist sum_of countb filterb chart ecc count_pairs
seven = record {
  distance = dist (path 7);
  is_dist = λ u v tu tv. distance_is (path 7) net u v (delivers_open (path 7) u tu) (delivers_open (path 7) v tv);
  is_sum = refl;
  are_pairs = refl;
  twice = refl;
  mean = refl;
  part = omega arith;
  eccentricity = ecc (chart (path 7));
  is_ecc = λ u tu. eccentricity_is (path 7) net u (delivers_open (path 7) u tu);
  counted = λ e l. refl;
  whole = refl;
}
  where
    net : IsNet (path 7)
    net = path_net 7 (omega arith)

-- no other numbers are. Wrong: any quotient whose product is not above the sum; counts of any depots
pub summary_only : (G : Network) (Q : ℕ → Bool) (limit : ℕ) {s p q r s' p' q' r' : ℕ} {c c' : ℕ → ℕ}
    → IsSummary G Q limit s p q r c → IsSummary G Q limit s' p' q' r' c' → (s ≡ s') × (p ≡ p') × (q ≡ q') × (r ≡ r') × ((e : ℕ) → e < limit → c e ≡ c' e)
summary_only G Q limit {s} {p} {q} {r} {s'} {p'} {q'} {r'} a b = (sums, pairs, quotients, remainders, λ e l. a.counted e l ∙ counts e ∙ sym (b.counted e l))
  where
    told : (v : ℕ) → Memᴰ v (listed_by Q G) → T (Q v)
    told v m = true→t (filter_out Q G.depots m).1

    sums : s ≡ s'
    sums =
        a.is_sum
        ∙ sum_alike (listed_by Q G) _ _ (λ u mu. sum_alike (filterb (λ v. ltb u v) (listed_by Q G)) (a.distance u) (b.distance u) (λ v mv.
        (let tv = told v (filter_out (λ w. ltb u w) (listed_by Q G) mv).0 in dist_unique (a.is_dist u v (told u mu) tv) (b.is_dist u v (told u mu) tv))))
        ∙ sym b.is_sum

    pairs : p ≡ p'
    pairs = a.are_pairs ∙ sym b.are_pairs

    quotients : q ≡ q'
    quotients =
        sym (div-mul-add q p r a.part)
        ∙ ap (λ (n : ℕ). n / p) (sym a.mean ∙ sums ∙ b.mean)
        ∙ ap (λ (n : ℕ). (q' * p' + r') / n) pairs
        ∙ div-mul-add q' p' r' b.part

    products : q * p ≡ q' * p'
    products = ap (λ (n : ℕ). n * p) quotients ∙ ap (λ (n : ℕ). q' * n) pairs

    remainders : r ≡ r'
    remainders = omega (arith, a.mean, b.mean, sums, products)

    counts : (e : ℕ) → countb (λ u. eqb e (a.eccentricity u)) (listed_by Q G) ≡ countb (λ u. eqb e (b.eccentricity u)) (listed_by Q G)
    counts e = count_ext _ _ (listed_by Q G) (λ u m. ap (λ (n : ℕ). eqb e n) (greatest_unique (a.is_ecc u (told u m)) (b.is_ecc u (told u m))))
