-- THE SAME NETWORK UNDER OTHER NAMES: distances, figures, the reckoning and every update agree. Assumes nothing.
use mathlib.Core.Path.{◌≡◌, refl, sym, ap, ap₂, ◌∙◌, subst}
use mathlib.Core.Logic.{◌⊎◌, inl, inr, ◌↔◌}
use mathlib.Core.Bool.{Bool, true, false, cond, not, ◌&&◌, ◌||◌}
use mathlib.Core.List.{List, [], ◌∷◌, Memᴰ}
use Prim.Native.Nat.{ℕ, zero, suc, ◌+◌, ◌<◌}
use native.Mathlib.Nat.{lt_irrefl, lt_trans, le_of_lt}
use native.Mathlib.Omega.{arith}
use lib.Dec.{T, eqb, ltb, lit<}
use lib.ListN.{length}
use borrow.Author.Tests.{ltb-true, eqb-true, eq-eqb}
use Rattle.std.proofs.lemmas.Bool.{or_cases, or_left}
use Rattle.lists.specs.Lists.{countb, sum_of, mapl, memb, first_of}
use Rattle.lists.specs.Rising.{rises_by}
use Rattle.lists.proofs.Tests.{t→true, true→t, clash, not→false, same_test}
use Rattle.lists.proofs.Members.{first_zero}
use Rattle.lists.proofs.Fills.{length_mapl}
use Rattle.lists.proofs.Rising.{rises_filter, rises_unique, insert_rises, rises_keys}
use Rattle.lists.proofs.Renamed.{map_in, map_out, map_any, map_all, map_count, map_sum, map_ext, map-map}
use Rattle.lists.proofs.Sums.{sum_either}
use Rattle.graph.specs.Network.{Network, IsSound, Walk, stay, step, IsDist, delivers, IsDiameter, AreTrue}
use Rattle.graph.specs.Distance.{vertices, unreached, next_hop, hops, dist, reached_all, connected}
use Rattle.graph.specs.Chart.{Chart, chart, diameter, Pairs, farthest, count_pairs}
use Rattle.graph.specs.Rounds.{State, reckon}
use Rattle.graph.specs.Opening.{add_depot, by_code, with_depot, notice_faults, open_faults, Opened}
use Rattle.graph.specs.Linking.{add_link}
use Rattle.graph.specs.Closing.{remove_depot}
use Rattle.graph.specs.Correct.{IsNet, AreSound}
use Rattle.graph.specs.Updates.{Update, opens, joins, update_faults, applied}
use Rattle.graph.specs.Renaming.{IsRelabelled, either, SamePairs, HaveSameDistances, HaveSameFigures, AreAlike, AreOpenedAlike}
use Rattle.graph.proofs.Distances.{vertices_in, vertices_out}
use Rattle.graph.proofs.Delivers.{delivers_open}
use Rattle.graph.proofs.Charts.{depot_in, chart_metric}
use Rattle.graph.proofs.Theorems.{diameter_is, farthest_is, true_chain, true_pairs, reckoning_correct}
use Rattle.graph.proofs.SoundFigures.{SoundIn}
use Rattle.graph.proofs.Updates.{sound_in}
use Rattle.graph.proofs.Closed.{true_sound}
use Rattle.graph.proofs.Renamed.{IsRenamed, either_rising, ecc_renamed, greatest_renamed, Alike, OpenedAlike, reckon_alike}

-- the farthest pairs of a network in either order
either-farthest : (N : Network) → IsNet N → (u v : ℕ) → T (N.is_open u) → T (N.is_open v)
    → either (farthest N) u v ≡ (not (eqb u v) && (delivers N u && (delivers N v && eqb (dist N u v) (diameter N))))
unfolding farthest chart
either-farthest N net u v ou ov =
    ap (λ (d : ℕ). (ltb u v && delivers N u && delivers N v && eqb (dist N u v) (diameter N)) || (ltb v u && delivers N v && delivers N u && eqb d (diameter N)))
    ((chart_metric N net).symmetric v u (depot_in N net v ov) (depot_in N net u ou))
    ∙ either_rising u v (delivers N u) (delivers N v) (eqb (dist N u v) (diameter N))

-- the pairs of sound figures are told one way round
rising : (C : Chart) (c : ℕ) (P : Pairs) → SoundIn C unreached c P → (u v : ℕ) → P u v ≡ true → u < v
rising C c P s u v h = ltb-true u v (s.pairs u v h).0

module _ (G H : Network) (sound : IsSound G) (sound' : IsSound H) (f : ℕ → ℕ) (re : IsRelabelled G H f) where
  abbrev Open : ℕ → Type 0
  Open v = T (G.is_open v)

  -- ---- the open depots of H are those of G, renamed

  pub renamed_open : (v : ℕ) → Open v → T (H.is_open (f v))
  renamed_open v o = vertices_out H sound' (subst (λ (l : List ℕ). Memᴰ (f v) l) (sym re.depots) (map_in f (vertices G) (vertices_in G sound v o)))

  pub renamed_from : (w : ℕ) → T (H.is_open w) → (v : ℕ) × Open v × (w ≡ f v)
  renamed_from w o =
      let r = map_out f (vertices G) (subst (λ (l : List ℕ). Memᴰ w l) re.depots (vertices_in H sound' w o)) in
      (r.0, vertices_out G sound r.1, r.2)

  pub same_name : (u v : ℕ) → Open u → Open v → eqb (f u) (f v) ≡ eqb u v
  same_name u v ou ov = same_test (eqb (f u) (f v)) (eqb u v) (λ h. eq-eqb u v (re.apart u v ou ov (eqb-true (f u) (f v) h))) (λ h. eq-eqb (f u) (f v) (ap f (eqb-true u v h)))

  pub same_count : length (vertices H) ≡ length (vertices G)
  same_count = ap length re.depots ∙ length_mapl f (vertices G)

  -- ---- distances: layer by layer, and by walks

  hops_renamed : (u k v : ℕ) → Open u → Open v → hops (mapl f (vertices G)) H.linked (f u) k (f v) ≡ hops (vertices G) G.linked u k v
  unfolding hops next_hop
  hops_renamed u zero v ou ov = ap (λ (b : Bool). cond b 0 unreached) (same_name u v ou ov)
  hops_renamed u (suc k) v ou ov =
      ap₂ (λ (n : ℕ) (b : Bool). cond (ltb n unreached) n (cond b (suc k) unreached)) (hops_renamed u k v ou ov)
      (map_any f (λ w. eqb (hops (vertices G) G.linked u k w) k && G.linked w v) (λ w. eqb (hops (mapl f (vertices G)) H.linked (f u) k w) k && H.linked w (f v)) (vertices G)
      (λ w m. let ow = vertices_out G sound m in ap₂ (λ (n : ℕ) (b : Bool). eqb n k && b) (hops_renamed u k w ou ow) (re.linked w v ow ov)))

  pub dist_renamed : (u v : ℕ) → Open u → Open v → dist H (f u) (f v) ≡ dist G u v
  unfolding dist
  dist_renamed u v ou ov =
      ap (λ (vs : List ℕ). hops vs H.linked (f u) (length vs) (f v)) re.depots
      ∙ ap (λ (n : ℕ). hops (mapl f (vertices G)) H.linked (f u) n (f v)) (length_mapl f (vertices G))
      ∙ hops_renamed u (length (vertices G)) v ou ov

  pub walk_renamed : {k u v : ℕ} → Open u → Walk G k u v → Walk H k (f u) (f v)
  walk_renamed o stay = stay
  walk_renamed o (step {u = u} {v = v} l p) =
      let ov = sound.ends u v l in
      step (true→t (re.linked u v o ov ∙ t→true (G.linked u v) l)) (walk_renamed ov p)

  walk_back : {k x w : ℕ} → (u : ℕ) → Open u → x ≡ f u → Walk H k x w → (v : ℕ) × Open v × (w ≡ f v) × Walk G k u v
  walk_back u o e stay = (u, o, e, stay)
  walk_back u o e (step {u = x} {v = y} l p) =
      let s = renamed_from y (sound'.ends x y l) in
      let m : G.linked u s.0 ≡ true = sym (re.linked u s.0 o s.1) ∙ ap₂ H.linked (sym e) (sym s.2) ∙ t→true (H.linked x y) l in
      let r = walk_back s.0 s.1 s.2 p in
      (r.0, r.1, r.2, step (true→t m) r.3)

  walk_from : {k u v : ℕ} → Open u → Open v → Walk H k (f u) (f v) → Walk G k u v
  walk_from {k} {u} {v} ou ov p = let r = walk_back u ou refl p in subst (λ (w : ℕ). Walk G k u w) (sym (re.apart v r.0 ov r.1 r.2)) r.3

  is_dist_renamed : (u v d : ℕ) → Open u → Open v → IsDist G u v d ↔ IsDist H (f u) (f v) d
  is_dist_renamed u v d ou ov = (
    λ p. record { walk = walk_renamed ou p.walk; least = λ k q. p.least k (walk_from ou ov q) },
    λ p. record { walk = walk_from ou ov p.walk; least = λ k q. p.least k (walk_renamed ou q) },
  )

  connected_renamed : connected H ≡ connected G
  unfolding connected reached_all mapl
  connected_renamed = ap (reached_all H) re.depots ∙ go (vertices G) (λ v m. vertices_out G sound m)
    where
      go : (vs : List ℕ) → ((v : ℕ) → Memᴰ v vs → Open v) → reached_all H (mapl f vs) ≡ reached_all G vs
      go [] all = refl
      go (r ∷ vs) all =
          map_all f (λ v. ltb (dist G r v) unreached) (λ v. ltb (dist H (f r) v) unreached) vs
          (λ v m. ap (λ (n : ℕ). ltb n unreached) (dist_renamed r v (all r (Memᴰ.head refl)) (all v (Memᴰ.tail m))))

  -- THE SAME DISTANCES
  pub relabelled_distances : HaveSameDistances G H f
  relabelled_distances = record { distance = dist_renamed; is_dist = is_dist_renamed; connected = connected_renamed }

  -- ---- the charts differ by the renaming

  delivers_renamed : (v : ℕ) → Open v → delivers H (f v) ≡ delivers G v
  unfolding delivers
  delivers_renamed v o = ap₂ (λ (a b : Bool). a && not b) (t→true (H.is_open (f v)) (renamed_open v o) ∙ sym (t→true (G.is_open v) o)) (re.yard v o)

  pub chart_renamed : IsRenamed (chart G) (chart H) f
  unfolding chart
  chart_renamed = record {
    depots = re.depots;
    destination = λ v m. delivers_renamed v (vertices_out G sound m);
    degree = λ u m.
        ap (countb (H.linked (f u))) re.depots
        ∙ map_count f (G.linked u) (H.linked (f u)) (vertices G) (λ v n. re.linked u v (vertices_out G sound m) (vertices_out G sound n));
    distance = λ u v mu mv. dist_renamed u v (vertices_out G sound mu) (vertices_out G sound mv);
    apart = λ u v mu mv. re.apart u v (vertices_out G sound mu) (vertices_out G sound mv);
  }

  module _ (net : IsNet G) where
    pub renamed_net : IsNet H
    renamed_net = record {
      sound = sound';
      connected = λ x y ox oy.
          let r = renamed_from x ox in
          let s = renamed_from y oy in
          let p = net.connected r.0 s.0 r.1 s.1 in
          (p.0, subst (λ (w : ℕ). Walk H p.0 w y) (sym r.2) (subst (λ (w : ℕ). Walk H p.0 (f r.0) w) (sym s.2) (walk_renamed r.1 p.1)));
      small = rw same_count net.small;
    }

    -- THE SAME FIGURES
    pub relabelled_figures : HaveSameFigures G H f
    unfolding diameter
    relabelled_figures = record {
      eccentricity = λ u o. ecc_renamed (chart G) (chart H) f chart_renamed u (depot_in G net u o);
      diameter = greatest_renamed (chart G) (chart H) f chart_renamed;
      farthest = far;
    }
      where
        far : SamePairs G f (farthest G) (farthest H)
        far u v ou ov =
            either-farthest H renamed_net (f u) (f v) (renamed_open u ou) (renamed_open v ov)
            ∙ rw (same_name u v ou ov, delivers_renamed u ou, delivers_renamed v ov, dist_renamed u v ou ov, greatest_renamed (chart G) (chart H) f chart_renamed) refl
            ∙ sym (either-farthest G net u v ou ov)

    -- ---- the number of pairs

    pub count_renamed : (P Q : Pairs) → ((u v : ℕ) → P u v ≡ true → u < v) → ((u v : ℕ) → Q u v ≡ true → u < v) → SamePairs G f P Q → count_pairs (vertices H) Q ≡ count_pairs (vertices G) P
    unfolding count_pairs
    count_renamed P Q p q same =
        let a : sum_of (λ u. countb (λ v. either Q u v) (vertices H)) (vertices H) ≡ sum_of (λ u. countb (λ v. Q u v) (vertices H)) (vertices H) + sum_of (λ u. countb (λ v. Q u v) (vertices H)) (vertices H) =
        sum_either Q (vertices H) (one_way_lem Q q) in
        let b : sum_of (λ u. countb (λ v. either P u v) (vertices G)) (vertices G) ≡ sum_of (λ u. countb (λ v. P u v) (vertices G)) (vertices G) + sum_of (λ u. countb (λ v. P u v) (vertices G)) (vertices G) =
        sum_either P (vertices G) (one_way_lem P p) in
        let c : sum_of (λ u. countb (λ v. either Q u v) (vertices H)) (vertices H) ≡ sum_of (λ u. countb (λ v. either P u v) (vertices G)) (vertices G) =
        ap (λ (vs : List ℕ). sum_of (λ u. countb (λ v. either Q u v) vs) vs) re.depots
        ∙ map_sum f (λ u. countb (λ v. either P u v) (vertices G)) (λ u. countb (λ v. either Q u v) (mapl f (vertices G))) (vertices G)
        (λ u mu. map_count f (λ v. either P u v) (λ v. either Q (f u) v) (vertices G) (λ v mv. same u v (vertices_out G sound mu) (vertices_out G sound mv))) in
        omega arith
      where
        one_way_lem : (R : Pairs) → ((u v : ℕ) → R u v ≡ true → u < v) → (u v : ℕ) → R u v ≡ true → R v u ≡ false
        one_way_lem R r u v h = not→false (R v u) (λ t. lt_irrefl u (lt_trans (r u v h) (r v u (t→true (R v u) t))))

    -- states alike, by networks
    pub alike_of : (S R : State) → Alike (chart G) (chart H) f chart_renamed S R → ((u v : ℕ) → S.pairs u v ≡ true → u < v) → ((u v : ℕ) → R.pairs u v ≡ true → u < v) → AreAlike G H f S R
    alike_of S R A p q = record {
      candidate = A.candidate;
      references = A.references;
      status = λ v o. A.status v (depot_in G net v o);
      pairs = same;
      count = count_renamed S.pairs R.pairs p q same;
    }
      where
        same : SamePairs G f S.pairs R.pairs
        same u v ou ov = A.pairs u v (depot_in G net u ou) (depot_in G net v ov)

    -- what an update leaves, its pairs being those of sound figures on both
    pub opened_alike_of : (o p : Opened) → OpenedAlike (chart G) (chart H) f chart_renamed o p
        → SoundIn (chart G) unreached o.final.candidate o.final.pairs → SoundIn (chart H) unreached p.final.candidate p.final.pairs → AreOpenedAlike G H f o p
    opened_alike_of o p A s t = record { change = A.change; final = alike_of o.final p.final A.final (rising (chart G) o.final.candidate o.final.pairs s) (rising (chart H) p.final.candidate p.final.pairs t) }

    -- THE WHOLE RECKONING: the same chain and number of pairs, references renamed, statuses and pairs alike
    pub relabelled_reckoning : AreAlike G H f (reckon (chart G)) (reckon (chart H))
    relabelled_reckoning =
        alike_of (reckon (chart G)) (reckon (chart H)) (reckon_alike (chart G) (chart H) f chart_renamed (chart_metric G net))
        (rising (chart G) (reckon (chart G)).candidate (reckon (chart G)).pairs (of G net)) (rising (chart H) (reckon (chart H)).candidate (reckon (chart H)).pairs (of H renamed_net))
      where
        of : (N : Network) → IsNet N → SoundIn (chart N) unreached (reckon (chart N)).candidate (reckon (chart N)).pairs
        of N n =
            let S = reckon (chart N) in
            sound_in N unreached S.candidate S.pairs (true_sound N n unreached (le_of_lt n.small) (lit< tt) S.candidate S.pairs (reckoning_correct N n).figures)

-- ---- figures that are the same up to names are true together

-- two sets of pairs told one way round that agree in either order agree
one_side : (N : Network) (A B : Pairs) → ((x y : ℕ) → T (A x y) → (x < y) × T (N.is_open x) × T (N.is_open y)) → ((x y : ℕ) → T (B x y) → x < y)
    → ((x y : ℕ) → T (N.is_open x) → T (N.is_open y) → either A x y ≡ either B x y) → (x y : ℕ) → T (A x y) → T (B x y)
one_side N A B a b same x y h =
    let r = a x y h in
    go r.0 (or_cases (B x y) (B y x) (sym (same x y r.1 r.2) ∙ or_left _ (A y x) (t→true (A x y) h)))
  where
    go : x < y → (B x y ≡ true) ⊎ (B y x ≡ true) → T (B x y)
    go l (inl k) = true→t k
    go l (inr k) = absurd (lt_irrefl x (lt_trans l (b y x (true→t k))))

-- the pairs of sound figures, and the farthest pairs, are told one way round and join open depots
told : (N : Network) (D : ℕ) (P : Pairs) → AreSound N unreached D P → (x y : ℕ) → T (P x y) → (x < y) × T (N.is_open x) × T (N.is_open y)
told N D P s x y h = let r = s.pairs x y h in (r.0, delivers_open N x r.1, delivers_open N y r.2)

far_told : (N : Network) → IsNet N → (x y : ℕ) → T (farthest N x y) → (x < y) × T (N.is_open x) × T (N.is_open y)
far_told N net x y h = let r = (farthest_is N net x y).0 h in (r.before, delivers_open N x r.first, delivers_open N y r.second)

-- the diameter and the farthest pairs in either order are the true figures
true_if : (N : Network) → IsNet N → (D : ℕ) (P : Pairs) → AreSound N unreached D P → D ≡ diameter N → ((x y : ℕ) → T (N.is_open x) → T (N.is_open y) → either P x y ≡ either (farthest N) x y) → AreTrue N (delivers N) D P
true_if N net D P s e same = record {
  chain = subst (λ (n : ℕ). IsDiameter N (delivers N) n) (sym e) (diameter_is N net);
  pairs = λ x y. (
    λ h. (farthest_is N net x y).0 (one_side N P (farthest N) (told N D P s) (λ u v t. (far_told N net u v t).0) same x y h),
    λ q. one_side N (farthest N) P (far_told N net) (λ u v t. (told N D P s u v t).0) (λ u v ou ov. sym (same u v ou ov)) x y ((farthest_is N net x y).1 q),
  );
}

pub relabelled_true : (G H : Network) → IsNet G → IsSound H → (f : ℕ → ℕ) → IsRelabelled G H f → (D : ℕ) (P Q : Pairs)
    → AreSound G unreached D P → AreSound H unreached D Q → SamePairs G f P Q → AreTrue G (delivers G) D P ↔ AreTrue H (delivers H) D Q
relabelled_true G H net sound' f re D P Q s t same = (
  λ w.
      true_if H net' D Q t (true_chain G net D P w ∙ sym figures.diameter)
      (λ x y ox oy.
      let u = renamed_from G H net.sound sound' f re x ox in
      let v = renamed_from G H net.sound sound' f re y oy in
      ap₂ (either Q) u.2 v.2
      ∙ same u.0 v.0 u.1 v.1
      ∙ ap (λ (A : Pairs). either A u.0 v.0) (true_pairs G net D P w)
      ∙ sym (figures.farthest u.0 v.0 u.1 v.1)
      ∙ sym (ap₂ (either (farthest H)) u.2 v.2)),
  λ w.
      true_if G net D P s (true_chain H net' D Q w ∙ figures.diameter)
      (λ u v ou ov.
      sym (same u v ou ov)
      ∙ ap (λ (A : Pairs). either A (f u) (f v)) (true_pairs H net' D Q w)
      ∙ figures.farthest u v ou ov),
)
  where
    net' : IsNet H
    net' = renamed_net G H net.sound sound' f re net

    figures : HaveSameFigures G H f
    figures = relabelled_figures G H net.sound sound' f re net

-- ---- renamings: of other names that agree, and one after the other

pub relabelled_same : (G H : Network) → IsSound G → (f g : ℕ → ℕ) → ((v : ℕ) → T (G.is_open v) → f v ≡ g v) → IsRelabelled G H f → IsRelabelled G H g
relabelled_same G H sound f g e re = record {
  depots = re.depots ∙ map_ext f g (vertices G) (λ v m. e v (vertices_out G sound m));
  apart = λ u v ou ov q. re.apart u v ou ov (e u ou ∙ q ∙ sym (e v ov));
  linked = λ u v ou ov. ap₂ H.linked (sym (e u ou)) (sym (e v ov)) ∙ re.linked u v ou ov;
  yard = λ v o. ap H.is_yard (sym (e v o)) ∙ re.yard v o;
}

pub relabelled_after : (G H K : Network) → IsSound G → IsSound H → (f g : ℕ → ℕ) → IsRelabelled G H f → IsRelabelled H K g → IsRelabelled G K (λ v. g (f v))
relabelled_after G H K sound sound' f g p q =
    let o = renamed_open G H sound sound' f p in
    record {
      depots = q.depots ∙ ap (mapl g) p.depots ∙ map-map f g (vertices G);
      apart = λ u v ou ov e. p.apart u v ou ov (q.apart (f u) (f v) (o u ou) (o v ov) e);
      linked = λ u v ou ov. q.linked (f u) (f v) (o u ou) (o v ov) ∙ p.linked u v ou ov;
      yard = λ v ov. q.yard (f v) (o v ov) ∙ p.yard v ov;
    }

-- ---- the order: depots told by their codes stay listed in rising code, and rows listed by their codes are the codes listed in rising order

pub rising_closed : (key : ℕ → ℕ) (H : Network) (c : ℕ) → rises_by key (vertices H) ≡ true → rises_by key (vertices (remove_depot H c)) ≡ true
unfolding remove_depot
rising_closed key H c h = rises_filter key (λ v. not (eqb v c)) (vertices H) h

pub rising_applied : (H : Network) → IsSound H → (u : Update) → first_of (update_faults H u) ≡ 0 → rises_by by_code (vertices H) ≡ true → rises_by by_code (vertices (applied H u)) ≡ true
unfolding applied with_depot add_depot add_link update_faults open_faults notice_faults
rising_applied H sound (opens o) ok h =
    insert_rises by_code o.code (vertices H)
    (λ y m e. clash (subst (λ (c : ℕ). memb c (vertices H) ≡ true) (sym e) m) (sym (sound.listed o.code) ∙ (first_zero (H.is_open o.code) 4 _ ok).0)) h
rising_applied H sound (joins a b) ok h = h

pub rows_listed : (G H : Network) (code : ℕ → ℕ) → rises_by code (vertices G) ≡ true → rises_by by_code (vertices H) ≡ true
    → ((c : ℕ) → memb c (vertices H) ≡ memb c (mapl code (vertices G))) → vertices H ≡ mapl code (vertices G)
rows_listed G H code g h same = rises_unique by_code (vertices H) (mapl code (vertices G)) h (rises_keys code (vertices G) ∙ g) same

pub rows_rising : (G H : Network) (code : ℕ → ℕ) → IsRelabelled G H code → rises_by by_code (vertices H) ≡ rises_by code (vertices G)
rows_rising G H code re = ap (rises_by by_code) re.depots ∙ rises_keys code (vertices G)
