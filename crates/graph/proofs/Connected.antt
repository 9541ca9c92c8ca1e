-- `connected` is connectedness, both ways; what the hop table of a connected network holds. Assumes nothing.
use mathlib.Core.Path.{◌≡◌, refl, sym, subst}
use mathlib.Core.Logic.{◌⊎◌, inl, inr, ◌↔◌}
use mathlib.Core.Bool.{true}
use mathlib.Core.List.Memᴰ
use mathlib.Core.List.{List, [], ◌∷◌, Memᴰ}
use Prim.Native.Nat.{ℕ, ◌+◌, ◌≤◌, ◌<◌}
use native.Mathlib.Nat.{lt_of_le_of_lt}
use native.Mathlib.Omega.{arith}
use lib.Dec.{T, ltb}
use lib.ListN.{length}
use borrow.Author.Tests.{ltb-true, lt-ltb}
use Rattle.lists.proofs.Members.{all_intro, all_elim}
use Rattle.graph.specs.Network.{Network, IsSound, IsConnected, Walk, stay, IsDist}
use Rattle.graph.specs.Distance.{vertices, unreached, hops, dist, reached_all, connected}
use Rattle.graph.specs.Correct.{IsNet}
use Rattle.graph.proofs.Walks.{append, reverse, walk_open}
use Rattle.graph.proofs.Distances.{vertices_in, vertices_out, dist_is, dist-reached, dist_below}
use Rattle.graph.proofs.Layers.{hops-range}

module _ (G : Network) (sound : IsSound G) (small : length (vertices G) < unreached) where
  from_first : (r : ℕ) (vs : List ℕ) → T (G.is_open r) → reached_all G (r ∷ vs) ≡ true → (v : ℕ) → Memᴰ v (r ∷ vs) → (k : ℕ) × Walk G k r v
  unfolding reached_all
  from_first r vs o h v m = go (Memᴰ.cases_cons m)
    where
      go : (v ≡ r) ⊎ Memᴰ v vs → (k : ℕ) × Walk G k r v
      go (inl e) = (0, subst (λ (w : ℕ). Walk G 0 r w) (sym e) stay)
      go (inr n) = (dist G r v, (dist-reached G sound small r o v (ltb-true (dist G r v) unreached (all_elim (λ v. ltb (dist G r v) unreached) vs h n))).walk)

  -- CONNECTED IS CONNECTED
  pub connected_of : connected G ≡ true → IsConnected G
  unfolding connected
  connected_of h u v ou ov = go (vertices G) (λ w m. vertices_out G sound m) h (vertices_in G sound u ou) (vertices_in G sound v ov)
    where
      go : (vs : List ℕ) → ((w : ℕ) → Memᴰ w vs → T (G.is_open w)) → reached_all G vs ≡ true → Memᴰ u vs → Memᴰ v vs → (k : ℕ) × Walk G k u v
      go [] all e mu mv = absurd (Memᴰ.not-nil mu)
      go (r ∷ vs) all e mu mv =
          let p = from_first r vs (all r (Memᴰ.head refl)) e u mu in
          let q = from_first r vs (all r (Memᴰ.head refl)) e v mv in
          (p.0 + q.0, append (reverse sound p.1) q.1)

  pub connected_iff : (connected G ≡ true) ↔ IsConnected G
  unfolding connected reached_all
  connected_iff = (connected_of, λ c. go c (vertices G) (λ v m. vertices_out G sound m))
    where
      reach : IsConnected G → (r v : ℕ) → T (G.is_open r) → T (G.is_open v) → ltb (dist G r v) unreached ≡ true
      reach c r v or ov =
          let w = c r v or ov in
          let a : dist G r v < length (vertices G) = dist_below G sound small r or (dist G r v) v (dist_is G sound small r or w.0 v w.1) in
          lt-ltb (dist G r v) unreached (omega arith)

      go : IsConnected G → (vs : List ℕ) → ((v : ℕ) → Memᴰ v vs → T (G.is_open v)) → reached_all G vs ≡ true
      go c [] all = refl
      go c (r ∷ vs) all = all_intro (λ v. ltb (dist G r v) unreached) vs (λ v m. reach c r v (all r (Memᴰ.head refl)) (all v (Memᴰ.tail m)))

module _ (G : Network) (net : IsNet G) (s : ℕ) (o : T (G.is_open s)) where
  -- the hop table: distances, and 65,535 at closed codes
  pub hop_open : (v : ℕ) → T (G.is_open v) → IsDist G s v (dist G s v)
  hop_open v ov = let w = net.connected s v o ov in dist_is G net.sound net.small s o w.0 v w.1

  pub hop_closed : (v : ℕ) → (T (G.is_open v) → ⊥) → dist G s v ≡ unreached
  unfolding dist
  hop_closed v c = go (hops-range (vertices G) G.linked s (length (vertices G)) v)
    where
      go : (hops (vertices G) G.linked s (length (vertices G)) v ≤ length (vertices G)) ⊎ (hops (vertices G) G.linked s (length (vertices G)) v ≡ unreached) → hops (vertices G) G.linked s (length (vertices G)) v ≡ unreached
      go (inl l) = absurd (c (walk_open net.sound o (dist-reached G net.sound net.small s o v (lt_of_le_of_lt l net.small)).walk))
      go (inr e) = e
