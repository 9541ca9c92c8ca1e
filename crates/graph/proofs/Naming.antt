-- A NETWORK RENAMED, names that differ: it is sound, it is the old one under other names, and no other network is. Assumes nothing.
use mathlib.Core.Path.{◌≡◌, refl, sym, ap, ap₂, ◌∙◌, subst, fun_ext}
use mathlib.Core.Bool.{Bool, true, ◌&&◌}
use mathlib.Core.List.{List}
use Prim.Native.Nat.{ℕ}
use lib.Dec.{T, eqb}
use borrow.Author.Tests.{eqb-true, eq-eqb}
use Rattle.std.proofs.lemmas.Bool.{and_parts, and_from}
use Rattle.lists.specs.Lists.{anyb, mapl, memb}
use Rattle.lists.proofs.Tests.{t→true, true→t, same_test}
use Rattle.lists.proofs.Members.{any_intro, any_elim, memb_in, in_memb}
use Rattle.lists.proofs.Renamed.{map_in, map-distinct}
use Rattle.graph.specs.Network.{Network, IsSound}
use Rattle.graph.specs.Distance.{vertices}
use Rattle.graph.specs.Renaming.{NamesDiffer, IsRelabelled, renamed_to}
use Rattle.graph.proofs.Distances.{vertices_in, vertices_out}
use Rattle.graph.proofs.Relabelled.{renamed_from}

module _ (G : Network) (sound : IsSound G) (f : ℕ → ℕ) (differ : NamesDiffer G f) where
  abbrev R : Network
  R = renamed_to f G

  -- what is said of the name of an open depot is said of the depot
  module _ (p : ℕ → Bool) where
    named : ℕ → Bool
    named c = anyb (λ v. eqb (f v) c && p v) (vertices G)

    named_out : (c : ℕ) → named c ≡ true → (v : ℕ) × T (G.is_open v) × (f v ≡ c) × (p v ≡ true)
    unfolding named
    named_out c h =
        let x = any_elim (λ v. eqb (f v) c && p v) (vertices G) h in
        let y = and_parts (eqb (f x.0) c) (p x.0) x.2 in
        (x.0, vertices_out G sound x.1, eqb-true (f x.0) c y.0, y.1)

    named_in : (v : ℕ) → T (G.is_open v) → p v ≡ true → named (f v) ≡ true
    unfolding named
    named_in v o h = any_intro (λ w. eqb (f w) (f v) && p w) (vertices G) (vertices_in G sound v o) (and_from _ _ (eq-eqb (f v) (f v) refl) h)

    named_is : (v : ℕ) → T (G.is_open v) → named (f v) ≡ p v
    named_is v o =
        same_test (named (f v)) (p v)
        (λ h. let x = named_out (f v) h in subst (λ (w : ℕ). p w ≡ true) (differ x.0 v x.1 o x.2) x.3)
        (named_in v o)

  yard_is : (v : ℕ) → T (G.is_open v) → R.is_yard (f v) ≡ G.is_yard v
  unfolding renamed_to named
  yard_is v o = named_is G.is_yard v o

  linked_is : (u v : ℕ) → T (G.is_open u) → T (G.is_open v) → R.linked (f u) (f v) ≡ G.linked u v
  unfolding renamed_to named
  linked_is u v ou ov = named_is (λ x. anyb (λ w. eqb (f w) (f v) && G.linked x w) (vertices G)) u ou ∙ named_is (G.linked u) v ov

  pub renamed_is : IsRelabelled G R f
  unfolding renamed_to
  renamed_is = record { depots = refl; apart = differ; linked = linked_is; yard = yard_is }

  -- a name of an open depot
  name_open : (v : ℕ) → T (G.is_open v) → T (R.is_open (f v))
  unfolding renamed_to
  name_open v o = true→t (in_memb (f v) (mapl f (vertices G)) (map_in f (vertices G) (vertices_in G sound v o)))

  -- a link of R is one of G
  link_of : (c d : ℕ) → T (R.linked c d) → (u v : ℕ) × T (G.is_open u) × T (G.is_open v) × (f u ≡ c) × (f v ≡ d) × T (G.linked u v)
  unfolding renamed_to named
  link_of c d l =
      let x = named_out (λ u. anyb (λ v. eqb (f v) d && G.linked u v) (vertices G)) c (t→true (R.linked c d) l) in
      let y = named_out (G.linked x.0) d x.3 in
      (x.0, y.0, x.1, y.1, x.2, y.2, true→t y.3)

  yard_of : (c : ℕ) → T (R.is_yard c) → (v : ℕ) × T (G.is_open v) × (f v ≡ c)
  unfolding renamed_to named
  yard_of c t = let x = named_out G.is_yard c (t→true (R.is_yard c) t) in (x.0, x.1, x.2)

  all_listed : (c : ℕ) → R.is_open c ≡ memb c (vertices R)
  unfolding renamed_to
  all_listed c = refl

  pub renamed_sound : IsSound R
  unfolding renamed_to
  renamed_sound = record {
    listed = all_listed;
    once = map-distinct f (vertices G) sound.once (λ u v mu mv. differ u v (vertices_out G sound (memb_in u (vertices G) mu)) (vertices_out G sound (memb_in v (vertices G) mv)));
    yards = λ c t. let x = yard_of c t in subst (λ (w : ℕ). T (R.is_open w)) x.2 (name_open x.0 x.1);
    ends = λ c d l. let x = link_of c d l in subst (λ (w : ℕ). T (R.is_open w)) x.5 (name_open x.1 x.3);
    loopless = λ c d l e. let x = link_of c d l in sound.loopless x.0 x.1 x.6 (differ x.0 x.1 x.2 x.3 (x.4 ∙ e ∙ sym x.5));
    symmetric = λ c d l.
        let x = link_of c d l in
        true→t (ap₂ R.linked (sym x.5) (sym x.4) ∙ linked_is x.1 x.0 x.3 x.2 ∙ t→true (G.linked x.1 x.0) (sound.symmetric x.0 x.1 x.6));
  }

-- two networks under the same names are one
pub renamed_only : (G H K : Network) → IsSound G → IsSound H → IsSound K → (f : ℕ → ℕ) → IsRelabelled G H f → IsRelabelled G K f → H ≡ K
renamed_only G H K sound s t f p q = same H.depots K.depots H.is_open K.is_open H.is_yard K.is_yard H.linked K.linked
    lists (fun_ext opens) (fun_ext yards) (fun_ext (λ c. fun_ext (λ d. links c d)))
  where
    lists : H.depots ≡ K.depots
    lists = p.depots ∙ sym q.depots

    opens : (c : ℕ) → H.is_open c ≡ K.is_open c
    opens c = s.listed c ∙ ap (memb c) lists ∙ sym (t.listed c)

    -- an open depot of one of them is the name of a depot of G
    from : (N : Network) → IsSound N → IsRelabelled G N f → (c : ℕ) → T (N.is_open c) → (v : ℕ) × T (G.is_open v) × (c ≡ f v)
    from N n r c o = renamed_from G N sound n f r c o

    yards : (c : ℕ) → H.is_yard c ≡ K.is_yard c
    yards c = same_test (H.is_yard c) (K.is_yard c) (λ h. pass H K s p q h) (λ h. pass K H t q p h)
      where
        pass : (A B : Network) → IsSound A → IsRelabelled G A f → IsRelabelled G B f → A.is_yard c ≡ true → B.is_yard c ≡ true
        pass A B a x y h =
            let v = from A a x c (a.yards c (true→t h)) in
            ap B.is_yard v.2 ∙ y.yard v.0 v.1 ∙ sym (x.yard v.0 v.1) ∙ ap A.is_yard (sym v.2) ∙ h

    links : (c d : ℕ) → H.linked c d ≡ K.linked c d
    links c d = same_test (H.linked c d) (K.linked c d) (λ h. pass H K s p q h) (λ h. pass K H t q p h)
      where
        pass : (A B : Network) → IsSound A → IsRelabelled G A f → IsRelabelled G B f → A.linked c d ≡ true → B.linked c d ≡ true
        pass A B a x y h =
            let u = from A a x c (a.ends d c (a.symmetric c d (true→t h))) in
            let v = from A a x d (a.ends c d (true→t h)) in
            ap₂ B.linked u.2 v.2 ∙ y.linked u.0 v.0 u.1 v.1 ∙ sym (x.linked u.0 v.0 u.1 v.1) ∙ ap₂ A.linked (sym u.2) (sym v.2) ∙ h

    same : (a b : List ℕ) (o o' y y' : ℕ → Bool) (l l' : ℕ → ℕ → Bool) → a ≡ b → o ≡ o' → y ≡ y' → l ≡ l'
        → ◌≡◌ {A = Network} (record { depots = a; is_open = o; is_yard = y; linked = l }) (record { depots = b; is_open = o'; is_yard = y'; linked = l' })
    same a b o o' y y' l l' p q r s = cc

-- the network by code is made of the rows and their codes
pub renamed_whole : (G H : Network) → IsSound G → IsSound H → (f : ℕ → ℕ) → IsRelabelled G H f → renamed_to f G ≡ H
renamed_whole G H sound sound' f re =
    renamed_only G (renamed_to f G) H sound (renamed_sound G sound f re.apart) sound' f (renamed_is G sound f re.apart) re
