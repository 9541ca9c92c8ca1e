-- WHAT THE PARTS OF A LINK LEAVE, put together: with the link in place the memory holds the new network, whose figures the step asks for.
-- Assumes nothing.
use mathlib.Core.Path.{◌≡◌, refl, sym, ap, ◌∙◌, subst}
use mathlib.Core.Bool.{Bool, ◌&&◌, ◌||◌}
use mathlib.Core.List.{List, []}
use Prim.Native.Nat.{ℕ, ◌≤◌, ◌<◌, max, min}
use native.Mathlib.Nat.{min-eq_left, min-eq_right, max-eq_left, max-eq_right}
use native.Mathlib.Decide.{dec_le}
use native.Mathlib.Omega.{arith}
use lib.Dec.{T, eqb}
use lib.ListN.{length}
use Rattle.lists.specs.Lists.{range, overwrite}
use Rattle.graph.specs.Network.{Network, IsSound, delivers}
use Rattle.graph.specs.Distance.{vertices}
use Rattle.graph.specs.Chart.{chart, count_pairs}
use Rattle.graph.specs.Linking.{add_link, linking, linking_codes}
use Rattle.graph.specs.Correct.{IsNet}
use Rattle.graph.specs.Updates.{joins, update_faults, applied, steps}
use Rattle.graph.proofs.Linked.{IsLinkable, linkable_of}
use Rattle.rows.specs.Rows.{row_bit, table_bit, encode_row, encode_table}
use Rattle.rows.proofs.Written.{table_within}
use Rattle.map.specs.Room.{tables, Lent, lent, Sizes, sizes}
use Rattle.map.specs.Memory.{Shape, IsShape, places, network_of, map_network}
use Rattle.map.specs.declared.Record.{Record}
use Rattle.map.proofs.Theorems.{network_linked_below}
use Rattle.rounds.specs.Leaves.{Ran, ran_by}
use Rattle.rounds.specs.Targets.{target_network}
use Rattle.rounds.proofs.Targets.{delivering_targets, delivering_network}
use Rattle.outcome.specs.declared.Change.{Change}
use Rattle.outcome.specs.declared.Outcome.{Outcome}
use Rattle.outcome.specs.declared.Outcome.TheVariants.{Accepted}
use Rattle.admission.proofs.Links.{link_is}
use Rattle.insertion.specs.Figured.{Figured, figured}
use Rattle.relink.specs.Relinked.{relinked_by, IsRelinkable}
use Rattle.update.specs.UpdateCall.{update_refusal, network_after, updated_by, UpdateLeft, update_given}
use Rattle.update.proofs.Memories.{IsHeld, network_path, number_is, open_below}
use Rattle.update.proofs.Grants.{granted_links, granted_figures, granted_notice, held_after}

-- what is left, of a number open, an outcome, a yard set and a state
abbrev left_by : ℕ → Outcome → List ℕ → List ℕ → List ℕ → Ran → UpdateLeft
left_by n oc members yards l r = record {
  report = record { outcome = oc; searches = r.searches };
  after = record { members = members; number = n; chain = r.chain; count = r.count; yards = yards };
  links = l;
  lent = r.lent;
}

-- what holds of both ends holds of the lower and of the higher
either_end : (P : ℕ → Type 0) (a d : ℕ) → P a → P d → P (min a d) × P (max a d)
either_end P a d p q = go (dec_le a d)
  where
    go : Dec (a ≤ d) → P (min a d) × P (max a d)
    go (yes l) = (subst P (sym (min-eq_left l)) p, subst P (sym (max-eq_right l)) q)
    go (no l) = let k : d ≤ a = omega arith in (subst P (sym (min-eq_right k)) q, subst P (sym (max-eq_left k)) p)

-- a link closes no destination
still : (G : Network) (a d v : ℕ) → T (delivers G v) → T (delivers (add_link G a d) v)
unfolding delivers add_link
still G a d v t = t

module _ (K : Shape) (shape : IsShape K) (rec : Record) (links p h b s x y : List ℕ) (a d : ℕ)
    (ok : update_refusal K rec links p (sizes (length links) (length p) (length h) (length b) (length s) (length x) (length y)) (joins a d) ≡ 0) where
  abbrev z : Sizes
  z = sizes (length links) (length p) (length h) (length b) (length s) (length x) (length y)

  abbrev B : Lent
  B = lent p (tables h x y) b s

  abbrev G : Network
  G = map_network K rec links

  abbrev H : Network
  H = network_after K rec links (joins a d)

  held : IsHeld K H
  held = held_after K shape rec links p z (joins a d) ok tt

  good : IsLinkable G a d
  unfolding update_faults
  good = linkable_of G a d (granted_notice K shape rec links p z (joins a d) ok)

  added : H ≡ add_link G a d
  unfolding network_after applied
  added = refl

  -- as many pairs are stored as the record says
  pub stored_few : count_pairs (range (places K)) (table_bit K.words p) ≤ rec.count
  stored_few = let f = granted_figures K shape rec links p z (joins a d) ok in omega (arith, f.counted)

  -- the number open stays
  number_stays : rec.number ≡ length (vertices H)
  unfolding network_after applied add_link
  number_stays = (granted_links K shape rec links p z (joins a d) ok).counted ∙ sym (number_is K H held)

  open_in : (v : ℕ) → T (G.is_open v) → T (H.is_open v)
  unfolding network_after applied add_link
  open_in v t = t

  apart : min a d ≡ max a d → ⊥
  apart e = good.apart (omega arith)

  module _ (left : List ℕ) (linked : left ≡ overwrite (encode_table K.words (λ u v. (eqb u a && eqb v d) || (eqb v a && eqb u d) || table_bit K.words links u v)) links) where
    links_are_lem : H.linked ≡ (λ u v. (eqb u a && eqb v d) || (eqb v a && eqb u d) || table_bit K.words links u v)
    unfolding network_after applied
    links_are_lem = link_is K.words rec.members rec.yards links a d

    written : left ≡ overwrite (encode_table K.words H.linked) links
    written = linked ∙ ap (λ (f : ℕ → ℕ → Bool). overwrite (encode_table K.words f) links) (sym links_are_lem)

    within : (u v : ℕ) → T (H.linked u v) → (u < places K) × (v < places K)
    within u v l =
        (open_below K H held u (held.net.sound.ends v u (held.net.sound.symmetric u v l)), open_below K H held v (held.net.sound.ends u v l))

    bits : (u v : ℕ) → table_bit K.words left u v ≡ H.linked u v
    bits u v = ap (λ (t : List ℕ). table_bit K.words t u v) written ∙ table_within K.words H.linked links within u v

    map_is : map_network K rec left ≡ H
    unfolding network_after applied add_link network_of
    map_is = network_path refl (λ c. refl) (λ c. refl) bits

    open_is : H.is_open ≡ row_bit K.words rec.members
    unfolding network_after applied add_link network_of
    open_is = refl

    yards_are : H.is_yard ≡ row_bit K.words rec.yards
    unfolding network_after applied add_link network_of
    yards_are = refl

    -- the targets are the open set without its yards
    module _ (targets : List ℕ) (size : K.words ≤ length rec.members) (long : K.words ≤ length targets)
        (kept : targets ≡ overwrite (encode_row K.words (delivers (map_network K rec []))) rec.members) where
      network_is : target_network K.words rec.members targets left ≡ H
      network_is = delivering_network K.words rec.members rec.yards targets size long kept left (subst IsSound (sym map_is) held.net.sound) ∙ map_is

      pub relinkable : IsRelinkable K rec.members targets left B (min a d) (max a d)
      unfolding network_of
      relinkable =
          let f = granted_figures K shape rec links p z (joins a d) ok in
          let e = network_is in
          let below : (u v : ℕ) → T (table_bit K.words p u v) → (u < places K) × (v < places K) = network_linked_below K.words rec.members p in
          let ends = either_end (λ v. T (H.is_open v)) a d (open_in a good.first) (open_in d good.second) in
          record {
            are = delivering_targets K.words rec.members rec.yards targets size long kept;
            net = subst IsNet (sym e) held.net;
            lower = subst (λ (N : Network). T (N.is_open (min a d))) (sym e) ends.0;
            higher = subst (λ (N : Network). T (N.is_open (max a d))) (sym e) ends.1;
            apart = apart;
            ends = λ u v t.
                let g = f.ends u v (below u v t).0 (below u v t).1 t in
                (subst (λ (N : Network). T (delivers N u)) (sym (e ∙ added)) (still G a d u g.0), subst (λ (N : Network). T (delivers N v)) (sym (e ∙ added)) (still G a d v g.1));
          }

      pub joined_is : rec.members ≡ overwrite (encode_row K.words (row_bit K.words rec.members)) rec.members
          → rec.yards ≡ overwrite (encode_row K.words (row_bit K.words rec.yards)) rec.yards → (c : Change) (r : Ran)
          → figured c r ≡ relinked_by K (target_network K.words rec.members targets left) (min a d) (max a d) rec.chain B
          → left_by rec.number (Accepted c) rec.members rec.yards left r ≡ update_given 0 K rec links B (joins a d)
      unfolding update_given updated_by steps linking_codes relinked_by ran_by
      joined_is row yards c r e =
          let q = e ∙ ap (λ (N : Network). relinked_by K N (min a d) (max a d) rec.chain B) network_is in
          let xo = linking (chart H) (min a d) (max a d) rec.chain (table_bit K.words p) in
          let R : Ran = ran_by K H xo.final B in
          let row_by : (ℕ → Bool) → List ℕ → List ℕ = λ f old. overwrite (encode_row K.words f) old in
          ap (λ (n : ℕ). left_by n (Accepted c) rec.members rec.yards left r) number_stays
          ∙ ap (λ (f : Figured). left_by (length (vertices H)) (Accepted f.change) rec.members rec.yards left f.ran) q
          ∙ ap (λ (cs : List ℕ). left_by (length (vertices H)) (Accepted xo.change) cs rec.yards left R)
          (row ∙ ap (λ (f : ℕ → Bool). row_by f rec.members) (sym open_is))
          ∙ ap (λ (ys : List ℕ). left_by (length (vertices H)) (Accepted xo.change) (row_by H.is_open rec.members) ys left R)
          (yards ∙ ap (λ (f : ℕ → Bool). row_by f rec.yards) (sym yards_are))
          ∙ ap (λ (ls : List ℕ). left_by (length (vertices H)) (Accepted xo.change) (row_by H.is_open rec.members) (row_by H.is_yard rec.yards) ls R) written
