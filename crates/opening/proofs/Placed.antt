-- WHAT THE PARTS OF AN OPENING LEAVE, put together: with the code in the open set, in the yard set too where a yard opens, and its links in place the
-- memory holds the new network, whose figures the step asks for; and the step's answer is the call's. Assumes nothing.
use mathlib.Core.Path.{◌≡◌, refl, sym, ap, ◌∙◌, subst}
use mathlib.Core.Bool.{Bool, true, false, cond, ◌&&◌, ◌||◌}
use mathlib.Core.List.{List, []}
use Prim.Native.Nat.{ℕ, ◌+◌, ◌*◌, ◌^◌, ◌≤◌, ◌<◌}
use mir.Syntax.{w8}
use mir.Val.{Fits}
use native.Mathlib.Omega.{arith}
use lib.Dec.{T, eqb}
use lib.ListN.{length, get_or}
use borrow.Author.Tests.{eq-eqb}
use Rattle.std.proofs.lemmas.Bool.{or_left}
use Rattle.lists.specs.Lists.{memb, overwrite, first_of}
use Rattle.lists.proofs.Tests.{true→t}
use Rattle.graph.specs.Network.{Network, IsSound, delivers}
use Rattle.graph.specs.Chart.{chart}
use Rattle.graph.specs.Opening.{Notice, by_code, with_depot, opening, open_faults}
use Rattle.graph.specs.Correct.{IsNet}
use Rattle.rows.specs.Rows.{row_bit, table_bit, encode_row, encode_table, put_bit}
use Rattle.rows.proofs.Puts.{put_row_lem}
use Rattle.rows.proofs.Wholes.{row_whole, encode_row_ext}
use Rattle.rows.proofs.Written.{row_within}
use Rattle.map.specs.Room.{tables, Lent, lent, Sizes, sizes, sizes_of}
use Rattle.map.specs.Memory.{Shape, IsShape, base, places, network_of, yard_network, map_network}
use Rattle.checks.specs.Sound.{AreFiguresSound}
use Rattle.map.specs.declared.Record.{Record}
use Rattle.map.proofs.Theorems.{base_shape, network_linked_below}
use Rattle.rounds.specs.Leaves.{Ran, ran_by}
use Rattle.rounds.specs.Targets.{target_network}
use Rattle.rounds.proofs.Targets.{delivering_targets, delivering_network}
use Rattle.outcome.specs.declared.Change.{Change}
use Rattle.outcome.specs.declared.Outcome.{Outcome}
use Rattle.outcome.specs.declared.Outcome.TheVariants.{Accepted}
use Rattle.admission.proofs.Theorems.{linked_after, linked_is, faults_any}
use Rattle.insertion.specs.Figured.{Figured, figured, figured_by, IsFigurable}
use Rattle.update.specs.UpdateCall.{update_refusal, network_after, updated_by, UpdateLeft, update_given, update_call}
use Rattle.update.specs.Steps.{map_refusal}
use Rattle.update.proofs.Refuses.{refused_by_notice}
use Rattle.graph.specs.Opening.{notice_of}
use Rattle.update.proofs.Memories.{IsHeld, open_below, depots_few}
use Rattle.update.proofs.Grants.{granted_net, granted_figures, admitted, held_after, number_after}
use Rattle.graph.proofs.Opened.{delivers_old}
use Rattle.graph.specs.Updates.{opens, applied, steps}
use Rattle.graph.specs.Distance.{vertices}

-- ---- the open set

or_cond : (x y : Bool) → cond x true y ≡ (x || y)
or_cond true y = refl
or_cond false y = refl

pub code_put : (W code : ℕ) (members : List ℕ) → code < 64 * W → W ≤ length members → ((i : ℕ) → i < W → get_or members i 0 < 2 ^ 64)
    → put_bit W 0 code true members ≡ overwrite (encode_row W (λ v. eqb v code || row_bit W members v)) members
code_put W code members l n fits =
    ap (put_bit W 0 code true) (row_whole W members n fits)
    ∙ put_row_lem W code true (row_bit W members) members l
    ∙ ap (λ (r : List ℕ). overwrite r members) (encode_row_ext W (λ v. cond (eqb v code) true (row_bit W members v)) (λ v. eqb v code || row_bit W members v) (λ v h. or_cond (eqb v code) (row_bit W members v)))

-- ---- the notice of a map that nothing refuses: its own refusal is the call's, and what the call leaves goes by it

module _ (K : Shape) (rec : Record) (links p : List ℕ) (y : Bool) (code : ℕ) (ns : List ℕ) where
  abbrev first : ℕ
  first = first_of (open_faults (network_of K.words rec.members []) (notice_of false code ns))

  pub judged : (z : Sizes) → map_refusal K rec links p z ≡ 0 → update_refusal K rec links p z (opens (notice_of y code ns)) ≡ first
  judged z e = sym (ap first_of (faults_any _ _ _ _ _ _ _) ∙ refused_by_notice K rec links p z (notice_of y code ns) (sym e))

  pub called : (h b s even odd : List ℕ) → map_refusal K rec links p (sizes (length links) (length p) (length h) (length b) (length s) (length even) (length odd)) ≡ 0
      → update_call K rec links (lent p (tables h even odd) b s) (opens (notice_of y code ns))
      ≡ update_given first K rec links (lent p (tables h even odd) b s) (opens (notice_of y code ns))
  unfolding update_call sizes_of
  called h b s even odd e = ap (λ (k : ℕ). update_given k K rec links (lent p (tables h even odd) b s) (opens (notice_of y code ns))) (judged _ e)

-- ---- the parts, put together

module _ (K : Shape) (shape : IsShape K) (rec : Record) (links p h b s x y : List ℕ) (yard : Bool) (code : ℕ) (ns : List ℕ)
    (ok : update_refusal K rec links p (sizes (length links) (length p) (length h) (length b) (length s) (length x) (length y)) (opens (notice_of yard code ns)) ≡ 0)
    (low : code < places K) (lows : (k : ℕ) → k < length ns → get_or ns k 0 < places K) where
  abbrev o : Notice
  o = notice_of yard code ns

  abbrev z : Sizes
  z = sizes (length links) (length p) (length h) (length b) (length s) (length x) (length y)

  abbrev B : Lent
  B = lent p (tables h x y) b s

  abbrev G : Network
  G = map_network K rec links

  abbrev H : Network
  H = network_after K rec links (opens o)

  -- the number open has room for one more
  number_small : rec.number + 1 ≤ places K
  number_small = omega (arith, number_after K shape rec links p z o ok low, depots_few K H (held_after K shape rec links p z (opens o) ok low))

  open_is : H.is_open ≡ (λ v. eqb v code || row_bit K.words rec.members v)
  unfolding network_after applied with_depot network_of
  open_is = refl

  yards_are : H.is_yard ≡ (λ v. (yard && eqb v code) || row_bit K.words rec.yards v)
  unfolding network_after applied with_depot network_of
  yards_are = refl

  held : IsHeld K H
  held = held_after K shape rec links p z (opens o) ok low

  links_are_lem : H.linked ≡ (λ u v. (eqb u code && memb v ns) || (eqb v code && memb u ns) || table_bit K.words links u v)
  unfolding network_after applied
  links_are_lem = linked_is K.words rec.members rec.yards links yard code ns

  module _ (after marked left : List ℕ) (put : after ≡ overwrite (encode_row K.words (λ v. eqb v code || row_bit K.words rec.members v)) rec.members)
      (yarded : marked ≡ overwrite (encode_row K.words (λ v. (yard && eqb v code) || row_bit K.words rec.yards v)) rec.yards)
      (linked : left ≡ overwrite (encode_table K.words (λ u v. (eqb u code && memb v ns) || (eqb v code && memb u ns) || table_bit K.words links u v)) links) where
    open_bits : (v : ℕ) → row_bit K.words after v ≡ (eqb v code || row_bit K.words rec.members v)
    unfolding network_after applied with_depot network_of
    open_bits v = ap (λ (r : List ℕ). row_bit K.words r v) put ∙ row_within K.words H.is_open rec.members (open_below K H held) v

    yard_bits : (v : ℕ) → row_bit K.words marked v ≡ ((yard && eqb v code) || row_bit K.words rec.yards v)
    unfolding network_after applied with_depot network_of
    yard_bits v =
        ap (λ (r : List ℕ). row_bit K.words r v) yarded
        ∙ row_within K.words H.is_yard rec.yards (λ c t. open_below K H held c (held.net.sound.yards c t)) v

    was_closed : row_bit K.words rec.members code ≡ false
    unfolding network_of
    was_closed = (admitted K shape rec links p z o ok).fresh

    map_is : yard_network K.words after marked left ≡ H
    unfolding network_after applied
    map_is = linked_after K.words code ns low lows rec.members after rec.yards marked links left yard was_closed open_bits yard_bits linked

    figures_are : AreFiguresSound (places K) G (table_bit K.words p) rec.chain rec.count
    figures_are = granted_figures K shape rec links p z (opens o) ok

    still : (v : ℕ) → T (delivers G v) → T (delivers H v)
    unfolding network_after applied with_depot
    still v t = delivers_old by_code G (granted_net K shape rec links p z (opens o) ok) yard code (λ v. memb v ns) (admitted K shape rec links p z o ok) v t

    open_new : T (H.is_open code)
    unfolding network_after applied with_depot
    open_new = true→t (or_left _ (G.is_open code) (eq-eqb code code refl))

    -- the targets are the new open set without its yards
    module _ (targets : List ℕ) (size : K.words ≤ length after) (long : K.words ≤ length targets)
        (kept : targets ≡ overwrite (encode_row K.words (delivers (yard_network K.words after marked []))) after) where
      network_is : target_network K.words after targets left ≡ H
      network_is = delivering_network K.words after marked targets size long kept left (subst IsSound (sym map_is) held.net.sound) ∙ map_is

      pub figurable : IsFigurable K after targets left B code rec.chain rec.count
      unfolding network_of
      figurable =
          let f = figures_are in
          let e = network_is in
          let below : (u v : ℕ) → T (table_bit K.words p u v) → (u < places K) × (v < places K) = network_linked_below K.words rec.members p in
          record {
            are = delivering_targets K.words after marked targets size long kept;
            net = subst IsNet (sym e) held.net;
            present = subst (λ (N : Network). T (N.is_open code)) (sym e) open_new;
            rising = λ u v t. f.rising u v (below u v t).0 (below u v t).1 t;
            ends = λ u v t.
                let d = f.ends u v (below u v t).0 (below u v t).1 t in
                (subst (λ (N : Network). T (delivers N u)) (sym e) (still u d.0), subst (λ (N : Network). T (delivers N v)) (sym e) (still v d.1));
            counted = f.counted;
            low = f.below;
          }

      -- what is left, of a number open, an outcome, a yard set and a state
      abbrev left_with : ℕ → Outcome → List ℕ → List ℕ → List ℕ → Ran → UpdateLeft
      left_with n oc members yards l r = record {
        report = record { outcome = oc; searches = r.searches };
        after = record { members = members; number = n; chain = r.chain; count = r.count; yards = yards };
        links = l;
        lent = r.lent;
      }

      abbrev opened : ℕ
      opened = length (vertices H)

      abbrev row_by : (ℕ → Bool) → List ℕ → List ℕ
      row_by f old = overwrite (encode_row K.words f) old

      pub opened_is : (c : Change) (r : Ran) → figured c r ≡ figured_by K (target_network K.words after targets left) code rec.chain B
          → left_with (rec.number + 1) (Accepted c) after marked left r ≡ update_given 0 K rec links B (opens o)
      unfolding update_given updated_by steps figured_by ran_by
      opened_is c r e =
          let q = e ∙ ap (λ (N : Network). figured_by K N code rec.chain B) network_is in
          let xo = opening (chart H) code rec.chain (table_bit K.words p) in
          let R : Ran = ran_by K H xo.final B in
          ap (λ (n : ℕ). left_with n (Accepted c) after marked left r) (number_after K shape rec links p z o ok low)
          ∙ ap (λ (f : Figured). left_with opened (Accepted f.change) after marked left f.ran) q
          ∙ ap (λ (cs : List ℕ). left_with opened (Accepted xo.change) cs marked left R) (put ∙ ap (λ (f : ℕ → Bool). row_by f rec.members) (sym open_is))
          ∙ ap (λ (ys : List ℕ). left_with opened (Accepted xo.change) (row_by H.is_open rec.members) ys left R)
          (yarded ∙ ap (λ (f : ℕ → Bool). row_by f rec.yards) (sym yards_are))
          ∙ ap (λ (ls : List ℕ). left_with opened (Accepted xo.change) (row_by H.is_open rec.members) (row_by H.is_yard rec.yards) ls R)
          (linked ∙ ap (λ (f : ℕ → ℕ → Bool). overwrite (encode_table K.words f) links) (sym links_are_lem))

-- ---- the number open has room for one more. It is said with the refusal, which is 0 and shows the law's arguments, so that the check finds them

pub room_for_one : (rec : Record) (links p h b s x y : List ℕ) (yard : Bool) (code : ℕ) (ns : List ℕ)
    → update_refusal base rec links p (sizes (length links) (length p) (length h) (length b) (length s) (length x) (length y)) (opens (notice_of yard code ns)) ≡ 0
    → Fits w8 code → ((k : ℕ) → Fits w8 (get_or ns k 0))
    → update_refusal base rec links p (sizes (length links) (length p) (length h) (length b) (length s) (length x) (length y)) (opens (notice_of yard code ns)) + rec.number < places base
room_for_one rec links p h b s x y yard code ns ok low lows =
    omega (arith, ok, number_small base base_shape rec links p h b s x y yard code ns ok low.fits (λ k l. (lows k).fits))
