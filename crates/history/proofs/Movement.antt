-- HOW FAR CALLS MOVE THE CHAIN where no yard was opened: call by call, and in a batch opening by opening. Assumes nothing.
use mathlib.Core.Path.{◌≡◌, refl, sym, ap, ◌∙◌, subst}
use mathlib.Core.Bool.{Bool, false, not}
use mathlib.Core.List.Memᴰ
use mathlib.Core.List.{List, [], ◌∷◌, ◌++◌, Memᴰ, append_assoc}
use mathlib.Core.Option.{Option, none, some}
use Prim.Native.Nat.{ℕ, zero, suc, ◌+◌, ◌≤◌, ◌<◌}
use lib.Dec.{T}
use native.Mathlib.Omega.{arith}
use lib.ListN.{length}
use Rattle.lists.specs.Lists.{range, filterb, max_of, insert_by, first_of}
use Rattle.lists.proofs.Distinct.{insert_filter}
use Rattle.lists.proofs.Members.{first_zero, filter_in, filter_out}
use Rattle.lists.proofs.Counts.{max_ge, max_le_of}
use Rattle.lists.proofs.Tests.{t→true, true→t, false→not, not→false}
use Rattle.graph.specs.Network.{Network, Walk, stay, step, HasNoYard, delivers}
use Rattle.graph.specs.Distance.{vertices, dist, unreached}
use Rattle.graph.specs.Chart.{diameter, destinations, ecc}
use Rattle.graph.specs.Opening.{Notice, notice_of, empty_network, by_code, add_depot, with_depot, notice_faults, open_faults}
use Rattle.graph.specs.Linking.{add_link, link_faults}
use Rattle.graph.specs.Correct.{IsNet}
use Rattle.graph.specs.Updates.{Update, opens, joins, told_as, update_faults, applied}
use Rattle.graph.specs.Batch.{Entry, first_fit, without, batch_end, or_end, batch_by, batch_of}
use Rattle.graph.proofs.Opened.{admitted_of}
use native.Mathlib.Nat.{le_trans}
use Rattle.graph.proofs.Charts.{greatest_unique}
use Rattle.graph.proofs.Theorems.{diameter_is}
use Rattle.graph.proofs.Lawful.{update_lawful}
use Rattle.graph.proofs.Delivers.{delivers_open, delivers_of}
use Rattle.graph.proofs.Batches.{accepts_ok, fit_some, fit_accepts, without_out}
use Rattle.map.specs.Memory.{Shape, IsShape, base, places}
use Rattle.map.proofs.Theorems.{base_shape}
use Rattle.plain_list.specs.PlainList.{plain_next}
use Rattle.update.specs.UpdateCall.{IsWithin}
use Rattle.update.specs.Movement.{MovesBy}
use Rattle.update.proofs.Memories.{IsHeld, depots_few}
use Rattle.update.proofs.Empties.{empty_held}
use Rattle.update.proofs.Movement.{update_moves, stays}
use Rattle.batch.specs.Lines.{entries_of}
use Rattle.history.specs.PlainRun.{Ask, update, batch, ask_long, ask_faults, plain_refusal, ask_next, openings_of, ask_accepted, plain_run}
use Rattle.history.specs.History.{Lending, Call, Program, rules_program, lent_sizes, feed_of, feeds_of}
use Rattle.history.specs.HistoriesAgree.{OpensCodes, AreCalls, plain_after_all, HistoriesAgree}
use Rattle.history.specs.Movement.{chain_after_all, AcceptsNoYard, accepted_then, openings_in, call_for, Moves}
use Rattle.history.proofs.Runs.{fed_snoc, run}
use Rattle.history.proofs.Orders.{plain_yards}
use Rattle.history.proofs.Theorems.{histories_agree_base}

-- ---- openings counted

count_append : (us vs : List Update) → openings_in (us ++ vs) ≡ openings_in us + openings_in vs
unfolding openings_in
count_append [] vs = omega arith
count_append (opens o ∷ us) vs = let h = count_append us vs in omega arith
count_append (joins a b ∷ us) vs = count_append us vs

openings_few : (us : List Update) → openings_in us ≤ length us
unfolding openings_in
openings_few [] = omega arith
openings_few (opens o ∷ us) = let h = openings_few us in omega arith
openings_few (joins a b ∷ us) = let h = openings_few us in omega arith

-- as an update may move the chain, it raises it by no more than it opens
moves_rises : (u : Update) (D E : ℕ) → MovesBy u D E → E ≤ D + openings_in (told_as u ∷ [])
unfolding openings_in told_as
moves_rises (opens o) D E m = m
moves_rises (joins a b) D E m = let h = m.0 in omega arith

-- ---- THE SAME NETWORK WITH EVERY DEPOT DELIVERING, yards too: an update changes it as it would without yards, and its diameter is no less

abbrev yardless : Network → Network
yardless G = record { depots = G.depots; is_open = G.is_open; is_yard = λ v. false; linked = G.linked }

-- of an update the opening of a depot that delivers
abbrev delivering : Update → Update
delivering (opens o) = opens (notice_of false o.code o.neighbours)
delivering (joins a b) = joins a b

abbrev width : Network → ℕ
width G = diameter (yardless G)

yardless_walk : {G : Network} {k u v : ℕ} → Walk G k u v → Walk (yardless G) k u v
yardless_walk stay = stay
yardless_walk (step l p) = step l (yardless_walk p)

yardless_net : (G : Network) → IsNet G → IsNet (yardless G)
yardless_net G net = record {
  sound = record {
    listed = net.sound.listed;
    once = net.sound.once;
    yards = λ u t. absurd t;
    ends = net.sound.ends;
    loopless = net.sound.loopless;
    symmetric = net.sound.symmetric;
  };
  connected = λ u v ou ov. let p = net.connected u v ou ov in (p.0, yardless_walk p.1);
  small = net.small;
}

-- the greatest of f over the depots that pass p, against those that pass q
more_depots : (f : ℕ → ℕ → ℕ) (p q : ℕ → Bool) (vs : List ℕ) → ((v : ℕ) → T (p v) → T (q v))
    → max_of (λ u. max_of (f u) (filterb p vs)) (filterb p vs) ≤ max_of (λ u. max_of (f u) (filterb q vs)) (filterb q vs)
more_depots f p q vs h =
    max_le_of _ (filterb p vs) _ (λ u mu. max_le_of (f u) (filterb p vs) _ (λ v mv.
    le_trans (max_ge (f u) (filterb q vs) (more mv)) (max_ge (λ w. max_of (f w) (filterb q vs)) (filterb q vs) (more mu))))
  where
    more : {v : ℕ} → Memᴰ v (filterb p vs) → Memᴰ v (filterb q vs)
    more {v} m = let x = filter_out p vs m in filter_in q vs x.0 (t→true (q v) (h v (true→t x.1)))

no_less : (G : Network) → diameter G ≤ width G
unfolding diameter dist delivers destinations ecc
no_less G = more_depots (dist G) (delivers G) (delivers (yardless G)) (vertices G) (λ v t. delivers_of (yardless G) v (delivers_open G v t) refl)

no_more : (G : Network) → HasNoYard G → width G ≤ diameter G
unfolding diameter dist delivers destinations ecc
no_more G without = more_depots (dist G) (delivers (yardless G)) (delivers G) (vertices G) (λ v t. delivers_of G v (delivers_open (yardless G) v t) (without v))

-- from G to H, by the updates us
record Rises (K : Shape) (G H : Network) (us : List Update) : Type 0 where
  most : width H ≤ width G + openings_in us
  held : IsHeld K H

module _ (K : Shape) (shape : IsShape K) where
  -- ---- ONE UPDATE that is not refused, in a network that a map can hold

  module _ (G : Network) (held : IsHeld K G) (u : Update) (ok : first_of (update_faults G u) ≡ 0) where
    room : suc (length (vertices G)) < unreached
    room = omega (arith, depots_few K G held, shape.most)

    depots_after : IsWithin K u → vertices (applied G u) ≡ filterb (applied G u).is_open (range (places K))
    unfolding update_faults applied with_depot add_link
    depots_after = go u ok
      where
        go : (v : Update) → first_of (update_faults G v) ≡ 0 → IsWithin K v → vertices (applied G v) ≡ filterb (applied G v).is_open (range (places K))
        go (opens o) ok low =
            ap (insert_by by_code o.code) held.depots
            ∙ insert_filter G.is_open o.code (admitted_of G held.net o room ok).fresh (places K) low
        go (joins a b) ok low = held.depots

    held_applied : IsWithin K u → IsHeld K (applied G u)
    held_applied low = record { net = (update_lawful G held.net u room ok).net; depots = depots_after low }

    applied_moves : HasNoYard G → IsWithin K u → MovesBy u (diameter G) (diameter (applied G u))
    applied_moves without low =
        update_moves G held.net without u ok (diameter G) (diameter (applied G u)) (diameter_is G held.net) (diameter_is (applied G u) (held_applied low).net)

  -- the width moves as the diameter of a map without yards does
  width_moves : (G : Network) → IsHeld K G → (u : Update) → first_of (update_faults G u) ≡ 0 → IsWithin K u → width (applied G u) ≤ width G + openings_in (told_as u ∷ [])
  unfolding update_faults applied with_depot add_link add_depot open_faults notice_faults link_faults told_as openings_in
  width_moves G held (opens o) ok low =
      applied_moves (yardless G) (record { net = yardless_net G held.net; depots = held.depots }) (delivering (opens o)) ok (λ v. refl) low
  width_moves G held (joins a b) ok low =
      let h = applied_moves (yardless G) (record { net = yardless_net G held.net; depots = held.depots }) (joins a b) ok (λ v. refl) low in
      let i = h.0 in
      omega arith

  -- ---- A BATCH, turn by turn

  nothing_more : (G : Network) → IsHeld K G → Rises K G G []
  unfolding openings_in
  nothing_more G held = record { most = omega arith; held = held }

  after_opening : (G H : Network) (o : Notice) (us : List Update) → width (applied G (opens o)) ≤ width G + 1 → Rises K (applied G (opens o)) H us → Rises K G H (opens o ∷ us)
  unfolding openings_in
  after_opening G H o us m r = record { most = let h = r.most in omega arith; held = r.held }

  turns_rise : (k : ℕ) (G : Network) → IsHeld K G → (es : List Entry) → ((e : Entry) → Memᴰ e es → e.notice.code < places K)
      → Rises K G (batch_by k G es).network (openings_of (batch_by k G es).accepted)
  unfolding batch_by or_end openings_of told_as openings_in
  turns_rise zero G held es codes = nothing_more G held
  turns_rise (suc k) G held es codes = go (first_fit G es) refl (λ H fs h c. turns_rise k H h fs c)
    where
      go : (o : Option Entry) → first_fit G es ≡ o
          → ((H : Network) (fs : List Entry) → IsHeld K H → ((e : Entry) → Memᴰ e fs → e.notice.code < places K) → Rises K H (batch_by k H fs).network (openings_of (batch_by k H fs).accepted))
          → let b = or_end o (batch_end G es) (λ e. batch_by k (applied G (opens e.notice)) (without e.number es)) in
          Rises K G b.network (openings_of b.accepted)
      go none q ih = nothing_more G held
      go (some e) q ih =
          let o = e.notice in
          let ok = accepts_ok G o (fit_accepts G es e q) in
          let low = codes e (fit_some G es e q) in
          after_opening G _ o _ (width_moves G held (opens o) ok low)
          (ih (applied G (opens o)) (without e.number es) (held_applied G held (opens o) ok low) (λ f m. codes f (without_out e.number es m)))

  -- ---- A CALL, and calls one after the other

  ask_rises : (k : ℕ) (G : Network) → IsHeld K G → (a : Ask) → OpensCodes K a → (k ≡ 0 → first_of (ask_faults G a) ≡ 0)
      → Rises K G (ask_next k G a) (ask_accepted k G a)
  unfolding ask_next ask_accepted ask_faults plain_next batch_of
  ask_rises zero G held (update u) within ok = record { most = width_moves G held u (ok refl) within; held = held_applied G held u (ok refl) within }
  ask_rises zero G held (batch lines) codes ok = turns_rise (length (entries_of lines)) G held (entries_of lines) codes
  ask_rises (suc k) G held (update u) within ok = nothing_more G held
  ask_rises (suc k) G held (batch lines) codes ok = nothing_more G held

  granted_faults : (G : Network) (c : Call) → plain_refusal K G (feed_of K c) ≡ 0 → first_of (ask_faults G c.ask) ≡ 0
  unfolding plain_refusal feed_of
  granted_faults G c e = (first_zero (not (ask_long K c.ask (lent_sizes K c.lending) (length c.lending.left))) 0 (ask_faults G c.ask) e).1

  rises_then : (G H L : Network) (us vs : List Update) → Rises K G H us → Rises K H L vs → Rises K G L (us ++ vs)
  rises_then G H L us vs r s = record { most = let h = r.most in let i = s.most in omega (arith, count_append us vs); held = s.held }

  run_rises : (G : Network) → IsHeld K G → (ds : List Call) → AreCalls K ds → Rises K G (plain_run K G (feeds_of K ds)).network (plain_run K G (feeds_of K ds)).accepted
  unfolding plain_run feeds_of feed_of
  run_rises G held [] calls = nothing_more G held
  run_rises G held (c ∷ ds) calls =
      let k = plain_refusal K G (feed_of K c) in
      let H = ask_next k G c.ask in
      let us = ask_accepted k G c.ask in
      let vs = (plain_run K H (feeds_of K ds)).accepted in
      let r = ask_rises k G held c.ask (calls c (Memᴰ.head refl)) (granted_faults G c) in
      rises_then G H _ us vs r (run_rises H r.held ds (λ x m. calls x (Memᴰ.tail m)))

-- ---- calls behind calls

fed_append : (K : Shape) (G : Network) (cs ds : List Call) → (plain_run K G (feeds_of K (cs ++ ds))).network ≡ (plain_run K (plain_run K G (feeds_of K cs)).network (feeds_of K ds)).network
unfolding plain_run feeds_of feed_of
fed_append K G [] ds = refl
fed_append K G (c ∷ cs) ds = fed_append K (ask_next (plain_refusal K G (feed_of K c)) G c.ask) cs ds

-- ---- EVERY PROGRAM WHOSE HISTORIES AGREE WITH THE PLAIN LIST

module _ (K : Shape) (shape : IsShape K) (P : Program) (met : HistoriesAgree K P) where
  module _ (cs : List Call) (calls : AreCalls K cs) where
    abbrev G : Network
    G = (plain_after_all K cs).network

    end_held : IsHeld K (plain_after_all K cs).network
    end_held = (run K shape empty_network (empty_held K shape) cs calls).is_held

    -- the record's chain is the diameter of the plain list's network
    chain_is : chain_after_all K P cs ≡ diameter (plain_after_all K cs).network
    chain_is = greatest_unique (met.figures cs calls).chain (diameter_is (plain_after_all K cs).network end_held.net)

    end_yardless : AcceptsNoYard (plain_after_all K cs) → HasNoYard (plain_after_all K cs).network
    end_yardless n v = not→false ((plain_after_all K cs).network.is_yard v) (λ t. let x = (plain_yards K (feeds_of K cs) v).0 t in false→not (n x.0 x.1) x.2)

    once_more : (k : ℕ) → AcceptsNoYard (plain_after_all K cs) → (u : Update) → IsWithin K u → (k ≡ 0 → first_of (update_faults G u) ≡ 0)
        → MovesBy u (diameter (plain_after_all K cs).network) (diameter (plain_next k (plain_after_all K cs).network u))
    unfolding plain_next
    once_more zero n u within ok = applied_moves K shape G end_held u (ok refl) (end_yardless n) within
    once_more (suc k) n u within ok = stays u (diameter G)

  moves_once : (cs : List Call) (u : Update) (c : Lending) → AreCalls K (cs ++ (call_for u c ∷ [])) → AcceptsNoYard (plain_after_all K cs)
      → MovesBy u (chain_after_all K P cs) (chain_after_all K P (cs ++ (call_for u c ∷ [])))
  unfolding ask_next ask_faults
  moves_once cs u c calls n =
      let before : AreCalls K cs = λ x m. calls x (Memᴰ.append_left (call_for u c ∷ []) m) in
      let within : IsWithin K u = calls (call_for u c) (Memᴰ.append_right cs (Memᴰ.head refl)) in
      let N = (plain_after_all K cs).network in
      let k = plain_refusal K N (feed_of K (call_for u c)) in
      subst (λ (D : ℕ). MovesBy u D (chain_after_all K P (cs ++ (call_for u c ∷ [])))) (sym (chain_is cs before))
      (subst (MovesBy u (diameter N)) (sym (chain_is (cs ++ (call_for u c ∷ [])) calls ∙ ap diameter (fed_snoc K empty_network cs (call_for u c))))
      (once_more cs before k n u within (granted_faults K shape N (call_for u c))))

  moves_rise : (cs ds : List Call) → AreCalls K (cs ++ ds) → AcceptsNoYard (plain_after_all K cs)
      → chain_after_all K P (cs ++ ds) ≤ chain_after_all K P cs + openings_in (accepted_then K cs ds)
  moves_rise cs ds calls n =
      let before : AreCalls K cs = λ x m. calls x (Memᴰ.append_left ds m) in
      let after : AreCalls K ds = λ x m. calls x (Memᴰ.append_right cs m) in
      let G = (plain_after_all K cs).network in
      let H = (plain_after_all K (cs ++ ds)).network in
      let r = run_rises K shape G (end_held cs before) ds after in
      omega (arith, r.most, no_more G (end_yardless cs before n), no_less H, chain_is cs before, chain_is (cs ++ ds) calls, ap width (fed_append K empty_network cs ds))

pub histories_move : (K : Shape) → IsShape K → (P : Program) → HistoriesAgree K P → Moves K P
histories_move K shape P met = record {
  once = moves_once K shape P met;
  rises = moves_rise K shape P met;
  most = λ cs ds calls n. omega (arith, moves_rise K shape P met cs ds calls n, openings_few (accepted_then K cs ds));
}

-- ---- the rules' map

pub histories_move_base : Moves base (rules_program base)
histories_move_base = histories_move base base_shape (rules_program base) histories_agree_base
