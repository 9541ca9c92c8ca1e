-- ARRIVAL ORDER: the plain list's network depends on the set of what was accepted alone (D). Assumes nothing.
use mathlib.Core.Path.{◌≡◌, refl, sym, ap, ap₂, ◌∙◌, fun_ext}
use mathlib.Core.Logic.{◌↔◌}
use mathlib.Core.Bool.{Bool, true, false, ◌&&◌, ◌||◌, and_comm, or_comm}
use mathlib.Core.List.{List, [], ◌∷◌, ◌++◌, Memᴰ}
use mathlib.Core.Option.{Option, none, some}
use Prim.Native.Nat.{ℕ, zero, suc, ◌≤◌, max, min}
use native.Mathlib.Nat.{min-eq_left, min-eq_right, max-eq_left, max-eq_right}
use native.Mathlib.Decide.{dec_le}
use native.Mathlib.Omega.{arith}
use lib.Dec.{T, eqb}
use lib.ListN.{length}
use borrow.Author.Tests.{eqb-true, eq-eqb}
use Rattle.std.proofs.lemmas.Bool.{and_parts, and_from}
use Rattle.lists.specs.Lists.{range, filterb, anyb, memb}
use Rattle.lists.proofs.Tests.{t→true, true→t, clash, same_test}
use Rattle.lists.proofs.Members.{any_intro, any_elim}
use Rattle.graph.specs.Network.{Network}
use Rattle.graph.specs.Opening.{Notice, empty_network, with_depot}
use Rattle.graph.specs.Updates.{Update, opens, joins, told_as, applied}
use Rattle.graph.specs.Linking.{add_link}
use Rattle.graph.specs.Batch.{Entry, Batch, first_fit, without, batch_end, or_end, batch_by, batch_of}
use Rattle.map.specs.Memory.{Shape, places}
use Rattle.batch.specs.Lines.{entries_of}
use Rattle.history.specs.PlainRun.{Ask, update, batch, Feed, plain_refusal, ask_next, openings_of, ask_accepted, plain_run}
use Rattle.plain_list.specs.PlainList.{plain_next}
use Rattle.update.proofs.Memories.{IsHeld, network_path}

-- ---- the network with a list of updates made, one after the other

add_all : Network → List Update → Network
add_all G [] = G
add_all G (u ∷ us) = add_all (applied G u) us

added_append : (G : Network) (us vs : List Update) → add_all G (us ++ vs) ≡ add_all (add_all G us) vs
unfolding add_all
added_append G [] vs = refl
added_append G (u ∷ us) vs = added_append (applied G u) us vs

-- a batch's network is that of the openings accepted in it
turns_added : (k : ℕ) (G : Network) (es : List Entry) → (batch_by k G es).network ≡ add_all G (openings_of (batch_by k G es).accepted)
unfolding batch_by or_end add_all openings_of
turns_added zero G es = refl
turns_added (suc k) G es = go (first_fit G es) (λ H fs. turns_added k H fs)
  where
    rest : Entry → Batch
    rest e = batch_by k (applied G (opens e.notice)) (without e.number es)

    go : (o : Option Entry) → ((H : Network) (fs : List Entry) → (batch_by k H fs).network ≡ add_all H (openings_of (batch_by k H fs).accepted))
        → (or_end o (batch_end G es) rest).network ≡ add_all G (openings_of (or_end o (batch_end G es) rest).accepted)
    go none ih = refl
    go (some e) ih = ih (applied G (opens e.notice)) (without e.number es)

-- a link told in either order is one
or_turn : (a b c d e : Bool) → (((b && c) || (d && a)) || e) ≡ (((a && d) || (c && b)) || e)
or_turn a b c d e = ap (λ (x : Bool). x || e) (ap₂ ◌||◌ (and_comm b c) (and_comm d a) ∙ or_comm (c && b) (a && d))

link_turned : (G : Network) (a b : ℕ) → add_link G b a ≡ add_link G a b
unfolding add_link
link_turned G a b = network_path refl (λ c. refl) (λ c. refl) (λ u v. or_turn (eqb u a) (eqb u b) (eqb v a) (eqb v b) (G.linked u v))

told_applied : (G : Network) (u : Update) → applied G u ≡ applied G (told_as u)
unfolding applied told_as
told_applied G (opens o) = refl
told_applied G (joins a b) = go (dec_le a b)
  where
    go : Dec (a ≤ b) → add_link G a b ≡ add_link G (min a b) (max a b)
    go (yes l) = ap₂ (add_link G) (sym (min-eq_left l)) (sym (max-eq_right l))
    go (no l) =
        let k : b ≤ a = omega arith in
        sym (link_turned G a b) ∙ ap₂ (add_link G) (sym (min-eq_right k)) (sym (max-eq_left k))

ask_added : (k : ℕ) (G : Network) (a : Ask) → ask_next k G a ≡ add_all G (ask_accepted k G a)
unfolding ask_next ask_accepted plain_next add_all batch_of
ask_added zero G (update u) = told_applied G u
ask_added zero G (batch lines) = turns_added (length (entries_of lines)) G (entries_of lines)
ask_added (suc k) G (update u) = refl
ask_added (suc k) G (batch lines) = refl

-- the plain list's network is that of what it accepted
plain_added : (K : Shape) (G : Network) (fs : List Feed) → (plain_run K G fs).network ≡ add_all G (plain_run K G fs).accepted
unfolding plain_run add_all
plain_added K G [] = refl
plain_added K G (f ∷ fs) =
    let k = plain_refusal K G f in
    let H = ask_next k G f.ask in
    let rest = (plain_run K H fs).accepted in
    plain_added K H fs
    ∙ ap (λ (N : Network). add_all N rest) (ask_added k G f.ask)
    ∙ sym (added_append G (ask_accepted k G f.ask) rest)

-- ---- its codes, yards and links are those of any of them

new_depot : ℕ → Update → Bool
new_depot v (opens o) = eqb v o.code
new_depot v (joins a b) = false

new_yard : ℕ → Update → Bool
new_yard v (opens o) = o.yard && eqb v o.code
new_yard v (joins a b) = false

new_link : ℕ → ℕ → Update → Bool
new_link u v (opens o) = (eqb u o.code && memb v o.neighbours) || (eqb v o.code && memb u o.neighbours)
new_link u v (joins a b) = (eqb u a && eqb v b) || (eqb v a && eqb u b)

or_swap : (a b c : Bool) → ((a || b) || c) ≡ (b || (a || c))
or_swap true true c = refl
or_swap true false c = refl
or_swap false true c = refl
or_swap false false c = refl

or_false : (b : Bool) → b ≡ (b || false)
or_false true = refl
or_false false = refl

added_open : (G : Network) (os : List Update) (v : ℕ) → (add_all G os).is_open v ≡ (G.is_open v || anyb (new_depot v) os)
unfolding add_all applied with_depot add_link anyb new_depot
added_open G [] v = or_false (G.is_open v)
added_open G (opens o ∷ os) v = added_open (applied G (opens o)) os v ∙ or_swap (eqb v o.code) (G.is_open v) (anyb (new_depot v) os)
added_open G (joins a b ∷ os) v = added_open (applied G (joins a b)) os v

added_yards : (G : Network) (os : List Update) (v : ℕ) → (add_all G os).is_yard v ≡ (G.is_yard v || anyb (new_yard v) os)
unfolding add_all applied with_depot add_link anyb new_yard
added_yards G [] v = or_false (G.is_yard v)
added_yards G (opens o ∷ os) v = added_yards (applied G (opens o)) os v ∙ or_swap (o.yard && eqb v o.code) (G.is_yard v) (anyb (new_yard v) os)
added_yards G (joins a b ∷ os) v = added_yards (applied G (joins a b)) os v

added_linked : (G : Network) (os : List Update) (u v : ℕ) → (add_all G os).linked u v ≡ (G.linked u v || anyb (new_link u v) os)
unfolding add_all applied with_depot add_link anyb new_link
added_linked G [] u v = or_false (G.linked u v)
added_linked G (opens o ∷ os) u v =
    added_linked (applied G (opens o)) os u v
    ∙ or_swap ((eqb u o.code && memb v o.neighbours) || (eqb v o.code && memb u o.neighbours)) (G.linked u v) (anyb (new_link u v) os)
added_linked G (joins a b ∷ os) u v =
    added_linked (applied G (joins a b)) os u v
    ∙ or_swap ((eqb u a && eqb v b) || (eqb v a && eqb u b)) (G.linked u v) (anyb (new_link u v) os)

any_same : (p : Update → Bool) (os qs : List Update) → ((o : Update) → Memᴰ o os ↔ Memᴰ o qs) → anyb p os ≡ anyb p qs
any_same p os qs h =
    same_test (anyb p os) (anyb p qs)
    (λ e. let x = any_elim p os e in any_intro p qs ((h x.0).0 x.1) x.2)
    (λ e. let x = any_elim p qs e in any_intro p os ((h x.0).1 x.1) x.2)

-- ---- THE YARDS are the codes that were accepted as such

pub plain_yards : (K : Shape) (fs : List Feed) (c : ℕ)
    → T ((plain_run K empty_network fs).network.is_yard c) ↔ ((o : Notice) × Memᴰ (opens o) (plain_run K empty_network fs).accepted × T o.yard × (o.code ≡ c))
unfolding empty_network new_yard
plain_yards K fs c = (λ t. found (any_elim (new_yard c) os (sym is ∙ t→true _ t)), λ x. true→t (is ∙ any_intro (new_yard c) os x.1 (tells x.0 x.2 x.3)))
  where
    os : List Update
    os = (plain_run K empty_network fs).accepted

    none_first : empty_network.is_yard c ≡ false
    none_first = refl

    is : (plain_run K empty_network fs).network.is_yard c ≡ anyb (new_yard c) os
    is = ap (λ (N : Network). N.is_yard c) (plain_added K empty_network fs) ∙ added_yards empty_network os c ∙ ap (λ (b : Bool). b || anyb (new_yard c) os) none_first

    tells : (o : Notice) → T o.yard → o.code ≡ c → new_yard c (opens o) ≡ true
    tells o y q = and_from _ _ (t→true o.yard y) (eq-eqb c o.code (sym q))

    found : (u : Update) × Memᴰ u os × (new_yard c u ≡ true) → (o : Notice) × Memᴰ (opens o) os × T o.yard × (o.code ≡ c)
    found x = by x.0 x.1 x.2
      where
        by : (u : Update) → Memᴰ u os → new_yard c u ≡ true → (o : Notice) × Memᴰ (opens o) os × T o.yard × (o.code ≡ c)
        by (opens o) m e = let p = and_parts o.yard (eqb c o.code) e in (o, m, true→t p.0, sym (eqb-true c o.code p.1))
        by (joins a b) m e = absurd (clash e refl)

-- ---- THE ORDER TELLS NOTHING

-- the depots of both lists stand in rising order, so that their list follows from which are open
pub order_free : (K : Shape) (G : Network) (fs gs : List Feed) → IsHeld K (plain_run K G fs).network → IsHeld K (plain_run K G gs).network
    → ((o : Update) → Memᴰ o (plain_run K G fs).accepted ↔ Memᴰ o (plain_run K G gs).accepted) → (plain_run K G fs).network ≡ (plain_run K G gs).network
order_free K G fs gs f g h =
    network_path
    (f.depots ∙ ap (λ (p : ℕ → Bool). filterb p (range (places K))) (fun_ext same_open) ∙ sym g.depots)
    same_open
    same_yards
    same_linked
  where
    os : List Update
    os = (plain_run K G fs).accepted

    qs : List Update
    qs = (plain_run K G gs).accepted

    same_open : (v : ℕ) → (plain_run K G fs).network.is_open v ≡ (plain_run K G gs).network.is_open v
    same_open v =
        ap (λ (N : Network). N.is_open v) (plain_added K G fs)
        ∙ added_open G os v ∙ ap (λ (b : Bool). G.is_open v || b) (any_same (new_depot v) os qs h) ∙ sym (added_open G qs v)
        ∙ ap (λ (N : Network). N.is_open v) (sym (plain_added K G gs))

    same_yards : (v : ℕ) → (plain_run K G fs).network.is_yard v ≡ (plain_run K G gs).network.is_yard v
    same_yards v =
        ap (λ (N : Network). N.is_yard v) (plain_added K G fs)
        ∙ added_yards G os v ∙ ap (λ (b : Bool). G.is_yard v || b) (any_same (new_yard v) os qs h) ∙ sym (added_yards G qs v)
        ∙ ap (λ (N : Network). N.is_yard v) (sym (plain_added K G gs))

    same_linked : (u v : ℕ) → (plain_run K G fs).network.linked u v ≡ (plain_run K G gs).network.linked u v
    same_linked u v =
        ap (λ (N : Network). N.linked u v) (plain_added K G fs)
        ∙ added_linked G os u v ∙ ap (λ (b : Bool). G.linked u v || b) (any_same (new_link u v) os qs h) ∙ sym (added_linked G qs u v)
        ∙ ap (λ (N : Network). N.linked u v) (sym (plain_added K G gs))
