-- The refusals of the two calls one by one, and what accepted ones leave. Assumes nothing.
use mathlib.Core.Path.{◌≡◌, refl, sym, ap, ap₂, ◌∙◌, subst}
use mathlib.Core.Logic.{◌⊎◌, inl, inr}
use mathlib.Core.Bool.{Bool, true, false, not, ◌&&◌, and-true as and-with-true}
use mathlib.Core.List.Memᴰ
use mathlib.Core.List.{List, [], ◌∷◌, ◌++◌, Memᴰ}
use Prim.Native.Nat.{ℕ, zero, suc, ◌*◌, ◌≤◌, ◌<◌}
use lib.Dec.{leb}
use lib.ListN.{length, get_or}
use borrow.Author.Tests.{le-leb, lt-leb}
use Rattle.std.proofs.lemmas.Bool.{cases_Bool}
use Rattle.std.proofs.lemmas.Option.{none-some}
use Rattle.std.specs.Prelude.{Option, Some, None, Result, Ok, Err}
use Rattle.std.specs.Option.{ok_or}
use Rattle.std.specs.Result.{is_ok}
use Rattle.outcome.specs.Numbers.{nobody_open}
use Rattle.outcome.specs.Refusals.{number_of}
use Rattle.outcome.specs.declared.Refusal.{Refusal}
use Rattle.outcome.specs.declared.Refusal.TheVariants.{Nobody}
use Rattle.lists.specs.Lists.{range, filterb, anyb, allb, first_of}
use Rattle.lists.proofs.Tests.{clash, true→t}
use Rattle.lists.proofs.Members.{filter-ext, filter_in, filter_out, range_out, any_none, any_intro, first_kept, first_passed}
use Rattle.lists.proofs.Fills.{fill_at}
use Rattle.graph.specs.Network.{Network}
use Rattle.graph.specs.Distance.{vertices, dist}
use Rattle.graph.specs.Nearby.{within_list, nearest_from, nearest_listed}
use Rattle.rows.specs.Rows.{row_bit}
use Rattle.map.specs.Memory.{Shape, places, IsShape, network_of, map_network}
use Rattle.map.specs.Room.{Tables, tables, long_enough}
use Rattle.map.specs.declared.Record.{Record}
use Rattle.map.proofs.Theorems.{network_open_below}
use Rattle.layers.specs.Layers.{searched, search_leaves, search_table}
use Rattle.lent_map.specs.Faults.{lent_faults}
use Rattle.search.specs.SearchCall.{search_refusal, search_sizes}
use Rattle.search.proofs.Accepts.{granted, search_is}
use Rattle.nearby.specs.Steps.{CodesListed, codes_listed, list_over, FirstListed}
use Rattle.nearby.specs.WithinCall.{within_refusal, within_call}
use Rattle.nearby.specs.NearestCall.{nearest_refusal, nearest_depot, nearest_call}
use Rattle.outcome.specs.Answers.{answer_of, refusal_in, numbered, leaves, unless}
use Rattle.outcome.proofs.Answers.{none_is, some_is, refused_leaves, done_leaves}
use Rattle.nearby.proofs.Choosing.{nearest_whole}

-- whether a list has an element that passes, from those that do
any_by : (p : ℕ → Bool) (l : List ℕ) → filterb p l ≡ [] → anyb p l ≡ false
any_by p l e = any_none p l (λ x m. go x m (cases_Bool (p x)))
  where
    go : (x : ℕ) → Memᴰ x l → (p x ≡ true) ⊎ (p x ≡ false) → p x ≡ false
    go x m (inl t) = absurd (Memᴰ.not-nil (subst (Memᴰ x) e (filter_in p l m t)))
    go x m (inr f) = f

any_of : (p : ℕ → Bool) (l : List ℕ) (first : ℕ) (rest : List ℕ) → filterb p l ≡ first ∷ rest → anyb p l ≡ true
any_of p l first rest e = let m = filter_out p l (subst (Memᴰ first) (sym e) (Memᴰ.head refl)) in any_intro p l m.0 m.1

-- an open code of a list is one of the map's
pub listed_below : (W : ℕ) (members listed : List ℕ) (first : ℕ) (rest : List ℕ) → filterb (row_bit W members) listed ≡ first ∷ rest → first < 64 * W
unfolding network_of
listed_below W members listed first rest e =
    network_open_below W members [] first (true→t (filter_out (row_bit W members) listed (subst (Memᴰ first) (sym e) (Memᴰ.head refl))).1)

-- a list without a first open code, as the code asks for it
pub nobody_listed : (open_codes : List ℕ) (first : Option ℕ) {k : Refusal} → Err k ≡ ok_or first Nobody → FirstListed open_codes first
    → (Some (number_of k) ≡ Some nobody_open) × (open_codes ≡ [])
nobody_listed open_codes None e f = (ap (λ (x : Result ℕ Refusal). refusal_in (answer_of x)) e, f)
nobody_listed open_codes (Some v) e f = absurd (clash refl (ap is_ok (sym e)))

module _ (K : Shape) (rec : Record) (links : List ℕ) (B : Tables) (code : ℕ) where
  abbrev G : Network
  G = map_network K rec links

  abbrev search_refused : Option ℕ
  search_refused = search_refusal K rec links (length B.hops) (length B.even) (length B.odd) code

  -- ---- the refusals of a listing: the places for the codes, then those of a search

  module _ (codes : List ℕ) where
    pub within_short : length codes < places K → Some 1 ≡ within_refusal K rec links B codes code
    unfolding within_refusal lent_faults first_of numbered
    within_short l = rw (lt-leb (places K) (length codes) l, none (long_enough K (search_sizes K (length links) (length B.hops) (length B.even) (length B.odd))))
      where
        none : (b : Bool) → (b && false) ≡ false
        none true = refl
        none false = refl

    pub within_as_search : places K ≤ length codes → search_refused ≡ within_refusal K rec links B codes code
    unfolding within_refusal search_refusal
    within_as_search l = rw (le-leb (places K) (length codes) l, and-with-true)

    pub within_refused : (k : ℕ) {r : ℕ} → Some r ≡ within_refusal K rec links B codes code → leaves (Err r) (B, codes) ≡ within_call K rec links B codes code k
    unfolding within_call
    within_refused k e = refused_leaves (B, codes) _ e

  -- ---- the refusals of a choice: those of a search, then the list

  module _ (listed : List ℕ) where
    abbrev faults : List (Bool × ℕ)
    faults = lent_faults K (long_enough K (search_sizes K (length links) (length B.hops) (length B.even) (length B.odd))) false rec links [] ++ (not (G.is_open code), 4) ∷ []

    abbrev last : List (Bool × ℕ)
    last = (not (anyb G.is_open listed), 10) ∷ []

    pub nearest_as_search : {r : ℕ} → Some r ≡ search_refused → Some r ≡ nearest_refusal K rec links B code listed
    unfolding nearest_refusal search_refusal lent_faults numbered
    nearest_as_search {r} e = e ∙ ap numbered (sym (first_kept faults last (λ z. none-some r (sym (ap numbered z) ∙ sym e))))

    pub nearest_by_list : None ≡ search_refused → numbered (first_of last) ≡ nearest_refusal K rec links B code listed
    unfolding nearest_refusal search_refusal lent_faults allb
    nearest_by_list z = ap numbered (sym (first_passed faults last refl (none_is (first_of faults) z)))

    pub nearest_nobody : None ≡ search_refused → filterb G.is_open listed ≡ [] → Some 10 ≡ nearest_refusal K rec links B code listed
    unfolding first_of numbered
    nearest_nobody z e = rw (any_by G.is_open listed e) at (nearest_by_list z)

    pub nearest_somebody : (first : ℕ) (rest : List ℕ) → None ≡ search_refused → filterb G.is_open listed ≡ first ∷ rest → None ≡ nearest_refusal K rec links B code listed
    unfolding first_of numbered
    nearest_somebody first rest z e = rw (any_of G.is_open listed first rest e) at (nearest_by_list z)

    pub nearest_refused : {r : ℕ} → Some r ≡ nearest_refusal K rec links B code listed → leaves (Err r) B ≡ nearest_call K rec links B code listed
    unfolding nearest_call
    nearest_refused e = refused_leaves B _ e

-- ---- what accepted calls leave

module _ (K : Shape) (shape : IsShape K) (rec : Record) (links : List ℕ) (B : Tables) (code : ℕ) where
  abbrev N : Network
  N = map_network K rec links

  abbrev refusal : Option ℕ
  refusal = search_refusal K rec links (length B.hops) (length B.even) (length B.odd) code

  module _ (z : None ≡ refusal) {e : ℕ} {hops even odd : List ℕ} (is : searched e (tables hops even odd) ≡ search_table K.words links code B) where
    left : tables hops even odd ≡ search_leaves K.words N code B
    left =
        let g = granted K rec links (length B.hops) (length B.even) (length B.odd) code shape z in
        (search_is K shape rec.members rec.yards links g.net code (true→t g.present) B e (tables hops even odd) is).1

    -- the hop table read: distances
    hop_is : (v : ℕ) → v < places K → get_or hops v 0 ≡ dist N code v
    unfolding search_leaves
    hop_is v l = ap (λ (t : Tables). get_or t.hops v 0) left ∙ fill_at (dist N code) B.hops (places K) v 0 l

    pub within_accepted : (codes : List ℕ) (k : ℕ) {codes' : List ℕ} {count : ℕ} → places K ≤ length codes
        → codes_listed count codes' ≡ list_over (filterb (λ v. leb (get_or hops v 0) k) (vertices (network_of K.words rec.members []))) codes
        → leaves (Ok count) (tables hops even odd, codes') ≡ within_call K rec links B codes code k
    unfolding within_call within_list list_over network_of
    within_accepted codes k {codes'} {count} room wrote =
        let listed : filterb (λ v. leb (get_or hops v 0) k) (vertices N) ≡ within_list N code k =
        filter-ext (λ v. leb (get_or hops v 0) k) (λ v. leb (dist N code v) k) (vertices N)
        (λ v m. ap (λ (d : ℕ). leb d k) (hop_is v (range_out (places K) (filter_out (row_bit K.words rec.members) (range (places K)) m).0))) in
        let all : codes_listed count codes' ≡ list_over (within_list N code k) codes = wrote ∙ ap (λ (l : List ℕ). list_over l codes) listed in
        ap₂ (λ (c : CodesListed) (t : Tables). leaves (Ok c.count) (t, c.codes)) all left
        ∙ done_leaves (B, codes) _ (z ∙ within_as_search K rec links B code codes room)

    pub nearest_accepted : (listed : List ℕ) {first found : ℕ} (rest : List ℕ) → filterb (row_bit K.words rec.members) listed ≡ first ∷ rest
        → found ≡ nearest_from (λ u. get_or hops u 0) first (filterb (row_bit K.words rec.members) listed) → found < places K
        → leaves (Ok (nearest_depot found (get_or hops found 0))) (tables hops even odd) ≡ nearest_call K rec links B code listed
    unfolding nearest_call nearest_listed network_of
    nearest_accepted listed {first} {found} rest some chosen low =
        let v : found ≡ nearest_listed N code listed =
        chosen ∙ nearest_whole (λ u. get_or hops u 0) (dist N code) (filterb N.is_open listed) first rest some
        (λ w m. hop_is w (network_open_below K.words rec.members links w (true→t (filter_out N.is_open listed m).1))) in
        let d : get_or hops found 0 ≡ dist N code (nearest_listed N code listed) = hop_is found low ∙ ap (dist N code) v in
        ap₂ (λ (u x : ℕ). leaves (Ok (nearest_depot u x)) (tables hops even odd)) v d
        ∙ ap (leaves (Ok (nearest_depot (nearest_listed N code listed) (dist N code (nearest_listed N code listed))))) left
        ∙ done_leaves B _ (nearest_somebody K rec links B code listed first rest z some)
