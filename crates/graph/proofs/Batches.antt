-- A BATCH OPENS ALL THAT ANY ORDER OF ITS ENTRIES OPENS, some order opens exactly that, and at its end none of those left over can be accepted.
-- Assumes nothing.
use mathlib.Core.Path.{◌≡◌, refl, sym, ap, ◌∙◌, subst}
use mathlib.Core.Logic.{◌⊎◌, inl, inr, ◌≢◌, ◌↔◌}
use mathlib.Core.Bool.{Bool, true, false, cond, not, ◌&&◌, ◌||◌}
use mathlib.Core.List.Memᴰ
use mathlib.Core.List.{List, [], ◌∷◌, ◌++◌, Memᴰ}
use mathlib.Core.Option.{Option, none, some}
use Prim.Native.Nat.{ℕ, zero, suc, ◌≤◌, ◌<◌}
use native.Mathlib.Nat.{lt_irrefl}
use native.Mathlib.Omega.{arith}
use lib.Dec.{T, eqb, ltb}
use lib.ListN.{length}
use borrow.Author.Tests.{lt-ltb, eqb-true, eq-eqb, ne_eqb, not-false}
use Rattle.std.proofs.lemmas.Bool.{cases_Bool, or_cases, or_left, or_right, cases_eq}
use Rattle.lists.specs.Lists.{allb, first_of}
use Rattle.lists.proofs.Tests.{t→true, true→t, clash}
use Rattle.lists.proofs.Members.{all_intro, all_elim, filter_in, filter_out, first_zero}
use Rattle.lists.proofs.Counts.{count_lt, count_le_length, length_count}
use Rattle.lists.proofs.Distinct.{insert_length}
use Rattle.graph.specs.Network.{Network}
use Rattle.graph.specs.Distance.{vertices}
use Rattle.graph.specs.Opening.{Notice, add_depot, by_code, with_depot, strictly_rising, is_empty, notice_faults, open_faults}
use Rattle.graph.specs.Updates.{opens, update_faults, applied}
use Rattle.graph.specs.Batch.{Entry, accepts, first_fit, without, Batch, batch_end, or_end, batch_by, batch_of, offered, AreNumbered, AreOffers, AreOpenIn, notices_of}

abbrev after : Network → Notice → Network
after G o = applied G (opens o)

added_within : (G : Network) (o : Notice) → AreOpenIn G (after G o)
unfolding applied with_depot add_depot
added_within G o c h = true→t (or_right (eqb c o.code) _ (t→true (G.is_open c) h))

added_open : (G : Network) (o : Notice) → (after G o).is_open o.code ≡ true
unfolding applied with_depot add_depot
added_open G o = or_left _ (G.is_open o.code) (eq-eqb o.code o.code refl)

added_cases : (G : Network) (o : Notice) (c : ℕ) → T ((after G o).is_open c) → (c ≡ o.code) ⊎ T (G.is_open c)
unfolding applied with_depot add_depot
added_cases G o c h = go (or_cases (eqb c o.code) (G.is_open c) (t→true (eqb c o.code || G.is_open c) h))
  where
    go : (eqb c o.code ≡ true) ⊎ (G.is_open c ≡ true) → (c ≡ o.code) ⊎ T (G.is_open c)
    go (inl q) = inl (eqb-true c o.code q)
    go (inr q) = inr (true→t q)

added_number : (G : Network) (o : Notice) → length (vertices (after G o)) ≡ suc (length (vertices G))
unfolding applied with_depot add_depot
added_number G o = insert_length by_code o.code (vertices G)

-- ---- what an acceptance says, and when one follows

pub accepts_ok : (G : Network) (o : Notice) → accepts G o ≡ true → first_of (update_faults G (opens o)) ≡ 0
unfolding accepts
accepts_ok G o h = eqb-true (first_of (update_faults G (opens o))) 0 h

module _ (G : Network) (o : Notice) where
  accepted_parts : first_of (update_faults G (opens o)) ≡ 0
      → (G.is_open o.code ≡ false) × ((is_empty o.neighbours && ltb 0 (length (vertices G))) ≡ false) × (strictly_rising o.neighbours ≡ true) × (allb G.is_open o.neighbours ≡ true)
  unfolding update_faults open_faults notice_faults
  accepted_parts z =
      let f5 = first_zero (G.is_open o.code) 4 _ z in
      let f6 = first_zero (is_empty o.neighbours && ltb 0 (length (vertices G))) 5 _ f5.1 in
      let f7 = first_zero (not (strictly_rising o.neighbours)) 6 _ f6.1 in
      let f8 = first_zero (not (allb G.is_open o.neighbours)) 7 [] f7.1 in
      (f5.0, f6.0, not-false (strictly_rising o.neighbours) f7.0, not-false (allb G.is_open o.neighbours) f8.0)

  accepted_if : G.is_open o.code ≡ false → (is_empty o.neighbours && ltb 0 (length (vertices G))) ≡ false → strictly_rising o.neighbours ≡ true → allb G.is_open o.neighbours ≡ true
      → accepts G o ≡ true
  unfolding accepts update_faults open_faults notice_faults first_of
  accepted_if a b c d = rw (a, b, c, d)

-- a notice that R accepts, F accepts too, where R has a depot and is within F, and the code is closed in F
later-accepts : (R F : Network) (o : Notice) → 0 < length (vertices R) → AreOpenIn R F → accepts R o ≡ true → F.is_open o.code ≡ false → accepts F o ≡ true
later-accepts R F o s w h closed =
    let p = accepted_parts R o (accepts_ok R o h) in
    accepted_if F o closed (some_near (is_empty o.neighbours) p.1) p.2
    (all_intro F.is_open o.neighbours (λ x m. t→true (F.is_open x) (w x (true→t (all_elim R.is_open o.neighbours p.3 m)))))
  where
    some_near : (e : Bool) → (e && ltb 0 (length (vertices R))) ≡ false → (e && ltb 0 (length (vertices F))) ≡ false
    some_near true h = absurd (clash (lt-ltb 0 (length (vertices R)) s) h)
    some_near false h = refl

-- ---- the end of a batch: every entry's code is open, or the entry cannot be accepted

fit_skip : (G : Network) (x : Entry) (es : List Entry) → accepts G x.notice ≡ false → first_fit G (x ∷ es) ≡ first_fit G es
unfolding first_fit
fit_skip G x es h = ap (λ (b : Bool). cond b (some x) (first_fit G es)) h

fit_take : (G : Network) (x : Entry) (es : List Entry) → accepts G x.notice ≡ true → first_fit G (x ∷ es) ≡ some x
unfolding first_fit
fit_take G x es h = ap (λ (b : Bool). cond b (some x) (first_fit G es)) h

pub fit_none : (G : Network) (es : List Entry) → first_fit G es ≡ none → {e : Entry} → Memᴰ e es → accepts G e.notice ≡ false
fit_none G [] q m = absurd (Memᴰ.not-nil m)
fit_none G (x ∷ es) q {e} m = go (cases_Bool (accepts G x.notice)) (Memᴰ.cases_cons m) (λ h n. fit_none G es h n)
  where
    go : (accepts G x.notice ≡ true) ⊎ (accepts G x.notice ≡ false) → (e ≡ x) ⊎ Memᴰ e es → (first_fit G es ≡ none → Memᴰ e es → accepts G e.notice ≡ false) → accepts G e.notice ≡ false
    go (inl h) c ih = let r : some x ≡ none = sym (fit_take G x es h) ∙ q in let z : ◌≡◌ {A = ℕ} 0 1 = cc in absurd (lt_irrefl 0 (omega arith))
    go (inr h) (inl r) ih = ap (λ (y : Entry). accepts G y.notice) r ∙ h
    go (inr h) (inr n) ih = ih (sym (fit_skip G x es h) ∙ q) n

pub fit_some : (G : Network) (es : List Entry) (f : Entry) → first_fit G es ≡ some f → Memᴰ f es
unfolding first_fit
fit_some G [] f q = let z : ◌≡◌ {A = ℕ} 0 1 = cc in absurd (lt_irrefl 0 (omega arith))
fit_some G (x ∷ es) f q = go (accepts G x.notice) q (λ h. fit_some G es f h)
  where
    go : (b : Bool) → cond b (some x) (first_fit G es) ≡ some f → (first_fit G es ≡ some f → Memᴰ f es) → Memᴰ f (x ∷ es)
    go true r ih = let q : x ≡ f = cc in Memᴰ.head (sym q)
    go false r ih = Memᴰ.tail (ih r)

without_in : (n : ℕ) (es : List Entry) {e : Entry} → Memᴰ e es → (e.number ≡ n → ⊥) → Memᴰ e (without n es)
unfolding without
without_in n es {e} m d = filter_in (λ x. not (eqb x.number n)) es m (ap not (ne_eqb e.number n d))

pub without_out : (n : ℕ) (es : List Entry) {e : Entry} → Memᴰ e (without n es) → Memᴰ e es
unfolding without
without_out n es m = (filter_out (λ x. not (eqb x.number n)) es m).0

without_fewer : (es : List Entry) {f : Entry} → Memᴰ f es → length (without f.number es) < length es
unfolding without
without_fewer es {f} m =
    omega (
      arith,
      length_count (λ x. not (eqb x.number f.number)) es,
      count_lt (λ x. not (eqb x.number f.number)) (λ x. true) es (λ x k h. refl) m (ap not (eq-eqb f.number f.number refl)) refl,
      count_le_length (λ (x : Entry). true) es,
    )

pub record IsClosed (F : Network) (es : List Entry) : Type 0 where
  pub each : {e : Entry} → Memᴰ e es → (F.is_open e.notice.code ≡ true) ⊎ (accepts F e.notice ≡ false)

batch_none : (k : ℕ) (G : Network) (es : List Entry) → first_fit G es ≡ none → (batch_by (suc k) G es).network ≡ G
unfolding batch_by
batch_none k G es q = rw q

batch_some : (k : ℕ) (G : Network) (es : List Entry) (f : Entry) → first_fit G es ≡ some f → (batch_by (suc k) G es).network ≡ (batch_by k (after G f.notice) (without f.number es)).network
unfolding batch_by
batch_some k G es f q = rw q

pub batch_closed : (k : ℕ) (G : Network) (es : List Entry) → length es ≤ k → AreNumbered es → AreOpenIn G (batch_by k G es).network × IsClosed (batch_by k G es).network es
unfolding batch_by
batch_closed zero G [] l d = (λ c h. h, record { each = λ m. absurd (Memᴰ.not-nil m) })
batch_closed zero G (x ∷ es) l d = absurd (lt_irrefl 0 (omega arith))
batch_closed (suc k) G es l d = go (first_fit G es) refl (λ H fs a b. batch_closed k H fs a b)
  where
    step : (f : Entry) → first_fit G es ≡ some f → (F : Network) → F ≡ (batch_by (suc k) G es).network
        → AreOpenIn (after G f.notice) F × IsClosed F (without f.number es) → AreOpenIn G F × IsClosed F es
    step f q F r c =
        (λ x h. c.0 x (added_within G f.notice x h), record { each = λ {e} m. each e m (cases_eq e.number f.number) })
      where
        each : (e : Entry) → Memᴰ e es → (e.number ≡ f.number) ⊎ (e.number ≢ f.number) → (F.is_open e.notice.code ≡ true) ⊎ (accepts F e.notice ≡ false)
        each e m (inl n) =
            let same : e ≡ f = d e f m (fit_some G es f q) n in
            inl (ap (λ (y : Entry). F.is_open y.notice.code) same ∙ t→true (F.is_open f.notice.code) (c.0 f.notice.code (true→t (added_open G f.notice))))
        each e m (inr n) = c.1.each (without_in f.number es m n)

    go : (o : Option Entry) → first_fit G es ≡ o
        → ((H : Network) (fs : List Entry) → length fs ≤ k → AreNumbered fs → AreOpenIn H (batch_by k H fs).network × IsClosed (batch_by k H fs).network fs)
        → AreOpenIn G (batch_by (suc k) G es).network × IsClosed (batch_by (suc k) G es).network es
    go none q ih =
        subst (λ (F : Network). AreOpenIn G F × IsClosed F es) (sym (batch_none k G es q)) (λ c h. h, record { each = λ m. inr (fit_none G es q m) })
    go (some f) q ih =
        let fewer : length (without f.number es) < length es = without_fewer es (fit_some G es f q) in
        let c = ih (after G f.notice) (without f.number es) (omega arith) (λ x y a b n. d x y (without_out f.number es a) (without_out f.number es b) n) in
        step f q (batch_by (suc k) G es).network refl (subst (λ (F : Network). AreOpenIn (after G f.notice) F × IsClosed F (without f.number es)) (sym (batch_some k G es f q)) c)

-- ---- ANY ORDER STAYS WITHIN

offered-take : (R : Network) (o : Notice) (os : List Notice) (b : Bool) → accepts R o ≡ b → offered R (o ∷ os) ≡ offered (cond b (after R o) R) os
unfolding offered
offered-take R o os b h = ap (λ (x : Bool). offered (cond x (after R o) R) os) h

pub offered_within : (F : Network) (es : List Entry) → IsClosed F es → (os : List Notice) → AreOffers es os → (R : Network) → 0 < length (vertices R) → AreOpenIn R F → AreOpenIn (offered R os) F
unfolding offered
offered_within F es c [] are R s w = w
offered_within F es c (o ∷ os) are R s w = go (cases_Bool (accepts R o)) (λ S t v. offered_within F es c os (λ x m. are x (Memᴰ.tail m)) S t v)
  where
    code_in : accepts R o ≡ true → F.is_open o.code ≡ true
    code_in h = at (cases_Bool (F.is_open o.code)) (are o (Memᴰ.head refl))
      where
        at : (F.is_open o.code ≡ true) ⊎ (F.is_open o.code ≡ false) → (e : Entry) × Memᴰ e es × (e.notice ≡ o) → F.is_open o.code ≡ true
        at (inl y) x = y
        at (inr n) x = by (c.each x.1)
          where
            by : (F.is_open x.0.notice.code ≡ true) ⊎ (accepts F x.0.notice ≡ false) → F.is_open o.code ≡ true
            by (inl y) = sym (ap (λ (p : Notice). F.is_open p.code) x.2) ∙ y
            by (inr z) = absurd (clash (later-accepts R F o s w h n) (sym (ap (accepts F) x.2) ∙ z))

    go : (accepts R o ≡ true) ⊎ (accepts R o ≡ false) → ((S : Network) → 0 < length (vertices S) → AreOpenIn S F → AreOpenIn (offered S os) F) → AreOpenIn (offered R (o ∷ os)) F
    go (inl h) ih =
        subst (λ (N : Network). AreOpenIn N F) (sym (offered-take R o os true h))
        (ih (after R o) (omega (arith, added_number R o)) (λ k q. in_f k (added_cases R o k q)))
      where
        in_f : (k : ℕ) → (k ≡ o.code) ⊎ T (R.is_open k) → T (F.is_open k)
        in_f k (inl q) = true→t (ap F.is_open q ∙ code_in h)
        in_f k (inr q) = w k q
    go (inr h) ih = subst (λ (N : Network). AreOpenIn N F) (sym (offered-take R o os false h)) (ih R s w)

-- A BATCH OPENS ALL THAT ANY ORDER OF ITS ENTRIES OPENS, with repeats
pub batch_largest : (G : Network) → 0 < length (vertices G) → (es : List Entry) → AreNumbered es → (os : List Notice) → AreOffers es os → AreOpenIn (offered G os) (batch_of G es).network
unfolding batch_of
batch_largest G s es d os are =
    let c = batch_closed (length es) G es (omega arith) d in
    offered_within (batch_by (length es) G es).network es c.1 os are G s c.0

-- ---- ONE ORDER OF ALL ENTRIES OPENS EXACTLY THESE: those accepted, and then those left

offered-none : (G : Network) (es : List Entry) → ((e : Entry) → Memᴰ e es → accepts G e.notice ≡ false) → offered G (notices_of es) ≡ G
unfolding offered notices_of
offered-none G [] h = refl
offered-none G (e ∷ es) h = offered-take G e.notice (notices_of es) false (h e (Memᴰ.head refl)) ∙ offered-none G es (λ f m. h f (Memᴰ.tail m))

pub fit_accepts : (G : Network) (es : List Entry) (f : Entry) → first_fit G es ≡ some f → accepts G f.notice ≡ true
unfolding first_fit
fit_accepts G [] f q = let z : ◌≡◌ {A = ℕ} 0 1 = cc in absurd (lt_irrefl 0 (omega arith))
fit_accepts G (x ∷ es) f q = go (accepts G x.notice) refl q (λ h. fit_accepts G es f h)
  where
    go : (b : Bool) → accepts G x.notice ≡ b → cond b (some x) (first_fit G es) ≡ some f → (first_fit G es ≡ some f → accepts G f.notice ≡ true) → accepts G f.notice ≡ true
    go true h r ih = let e : x ≡ f = cc in subst (λ (y : Entry). accepts G y.notice ≡ true) e h
    go false h r ih = ih r

batch_all : (k : ℕ) (G : Network) (es : List Entry) → length es ≤ k → AreNumbered es
    → offered G (notices_of (batch_by k G es).accepted ++ notices_of (batch_by k G es).left) ≡ (batch_by k G es).network
unfolding batch_by or_end notices_of offered
batch_all zero G [] l d = refl
batch_all zero G (x ∷ es) l d = absurd (lt_irrefl 0 (omega arith))
batch_all (suc k) G es l d = go (first_fit G es) refl (λ H fs a b. batch_all k H fs a b)
  where
    rest : Entry → Batch
    rest f = batch_by k (after G f.notice) (without f.number es)

    go : (o : Option Entry) → first_fit G es ≡ o
        → ((H : Network) (fs : List Entry) → length fs ≤ k → AreNumbered fs → offered H (notices_of (batch_by k H fs).accepted ++ notices_of (batch_by k H fs).left) ≡ (batch_by k H fs).network)
        → offered G (notices_of (or_end (first_fit G es) (batch_end G es) rest).accepted ++ notices_of (or_end (first_fit G es) (batch_end G es) rest).left) ≡ (or_end (first_fit G es) (batch_end G es) rest).network
    go none q ih = rw q (offered-none G es (λ e m. fit_none G es q m))
    go (some f) q ih =
        let fewer : length (without f.number es) < length es = without_fewer es (fit_some G es f q) in
        rw q
        (offered-take G f.notice (notices_of (rest f).accepted ++ notices_of (rest f).left) true (fit_accepts G es f q)
        ∙ ih (after G f.notice) (without f.number es) (omega arith) (λ x y a b n. d x y (without_out f.number es a) (without_out f.number es b) n))

pub batch_reached : (G : Network) (es : List Entry) → AreNumbered es → offered G (notices_of (batch_of G es).accepted ++ notices_of (batch_of G es).left) ≡ (batch_of G es).network
unfolding batch_of
batch_reached G es d = batch_all (length es) G es (omega arith) d

-- those accepted and those left are the entries
batch_parts : (k : ℕ) (G : Network) (es : List Entry) → AreNumbered es → {e : Entry} → Memᴰ e es → Memᴰ e (batch_by k G es).accepted ⊎ Memᴰ e (batch_by k G es).left
unfolding batch_by or_end
batch_parts zero G es d m = inr m
batch_parts (suc k) G es d {e} m = go (first_fit G es) refl (λ H fs a n. batch_parts k H fs a n)
  where
    rest : Entry → Batch
    rest f = batch_by k (after G f.notice) (without f.number es)

    go : (o : Option Entry) → first_fit G es ≡ o
        → ((H : Network) (fs : List Entry) → AreNumbered fs → Memᴰ e fs → Memᴰ e (batch_by k H fs).accepted ⊎ Memᴰ e (batch_by k H fs).left)
        → Memᴰ e (or_end (first_fit G es) (batch_end G es) rest).accepted ⊎ Memᴰ e (or_end (first_fit G es) (batch_end G es) rest).left
    go none q ih = rw q (inr m)
    go (some f) q ih = rw q (by (cases_eq e.number f.number))
      where
        more : Memᴰ e (rest f).accepted ⊎ Memᴰ e (rest f).left → Memᴰ e (f ∷ (rest f).accepted) ⊎ Memᴰ e (rest f).left
        more (inl n) = inl (Memᴰ.tail n)
        more (inr n) = inr n

        by : (e.number ≡ f.number) ⊎ (e.number ≢ f.number) → Memᴰ e (f ∷ (rest f).accepted) ⊎ Memᴰ e (rest f).left
        by (inl n) = inl (Memᴰ.head (d e f m (fit_some G es f q) n))
        by (inr n) =
            more (ih (after G f.notice) (without f.number es) (λ x y a b s. d x y (without_out f.number es a) (without_out f.number es b) s) (without_in f.number es m n))

batch_whole : (k : ℕ) (G : Network) (es : List Entry) {e : Entry} → Memᴰ e (batch_by k G es).accepted ⊎ Memᴰ e (batch_by k G es).left → Memᴰ e es
unfolding batch_by or_end
batch_whole zero G es (inl m) = absurd (Memᴰ.not-nil m)
batch_whole zero G es (inr m) = m
batch_whole (suc k) G es {e} m = go (first_fit G es) refl m (λ H fs n. batch_whole k H fs n)
  where
    rest : Entry → Batch
    rest f = batch_by k (after G f.notice) (without f.number es)

    go : (o : Option Entry) → first_fit G es ≡ o → Memᴰ e (or_end o (batch_end G es) rest).accepted ⊎ Memᴰ e (or_end o (batch_end G es) rest).left
        → ((H : Network) (fs : List Entry) → Memᴰ e (batch_by k H fs).accepted ⊎ Memᴰ e (batch_by k H fs).left → Memᴰ e fs) → Memᴰ e es
    go none q (inl n) ih = absurd (Memᴰ.not-nil n)
    go none q (inr n) ih = n
    go (some f) q (inl n) ih = by (Memᴰ.cases_cons n)
      where
        by : (e ≡ f) ⊎ Memᴰ e (rest f).accepted → Memᴰ e es
        by (inl r) = subst (λ (x : Entry). Memᴰ x es) (sym r) (fit_some G es f q)
        by (inr r) = without_out f.number es (ih (after G f.notice) (without f.number es) (inl r))
    go (some f) q (inr n) ih = without_out f.number es (ih (after G f.notice) (without f.number es) (inr n))

pub batch_entries : (G : Network) (es : List Entry) → AreNumbered es → (e : Entry) → (Memᴰ e (batch_of G es).accepted ⊎ Memᴰ e (batch_of G es).left) ↔ Memᴰ e es
unfolding batch_of
batch_entries G es d e = (λ m. batch_whole (length es) G es m, λ m. batch_parts (length es) G es d m)

-- ---- NONE OF THOSE LEFT OVER CAN BE ACCEPTED AT THE END

batch_rests : (k : ℕ) (G : Network) (es : List Entry) → length es ≤ k → {e : Entry} → Memᴰ e (batch_by k G es).left → accepts (batch_by k G es).network e.notice ≡ false
unfolding batch_by or_end
batch_rests zero G [] l m = absurd (Memᴰ.not-nil m)
batch_rests zero G (x ∷ es) l m = absurd (lt_irrefl 0 (omega arith))
batch_rests (suc k) G es l {e} m = go (first_fit G es) refl m (λ H fs a n. batch_rests k H fs a n)
  where
    rest : Entry → Batch
    rest f = batch_by k (after G f.notice) (without f.number es)

    go : (o : Option Entry) → first_fit G es ≡ o → Memᴰ e (or_end o (batch_end G es) rest).left
        → ((H : Network) (fs : List Entry) → length fs ≤ k → Memᴰ e (batch_by k H fs).left → accepts (batch_by k H fs).network e.notice ≡ false)
        → accepts (or_end (first_fit G es) (batch_end G es) rest).network e.notice ≡ false
    go none q n ih = rw q (fit_none G es q n)
    go (some f) q n ih =
        let fewer : length (without f.number es) < length es = without_fewer es (fit_some G es f q) in
        rw q (ih (after G f.notice) (without f.number es) (omega arith) n)

pub batch_ended : (G : Network) (es : List Entry) {e : Entry} → Memᴰ e (batch_of G es).left → accepts (batch_of G es).network e.notice ≡ false
unfolding batch_of
batch_ended G es m = batch_rests (length es) G es (omega arith) m
