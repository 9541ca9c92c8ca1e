-- THE MARKS OF A BATCH are those of its last accepted opening. Assumes nothing.
use mathlib.Core.Path.{◌≡◌, refl, sym, ap, ◌∙◌, subst}
use mathlib.Core.Bool.{true}
use mathlib.Core.List.{List, [], ◌∷◌, Memᴰ}
use mathlib.Core.Option.{Option, none, some}
use Prim.Native.Nat.{ℕ, zero, suc, ◌<◌}
use lib.ListN.{length}
use Rattle.graph.specs.Network.{Network}
use Rattle.graph.specs.Opening.{Notice}
use Rattle.graph.specs.Updates.{opens, applied}
use Rattle.graph.specs.Batch.{Entry, accepts, first_fit, without, or_end, batch_by, batch_of, notices_of}
use Rattle.graph.proofs.Batches.{fit_some, fit_accepts, without_out}
use Rattle.map.specs.Memory.{Shape, IsShape, places, map_network}
use Rattle.map.specs.declared.Record.{Record}
use Rattle.map.specs.Room.{Lent, sizes_of}
use Rattle.update.specs.UpdateCall.{network_after, update_call, references_of}
use Rattle.update.specs.Represents.{IsMarked}
use Rattle.update.proofs.Theorems.{update_correct}
use Rattle.batch.specs.Lines.{entries_of}
use Rattle.batch_update.specs.BatchCall.{LentMemory, lent_memory, opening_on, memory_left, batch_on, batch_given, batch_call}
use Rattle.batch_update.specs.Correct.{AreCodes}
use Rattle.batch_update.specs.Marks.{UpdateOn, last_from, last_opening, IsLeftBy, BatchMarks}
use Rattle.batch_update.specs.Steps.{BatchStanding, turns_on}
use Rattle.batch_update.proofs.Refuses.{granted}
use Rattle.batch_update.proofs.Turns.{meant, IsFree, opening_free, opening_granted, opening_network, turns_out, turns_none, turns_some, turned, given_memory}

-- the memory N, left by the last update
abbrev IsLeft : Shape → LentMemory → LentMemory → Option UpdateOn → Type 0
IsLeft K M N u = IsLeftBy K (update_call K) (meant K N) M N u

-- those accepted in the turns that are left
abbrev accepted : ℕ → Shape → BatchStanding → List Notice
accepted k K S = notices_of (batch_by k (meant K S.memory) S.waiting).accepted

accepted_out : (K : Shape) (S : BatchStanding) → accepted 0 K S ≡ []
unfolding batch_by notices_of
accepted_out K S = refl

accepted_none : (k : ℕ) (K : Shape) (S : BatchStanding) → first_fit (meant K S.memory) S.waiting ≡ none → accepted (suc k) K S ≡ []
unfolding batch_by or_end notices_of
accepted_none k K S q = rw q

accepted_some : (k : ℕ) (G : Network) (es : List Entry) (e : Entry) → first_fit G es ≡ some e
    → notices_of (batch_by (suc k) G es).accepted ≡ e.notice ∷ notices_of (batch_by k (applied G (opens e.notice)) (without e.number es)).accepted
unfolding batch_by or_end notices_of
accepted_some k G es e q = rw q

last_none : (K : Shape) (last : Option UpdateOn) (M : LentMemory) → last_from K last M [] ≡ last
unfolding last_from
last_none K last M = refl

last_some : (K : Shape) (last : Option UpdateOn) (M : LentMemory) (o : Notice) (os : List Notice)
    → last_from K last M (o ∷ os) ≡ last_from K (some (record { memory = M; update = opens o })) (memory_left (opening_on K M o)) os
unfolding last_from
last_some K last M o os = refl

module _ (K : Shape) (shape : IsShape K) where
  -- an accepted opening's marks
  opening-marks : (M : LentMemory) (o : Notice) → IsFree K M → o.code < places K → accepts (meant K M) o ≡ true
      → IsMarked K (meant K (memory_left (opening_on K M o))) (references_of K M.rec M.links M.lent (opens o)) (opening_on K M o)
  unfolding opening_on network_after
  opening-marks M o free low fits =
      subst (λ (H : Network). IsMarked K H (references_of K M.rec M.links M.lent (opens o)) (opening_on K M o)) (sym (opening_network K shape M o free low fits))
      ((update_correct K shape).marks M.rec M.links M.lent (opens o) (opening_granted K shape M o free low fits) low)

  opening_left : (M N : LentMemory) (o : Notice) → IsFree K N → o.code < places K → accepts (meant K N) o ≡ true → IsLeft K M (memory_left (opening_on K N o)) (some (record { memory = N; update = opens o }))
  unfolding opening_on
  opening_left M N o free low fits = (refl, opening-marks N o free low fits)

  turns_marks : (k : ℕ) (M : LentMemory) (S : BatchStanding) (last : Option UpdateOn) → IsFree K S.memory → ((e : Entry) → Memᴰ e S.waiting → e.notice.code < places K)
      → IsLeft K M S.memory last → IsLeft K M (turns_on k K S).memory (last_from K last S.memory (accepted k K S))
  turns_marks zero M S last free codes is =
      subst (λ (os : List Notice). IsLeft K M (turns_on 0 K S).memory (last_from K last S.memory os)) (sym (accepted_out K S))
      (subst (λ (x : Option UpdateOn). IsLeft K M (turns_on 0 K S).memory x) (sym (last_none K last S.memory))
      (subst (λ (N : BatchStanding). IsLeft K M N.memory last) (sym (turns_out K S)) is))
  turns_marks (suc k) M S last free codes is = go (first_fit (meant K S.memory) S.waiting) refl (λ X l f c i. turns_marks k M X l f c i)
    where
      go : (o : Option Entry) → first_fit (meant K S.memory) S.waiting ≡ o
          → ((X : BatchStanding) (l : Option UpdateOn) → IsFree K X.memory → ((e : Entry) → Memᴰ e X.waiting → e.notice.code < places K)
          → IsLeft K M X.memory l → IsLeft K M (turns_on k K X).memory (last_from K l X.memory (accepted k K X)))
          → IsLeft K M (turns_on (suc k) K S).memory (last_from K last S.memory (accepted (suc k) K S))
      go none q ih =
          subst (λ (os : List Notice). IsLeft K M (turns_on (suc k) K S).memory (last_from K last S.memory os)) (sym (accepted_none k K S q))
          (subst (λ (x : Option UpdateOn). IsLeft K M (turns_on (suc k) K S).memory x) (sym (last_none K last S.memory))
          (subst (λ (N : BatchStanding). IsLeft K M N.memory last) (sym (turns_none (suc k) K S q)) is))
      go (some e) q ih =
          let G = meant K S.memory in
          let low = codes e (fit_some G S.waiting e q) in
          let fits = fit_accepts G S.waiting e q in
          let next = opening_network K shape S.memory e.notice free low fits in
          let this : UpdateOn = record { memory = S.memory; update = opens e.notice } in
          let rest =
          ih (turned K S e) (some this) (opening_free K shape S.memory e.notice free low) (λ f m. codes f (without_out e.number S.waiting m))
          (opening_left M S.memory e.notice free low fits) in
          let os : accepted (suc k) K S ≡ e.notice ∷ accepted k K (turned K S e) =
          accepted_some k G S.waiting e q ∙ ap (λ (H : Network). e.notice ∷ notices_of (batch_by k H (without e.number S.waiting)).accepted) (sym next) in
          subst (λ (xs : List Notice). IsLeft K M (turns_on (suc k) K S).memory (last_from K last S.memory xs)) (sym os)
          (subst (λ (x : Option UpdateOn). IsLeft K M (turns_on (suc k) K S).memory x) (sym (last_some K last S.memory e.notice (accepted k K (turned K S e))))
          (subst (λ (N : BatchStanding). IsLeft K M N.memory (last_from K (some this) (turned K S e).memory (accepted k K (turned K S e)))) (sym (turns_some k K shape S e q free low)) rest))

  pub given_marks : (rec : Record) (links : List ℕ) (B : Lent) (places input : List ℕ) → AreCodes K input → IsFree K (lent_memory rec links B)
      → let N = (batch_given zero K rec links B places input).memory in
      IsLeftBy K (update_call K) (map_network K N.rec N.links) (lent_memory rec links B) N (last_opening K rec links B input)
  unfolding last_opening batch_on batch_of
  given_marks rec links B places input codes free =
      subst (λ (N : LentMemory). IsLeft K (lent_memory rec links B) N (last_opening K rec links B input)) (sym (given_memory K rec links B places input))
      (turns_marks (length (entries_of input)) (lent_memory rec links B) (record { memory = lent_memory rec links B; waiting = entries_of input }) none free codes refl)

  pub batch_marks : BatchMarks K (batch_call K)
  unfolding batch_call
  batch_marks rec links B places input ok codes =
      subst (λ (k : ℕ). IsLeft K (lent_memory rec links B) (batch_given k K rec links B places input).memory (last_opening K rec links B input)) (sym ok)
      (given_marks rec links B places input codes (granted K rec links B.pairs (sizes_of links B) (length places) input ok).free)
