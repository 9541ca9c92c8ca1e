-- OPENINGS IN A BATCH, over the network itself: notices handed over together, some beside
-- depots that others of them open. Proved in proofs/Batches: `batch_largest`, `batch_reached`, `batch_entries`, `batch_ended`.
-- Assumes nothing.
use Rattle.std.specs.Prelude.{◌≡◌, Bool, cond, not, ℕ, zero, suc, T, eqb, length}
use mathlib.Core.List.{List, [], ◌∷◌, Memᴰ}
use Rattle.std.proofs.Math.Option.{Option, none, some}
use Rattle.lists.specs.Lists.{filterb, first_of}
use Rattle.graph.specs.Network.{Network}
use Rattle.graph.specs.Opening.{Notice}
use Rattle.graph.specs.Updates.{opens, update_faults, applied}

-- an entry of a batch: its number from 0, and its notice
pub record Entry : Type 0 where
  pub number : ℕ
  pub notice : Notice

abbrev pub entry_of : ℕ → Notice → Entry
entry_of n o = record { number = n; notice = o }

unfoldable pub accepts : Network → Notice → Bool
unfolding first_of update_faults
accepts G o = eqb (first_of (update_faults G (opens o))) 0

-- the first entry, in the given order, that can be accepted
unfoldable pub first_fit : Network → List Entry → Option Entry
unfolding accepts
first_fit G [] = none
first_fit G (e ∷ es) = cond (accepts G e.notice) (some e) (first_fit G es)

unfoldable pub without : ℕ → List Entry → List Entry
unfolding filterb
without n es = filterb (λ e. not (eqb e.number n)) es

-- what a batch comes to: the network after it, the entries accepted in the order in which they were, and those left over in the given order
pub record Batch : Type 0 where
  pub network : Network
  pub accepted : List Entry
  pub left : List Entry

-- nothing more fits; or the entry e goes before what follows
abbrev pub batch_end : Network → List Entry → Batch
batch_end G es = record { network = G; accepted = []; left = es }

unfoldable pub or_end : Option Entry → Batch → (Entry → Batch) → Batch
or_end none x f = x
or_end (some e) x f = let r = f e in record { network = r.network; accepted = e ∷ r.accepted; left = r.left }

-- after each acceptance the scan starts again at the first entry; as many turns as entries are enough (`batch_ended`)
unfoldable pub batch_by : ℕ → Network → List Entry → Batch
unfolding first_fit without applied or_end
batch_by zero G es = batch_end G es
batch_by (suc k) G es = or_end (first_fit G es) (batch_end G es) (λ e. batch_by k (applied G (opens e.notice)) (without e.number es))

unfoldable pub batch_of : Network → List Entry → Batch
unfolding batch_by
batch_of G es = batch_by (length es) G es

-- notices offered one by one in some order, each accepted or refused
unfoldable pub offered : Network → List Notice → Network
unfolding accepts applied
offered G [] = G
offered G (o ∷ os) = offered (cond (accepts G o) (applied G (opens o)) G) os

-- ---- what is proved

-- no two entries have one number
abbrev pub AreNumbered : List Entry → Type 0
AreNumbered es = (e f : Entry) → Memᴰ e es → Memᴰ f es → e.number ≡ f.number → e ≡ f

-- each notice is that of an entry, and may stand there again
abbrev pub AreOffers : List Entry → List Notice → Type 0
AreOffers es os = (o : Notice) → Memᴰ o os → (e : Entry) × Memᴰ e es × (e.notice ≡ o)

-- every code open in G is open in F
abbrev pub AreOpenIn : Network → Network → Type 0
AreOpenIn G F = (c : ℕ) → T (G.is_open c) → T (F.is_open c)

unfoldable pub notices_of : List Entry → List Notice
notices_of [] = []
notices_of (e ∷ es) = e.notice ∷ notices_of es

unfoldable pub numbers_of : List Entry → List ℕ
numbers_of [] = []
numbers_of (e ∷ es) = e.number ∷ numbers_of es
