-- What the writer leaves, and the part that is handed back. Assumes nothing.
use mathlib.Core.Path.{◌≡◌, refl, ap, ap₂, ◌∙◌}
use mathlib.Core.Bool.{Bool, true, false, cond}
use mathlib.Core.List.{List, [], ◌∷◌}
use Prim.Native.Nat.{ℕ, ◌≤◌, ◌<◌, zero-le}
use native.Mathlib.Nat.{zero-add}
use native.Mathlib.Omega.{arith}
use lib.Dec.{ltb}
use lib.ListN.{length, take, drop, length-append}
use lib.Seq.{length-take-le}
use borrow.Author.Tests.{lt-ltb, le-ltb}
use Rattle.std.specs.Prelude.{Result, Ok, Err}
use Rattle.std.specs.Result.{result_unwrap_or}
use Rattle.lists.specs.Lists.{overwrite}
use Rattle.lists.proofs.Fills.{overwrite_take}
use Rattle.outcome.specs.declared.Refusal.{Refusal}
use Rattle.outcome.specs.declared.Refusal.TheVariants.{Short}
use Rattle.decimal.specs.Placed.{Placed}
use Rattle.decimal.proofs.Places.{placed_whole}
use Rattle.sentences.specs.Calls.{buffer_limit, write_call}
use Rattle.sentences.specs.Sentence.{sentence_of}
use Rattle.sentences.specs.declared.Said.{Said}

-- what a call leaves: its answer, and the lent buffer
abbrev Left : Type 0
Left = Result ℕ Refusal × List ℕ

-- ---- the call

pub call_done : (s : Said) {buffer after : List ℕ} {end : ℕ} → Placed (sentence_of s) 0 buffer end after → buffer_limit ≤ length buffer → ◌≡◌ {A = Left} (Ok end, after) (write_call s buffer)
unfolding write_call
call_done s {buffer} w k =
    rw (le-ltb (length buffer) buffer_limit k) (ap₂ (λ (n : ℕ) (l : List ℕ). (Ok n, l)) (w.behind ∙ zero-add (length (sentence_of s))) (placed_whole w))

-- ---- what is handed back

module _ (w : Result ℕ Refusal) {after : List ℕ} {call : Left} (e : ◌≡◌ {A = Left} (w, after) call) where
  pub length_told : {k : ℕ} → k ≡ result_unwrap_or w 0 → k ≡ result_unwrap_or call.0 0
  length_told p = p ∙ ap (λ (l : Left). result_unwrap_or l.0 0) e

  pub lent_told : after ≡ call.1
  lent_told = ap (λ (l : Left). l.1) e

pub ruleset handed = (length_told, lent_told)

-- the part is the sentence itself, and nothing exactly where the buffer is short
abbrev part_of : Left → List ℕ
part_of left = take (result_unwrap_or left.0 0) left.1

pub part_written : (s : Said) (buffer : List ℕ) → buffer_limit ≤ length buffer → part_of (write_call s buffer) ≡ sentence_of s
unfolding write_call
part_written s buffer h = rw (le-ltb (length buffer) buffer_limit h) (overwrite_take (sentence_of s) buffer)

pub part_refused : (s : Said) (buffer : List ℕ) → length buffer < buffer_limit → part_of (write_call s buffer) ≡ []
unfolding write_call
part_refused s buffer h = rw (lt-ltb (length buffer) buffer_limit h) refl
