-- A CALL FOR OTHER LANGUAGES on words that hold a record leaves what the call that it wraps leaves. Assumes nothing.
use mathlib.Core.Path.{◌≡◌, ap, ◌∙◌}
use mathlib.Core.List.{List}
use Prim.Native.Nat.{ℕ, ◌≤◌}
use lib.ListN.{length}
use borrow.Author.Tests.{le-ltb}
use Rattle.std.specs.Prelude.{Result}
use Rattle.map.specs.declared.Record.{Record}
use Rattle.outcome.specs.Answers.{Left, leaves}
use Rattle.c_values.specs.Words.{record_words, record_of, clamped_of}
use Rattle.c_values.specs.Outs.{handed, on_words}

module _ {A V M : Type 0} (l : List ℕ) (new : A → V) (old : V) (lent : M) (call : Record → Left A M) where
  abbrev gives : Left A M → ℕ × V × M
  gives x = handed new old x.answer x.lent

  whole : record_words ≤ length l → gives (call (record_of l)) ≡ on_words l new old lent call
  unfolding on_words
  whole h = rw (le-ltb (length l) record_words h)

  -- whatever it answered, with the rest of what is lent where it was lent
  pub on_called : record_words ≤ length l → {rec : Record} → rec ≡ clamped_of l → gives (call (clamped_of l)) ≡ gives (call (record_of l))
      → {got : Result A ℕ} {m m' : M} → leaves got m ≡ call rec → m' ≡ m → handed new old got m' ≡ on_words l new old lent call
  on_called h read same {got} e q = ap (λ (x : M). handed new old got x) q ∙ ap gives (e ∙ ap call read) ∙ same ∙ whole h
