-- What the kind of a byte says of the frames that begin with it. Assumes nothing.
use mathlib.Core.Path.{◌≡◌, sym, ap, ◌∙◌}
use mathlib.Core.Bool.{Bool, false}
use Prim.Native.Nat.{ℕ, ◌<◌}
use native.Mathlib.Omega.{arith}
use lib.Dec.{eqb}
use borrow.Author.Tests.{ne_eqb}
use Rattle.std.specs.Option.{option_eq}
use Rattle.notice.specs.contracts.KindPartialEq.TheImpl.{eq-value}
use Rattle.std.specs.Prelude.{Option, Some, None, MatchOption}
use Rattle.notice.specs.Lines.{opening_kind, link_kind, yard_kind, opens_depot, frame_length}
use Rattle.notice.specs.Kinds.{byte_of, KindIs}
use Rattle.notice.specs.declared.Kind.{Kind}
use Rattle.notice.specs.declared.Kind.TheVariants.{Depot, Link, Yard}

-- how the code compares two kinds
abbrev pub same_kind : Kind → Kind → Bool
same_kind = eq-value.it

-- ---- whether they open a depot, and a yard

pub opens_by : (b : ℕ) (o : Option Kind) {r : Bool} → KindIs b o → MatchOption o (r ≡ false) (λ k. r ≡ opens_depot (byte_of k)) → r ≡ opens_depot b
unfolding opens_depot
opens_by b (Some k) e q = q ∙ ap opens_depot e
opens_by b None n q = q ∙ rw (ne_eqb b opening_kind (λ e. n Depot (sym e)), ne_eqb b yard_kind (λ e. n Yard (sym e)))

pub opens_yard_by : (b : ℕ) (o : Option Kind) → KindIs b o → option_eq same_kind o (Some Yard) ≡ eqb b yard_kind
opens_yard_by b (Some Depot) e = rw (← e)
opens_yard_by b (Some Link) e = rw (← e)
opens_yard_by b (Some Yard) e = rw (← e)
opens_yard_by b None n = sym (ne_eqb b yard_kind (λ e. n Yard (sym e)))

-- ---- how long they are

length_none : (b third : ℕ) → ((k : Kind) → byte_of k ≡ b → ⊥) → frame_length b third ≡ 0
unfolding frame_length opens_depot
length_none b third n = rw (ne_eqb b opening_kind (λ e. n Depot (sym e)), ne_eqb b yard_kind (λ e. n Yard (sym e)), ne_eqb b link_kind (λ e. n Link (sym e)))

pub length_by : (n b third : ℕ) (o : Option Kind) {P : Kind → Type 0} {r : Bool} → 0 < n → KindIs b o → MatchOption o (r ≡ false) P
    → ((k : Kind) → P k → r ≡ eqb n (frame_length (byte_of k) third)) → r ≡ eqb n (frame_length b third)
length_by n b third (Some k) some e q h = h k q ∙ ap (λ (x : ℕ). eqb n (frame_length x third)) e
length_by n b third None some none q h = q ∙ sym (ne_eqb n (frame_length b third) (λ e. omega (arith, length_none b third none)))
