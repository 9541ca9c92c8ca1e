-- WHAT WAS READ of a file, by how its reading ended, and the map after it. Assumes nothing.
use Rattle.std.proofs.Common.{◌≡◌, ℕ, List, [], ◌++◌, Option, None, Some, IfSome, refl, sym, ap, ◌∙◌, append_assoc, append-nil, ◌≤◌, subst}
use mathlib.Core.Bool.{Bool, true, false}
use mathlib.Core.Logic.{◌⊎◌, inl, inr}
use Rattle.std.specs.declared.io.Error.{Error}
use Rattle.std.specs.Io.KnownBytes.{Consumes, IsAtEnd}
use Rattle.transcript.specs.Transcript.{lines_limit, network_in}
use Rattle.transcript.specs.Manner.{as_reports}
use Rattle.stream.specs.Pieces.{Standing, stands_told, used_told, HasBegun}
use Rattle.stream.proofs.Theorems.{IsMapOf, network_told, unfollowed_told}
use Rattle.feeding.specs.Reading.{IsAnswered, IsOver, IsCut, Reads}
use Rattle.feeding.proofs.Turns.{turned_none}
use Rattle.feeding.specs.declared.Ending.{Ending}
use Rattle.feeding.specs.declared.Ending.TheVariants.{Stopped, Whole, Failed, Unwritten, Endless}
use Rattle.surveys.specs.Surveys.{IsReadOf, Follows}

-- a file that could not be opened
pub none_read : (known : Option (List ℕ)) → IsReadOf known false []
none_read None = tt
none_read (Some all) = (all, refl)

pub unopened : (known : Option (List ℕ)) (s : Standing) → Follows known s s false
unopened known s = record {
  read = [];
  is_read = none_read known;
  used = [];
  told = [];
  turned = turned_none as_reports s;
  rest = [];
  parts = refl;
  over = inl refl;
}

-- a first part was read, of which the stream used a first part
first_of : (known r q : Option (List ℕ)) (used rest read : List ℕ) → IfSome known (λ all. r ≡ Some all) → Consumes r q read → used ++ rest ≡ read → IsReadOf known false used
first_of None r q used rest read k p e = tt
first_of (Some all) r q used rest read k p e = go q (subst (λ (x : Option (List ℕ)). Consumes x q read) k p)
  where
    go : (q : Option (List ℕ)) → Consumes (Some all) q read → (more : List ℕ) × (used ++ more ≡ all)
    go None p = absurd p
    go (Some z) p = (rest ++ z, sym (append_assoc used rest z) ∙ ap (λ (l : List ℕ). l ++ z) e ∙ sym p)

-- all was read
all_of : (known r q : Option (List ℕ)) (read : List ℕ) → IfSome known (λ all. r ≡ Some all) → Consumes r q read → IsAtEnd q → IsReadOf known true read
all_of None r q read k p e = tt
all_of (Some all) r q read k p e = go q (subst (λ (x : Option (List ℕ)). Consumes x q read) k p) e
  where
    go : (q : Option (List ℕ)) → Consumes (Some all) q read → IsAtEnd q → read ≡ all
    go None p e = absurd p
    go (Some z) p e = sym (append-nil read) ∙ ap (λ (l : List ℕ). read ++ l) (sym e) ∙ sym p

module _ (known : Option (List ℕ)) (s t : Standing) (r q w v : Option (List ℕ)) (k : IfSome known (λ all. r ≡ Some all)) where
  answered_follows : (read : List ℕ) (b : Bool) → IsReadOf known b read → IsAnswered as_reports s t w v read → Follows known s t b
  answered_follows read b is so = record {
    read = read;
    is_read = is;
    used = read;
    told = so.told;
    turned = so.turned;
    rest = [];
    parts = append-nil read;
    over = inl refl;
  }

  -- the stream has had its lines: what it did not read could not change it
  over_follows : (read : List ℕ) → Consumes r q read → IsOver as_reports s t w v read → Follows known s t true
  over_follows read p so = go known q k p
    where
      go : (known q : Option (List ℕ)) → IfSome known (λ all. r ≡ Some all) → Consumes r q read → Follows known s t true
      go None q k p = record {
        read = read;
        is_read = tt;
        used = so.used;
        told = so.told;
        turned = so.turned;
        rest = so.rest;
        parts = so.parts;
        over = inr so.over;
      }
      go (Some all) q k p = known_over q (subst (λ (x : Option (List ℕ)). Consumes x q read) k p)
        where
          known_over : (q : Option (List ℕ)) → Consumes (Some all) q read → Follows (Some all) s t true
          known_over None p = absurd p
          known_over (Some z) p = record {
            read = all;
            is_read = refl;
            used = so.used;
            told = so.told;
            turned = so.turned;
            rest = so.rest ++ z;
            parts = sym (append_assoc so.used so.rest z) ∙ ap (λ (l : List ℕ). l ++ z) so.parts ∙ sym p;
            over = inr so.over;
          }

  cut_follows : (read : List ℕ) → Consumes r q read → IsCut as_reports s t w v read → Follows known s t false
  cut_follows read p so = record {
    read = so.used;
    is_read = first_of known r q so.used so.rest read k p so.parts;
    used = so.used;
    told = so.told;
    turned = so.turned;
    rest = [];
    parts = append-nil so.used;
    over = inl refl;
  }

  pub whole_follows : {e : Ending} → (e ≡ Whole) ⊎ (e ≡ Stopped) → Reads as_reports s t r q w v e → Follows known s t true
  whole_follows {e} (inl p) =
      subst (λ (x : Ending). Reads as_reports s t r q w v x → Follows known s t true) (sym p)
      (λ so. answered_follows so.0 true (all_of known r q so.0 k so.1 so.3) so.2)
  whole_follows {e} (inr p) =
      subst (λ (x : Ending). Reads as_reports s t r q w v x → Follows known s t true) (sym p)
      (λ so. over_follows so.0 so.1 so.2)

  pub failed_follows : {e : Ending} (why : Error) → (e ≡ Failed why) ⊎ (e ≡ Unwritten why) → Reads as_reports s t r q w v e → Follows known s t false
  failed_follows {e} why (inl p) =
      subst (λ (x : Ending). Reads as_reports s t r q w v x → Follows known s t false) (sym p)
      (λ so. answered_follows so.0 false (first_of known r q so.0 [] so.0 k so.1 (append-nil so.0)) so.2)
  failed_follows {e} why (inr p) =
      subst (λ (x : Ending). Reads as_reports s t r q w v x → Follows known s t false) (sym p)
      (λ so. cut_follows so.0 so.1 so.2)

  pub endless_follows : {e : Ending} → e ≡ Endless → Reads as_reports s t r q w v e → Follows known s t false
  endless_follows {e} p =
      subst (λ (x : Ending). Reads as_reports s t r q w v x → Follows known s t false) (sym p)
      (λ so. answered_follows so.0 false (first_of known r q so.0 [] so.0 k so.1 (append-nil so.0)) so.2)

-- ---- the map after it

pub follows_map : (known : Option (List ℕ)) (s t : Standing) (whole : Bool) → HasBegun s → (f : Follows known s t whole) → IsMapOf (network_in f.read) t
follows_map known s t whole is f =
    subst (λ (x : Standing). IsMapOf (network_in f.read) x) f.turned.stands
    (subst (λ (G : _). IsMapOf G (stands_told as_reports s f.turned.turns)) (network_is f.over)
    (network_told as_reports s is f.turned.turns))
  where
    used_is : used_told as_reports s f.turned.turns ≡ f.used
    used_is = f.turned.uses

    network_is : (f.rest ≡ []) ⊎ (lines_limit ≤ t.progress.lines) → network_in (used_told as_reports s f.turned.turns) ≡ network_in f.read
    network_is (inl e) =
        ap network_in (used_is ∙ sym (append-nil f.used) ∙ ap (λ (l : List ℕ). f.used ++ l) (sym e) ∙ f.parts)
    network_is (inr l) =
        unfollowed_told as_reports s is f.turned.turns f.rest (subst (λ (x : Standing). lines_limit ≤ x.progress.lines) (sym f.turned.stands) l)
        ∙ ap network_in (ap (λ (l : List ℕ). l ++ f.rest) used_is ∙ f.parts)
