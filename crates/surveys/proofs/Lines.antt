-- THE LINES OF A RUN, one file more at a time. Assumes nothing.
use Rattle.std.proofs.Common.{◌≡◌, ℕ, zero, suc, ◌+◌, ◌≤◌, ◌<◌, List, [], ◌∷◌, ◌++◌, Option, None, Some, refl, sym, ap, ◌∙◌, append_assoc, append-nil, length, take, subst, arith}
use mathlib.Core.Bool.{Bool, true, false, ◌&&◌}
use Rattle.std.specs.Prelude.{fold, flat_map}
use Prim.Native.Nat.{zero-le}
use lib.ListN.{length-append}
use Rattle.std.specs.Io.KnownBytes.{Appends}
use Rattle.std.proofs.KnownBytes.{Appends-trans, Appends-nil}
use Rattle.transcript.specs.Transcript.{network_in}
use Rattle.feeding.specs.Reading.{AppendsPart}
use Rattle.feeding.proofs.Turns.{part_next, part_longer}
use Rattle.summaries.specs.Run.{files_limit, no_totals, summing_of, summing_text, with_file, total_line, file_line, run_text}
use Rattle.summaries.specs.Calls.{AreOfFiles}
use Rattle.summaries.specs.declared.Totals.{Totals}
use Rattle.surveys.specs.Surveys.{IsReadOf, AreReadOf}

-- ---- what was read

pub first_read : (known : Option (List ℕ)) (b : Bool) (read : List ℕ) → IsReadOf known b read → IsReadOf known false read
first_read None b read is = tt
first_read (Some all) true read is = ([], append-nil read ∙ is)
first_read (Some all) false read is = is

pub both_read : (known : Option (List ℕ)) (a b : Bool) (read : List ℕ) → IsReadOf known b read → IsReadOf known (a && b) read
both_read known true b read is = is
both_read known false b read is = first_read known b read is

module _ (bytes : ℕ → Option (List ℕ)) where
  pub firsts_read : (n : ℕ) (b : Bool) (reads : List (List ℕ)) → AreReadOf bytes n b reads → AreReadOf bytes n false reads
  unfolding AreReadOf
  firsts_read n b [] is = tt
  firsts_read n b (r ∷ rs) is = (first_read (bytes n) b r is.0, firsts_read (suc n) b rs is.1)

  boths_read : (n : ℕ) (a b : Bool) (reads : List (List ℕ)) → AreReadOf bytes n a reads → AreReadOf bytes n (a && b) reads
  boths_read n true true reads is = is
  boths_read n true false reads is = firsts_read n true reads is
  boths_read n false b reads is = is

  one_more : (n i : ℕ) (b : Bool) (reads : List (List ℕ)) (read : List ℕ) → n + length reads ≡ i → AreReadOf bytes n b reads → IsReadOf (bytes i) b read → AreReadOf bytes n b (reads ++ read ∷ [])
  unfolding AreReadOf
  one_more n i b [] read e is so = (subst (λ (k : ℕ). IsReadOf (bytes k) b read) (sym (omega (arith, e))) so, tt)
  one_more n i b (r ∷ rs) read e is so = (is.0, one_more (suc n) i b rs read (omega (arith, e)) is.1 so)

  -- the file of number i behind those before it
  pub read_more : (a b : Bool) (reads : List (List ℕ)) (read : List ℕ) (i : ℕ) → length reads ≡ i → AreReadOf bytes 0 a reads → IsReadOf (bytes i) b read
      → AreReadOf bytes 0 (a && b) (reads ++ read ∷ [])
  read_more a b reads read i e is so = one_more 0 i (a && b) reads read (omega (arith, e)) (boths_read 0 a b reads is) (both_read (bytes i) a b read so)

pub none_read : (bytes : ℕ → Option (List ℕ)) → AreReadOf bytes 0 true []
unfolding AreReadOf
none_read bytes = tt

-- ---- the totals

-- the totals with some files
abbrev pub totals_from : Totals → List (List ℕ) → Totals
totals_from t reads = fold (λ t read. with_file (summing_of (network_in read)) t) t reads

pub none_of_files : AreOfFiles (record { sum = 0; pairs = 0; files = 0 })
none_of_files = record { sum = zero-le; pairs = zero-le }

pub none_totalled : ◌≡◌ {A = Totals} (record { sum = 0; pairs = 0; files = 0 }) (totals_from no_totals [])
unfolding no_totals
none_totalled = refl

-- ---- the lines

pub line_is : (read : List ℕ) → summing_text (summing_of (network_in read)) ≡ file_line read
unfolding file_line
line_is read = refl

pub none_written : (w : Option (List ℕ)) → Appends w w (flat_map file_line [])
none_written w = Appends-nil w

pub lines_more : (reads : List (List ℕ)) (read : List ℕ) → flat_map file_line (reads ++ read ∷ []) ≡ flat_map file_line reads ++ file_line read
lines_more [] read = append-nil (file_line read)
lines_more (r ∷ rs) read = ap (λ (l : List ℕ). file_line r ++ l) (lines_more rs read) ∙ sym (append_assoc (file_line r) (flat_map file_line rs) (file_line read))

pub totals_more : (t : Totals) (reads : List (List ℕ)) (read : List ℕ) → totals_from t (reads ++ read ∷ []) ≡ with_file (summing_of (network_in read)) (totals_from t reads)
totals_more t [] read = refl
totals_more t (r ∷ rs) read = totals_more (with_file (summing_of (network_in r)) t) rs read

pub totals_then : (t x : Totals) (reads : List (List ℕ)) (read : List ℕ) → t ≡ totals_from no_totals reads → x ≡ with_file (summing_of (network_in read)) t
    → x ≡ totals_from no_totals (reads ++ read ∷ [])
totals_then t x reads read e h = h ∙ ap (λ (y : Totals). with_file (summing_of (network_in read)) y) e ∙ sym (totals_more no_totals reads read)

take_all : (n : ℕ) (reads : List (List ℕ)) → length reads ≤ n → take n reads ≡ reads
take_all zero [] l = refl
take_all zero (r ∷ rs) l = absurd (omega (arith, l))
take_all (suc n) [] l = refl
take_all (suc n) (r ∷ rs) l = ap (λ (x : List (List ℕ)). r ∷ x) (take_all n rs (omega (arith, l)))

pub text_is : (reads : List (List ℕ)) → length reads ≤ files_limit → run_text reads ≡ flat_map file_line reads ++ total_line (totals_from no_totals reads)
unfolding run_text
text_is reads l = ap (λ (x : List (List ℕ)). flat_map file_line x ++ total_line (totals_from no_totals x)) (take_all files_limit reads l)

module _ (w v y : Option (List ℕ)) (reads : List (List ℕ)) (so : Appends w v (flat_map file_line reads)) where
  -- one file more
  pub written_more : (read : List ℕ) → Appends v y (file_line read) → Appends w y (flat_map file_line (reads ++ read ∷ []))
  written_more read h = subst (Appends w y) (sym (lines_more reads read)) (Appends-trans w v y (flat_map file_line reads) (file_line read) so h)

  pub written_part_more : (read : List ℕ) → length reads < files_limit → AppendsPart v y (file_line read) → AppendsPart w y (run_text (reads ++ read ∷ []))
  written_part_more read l h =
      part_longer w y (flat_map file_line (reads ++ read ∷ [])) (total_line (totals_from no_totals (reads ++ read ∷ []))) (run_text (reads ++ read ∷ []))
      (part_next w v y (flat_map file_line reads) (file_line read) (flat_map file_line (reads ++ read ∷ [])) so h (sym (lines_more reads read)))
      (sym (text_is (reads ++ read ∷ []) (simp length-append (omega (arith, l)))))

  -- the last line
  module _ (t : Totals) (l : length reads ≤ files_limit) (is : t ≡ totals_from no_totals reads) where
    text_by : flat_map file_line reads ++ total_line t ≡ run_text reads
    text_by = ap (λ (x : Totals). flat_map file_line reads ++ total_line x) is ∙ sym (text_is reads l)

    pub written_last : Appends v y (total_line t) → Appends w y (run_text reads)
    written_last h = subst (Appends w y) text_by (Appends-trans w v y (flat_map file_line reads) (total_line t) so h)

    pub written_part_last : AppendsPart v y (total_line t) → AppendsPart w y (run_text reads)
    written_part_last h = part_next w v y (flat_map file_line reads) (total_line t) (run_text reads) so h text_by
