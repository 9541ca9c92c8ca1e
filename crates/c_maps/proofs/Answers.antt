-- WHAT EMPTYING, THE SEARCH AND THE WHOLE RECKONING LEAVE, way out by way out. Assumes nothing.
use mathlib.Core.Path.{◌≡◌, refl, ap, ◌∙◌}
use mathlib.Core.Bool.{Bool, not}
use mathlib.Core.List.{List, [], ◌∷◌}
use Prim.Native.Nat.{ℕ, ◌≤◌}
use lib.ListN.{length, get_or}
use Rattle.lists.specs.Lists.{first_of, overwrite}
use Rattle.graph.specs.Distance.{connected}
use Rattle.map.specs.Room.{Tables, Lent, sizes_of, long_enough}
use Rattle.map.specs.Memory.{base, map_network}
use Rattle.map.specs.Empty.{empty_call}
use Rattle.map.specs.declared.Record.{Record}
use Rattle.std.specs.Prelude.{Option, Some, None, Result, Ok}
use Rattle.outcome.specs.Answers.{numbered, Left, leaves, unless}
use Rattle.outcome.proofs.Answers.{unless_same}
use Rattle.search.specs.declared.Reach.{Reach}
use Rattle.search.specs.SearchCall.{search_sizes, search_refusal, search_call}
use Rattle.graph.specs.Chart.{chart}
use Rattle.graph.specs.Rounds.{reckon}
use Rattle.rounds.specs.Leaves.{rounds_leave}
use Rattle.reckon.specs.declared.Reckoned.{Reckoned}
use Rattle.reckon.specs.ReckonCall.{reckon_refusal, figured_by, reckon_call}
use Rattle.reckon.proofs.Reckons.{granted_tests}
use Rattle.c_values.specs.Words.{record_words, record_of, words_of, clamped_of}
use Rattle.c_maps.specs.Outs.{empty_out, search_out, reckon_out}
use Rattle.c_values.specs.Outs.{handed}
use Rattle.c_values.proofs.Outs.{on_called}
use Rattle.c_values.proofs.Clamps.{network_in, links_clamp, links_first_clamp, number_fits}
use Rattle.lent_map.specs.Faults.{lent_faults, lent_refusal}

-- ---- emptying

module _ (l links pairs : List ℕ) where
  -- whatever the call that it wraps answered; it reads nothing of the record
  pub empty_called : record_words ≤ length l → {got : Result Record ℕ} {m : List ℕ × List ℕ} → leaves got m ≡ empty_call base links pairs
      → handed (λ (after : Record). overwrite (words_of after) l) l got m ≡ empty_out l links pairs
  unfolding empty_out
  empty_called h e =
      on_called l (λ (after : Record). overwrite (words_of after) l) l (links, pairs) (λ (rec : Record). empty_call base links pairs) h refl refl e refl

-- ---- the search

module _ (l links : List ℕ) (B : Tables) (old : ℕ × ℕ) (code : ℕ) where
  -- a number that is too large is spoilt, as the largest one is; the figures do not matter
  search_clamp : search_call base (clamped_of l) links B code ≡ search_call base (record_of l) links B code
  unfolding search_call search_refusal clamped_of record_of
  search_clamp =
      unless_same _
      (ap numbered (links_first_clamp l links (long_enough base (search_sizes base (length links) (length B.hops) (length B.even) (length B.odd)))
      ((not ((network_in l links).is_open code), 4) ∷ [])))
      refl

  pub search_called : record_words ≤ length l → {rec : Record} → rec ≡ clamped_of l → {got : Result Reach ℕ} {B' B'' : Tables}
      → leaves got B' ≡ search_call base rec links B code → B'' ≡ B'
      → handed (λ (r : Reach). (r.ecc, r.depth)) old got B'' ≡ search_out l links B old code
  unfolding search_out
  search_called h read e q =
      let gives = λ (x : Left Reach Tables). handed (λ (r : Reach). (r.ecc, r.depth)) old x.answer x.lent in
      on_called l (λ (r : Reach). (r.ecc, r.depth)) old B (λ r. search_call base r links B code) h read (ap gives search_clamp) e q

-- ---- the whole reckoning

module _ (l links : List ℕ) (B : Lent) (old : ℕ) where
  abbrev figures : Reckoned → List ℕ × ℕ
  figures a = (overwrite (words_of a.after) l, a.searches)

  abbrev reckoned : Left Reckoned Lent → ℕ × (List ℕ × ℕ) × Lent
  reckoned x = handed figures (l, old) x.answer x.lent

  refusal_clamp : reckon_refusal base (clamped_of l) links (sizes_of links B) ≡ reckon_refusal base (record_of l) links (sizes_of links B)
  unfolding reckon_refusal lent_refusal lent_faults clamped_of record_of
  refusal_clamp =
      ap (λ (t : Bool). numbered (first_of ((not (long_enough base (sizes_of links B)), 1) ∷ (not t, 2) ∷ (not (connected (network_in l links)), 3) ∷ [])))
      (links_clamp (network_in l links) (get_or l 4 0))

  -- what an accepted call leaves, of a record
  done : Record → Left Reckoned Lent
  done rec =
      let G = map_network base rec links in
      let S = reckon (chart G) in
      leaves (Ok (record { searches = length S.references; after = figured_by base rec S })) (rounds_leave base G S B)

  reckon_clamp : reckoned (reckon_call base (clamped_of l) links B) ≡ reckoned (reckon_call base (record_of l) links B)
  unfolding reckon_call unless done handed figured_by words_of clamped_of record_of
  reckon_clamp = ap (λ (k : Option ℕ). reckoned (unless k B (done (clamped_of l)))) refusal_clamp ∙ go (reckon_refusal base (record_of l) links (sizes_of links B)) refl
    where
      go : (k : Option ℕ) → k ≡ reckon_refusal base (record_of l) links (sizes_of links B) → reckoned (unless k B (done (clamped_of l))) ≡ reckoned (unless k B (done (record_of l)))
      go None e = rw (number_fits (network_in l links) (get_or l 4 0) (granted_tests base (record_of l) links (sizes_of links B) e).0)
      go (Some k) e = refl

  pub reckon_called : record_words ≤ length l → {rec : Record} → rec ≡ clamped_of l → {got : Result Reckoned ℕ} {B' B'' : Lent}
      → leaves got B' ≡ reckon_call base rec links B → B'' ≡ B' → handed figures (l, old) got B'' ≡ reckon_out l links B old
  unfolding reckon_out
  reckon_called h read e q = on_called l figures (l, old) B (λ (r : Record). reckon_call base r links B) h read reckon_clamp e q
