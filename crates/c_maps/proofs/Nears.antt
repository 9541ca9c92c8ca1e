-- WHAT THE CALLS ON DEPOTS NEAR ONE LEAVE, way out by way out. Assumes nothing.
use mathlib.Core.Path.{◌≡◌, refl, ap, ◌∙◌}
use mathlib.Core.Bool.{not, ◌&&◌}
use mathlib.Core.List.{List, [], ◌∷◌}
use Prim.Native.Nat.{ℕ, ◌≤◌}
use lib.Dec.{leb}
use lib.ListN.{length}
use borrow.Author.Tests.{le-ltb}
use Rattle.lists.specs.Lists.{anyb}
use Rattle.map.specs.Room.{Tables, long_enough}
use Rattle.map.specs.Memory.{base, places}
use Rattle.map.specs.declared.Record.{Record}
use Rattle.search.specs.SearchCall.{search_sizes}
use Rattle.std.specs.Prelude.{Result}
use Rattle.outcome.specs.Answers.{numbered, Left, leaves}
use Rattle.outcome.proofs.Answers.{unless_same}
use Rattle.nearby.specs.declared.NearestDepot.{NearestDepot}
use Rattle.nearby.specs.WithinCall.{within_refusal, within_call}
use Rattle.nearby.specs.NearestCall.{nearest_refusal, nearest_call}
use Rattle.c_values.specs.Words.{record_words, record_of, clamped_of}
use Rattle.c_values.specs.Outs.{handed}
use Rattle.c_values.proofs.Outs.{on_called}
use Rattle.c_values.proofs.Clamps.{network_in, links_first_clamp}
use Rattle.c_maps.specs.Nears.{within_out, nearest_out}

-- ---- the depots within k handovers

module _ (l links : List ℕ) (B : Tables) (codes : List ℕ) (old code k : ℕ) where
  -- a number that is too large is spoilt, as the largest one is; the figures do not matter
  within_clamp_out : within_call base (clamped_of l) links B codes code k ≡ within_call base (record_of l) links B codes code k
  unfolding within_call within_refusal clamped_of record_of
  within_clamp_out =
      unless_same _
      (ap numbered (links_first_clamp l links
      (long_enough base (search_sizes base (length links) (length B.hops) (length B.even) (length B.odd)) && leb (places base) (length codes))
      ((not ((network_in l links).is_open code), 4) ∷ [])))
      refl

  -- whatever the call that it wraps answered
  pub within_called : record_words ≤ length l → {rec : Record} → rec ≡ clamped_of l → {got : Result ℕ ℕ} {B' B'' : Tables} {codes' : List ℕ}
      → leaves got (B', codes') ≡ within_call base rec links B codes code k → B'' ≡ B'
      → handed (λ n. n) old got (B'', codes') ≡ within_out l links B codes old code k
  unfolding within_out
  within_called h read {codes' = codes'} e q =
      let gives = λ (x : Left ℕ (Tables × List ℕ)). handed (λ n. n) old x.answer x.lent in
      on_called l (λ n. n) old (B, codes) (λ r. within_call base r links B codes code k) h read (ap gives within_clamp_out) e
      (ap (λ (T : Tables). (T, codes')) q)

-- ---- the nearest depot of a list

module _ (l links : List ℕ) (B : Tables) (old : ℕ × ℕ) (code : ℕ) (listed : List ℕ) where
  nearest_clamp_out : nearest_call base (clamped_of l) links B code listed ≡ nearest_call base (record_of l) links B code listed
  unfolding nearest_call nearest_refusal clamped_of record_of
  nearest_clamp_out =
      unless_same _
      (ap numbered (links_first_clamp l links (long_enough base (search_sizes base (length links) (length B.hops) (length B.even) (length B.odd)))
      ((not ((network_in l links).is_open code), 4) ∷ (not (anyb (network_in l links).is_open listed), 10) ∷ [])))
      refl

  pub nearest_called : record_words ≤ length l → {rec : Record} → rec ≡ clamped_of l → {got : Result NearestDepot ℕ} {B' B'' : Tables}
      → leaves got B' ≡ nearest_call base rec links B code listed → B'' ≡ B'
      → handed (λ (n : NearestDepot). (n.code, n.distance)) old got B'' ≡ nearest_out l links B old code listed
  unfolding nearest_out
  nearest_called h read e q =
      let gives = λ (x : Left NearestDepot Tables). handed (λ (n : NearestDepot). (n.code, n.distance)) old x.answer x.lent in
      on_called l (λ (n : NearestDepot). (n.code, n.distance)) old B (λ r. nearest_call base r links B code listed) h read (ap gives nearest_clamp_out) e q
