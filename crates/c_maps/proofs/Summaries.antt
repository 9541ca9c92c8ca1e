-- WHAT THE CALL OF THE NETWORK REPORT LEAVES, way out by way out. Assumes nothing.
use mathlib.Core.Path.{◌≡◌, refl, ap, ◌∙◌}
use mathlib.Core.Bool.{◌&&◌}
use mathlib.Core.List.{List, [], ◌∷◌}
use Prim.Native.Nat.{ℕ, ◌≤◌}
use lib.Dec.{leb, ltb}
use lib.ListN.{length}
use borrow.Author.Tests.{le-ltb}
use Rattle.lists.specs.Lists.{countb}
use Rattle.graph.specs.Network.{delivers}
use Rattle.graph.specs.Distance.{vertices}
use Rattle.map.specs.Room.{Tables, long_enough}
use Rattle.map.specs.Memory.{base, places}
use Rattle.map.specs.declared.Record.{Record}
use Rattle.search.specs.SearchCall.{search_sizes}
use Rattle.std.specs.Prelude.{Result}
use Rattle.outcome.specs.Answers.{numbered, Left, leaves}
use Rattle.outcome.proofs.Answers.{unless_same}
use Rattle.summary.specs.declared.Summary.{Summary}
use Rattle.summary.specs.SummaryCall.{summary_refusal, summary_call}
use Rattle.c_values.specs.Words.{record_words, record_of, clamped_of}
use Rattle.c_values.specs.Outs.{handed}
use Rattle.c_values.proofs.Outs.{on_called}
use Rattle.c_values.proofs.Clamps.{network_in, links_first_clamp}
use Rattle.c_maps.specs.Summaries.{summary_out}

module _ (l links : List ℕ) (B : Tables) (counts : List ℕ) (old : ℕ × ℕ × ℕ × ℕ) where
  abbrev numbers : Summary → ℕ × ℕ × ℕ × ℕ
  numbers s = (s.sum, s.pairs, s.quotient, s.remainder)

  -- a number that is too large is spoilt, as the largest one is; the figures do not matter
  summary_clamp_out : summary_call base (clamped_of l) links B counts ≡ summary_call base (record_of l) links B counts
  unfolding summary_call summary_refusal clamped_of record_of
  summary_clamp_out =
      unless_same _
      (ap numbered (links_first_clamp l links
      (long_enough base (search_sizes base (length links) (length B.hops) (length B.even) (length B.odd)) && leb (places base) (length counts))
      ((ltb (countb (delivers (network_in l links)) (vertices (network_in l links))) 2, 15) ∷ [])))
      refl

  -- whatever the call that it wraps answered
  pub summary_called : record_words ≤ length l → {rec : Record} → rec ≡ clamped_of l → {got : Result Summary ℕ} {B' B'' : Tables} {counts' : List ℕ}
      → leaves got (B', counts') ≡ summary_call base rec links B counts → B'' ≡ B'
      → handed numbers old got (B'', counts') ≡ summary_out l links B counts old
  unfolding summary_out
  summary_called h read {counts' = counts'} e q =
      let gives = λ (x : Left Summary (Tables × List ℕ)). handed numbers old x.answer x.lent in
      on_called l numbers old (B, counts) (λ r. summary_call base r links B counts) h read (ap gives summary_clamp_out) e
      (ap (λ (T : Tables). (T, counts')) q)
