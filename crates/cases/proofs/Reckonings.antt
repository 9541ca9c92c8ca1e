-- A PATH RECKONED ON LENT MEMORY: the call is not refused, and its result is that of the network's own reckoning. Assumes nothing.
use mathlib.Core.Path.{◌≡◌, refl, sym, ap, ◌∙◌}
use mathlib.Core.Bool.{true, cond, false}
use mathlib.Core.List.{List, []}
use Prim.Native.Nat.{ℕ, ◌≤◌}
use lib.Dec.{T}
use lib.ListN.{length, take}
use Rattle.lists.specs.Lists.{range, countb, mapl, overwrite}
use Rattle.lists.proofs.Tests.{t→true, true→t}
use Rattle.lists.proofs.Fills.{length_fill, overwrite_take}
use Rattle.rows.specs.Rows.{row_bit, encode_table}
use Rattle.graph.specs.Network.{Network}
use Rattle.graph.specs.Distance.{vertices, unreached, connected}
use Rattle.graph.specs.Chart.{chart, count_pairs}
use Rattle.graph.specs.Rounds.{State, mark_of, bound_of, reckon}
use Rattle.graph.specs.Cases.{pair_list, path}
use Rattle.graph.proofs.Connected.{connected_iff}
use Rattle.graph.proofs.Theorems.{reckoning_correct}
use Rattle.map.specs.Memory.{base, network_of, map_network}
use Rattle.checks.specs.Sound.{sound_links}
use Rattle.map.specs.declared.Record.{Record}
use Rattle.checks.proofs.Theorems.{sound_links_iff}
use Rattle.map.specs.Room.{Lent, sizes_of}
use Rattle.rounds.specs.Leaves.{rounds_leave}
use Rattle.std.specs.Prelude.{None, Ok}
use Rattle.outcome.specs.Answers.{numbered, Left, leaves}
use Rattle.outcome.proofs.Answers.{done_leaves}
use Rattle.reckon.specs.declared.Reckoned.{Reckoned}
use Rattle.reckon.specs.ReckonCall.{reckon_refusal, figured_by, reckon_call}
use Rattle.lent_map.proofs.Refuses.{refused_never}
use Rattle.update.proofs.Memories.{IsHeld, open_below}
use Rattle.rounds.proofs.Reading.{pairs_read}
use Rattle.cases.specs.Results.{pairs_in, IsMapOf, Result, result_of}
use Rattle.cases.proofs.Listings.{pairs_open, count_open}
use Rattle.cases.proofs.Paths.{path_held}
use Rattle.graph.proofs.Delivers.{delivers_open}
use Rattle.graph.proofs.Yards.{yards_connected}

-- the result of the path's own reckoning
unfoldable pub path_result : ℕ → ℕ → Result
path_result k number =
    let S = reckon (chart (path k)) in (
      length S.references,
      S.references,
      (number, S.candidate, count_pairs (vertices (path k)) S.pairs),
      mapl (λ v. cond ((path k).is_open v) (mark_of 256 257 (S.status v)) 257) (range 256),
      mapl (λ v. cond ((path k).is_open v) (bound_of (S.status v)) unreached) (range 256),
      pair_list (vertices (path k)) S.pairs,
    )

-- what is written over a buffer's first n places stands there
placed : (f : ℕ → ℕ) (n : ℕ) (old : List ℕ) → take n (overwrite (mapl f (range n)) old) ≡ mapl f (range n)
placed f n old = ap (λ (k : ℕ). take k (overwrite (mapl f (range n)) old)) (sym (length_fill f n)) ∙ overwrite_take (mapl f (range n)) old

module _ (k number : ℕ) (low : k ≤ 256) (counts : number ≡ countb (path k).is_open (range 256)) (rec : Record) (links : List ℕ) (B : Lent) (lent : IsMapOf (path k) number rec links B) where
  abbrev S : State
  S = reckon (chart (path k))

  held : IsHeld base (path k)
  held = path_held k low

  -- ---- nothing refuses it

  links_pass : sound_links 256 (map_network base rec links) rec.number ≡ true
  links_pass =
      (sound_links_iff 4 rec.members rec.yards links rec.number).1
      (rw (lent.network, lent.counted) (record { is_sound = held.net.sound; counted = counts }))

  connected_pass : connected (map_network base rec links) ≡ true
  connected_pass = rw lent.network ((connected_iff (path k) held.net.sound held.net.small).1 held.net.connected)

  accepts : None ≡ reckon_refusal base rec links (sizes_of links B)
  unfolding reckon_refusal numbered
  accepts =
      ap numbered (refused_never base rec links [] false lent.long links_pass refl
      (sym (yards_connected (row_bit 4 rec.yards) (network_of 4 rec.members links)) ∙ connected_pass))

  -- ---- what it leaves

  abbrev reckoned : ℕ → Record → Reckoned
  reckoned n after = record { searches = n; after = after }

  abbrev left_by : Network → Left Reckoned Lent
  left_by G =
      let R = reckon (chart G) in
      leaves
      (Ok (reckoned (length R.references)
      (record { members = rec.members; number = rec.number; chain = R.candidate; count = count_pairs (range 256) R.pairs; yards = rec.yards })))
      (rounds_leave base G R B)

  left_is : reckon_call base rec links B ≡ left_by (path k)
  unfolding reckon_call figured_by
  left_is = sym (done_leaves B (left_by (map_network base rec links)) accepts) ∙ ap left_by lent.network

  -- the pairs join open depots
  ends : (u v : ℕ) → T (S.pairs u v) → T ((path k).is_open u) × T ((path k).is_open v)
  ends u v h = let f = ((reckoning_correct (path k) held.net).figures.pairs u v).0 h in (delivers_open (path k) u f.first, delivers_open (path k) v f.second)

  tests : (u v : ℕ) → S.pairs u v ≡ true → ((path k).is_open u ≡ true) × ((path k).is_open v ≡ true)
  tests u v h = let e = ends u v (true→t h) in (t→true ((path k).is_open u) e.0, t→true ((path k).is_open v) e.1)

  pairs_are_lem : pairs_in (overwrite (encode_table 4 S.pairs) B.pairs) ≡ pair_list (vertices (path k)) S.pairs
  unfolding pairs_in
  pairs_are_lem =
      ap (pair_list (range 256)) (pairs_read base (path k) (open_below base (path k) held) S.pairs ends B.pairs)
      ∙ sym (pairs_open S.pairs (path k).is_open tests (range 256))
      ∙ ap (λ (vs : List ℕ). pair_list vs S.pairs) (sym held.depots)

  count_is : count_pairs (range 256) S.pairs ≡ count_pairs (vertices (path k)) S.pairs
  count_is = sym (count_open S.pairs (path k).is_open tests (range 256)) ∙ ap (λ (vs : List ℕ). count_pairs vs S.pairs) (sym held.depots)

  -- ---- ITS RESULT

  pub path_result_lem : result_of (reckon_call base) rec links B ≡ Ok (path_result k number)
  unfolding result_of path_result rounds_leave
  path_result_lem =
      rw (left_is, lent.network, lent.counted, count_is, pairs_are_lem)
      (λ i. Ok (
        length S.references,
        S.references,
        (number, S.candidate, count_pairs (vertices (path k)) S.pairs),
        placed (λ v. cond ((path k).is_open v) (mark_of 256 257 (S.status v)) 257) 256 B.skips i,
        placed (λ v. cond ((path k).is_open v) (bound_of (S.status v)) unreached) 256 B.bounds i,
        pair_list (vertices (path k)) S.pairs,
      ))
