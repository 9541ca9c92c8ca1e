-- The refusals of a reckoning, and what an accepted one leaves. Assumes nothing.
use mathlib.Core.Path.{◌≡◌, refl, sym, ap, ◌∙◌, subst}
use mathlib.Core.Bool.{true, false, Bool}
use mathlib.Core.List.{List, []}
use Prim.Native.Nat.{ℕ, ◌*◌, ◌≤◌}
use native.Mathlib.Omega.{arith}
use lib.ListN.{length}
use Rattle.lists.specs.Lists.{overwrite}
use Rattle.graph.specs.Network.{Network, delivers}
use Rattle.graph.specs.Distance.{connected}
use Rattle.graph.specs.Chart.{chart}
use Rattle.graph.specs.Rounds.{start, reckon}
use Rattle.graph.specs.Correct.{IsNet}
use Rattle.rows.specs.Rows.{encode_row}
use Rattle.map.specs.Room.{tables, Lent, lent, Sizes, sizes, sizes_of, long_enough, AreLong}
use Rattle.map.specs.Memory.{Shape, IsShape, places, map_network}
use Rattle.checks.specs.Sound.{sound_links}
use Rattle.map.specs.declared.Record.{Record}
use Rattle.pairs.specs.Pairs.{tally}
use Rattle.bounds.specs.Bounds.{Marks, marks}
use Rattle.rounds.specs.Leaves.{Ran, ran, ran_by}
use Rattle.rounds.specs.Targets.{target_network, AreTargets}
use Rattle.rounds.specs.Workspace.{Workspace, workspace, run_of, rounds_begun, rounds_begin_of}
use Rattle.rounds.proofs.Holding.{Origin}
use Rattle.rounds.proofs.Targets.{delivering_targets, delivering_network}
use Rattle.rounds.proofs.Finish.{start_holds, start_running, run_is}
use Rattle.std.specs.Prelude.{Option, Some, None, Ok, Err, Result}
use Rattle.outcome.specs.Answers.{answer_of, refusal_in, numbered, leaves}
use Rattle.outcome.specs.Refusals.{number_of, refused_by}
use Rattle.outcome.specs.declared.Refusal.{Refusal}
use Rattle.outcome.proofs.Answers.{none_is, some_is, number_is, refused_leaves, done_leaves}
use Rattle.reckon.specs.declared.Reckoned.{Reckoned}
use Rattle.reckon.specs.ReckonCall.{reckon_refusal, figured_by, reckon_call}
use Rattle.map.proofs.Longs.{are_long_lem}
use Rattle.lent_map.proofs.Passes.{IsPassed, lent-passed, passed_net}
use Rattle.lent_map.specs.Faults.{lent_faults, lent_refusal}

-- ---- the refusals

module _ (K : Shape) (rec : Record) (links : List ℕ) (z : Sizes) where
  abbrev G : Network
  G = map_network K rec links

  -- what refuses the lent map
  pub refused_map : (r : Result Unit Refusal) {b : Bool} → b ≡ long_enough K z → refused_by r ≡ lent_refusal K b false rec links []
      → refusal_in (answer_of r) ≡ reckon_refusal K rec links z
  unfolding reckon_refusal numbered
  refused_map (Ok x) q e = ap numbered (e ∙ ap (λ (b : Bool). lent_refusal K b false rec links []) q)
  refused_map (Err k) q e = number_is k (e ∙ ap (λ (b : Bool). lent_refusal K b false rec links []) q)

  -- none holds: whole buffers, and a network that a map can hold
  passed : None ≡ reckon_refusal K rec links z → IsPassed K (long_enough K z) false rec links [] []
  unfolding reckon_refusal lent_refusal lent_faults
  passed e = lent-passed K (long_enough K z) false rec links [] [] (none_is _ e)

  pub granted_long : None ≡ reckon_refusal K rec links z → AreLong K z
  granted_long e = are_long_lem K z (passed e).whole

  pub granted_tests : None ≡ reckon_refusal K rec links z → (sound_links (places K) (map_network K rec links) rec.number ≡ true) × (connected (map_network K rec links) ≡ true)
  granted_tests e = ((passed e).linked, (passed e).joined)

  pub granted_net : IsShape K → None ≡ reckon_refusal K rec links z → IsNet (map_network K rec links)
  granted_net shape e = passed_net K (long_enough K z) false rec links [] [] shape (passed e)

  -- and the depots that deliver as its targets
  module _ (shape : IsShape K) (ok : None ≡ reckon_refusal K rec links z) {targets : List ℕ} (size : K.words ≤ length rec.members) (long : K.words ≤ length targets)
      (kept : targets ≡ overwrite (encode_row K.words (delivers (map_network K rec []))) rec.members) where
    pub granted_targets : AreTargets K.words rec.members targets
    granted_targets = delivering_targets K.words rec.members rec.yards targets size long kept

    pub granted_same : target_network K.words rec.members targets links ≡ map_network K rec links
    granted_same = delivering_network K.words rec.members rec.yards targets size long kept links (granted_net shape ok).sound

    pub granted_target_net : IsNet (target_network K.words rec.members targets links)
    granted_target_net = subst IsNet (sym granted_same) (granted_net shape ok)

-- ---- the whole reckoning of a network, from the two calls

module _ (K : Shape) (shape : IsShape K) (members targets links : List ℕ) (are : AreTargets K.words members targets)
    (net : IsNet (target_network K.words members targets links)) where
  abbrev N : Network
  N = target_network K.words members targets links

  pub reckoned_is : (B : Lent) (row pairs : List ℕ) (m m' : Marks) (M' : Workspace)
      → rounds_begun pairs m ≡ rounds_begin_of K.words K.other_mark members (rounds_begun B.pairs (marks B.bounds B.skips row))
      → M' ≡ run_of K.words targets links K.searched_mark (64 * K.words) (workspace (tally pairs 0) B.searched m' 0 0) → m' ≡ m
      → ran (lent M'.paired.pairs M'.searched M'.marked.bounds M'.marked.skips) M'.candidate M'.paired.count M'.searches
      ≡ ran_by K (target_network K.words members targets links) (reckon (chart (target_network K.words members targets links))) B
  unfolding reckon
  reckoned_is B row pairs m m' M' b e q =
      let O : Origin = record { searched = B.searched; pairs = B.pairs; bounds = B.bounds; skips = B.skips; waiting = row } in
      run_is K shape members targets links are net (start 0) (start_running K shape members targets links are net 0 (omega arith)) O
      (workspace (tally pairs 0) B.searched m 0 0) M'
      (start_holds K shape members targets links are net 0 O pairs m.bounds m.skips m.waiting b) (rw (← q) e)

-- ---- the call

abbrev reckoned : ℕ → Record → Reckoned
reckoned n after = record { searches = n; after = after }

module _ (K : Shape) (shape : IsShape K) (rec : Record) (links p h b s x y : List ℕ) where
  abbrev B : Lent
  B = lent p (tables h x y) b s

  abbrev z : Sizes
  z = sizes (length links) (length p) (length h) (length b) (length s) (length x) (length y)

  pub refused_call : (k : ℕ) → Some k ≡ reckon_refusal K rec links z → leaves (Err k) B ≡ reckon_call K rec links B
  unfolding reckon_call sizes_of
  refused_call k e = refused_leaves B _ e

  -- of the network without the yards among its targets, which is the map's
  pub accepted_call : None ≡ reckon_refusal K rec links z → (N : Network) → N ≡ map_network K rec links → (B' : Lent) (c n k : ℕ) → ran B' c n k ≡ ran_by K N (reckon (chart N)) B
      → leaves (Ok (reckoned k (record { members = rec.members; number = rec.number; chain = c; count = n; yards = rec.yards }))) B' ≡ reckon_call K rec links B
  unfolding reckon_call ran_by figured_by sizes_of
  accepted_call q N same B' c n k e =
      ap (λ (r : Ran). leaves (Ok (reckoned r.searches (record { members = rec.members; number = rec.number; chain = r.chain; count = r.count; yards = rec.yards }))) r.lent)
      (e ∙ ap (λ (N : Network). ran_by K N (reckon (chart N)) B) same)
      ∙ done_leaves B _ q
