-- THE EMPTY MAP is the memory of the network without depots. Assumes nothing.
use mathlib.Core.Path.{◌≡◌, refl, sym, ap, ◌∙◌, fun_ext}
use mathlib.Core.Logic.{◌⊎◌, inl, inr}
use mathlib.Core.Bool.{false}
use Prim.Native.Nat.{ℕ, ◌*◌}
use lib.Dec.{T, lit<}
use lib.ListN.{length}
use Rattle.lists.specs.Lists.{range, distinct}
use Rattle.lists.proofs.Tests.{not→false, false→not}
use Rattle.lists.proofs.Members.{filter_none}
use Rattle.lists.proofs.Counts.{count_none}
use Rattle.lists.proofs.Distinct.{memb_nil}
use Rattle.lists.proofs.Fills.{fill_ext}
use Rattle.words.specs.Bits.{word_of}
use Rattle.words.proofs.Bits.{word_of-none}
use Rattle.rows.specs.Rows.{encode_row, encode_table}
use Rattle.graph.specs.Network.{Network, IsEcc, delivers}
use Rattle.graph.specs.Distance.{vertices}
use Rattle.graph.specs.Chart.{diameter, farthest, count_pairs}
use Rattle.graph.specs.Opening.{empty_network}
use Rattle.graph.proofs.Theorems.{diameter_is, farthest_is}
use Rattle.map.specs.Memory.{Shape, IsShape, places}
use Rattle.map.specs.Empty.{zeros, empty_record}
use Rattle.map.proofs.Empties.{none-zeros}
use Rattle.rounds.proofs.Finish.{count_no_pairs}
use Rattle.update.specs.Memory.{empty_memory}
use Rattle.update.proofs.Memories.{IsHeld, record_path, memory_path, memory_for, number_is}
use Rattle.graph.proofs.Delivers.{delivers_open}

-- a table without a bit is zeros
none_table : (W : ℕ) → encode_table W (λ u v. false) ≡ zeros (W * (64 * W))
unfolding encode_table zeros
none_table W = fill_ext (λ i. word_of 64 (λ b. false)) (λ i. 0) (W * (64 * W)) (λ i l. word_of-none 64)

linked_none : empty_network.linked ≡ (λ u v. false)
unfolding empty_network
linked_none = refl

module _ (K : Shape) (shape : IsShape K) where
  abbrev E : Network
  E = empty_network

  pub empty_held : IsHeld K empty_network
  unfolding empty_network distinct
  empty_held = record {
    net = record {
      sound = record { listed = λ u. sym (memb_nil u); once = refl; yards = λ u y. absurd y; ends = λ u v l. absurd l; loopless = λ u v l. absurd l; symmetric = λ u v l. absurd l };
      connected = λ u v o. absurd o;
      small = lit< tt;
    };
    depots = sym (filter_none (range (places K)));
  }

  -- ---- its figures are 0

  all_closed : (u : ℕ) → E.is_open u ≡ false
  unfolding empty_network
  all_closed u = refl

  no_yards : (u : ℕ) → E.is_yard u ≡ false
  unfolding empty_network
  no_yards u = refl

  pub none-farthest : farthest E ≡ (λ u v. false)
  none-farthest = fun_ext (λ u. fun_ext (λ v. not→false (farthest E u v) (λ h. false→not (all_closed u) (delivers_open E u ((farthest_is E empty_held.net u v).0 h).first))))

  none_number : length (vertices E) ≡ 0
  none_number = number_is K E empty_held ∙ count_none E.is_open (range (places K)) (λ u m. all_closed u)

  pub none-diameter : diameter E ≡ 0
  none-diameter = go (diameter_is E empty_held.net).attained
    where
      go : (diameter E ≡ 0) ⊎ ((u : ℕ) × T (delivers E u) × IsEcc E (delivers E) u (diameter E)) → diameter E ≡ 0
      go (inl z) = z
      go (inr x) = absurd (false→not (all_closed x.0) (delivers_open E x.0 x.1))

  none_count : count_pairs (range (places K)) (farthest E) ≡ 0
  none_count = ap (count_pairs (range (places K))) none-farthest ∙ count_no_pairs (places K)

  -- ---- THE EMPTY MEMORY

  pub empty_memory_lem : empty_memory K ≡ memory_for K empty_network
  unfolding empty_memory empty_record memory_for
  empty_memory_lem =
      sym (memory_path
      (ap (encode_table K.words) linked_none ∙ none_table K.words)
      (ap (encode_table K.words) none-farthest ∙ none_table K.words)
      (record_path (ap (encode_row K.words) (fun_ext all_closed) ∙ none-zeros K.words) none_number none-diameter none_count
      (ap (encode_row K.words) (fun_ext no_yards) ∙ none-zeros K.words)))
