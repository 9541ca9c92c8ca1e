-- EMPTYING A MAP (rule 8.4). `emptied_is_empty` (proofs/Theorems) says what that means.
-- Assumes nothing.
use Rattle.std.specs.Prelude.{◌≡◌, false, not, ◌&&◌, List, [], ◌∷◌, ℕ, leb, length, Option, Ok}
use Rattle.lists.specs.Lists.{range, mapl, overwrite, first_of}
use Rattle.lists.specs.Conditions.{IsShort}
use Rattle.outcome.specs.Numbers.{short_buffer}
use Rattle.rows.specs.Rows.{table_bit}
use Rattle.graph.specs.Network.{HasNoYard}
use Rattle.map.specs.Memory.{Shape, table_words, yard_network}
use Rattle.map.specs.declared.Record.{Record}
use Rattle.outcome.specs.Answers.{numbered, Left, leaves, unless, Refuses}

unfoldable pub zeros : ℕ → List ℕ
zeros n = mapl (λ i. 0) (range n)

unfoldable pub empty_record : ℕ → Record
empty_record W = record { members = zeros W; number = 0; chain = 0; count = 0; yards = zeros W }

unfoldable pub empty_refusal : Shape → List ℕ → List ℕ → Option ℕ
empty_refusal K links pairs =
    numbered
    (first_of ((not (leb (table_words K) (length links) && leb (table_words K) (length pairs)), short_buffer) ∷ []))

-- what the call leaves: the record that it hands out, and both tables, words past the named size included
unfoldable pub empty_call : Shape → List ℕ → List ℕ → Left Record (List ℕ × List ℕ)
empty_call K links pairs =
    let emptied = overwrite (zeros (table_words K)) in
    unless (empty_refusal K links pairs) (links, pairs)
    (leaves (Ok (empty_record K.words)) (emptied links, emptied pairs))

-- Of a program whose emptying is `step`: refused with 1 exactly if a table is short, and then nothing changes
-- (`empty_refusals`)
abbrev pub EmptyRefuses : Shape → (List ℕ → List ℕ → Left Record (List ℕ × List ℕ)) → Type 0
EmptyRefuses K step =
    (links pairs : List ℕ)
    → let buffers = (table_words K, length links) ∷ (table_words K, length pairs) ∷ [] in
    Refuses ((IsShort buffers, short_buffer) ∷ []) (links, pairs) (step links pairs)

-- ---- what it means

-- The map is empty: no code is open, none is a yard, no link and no pair stands, and the figures are 0.
pub record IsEmpty (W : ℕ) (rec : Record) (links pairs : List ℕ) : Type 0 where
  pub closed : (u : ℕ) → (yard_network W rec.members rec.yards links).is_open u ≡ false
  pub yardless : HasNoYard (yard_network W rec.members rec.yards links)
  pub unlinked : (u v : ℕ) → (yard_network W rec.members rec.yards links).linked u v ≡ false
  pub unpaired : (u v : ℕ) → table_bit W pairs u v ≡ false
  pub number : rec.number ≡ 0
  pub chain : rec.chain ≡ 0
  pub count : rec.count ≡ 0

-- Of a program whose emptying is `step`: what it accepts, it leaves empty (`emptied_is_empty`)
abbrev pub LeavesEmpty : Shape → (List ℕ → List ℕ → Left Record (List ℕ × List ℕ)) → Type 0
LeavesEmpty K step =
    (links pairs : List ℕ) (rec : Record)
    → let left = step links pairs in left.answer ≡ Ok rec → IsEmpty K.words rec left.lent.0 left.lent.1
