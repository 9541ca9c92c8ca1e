-- ONE STEP OF A SEARCH, over lists of words. Nobody has to believe these: `search_leaves` (crate `layers`) is proved of the whole.
-- Assumes nothing.
use Rattle.std.specs.Prelude.{Bool, cond, not, ◌&&◌, ◌||◌, List, [], ◌∷◌, ℕ, ◌+◌, ◌*◌, ◌%◌, ◌^◌, ◌≤◌, ◌<◌, eqb, ltb, length, get_or, set}
use Rattle.std.specs.Int.Bits.{bit_or}
use Rattle.lists.specs.Lists.{range, mapl, anyb, overwrite}
use Rattle.words.specs.Bits.{bit, word_of}
use Rattle.rows.specs.Rows.{row_bit, table_bit, encode_row}
use Rattle.frontier.specs.declared.Four.{Four}

-- some member of the layer is linked to v
unfoldable pub reaches : ℕ → List ℕ → List ℕ → ℕ → Bool
reaches W links layer v = anyb (λ u. row_bit W layer u && table_bit W links u v) (range (64 * W))

-- the codes that a member of the layer is linked to and that are left to reach
unfoldable pub fresh : ℕ → List ℕ → List ℕ → List ℕ → ℕ → Bool
fresh W links layer left v = reaches W links layer v && row_bit W left v

-- next and the hop table, as a visit changes them
pub record Visited : Type 0 where
  pub next : List ℕ
  pub hops : List ℕ

abbrev pub visited : List ℕ → List ℕ → Visited
visited n h = record { next = n; hops = h }

-- the hop table after a visit of the members of a set: each gets the hop k
unfoldable pub hop_set : ℕ → ℕ → (ℕ → Bool) → List ℕ → List ℕ
hop_set W k S hops = overwrite (mapl (λ v. cond (S v) k (get_or hops v 0)) (range (64 * W))) hops

-- the word x, with the codes of word j that a member of the set is linked to
unfoldable pub link_word : ℕ → List ℕ → (ℕ → Bool) → ℕ → ℕ → ℕ
link_word W links S j x = word_of 64 (λ b. bit x b || anyb (λ u. S u && table_bit W links u (64 * j + b)) (range (64 * W)))

-- four words and the hop table, as a visit changes them
pub record Reached : Type 0 where
  pub four : Four
  pub hops : List ℕ

abbrev pub reached : Four → List ℕ → Reached
reached f h = record { four = f; hops = h }

-- a visit of the members of a set, for the words j to j + 3 of what they are linked to
unfoldable pub reach_set : ℕ → List ℕ → ℕ → ℕ → (ℕ → Bool) → Reached → Reached
reach_set W links k j S B =
    reached
    (record {
      a = link_word W links S j B.four.a;
      b = link_word W links S (j + 1) B.four.b;
      c = link_word W links S (j + 2) B.four.c;
      d = link_word W links S (j + 3) B.four.d;
    })
    (hop_set W k S B.hops)

-- each of the four is a word of 64 bits; four without a member
pub record AreWords (f : Four) : Type 0 where
  pub a_fits : f.a < 2 ^ 64
  pub b_fits : f.b < 2 ^ 64
  pub c_fits : f.c < 2 ^ 64
  pub d_fits : f.d < 2 ^ 64

abbrev pub no_words : Four
no_words = record { a = 0; b = 0; c = 0; d = 0 }

-- four words as a row, and their union
abbrev pub four_list : Four → List ℕ
four_list f = f.a ∷ f.b ∷ f.c ∷ f.d ∷ []

abbrev pub union_of : Four → ℕ
union_of f = bit_or (bit_or (bit_or f.a f.b) f.c) f.d

-- the row with word j made x, if it has one
unfoldable pub put_word : ℕ → ℕ → ℕ → List ℕ → List ℕ
put_word W j x row = cond (ltb j W) (set row j x) row

-- a visit of the layer's members: each gets the hop k, and the codes linked to it are next
unfoldable pub visit_of : ℕ → List ℕ → List ℕ → ℕ → Visited → Visited
visit_of W links layer k B = record {
  next = overwrite (encode_row W (reaches W links layer)) B.next;
  hops = overwrite (mapl (λ v. cond (row_bit W layer v) k (get_or B.hops v 0)) (range (64 * W))) B.hops;
}

-- the codes of next that are left
unfoldable pub is_taken : ℕ → List ℕ → List ℕ → ℕ → Bool
is_taken W next left v = row_bit W next v && row_bit W left v

-- next with these alone, and the row left without them; `some`: there is one
pub record Taken : Type 0 where
  pub some : Bool
  pub next : List ℕ
  pub left : List ℕ

abbrev pub taken : Bool → List ℕ → List ℕ → Taken
taken b n l = record { some = b; next = n; left = l }

unfoldable pub take_of : ℕ → List ℕ → List ℕ → Taken
take_of W next left =
    let new = is_taken W next left in
    taken
    (anyb new (range (64 * W)))
    (overwrite (encode_row W new) next)
    (overwrite (encode_row W (λ v. row_bit W left v && not (new v))) left)

-- one step from the layer at distance k to the next one, which goes into the other row; `more`: there is a next layer
pub record Stepped : Type 0 where
  pub more : Bool
  pub hops : List ℕ
  pub other : List ℕ

abbrev pub stepped : Bool → List ℕ → List ℕ → Stepped
stepped b h o = record { more = b; hops = h; other = o }

unfoldable pub step_of : ℕ → List ℕ → List ℕ → ℕ → List ℕ → List ℕ → List ℕ → Stepped
step_of W links layer k hops other left =
    let new = fresh W links layer left in
    let more = anyb new (range (64 * W)) in
    record {
      more = more;
      hops = overwrite (mapl (λ v. cond (row_bit W layer v) k (get_or hops v 0)) (range (64 * W))) hops;
      other = cond more (overwrite (encode_row W new) other) other;
    }

-- the codes left after it, where there is a next layer
unfoldable pub left_after : ℕ → List ℕ → List ℕ → List ℕ → List ℕ
left_after W links layer left = overwrite (encode_row W (λ v. row_bit W left v && not (fresh W links layer left v))) left

-- of two rows, the one that holds layer k: the layers at even distance pass through the first
unfoldable pub row_of : ℕ → List ℕ → List ℕ → List ℕ
row_of k even odd = cond (eqb (k % 2) 0) even odd

-- a step by turns: from the row that holds layer k into the other one
pub record Turned : Type 0 where
  pub more : Bool
  pub hops : List ℕ
  pub even : List ℕ
  pub odd : List ℕ

abbrev pub turned : Bool → List ℕ → List ℕ → List ℕ → Turned
turned b h e o = record { more = b; hops = h; even = e; odd = o }

unfoldable pub turn_of : ℕ → List ℕ → ℕ → List ℕ → List ℕ → List ℕ → List ℕ → Turned
turn_of W links k hops even odd left =
    let S = step_of W links (row_of k even odd) k hops (row_of k odd even) left in
    turned S.more S.hops (row_of k even S.other) (row_of k S.other odd)

-- the sizes that the inner functions ask: W words in each row, a row of links and a hop for each code
pub record SearchRoom (W : ℕ) (links hops : List ℕ) : Type 0 where
  pub positive : 0 < W
  pub most : W < 513
  pub table : W * (64 * W) ≤ length links
  pub places : 64 * W ≤ length hops
