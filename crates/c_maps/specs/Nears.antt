-- THE CALLS ON DEPOTS NEAR ONE for other languages. Each is the call that it wraps, on the record
-- in the lent words: the answer's number, the lent values, and the rest of what is lent. A refused
-- one changes nothing. Assumes nothing.
use Rattle.std.specs.Prelude.{List, ℕ}
use Rattle.map.specs.Room.{Tables}
use Rattle.map.specs.Memory.{base}
use Rattle.nearby.specs.declared.NearestDepot.{NearestDepot}
use Rattle.nearby.specs.WithinCall.{within_call}
use Rattle.nearby.specs.NearestCall.{nearest_call}
use Rattle.c_values.specs.Outs.{on_words}

-- ---- the depots within k handovers: how many codes are listed; the tables, and the codes' places

unfoldable pub within_out : List ℕ → List ℕ → Tables → List ℕ → ℕ → ℕ → ℕ
    → ℕ × ℕ × (Tables × List ℕ)
within_out words links B codes old code k =
    on_words words (λ n. n) old (B, codes) (λ rec. within_call base rec links B codes code k)

-- ---- the nearest depot of a list: the depot and its distance, and the tables

unfoldable pub nearest_out : List ℕ → List ℕ → Tables → ℕ × ℕ → ℕ → List ℕ
    → ℕ × (ℕ × ℕ) × Tables
nearest_out words links B old code listed =
    on_words words (λ (n : NearestDepot). (n.code, n.distance)) old B
    (λ rec. nearest_call base rec links B code listed)
