-- The tests by which the code tells a frame, and digits that spell one. Assumes nothing.
use mathlib.Core.Path.{◌≡◌, refl}
use mathlib.Core.Bool.{Bool, true, false, cond, ◌&&◌}
use mathlib.Core.List.{List}
use Prim.Native.Nat.{ℕ, ◌+◌, ◌%◌, ◌≤◌, ◌<◌}
use native.Mathlib.Omega.{arith}
use lib.Dec.{eqb, leb}
use lib.ListN.{length, get_or}
use borrow.Author.Tests.{eqb-true, leb-true}
use Rattle.std.proofs.lemmas.Bool.{and_parts}
use Rattle.lists.specs.Lists.{allb}
use Rattle.hexadecimal.specs.Hex.{is_digit, bytes_of}
use Rattle.notice.specs.Lines.{link_kind, opens_depot, frame_length, is_frame, spells_frame}

-- ---- a frame

pub and_none : (a : Bool) → false ≡ (a && false)
and_none true = refl
and_none false = refl

-- ---- how long it is

pub length-opening : (kind third : ℕ) {b : Bool} {r : ℕ} → b ≡ opens_depot kind → b ≡ true → r ≡ 3 + third → r ≡ frame_length kind third
unfolding frame_length
length-opening kind third k h e = rw (← k, h) e

-- no kind is longer than the opening of so many neighbours, and only an opening is
pub length_most : (kind third : ℕ) → frame_length kind third ≤ 3 + third
unfolding frame_length
length_most kind third = go (opens_depot kind) (eqb kind link_kind)
  where
    go : (a b : Bool) → cond a (3 + third) (cond b 3 0) ≤ 3 + third
    go true b = omega arith
    go false true = omega arith
    go false false = omega arith

pub length-only : (kind third : ℕ) → 3 < frame_length kind third → (opens_depot kind ≡ true) × (frame_length kind third ≡ 3 + third)
unfolding frame_length
length-only kind third l = go (opens_depot kind) refl (eqb kind link_kind) l
  where
    go : (a : Bool) → opens_depot kind ≡ a → (b : Bool) → 3 < cond a (3 + third) (cond b 3 0)
        → (opens_depot kind ≡ true) × (cond a (3 + third) (cond b 3 0) ≡ 3 + third)
    go true e b l = (e, refl)
    go false e true l = absurd (omega arith)
    go false e false l = absurd (omega arith)

-- ---- digits that spell one

pub spells_other : (ds : List ℕ) → allb is_digit ds ≡ false → false ≡ spells_frame ds
unfolding spells_frame
spells_other ds h = rw h

-- ---- what a passed test says, part by part

pub frame_parts : (f : List ℕ) → is_frame f ≡ true → (3 ≤ length f) × (length f ≡ frame_length (get_or f 0 0) (get_or f 2 0))
unfolding is_frame
frame_parts f h =
    let p = and_parts (leb 3 (length f)) (eqb (length f) (frame_length (get_or f 0 0) (get_or f 2 0))) h in
    (leb-true 3 (length f) p.0, eqb-true (length f) (frame_length (get_or f 0 0) (get_or f 2 0)) p.1)

pub frame_most : (f : List ℕ) → is_frame f ≡ true → length f ≤ 3 + get_or f 2 0
frame_most f h = let p = frame_parts f h in let m = length_most (get_or f 0 0) (get_or f 2 0) in omega arith

pub record Spells (ds : List ℕ) : Type 0 where
  pub digits : allb is_digit ds ≡ true
  pub even : length ds % 2 ≡ 0
  pub spelt : is_frame (bytes_of ds) ≡ true

pub spells_parts : (ds : List ℕ) → spells_frame ds ≡ true → Spells ds
unfolding spells_frame
spells_parts ds h =
    let p = and_parts (allb is_digit ds) (eqb (length ds % 2) 0 && is_frame (bytes_of ds)) h in
    let q = and_parts (eqb (length ds % 2) 0) (is_frame (bytes_of ds)) p.1 in
    record { digits = p.0; even = eqb-true (length ds % 2) 0 q.0; spelt = q.1 }
