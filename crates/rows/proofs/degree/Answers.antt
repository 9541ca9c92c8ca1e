-- `rows::degree` meets its contract: after j words the sum is the count of the members below 64 * j.
use mathlib.Core.Path.{◌≡◌}
use Prim.Native.Nat.{◌+◌, ◌*◌}
use native.Mathlib.Omega.{arith}
use lib.ListN.{get_or}
use Rattle.std.proofs.lemmas.List.Edits.{get_or-between}
use Rattle.lists.specs.Lists.{range, countb}
use Rattle.words.specs.Bits.{bit}
use Rattle.rows.proofs.Scan.{count_word}
use Rattle.rows.proofs.degree.Goals as goal

pub loop-x-preserved : goal.loop-x-preserved
loop-x-preserved c =
    let a = c.args in
    let base = a.words * a.u in
    let j = c.loop-x.x-index in
    let e : c.count.result ≡ countb (bit (get_or a.t.now (base + j) 0)) (range 64) = cc (get_or-between a.t.now base (base + a.words) j 0 (omega arith)) in
    omega (arith, count_word a.words a.t.now a.u j (omega arith) (omega arith))
