-- THE MARKS OF A CALL THAT SEARCHED FROM ONE DEPOT ALONE, OR FROM TWO. Assumes nothing.
use Rattle.std.specs.Prelude.{cond, List, ℕ, ◌*◌, eqb}
use Rattle.lists.specs.Lists.{range, mapl, overwrite}
use Rattle.graph.specs.Distance.{unreached}

pub record Marked : Type 0 where
  pub bounds : List ℕ
  pub skips : List ℕ

abbrev pub marking : List ℕ → List ℕ → Marked
marking b s = record { bounds = b; skips = s }

-- a has its eccentricity e and the mark of a searched depot, every other place none and the other mark
unfoldable pub mark_once : ℕ → ℕ → ℕ → ℕ → ℕ → Marked → Marked
mark_once W mark other a e M =
    marking
    (overwrite (mapl (λ v. cond (eqb v a) e unreached) (range (64 * W))) M.bounds)
    (overwrite (mapl (λ v. cond (eqb v a) mark other) (range (64 * W))) M.skips)

-- a has its eccentricity e and b its eccentricity f, both the mark of a searched depot, every other place none and the other mark.
-- a is looked for first: were a and b one, it would have e
unfoldable pub mark_twice : ℕ → ℕ → ℕ → ℕ → ℕ → ℕ → ℕ → Marked → Marked
mark_twice W mark other a e b f M =
    marking
    (overwrite (mapl (λ v. cond (eqb v a) e (cond (eqb v b) f unreached)) (range (64 * W))) M.bounds)
    (overwrite (mapl (λ v. cond (eqb v a) mark (cond (eqb v b) mark other)) (range (64 * W))) M.skips)
