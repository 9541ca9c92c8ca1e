-- `admission::link_codes` meets its contract: a bit each way.
use native.Mathlib.Omega.{arith}
use Rattle.admission.proofs.Linking.{codes_linked}
use Rattle.admission.proofs.link_codes.Goals as goal

pub returns : goal.returns
returns c =
    codes_linked _ _ _ _ c.requires.2 (λ i l. grind arith) (omega arith) (omega arith)
    c.row_set.ensures c.row_set-2.ensures
