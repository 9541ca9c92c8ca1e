-- What refuses a call on a map that nothing refuses: what is asked, by the open codes and the links alone. Assumes nothing.
use mathlib.Core.Path.{◌≡◌, refl, sym, ap, ◌∙◌}
use mathlib.Core.Bool.{Bool, false}
use mathlib.Core.List.{List, []}
use Prim.Native.Nat.{ℕ}
use Rattle.lists.specs.Lists.{first_of}
use Rattle.graph.specs.Opening.{notice_of, open_faults}
use Rattle.graph.specs.Updates.{Update, opens, joins, update_faults}
use Rattle.map.specs.Room.{Sizes}
use Rattle.map.specs.Memory.{Shape, network_of, map_network}
use Rattle.map.specs.declared.Record.{Record}
use Rattle.admission.proofs.Links.{link_faults_any}
use Rattle.update.specs.UpdateCall.{update_refusal}
use Rattle.update.specs.Steps.{map_refusal}
use Rattle.update.proofs.Refuses.{refused_by_update}

-- nor do the links matter to a notice, nor whether a yard is to open
pub notice_judged : (W : ℕ) (members links : List ℕ) (y : Bool) (code : ℕ) (ns : List ℕ)
    → first_of (open_faults (network_of W members []) (notice_of false code ns)) ≡ first_of (update_faults (network_of W members links) (opens (notice_of y code ns)))
unfolding update_faults open_faults network_of
notice_judged W members links y code ns = refl

module _ (K : Shape) (rec : Record) (links p : List ℕ) where
  -- which codes are yards does not matter
  faults_any : (u : Update) → update_faults (map_network K rec links) u ≡ update_faults (network_of K.words rec.members links) u
  unfolding update_faults open_faults network_of
  faults_any (opens o) = refl
  faults_any (joins a b) = sym (link_faults_any K.words rec.members rec.yards links a b)

  pub judged : (z : Sizes) (u : Update) → map_refusal K rec links p z ≡ 0
      → update_refusal K rec links p z u ≡ first_of (update_faults (network_of K.words rec.members links) u)
  judged z u e = sym (refused_by_update K rec links p z u (sym e)) ∙ ap first_of (faults_any u)
