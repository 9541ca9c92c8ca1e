-- EVERY HISTORY: the theorem. Assumes nothing.
use mathlib.Core.Path.{◌≡◌, refl, sym, ap, ◌∙◌, subst}
use mathlib.Core.Logic.{◌↔◌}
use mathlib.Core.Bool.{Bool}
use mathlib.Core.List.Memᴰ
use mathlib.Core.List.{List, [], ◌∷◌, ◌++◌, Memᴰ}
use lib.Dec.{T}
use Rattle.graph.specs.Network.{Network}
use Rattle.graph.specs.Opening.{Notice, empty_network}
use Rattle.graph.specs.Updates.{opens}
use Rattle.graph.proofs.Theorems.{diameter_is}
use Rattle.map.specs.Memory.{Shape, IsShape, base}
use Rattle.map.proofs.Theorems.{base_shape}
use Rattle.update.specs.UpdateCall.{update_call}
use Rattle.update.specs.Memory.{Memory}
use Rattle.update.specs.Represents.{Represents}
use Rattle.update.proofs.Memories.{written_represents, memory_for, memory_written}
use Rattle.update.proofs.Empties.{empty_held, empty_memory_lem}
use Rattle.batch_update.specs.Marks.{IsLeftBy}
use Rattle.history.specs.History.{Call, lent_to, Program, rules_program, call_left, run_memory, run_answers, feeds_of}
use Rattle.history.specs.HistoriesAgree.{OpensCodes, AreCalls, memory_after_all, plain_after_all, last_update, LeavesMarks, HistoriesAgree}
use Rattle.history.proofs.Runs.{fed_snoc, call_marked, IsRun, run}
use Rattle.history.proofs.Orders.{plain_yards, order_free}

-- ---- EVERY HISTORY

module _ (K : Shape) (shape : IsShape K) where
  abbrev P : Program
  P = rules_program K

  -- from the empty map: answers and memory are the plain list's
  all_run : (cs : List Call) → AreCalls K cs → IsRun K shape empty_network cs
  all_run cs calls = run K shape empty_network (empty_held K shape) cs calls

  memory_is : (cs : List Call) → AreCalls K cs → memory_after_all K (rules_program K) cs ≡ memory_for K (plain_after_all K cs).network
  memory_is cs calls = ap (λ (M : Memory). run_memory P M cs) (empty_memory_lem K shape) ∙ (all_run cs calls).memory

  -- the map at the end represents the plain list's network
  end_represents : (cs : List Call) → AreCalls K cs → Represents K (memory_after_all K (rules_program K) cs) (plain_after_all K cs).network
  end_represents cs calls =
      let G = (plain_after_all K cs).network in
      subst (λ (M : Memory). Represents K M G) (sym (memory_is cs calls ∙ memory_written K G)) (written_represents K G (all_run cs calls).is_held (memory_for K G))

  -- the marks of the last call
  last_marked : (cs : List Call) (c : Call) → AreCalls K (cs ++ (c ∷ [])) → LeavesMarks K (rules_program K) cs (memory_after_all K (rules_program K) cs) c
  last_marked cs c calls =
      let before : AreCalls K cs = λ x m. calls x (Memᴰ.append_left (c ∷ []) m) in
      let call : OpensCodes K c.ask = calls c (Memᴰ.append_right cs (Memᴰ.head refl)) in
      let G = (plain_after_all K cs).network in
      subst (λ (M : Memory). LeavesMarks K P cs M c) (sym (memory_is cs before))
      (subst (λ (H : Network). IsLeftBy K (update_call K) H (lent_to (memory_for K G) c.lending) (call_left P (memory_for K G) c).memory (last_update K (lent_to (memory_for K G) c.lending) c.lending.left c.ask))
      (sym (fed_snoc K empty_network cs c))
      (call_marked K shape G (all_run cs before).is_held c call))

pub histories_agree : (K : Shape) → IsShape K → HistoriesAgree K (rules_program K)
histories_agree K shape = record {
  answers = λ cs calls. ap (λ (M : Memory). run_answers (rules_program K) M cs) (empty_memory_lem K shape) ∙ (all_run K shape cs calls).answers;
  published = λ cs calls. diameter_is (plain_after_all K cs).network (all_run K shape cs calls).is_held.net;
  figures = end_represents K shape;
  yards = λ cs calls c l.
      subst (λ (b : Bool). T b ↔ ((o : Notice) × Memᴰ (opens o) (plain_after_all K cs).accepted × T o.yard × (o.code ≡ c)))
      (sym ((end_represents K shape cs calls).yards c l))
      (plain_yards K (feeds_of K cs) c);
  marks = last_marked K shape;
  order = λ cs ds c d h.
      memory_is K shape cs c
      ∙ ap (memory_for K) (order_free K empty_network (feeds_of K cs) (feeds_of K ds) (all_run K shape cs c).is_held (all_run K shape ds d).is_held h)
      ∙ sym (memory_is K shape ds d);
}

-- ---- the rules' map

pub histories_agree_base : HistoriesAgree base (rules_program base)
histories_agree_base = histories_agree base base_shape
