-- LISTS OF CALLS: answers and memory at the end are the plain list's (A, B), and so are the marks of one call more (C). Assumes nothing.
use mathlib.Core.Path.{◌≡◌, refl, sym, ap, ap₂, ◌∙◌, subst}
use mathlib.Core.List.Memᴰ
use mathlib.Core.List.{List, [], ◌∷◌, ◌++◌}
use Rattle.graph.specs.Network.{Network}
use Rattle.map.specs.Memory.{Shape, IsShape}
use Rattle.update.specs.UpdateCall.{update_call}
use Rattle.update.specs.Memory.{Memory}
use Rattle.update.proofs.Memories.{IsHeld, memory_for}
use Rattle.batch_update.specs.Marks.{IsLeftBy}
use Rattle.history.specs.PlainRun.{Answer, PlainRun, plain_refusal, ask_next, ask_answer, ask_accepted, plain_run}
use Rattle.history.specs.History.{Call, lent_to, Program, rules_program, call_left, memory_after, run_memory, run_answers, feed_of, feeds_of}
use Rattle.history.specs.HistoriesAgree.{OpensCodes, AreCalls, last_update}
use Rattle.history.proofs.Steps.{one_step}

-- ---- the plain list, fed one call first, and one call more

abbrev fed : Shape → Network → List Call → PlainRun
fed K G cs = plain_run K G (feeds_of K cs)

abbrev next : Shape → Network → Call → Network
next K G c = ask_next (plain_refusal K G (feed_of K c)) G c.ask

fed_cons : (K : Shape) (G : Network) (c : Call) (cs : List Call) → fed K G (c ∷ cs) ≡ record {
  network = (fed K (next K G c) cs).network;
  answers = ask_answer (plain_refusal K G (feed_of K c)) G c.ask ∷ (fed K (next K G c) cs).answers;
  accepted = ask_accepted (plain_refusal K G (feed_of K c)) G c.ask ++ (fed K (next K G c) cs).accepted;
}
unfolding plain_run feeds_of feed_of
fed_cons K G c cs = refl

pub fed_snoc : (K : Shape) (G : Network) (cs : List Call) (c : Call) → (fed K G (cs ++ (c ∷ []))).network ≡ next K (fed K G cs).network c
unfolding plain_run feeds_of feed_of
fed_snoc K G [] c = refl
fed_snoc K G (d ∷ cs) c = fed_snoc K (next K G d) cs c

-- ---- a call of a history

module _ (K : Shape) (shape : IsShape K) where
  module _ (G : Network) (held : IsHeld K G) (c : Call) (call : OpensCodes K c.ask) where
    call_answer : (call_left (rules_program K) (memory_for K G) c).answer ≡ ask_answer (plain_refusal K G (feed_of K c)) G c.ask
    unfolding call_left
    call_answer = (one_step K shape G held c call).answer

    pub call_memory : memory_after (memory_for K G) c.lending (call_left (rules_program K) (memory_for K G) c).memory ≡ memory_for K (next K G c)
    unfolding call_left
    call_memory = (one_step K shape G held c call).memory

    pub call_marked : IsLeftBy K (update_call K) (next K G c) (lent_to (memory_for K G) c.lending) (call_left (rules_program K) (memory_for K G) c).memory (last_update K (lent_to (memory_for K G) c.lending) c.lending.left c.ask)
    unfolding call_left
    call_marked = (one_step K shape G held c call).is_marked

  -- ---- A LIST OF CALLS

  abbrev P : Program
  P = rules_program K

  pub record IsRun (G : Network) (cs : List Call) : Type 0 where
    pub answers : run_answers (rules_program K) (memory_for K G) cs ≡ (fed K G cs).answers
    pub memory : run_memory (rules_program K) (memory_for K G) cs ≡ memory_for K (fed K G cs).network
    pub is_held : IsHeld K (fed K G cs).network

  answers_cons : (M : Memory) (c : Call) (cs : List Call) → run_answers P M (c ∷ cs) ≡ (call_left P M c).answer ∷ run_answers P (memory_after M c.lending (call_left P M c).memory) cs
  unfolding run_answers
  answers_cons M c cs = refl

  memory_cons : (M : Memory) (c : Call) (cs : List Call) → run_memory P M (c ∷ cs) ≡ run_memory P (memory_after M c.lending (call_left P M c).memory) cs
  unfolding run_memory
  memory_cons M c cs = refl

  run_nil : (G : Network) → IsHeld K G → IsRun G []
  unfolding run_answers run_memory plain_run feeds_of
  run_nil G held = record { answers = refl; memory = refl; is_held = held }

  run_cons : (G : Network) (held : IsHeld K G) (c : Call) (cs : List Call) (call : OpensCodes K c.ask) → IsRun (next K G c) cs → IsRun G (c ∷ cs)
  run_cons G held c cs call ih =
      let f = fed_cons K G c cs in
      record {
        answers =
            answers_cons (memory_for K G) c cs
            ∙ ap₂ (λ (x : Answer) (M : Memory). x ∷ run_answers P M cs) (call_answer G held c call) (call_memory G held c call)
            ∙ ap (λ (xs : List Answer). ask_answer (plain_refusal K G (feed_of K c)) G c.ask ∷ xs) ih.answers
            ∙ sym (ap (λ (r : PlainRun). r.answers) f);
        memory =
            memory_cons (memory_for K G) c cs
            ∙ ap (λ (M : Memory). run_memory P M cs) (call_memory G held c call)
            ∙ ih.memory
            ∙ sym (ap (λ (r : PlainRun). memory_for K r.network) f);
        is_held = subst (λ (r : PlainRun). IsHeld K r.network) (sym f) ih.is_held;
      }

  pub run : (G : Network) → IsHeld K G → (cs : List Call) → AreCalls K cs → IsRun G cs
  run G held [] calls = run_nil G held
  run G held (c ∷ cs) calls =
      let call = calls c (Memᴰ.head refl) in
      run_cons G held c cs call (run (next K G c) (one_step K shape G held c call).is_held cs (λ x m. calls x (Memᴰ.tail m)))
