-- Turns over a store are turns, and passes are passes; and trees stay in their graphs.
use Rattle.std.proofs.Common.{inl, inr, ℕ, Bool, true, List, [], ◌++◌, Option, Some, None, refl}
use Rattle.bl_graph_nodes.specs.Nodes.{Node}
use Rattle.bl_graph_nodes.specs.Plain.{Block, Then}
use Rattle.bl_graph_nodes.specs.Steps.{end_node}
use Rattle.bl_ctree.specs.Actions.{Copies, Gives}
use Rattle.bl_ctree.specs.Instances.{Setting}
use Rattle.bl_ctree.specs.Store.{Store}
use Rattle.bl_ctree_laws.specs.Pending.{deed}
use Rattle.bl_ctree_laws.specs.Shrinks.{Paces}
use Rattle.bl_ctree_laws.specs.Trees.{Tree, Trees}
use Rattle.bl_ctree_laws_traces.specs.Progress.Laws.{StepsKeepFitsGraph}
use Rattle.bl_ctree_laws_traces.specs.Progress.FitsGraph.{FitsGraph}
use Rattle.bl_ctree_laws_traces.specs.Progress.Places.{AllCallable, whole}
use Rattle.bl_machine_laws.specs.Numbers.Steps as steps
use Rattle.bl_machine_laws.specs.Numbers.Steps.{TurnsWait, Walks}
use Rattle.bl_machine_laws.specs.Numbers.Turns as turns
use Rattle.bl_machine_laws.specs.Numbers.Turns.{AnsweredDeed, OneTurns, Passes, Turns, did}
use Rattle.bl_machine_laws.specs.Numbers.Waiting.{SomeWaits, Waits, first_in}
use Rattle.bl_machine_laws.specs.Passes.Follows as follows
use Rattle.bl_machine_laws.specs.Passes.Follows.{Follows, OneTurnSteps, OneTurnTraps, TurnSteps, TurnTraps}

record Turned (w : Setting) (rank : ℕ → Node → ℕ) (i : ℕ) (c : Tree) (n : Node) (c' : Tree) : Type 0 where
  done : List AnsweredDeed
  turn : Turns w rank i c done n c'

record OneTurned (w : Setting) (rank : ℕ → Node → ℕ) (i : ℕ) (branches : Trees) (n : Node) (branches' : Trees) : Type 0 where
  done : List AnsweredDeed
  turn : OneTurns w rank i branches done n branches'

pub record PassedBy (w : Setting) (rank : ℕ → Node → ℕ) (i k : ℕ) (c c' : Tree) : Type 0 where
  pub done : List AnsweredDeed
  pub passes : Passes w rank i k c done c'

mutual
  turned : {w : Setting} {rank : ℕ → Node → ℕ} {i : ℕ} {c : Tree} {store : Store} {n : Node} {c' : Tree} {left : Store} →
      TurnSteps w rank i c store n c' left → Turned w rank i c n c'
  turned (follows.point {d = d} {a = a} p does) = record { done = did a d; turn = turns.point p }
  turned {i = i} (follows.runs {at = at} {inputs = inputs} {callee = callee} called is does follow unended) =
      let inner = passed follow in
      record { done = did (deed i at (Copies callee inputs)) true ++ inner.done; turn = turns.runs called is inner.passes unended }
  turned {i = i} (follows.resumes {s = s} {callee = callee} does follow unended) =
      let inner = passed follow in
      record { done = did (deed i s.place (Copies callee s.arguments.inputs)) true ++ inner.done; turn = turns.resumes inner.passes unended }
  turned {i = i} (follows.returns {s = s} {callee = callee} does follow gives) =
      let inner = passed follow in record {
        done = did (deed i s.place (Copies callee s.arguments.inputs)) true
            ++ (inner.done ++ did (deed i s.place (Gives callee s.arguments.target)) true);
        turn = turns.returns inner.passes;
      }
  turned (follows.in_seq t) = let one = turned t in record { done = one.done; turn = turns.in_seq one.turn }
  turned (follows.in_par t) = let one = one_turned t in record { done = one.done; turn = turns.in_par one.turn }
  turned (follows.in_guard t) = let one = turned t in record { done = one.done; turn = turns.in_guard one.turn }

  one_turned : {w : Setting} {rank : ℕ → Node →
      ℕ} {i : ℕ} {branches : Trees} {store : Store} {n : Node} {branches' : Trees} {left : Store} →
      OneTurnSteps w rank i branches store n branches' left → OneTurned w rank i branches n branches'
  one_turned (follows.first t) = let one = turned t in record { done = one.done; turn = turns.first one.turn }
  one_turned (follows.later t) = let one = one_turned t in record { done = one.done; turn = turns.later one.turn }

  pub passed : {w : Setting} {rank : ℕ → Node → ℕ} {i k : ℕ} {c : Tree} {store : Store} {c' : Tree} {left : Store} →
      Follows w rank i k c store c' left → PassedBy w rank i k c c'
  passed (follows.rests settled) = record { done = []; passes = turns.rests settled }
  passed (follows.goes least first takes more) =
      let one = turned takes in
      let rest = passed more in record { done = one.done ++ rest.done; passes = turns.goes least one.turn rest.passes }

pub walk_live : {w : Setting} {i : ℕ} {c : Tree} {done : List AnsweredDeed} {c' : Tree} (kept : StepsKeepFitsGraph) (stood : Bool) (body : Block) →
    Paces w →
    AllCallable w → Walks w i c done c' → FitsGraph w i c (whole stood body) → FitsGraph w i c' (whole stood body)
walk_live kept stood body paces callable steps.stay live = live
walk_live {w} {i} {c} kept stood body paces callable (steps.on {d = d} {a = a} {n = n} {c' = c'} move more) live =
    walk_live kept stood body paces callable more (kept w i stood body c d a n c' paces callable live move)

-- what begins a turn that traps waits
mutual
  pub waits_there : {w : Setting} {rank : ℕ → Node → ℕ} {i : ℕ} {c : Tree} {store : Store} {n : Node} → TurnsWait →
      TurnTraps w rank i c store n → (next : Option Node) → Waits c next n
  waits_there {w} {rank} {i} {c} waiting (follows.point_traps {d = d} {a = a} {n = n} {c' = t} p none) next =
      waiting w rank i c (did a d) n t next (turns.point p)
  waits_there waiting (follows.inputs_trap called none) next = refl
  waits_there waiting (follows.run_traps called is does fail) next = refl
  waits_there waiting (follows.copy_traps none) next = refl
  waits_there waiting (follows.resume_traps does fail) next = refl
  waits_there waiting (follows.seq_traps {s = s} {rest = rest} one) next = waits_there waiting one (first_in (Then s rest) next)
  waits_there waiting (follows.par_traps one) next = inl (one_waits waiting one)
  waits_there waiting (follows.guard_traps {s = s} {stood = stood} one) next =
      waits_there waiting one (Some (end_node stood s.label s.place))

  one_waits : {w : Setting} {rank : ℕ → Node → ℕ} {i : ℕ} {branches : Trees} {store : Store} {n : Node} → TurnsWait →
      OneTurnTraps w rank i branches store n → SomeWaits branches n
  one_waits waiting (follows.first_traps one) = inl (waits_there waiting one None)
  one_waits waiting (follows.later_traps one) = inr (one_waits waiting one)
