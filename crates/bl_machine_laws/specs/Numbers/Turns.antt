-- One pass over an instance: turn by turn, each of one node with all that is done there.
use Rattle.std.specs.Prelude.{◌≡◌, ◌≤◌, ℕ, suc, Bool, true, false, List, [], ◌∷◌, ◌++◌, Option, Some}
use Rattle.bl_tree.specs.declared.place.Place.{Place}
use Rattle.bl_tree.specs.declared.tree.Expr.{Expr}
use Rattle.bl_tree.specs.declared.tree.Guard.{Guard as GuardKind}
use Rattle.bl_tree.specs.declared.tree.Guard.TheVariants.{Abort, Reset}
use Rattle.bl_tree.specs.declared.tree.Path.{Path}
use Rattle.bl_tree.specs.declared.tree.Stmt.{Stmt, out-Stmt}
use Rattle.bl_tree.specs.declared.tree.Unit.{Unit as UnitDef}
use Rattle.bl_graph_nodes.specs.Nodes.{CheckAt, Node, TestAt, entry}
use Rattle.bl_graph_nodes.specs.Plain.{Act, Again, Await, Block, Bodies, Cobegin, If, Label, Plain, Repeat, Run as RunOf, Then, Until, When, While, plain_body}
use Rattle.bl_graph_nodes.specs.Steps.{end_node, join_node, run_node}
use Rattle.bl_ctree.specs.Actions.{Acts, Asks, Copies, Gives, Silent}
use Rattle.bl_ctree.specs.Control.{Body, Check}
use Rattle.bl_ctree.specs.Instances.{Setting, callee_of, unit_at}
use Rattle.bl_ctree_laws.specs.Pending.{Deed, deed}
use Rattle.bl_ctree_laws.specs.Steps.{call, fork, pause, turn, watch}
use Rattle.bl_ctree_laws.specs.Trees.{Call, Fork, Pause, Tree, Trees, Watch, Nil, Wait, Test, Do, Seq, Par, Guard, Run, are_done, are_settled, trees_begun}
use Rattle.bl_ctree_laws.specs.Trees.{beside, do_block, is_nil, is_settled, seq}

-- a deed and its answer
pub record AnsweredDeed : Type 0 where
  pub deed : Deed
  pub answer : Bool

-- one deed that was done with this answer
abbrev pub did : Deed → Bool → List AnsweredDeed
did a d = record { deed = a; answer = d } ∷ []

-- InstancePoint w i c d a n c': a point of the instance itself acts, and the tree c becomes c' by the deed a, where d is its answer and n its node
pub data InstancePoint (w : Setting) : ℕ → Tree → Bool → Deed → Node → Tree → Type 0 where
  -- an assignment, a declaration, a call or a `return`
  acts : {i : ℕ} {l : Label} {s : Stmt} → InstancePoint w i (Do (Act l s)) true (deed i (out-Stmt s).place (Acts s)) (entry (Act l s)) Nil
  -- the test of an `if` is true, or false
  takes : {i : ℕ} {l : Label} {at : Place} {e : Expr} {body other : Block} →
      InstancePoint w i (Do (If l at e body other)) true (deed i at (Asks e)) (TestAt l at e) (do_block body)
  passes : {i : ℕ} {l : Label} {at : Place} {e : Expr} {body other : Block} →
      InstancePoint w i (Do (If l at e body other)) false (deed i at (Asks e)) (TestAt l at e) (do_block other)
  -- `await` always pauses when it is reached
  pauses : {i : ℕ} {l : Label} {at : Place} {e : Expr} →
      InstancePoint w i (Do (Await l at e)) true (deed i at Silent) (entry (Await l at e)) (Wait (pause l at e))
  -- a loop begins a turn of its body
  repeats : {i : ℕ} {l : Label} {at : Place} {body : Block} →
      InstancePoint w i (Do (Repeat l at body)) true (deed i at Silent) (entry (Repeat l at body)) (do_block (turn body (Repeat l at body)))
  repeats_until : {i : ℕ} {l : Label} {at : Place} {body : Block} {e : Expr} →
      InstancePoint w i (Do (Until l at body e)) true (deed i at Silent) (entry (Until l at body e)) (do_block (turn body (Again l at body e)))
  -- the test after a turn is true, or false
  leaves : {i : ℕ} {l : Label} {at : Place} {body : Block} {e : Expr} →
      InstancePoint w i (Do (Again l at body e)) true (deed i at (Asks e)) (TestAt l at e) Nil
  turns : {i : ℕ} {l : Label} {at : Place} {body : Block} {e : Expr} →
      InstancePoint w i (Do (Again l at body e)) false (deed i at (Asks e)) (TestAt l at e) (Do (Until l at body e))
  -- the test before a turn is true, or false
  enters : {i : ℕ} {l : Label} {at : Place} {e : Expr} {body : Block} →
      InstancePoint w i (Do (While l at e body)) true (deed i at (Asks e)) (TestAt l at e) (do_block (turn body (While l at e body)))
  skips : {i : ℕ} {l : Label} {at : Place} {e : Expr} {body : Block} →
      InstancePoint w i (Do (While l at e body)) false (deed i at (Asks e)) (TestAt l at e) Nil
  -- all branches of a `cobegin` begin
  forks : {i : ℕ} {l : Label} {at : Place} {bodies : Bodies} →
      InstancePoint w i (Do (Cobegin l at bodies)) true (deed i at Silent) (entry (Cobegin l at bodies)) (Par (fork l at bodies) false (trees_begun bodies))
  -- the body of a `when` begins, without a test
  guards : {i : ℕ} {l : Label} {at : Place} {guard : GuardKind} {e : Expr} {body : Block} →
      InstancePoint w i (Do (When l at guard e body)) true (deed i at Silent) (entry (When l at guard e body))
      (Guard (watch l at guard e body) Body false (do_block body))
  -- an `await` that was woken goes on, or pauses again
  goes_on : {i : ℕ} {s : Pause} → InstancePoint w i (Test s) true (deed i s.place (Asks s.test)) (TestAt s.label s.place s.test) Nil
  waits : {i : ℕ} {s : Pause} → InstancePoint w i (Test s) false (deed i s.place (Asks s.test)) (TestAt s.label s.place s.test) (Wait s)
  -- the condition of a guard is false: what is left of its body goes on
  lets : {i : ℕ} {s : Watch} {stood : Bool} {c : Tree} →
      InstancePoint w i (Guard s Check stood c) false (deed i s.place (Asks s.test)) (CheckAt s.label s.place s.test) (Guard s Body stood c)
  -- the condition of a guard is true: `abort` drops the body, and `reset` begins it anew
  aborts : {i : ℕ} {s : Watch} {stood : Bool} {c : Tree} → s.guard ≡ Abort →
      InstancePoint w i (Guard s Check stood c) true (deed i s.place (Asks s.test)) (CheckAt s.label s.place s.test) Nil
  resets : {i : ℕ} {s : Watch} {stood : Bool} {c : Tree} → s.guard ≡ Reset →
      InstancePoint w i (Guard s Check stood c) true (deed i s.place (Asks s.test)) (CheckAt s.label s.place s.test) (Guard s Body stood (do_block s.body))
  -- a guard ends where its body has ended
  guard_ends : {i : ℕ} {s : Watch} {stood : Bool} →
      InstancePoint w i (Guard s Body stood Nil) true (deed i s.place Silent) (end_node stood s.label s.place) Nil
  -- a `cobegin` ends where its branches are settled and enough of them have ended
  joins : {i : ℕ} {s : Fork} {stood : Bool} {branches : Trees} → are_settled branches ≡ true → are_done branches ≡ true →
      InstancePoint w i (Par s stood branches) true (deed i s.place Silent) (join_node stood s.label s.place) Nil

mutual
  -- Turns w rank i c done n c': one turn of the node n leads from the tree c of the instance i to c', with these deeds in order. The whole pass of a callee
  -- belongs to the turn of its `run`
  pub data Turns (w : Setting) (rank : ℕ → Node → ℕ) : ℕ → Tree → List AnsweredDeed → Node → Tree → Type 0 where
    point : {i : ℕ} {c : Tree} {d : Bool} {a : Deed} {n : Node} {c' : Tree} → InstancePoint w i c d a n c' → Turns w rank i c (did a d) n c'
    -- a `run` begins; its body does not end in the tick in which it begins
    runs : {i : ℕ} {l : Label} {at : Place} {target : Option Path} {a : ℕ} {inputs : List Expr} {outputs : List Path} {callee : ℕ} {unit : UnitDef}
        {done : List AnsweredDeed} {c : Tree} → callee_of w i at ≡ Some callee → unit_at w callee ≡ Some unit →
        Passes w rank callee 0 (do_block (plain_body unit.body)) done c → is_nil c ≡ false →
        Turns w rank i (Do (RunOf l at target a inputs outputs)) (did (deed i at (Copies callee inputs)) true ++ done)
        (entry (RunOf l at target a inputs outputs)) (Run (call l at target a inputs outputs) callee Body false c)
    -- a `run` goes on, and its body does not end
    resumes : {i : ℕ} {s : Call} {callee : ℕ} {stood : Bool} {c : Tree} {done : List AnsweredDeed} {c' : Tree} →
        Passes w rank callee 0 c done c' → is_nil c' ≡ false →
        Turns w rank i (Run s callee Check stood c) (did (deed i s.place (Copies callee s.arguments.inputs)) true ++ done)
        (run_node stood s.label s.place s.arguments) (Run s callee Body stood c')
    -- a `run` goes on, its body ends, and the target gets the result
    returns : {i : ℕ} {s : Call} {callee : ℕ} {stood : Bool} {c : Tree} {done : List AnsweredDeed} → Passes w rank callee 0 c done Nil →
        Turns w rank i (Run s callee Check stood c)
        (did (deed i s.place (Copies callee s.arguments.inputs)) true ++ (done ++ did (deed i s.place (Gives callee s.arguments.target)) true))
        (run_node stood s.label s.place s.arguments) Nil
    -- a turn of a node in a tree before what follows it
    in_seq : {i : ℕ} {c : Tree} {s : Plain} {rest : Block} {done : List AnsweredDeed} {n : Node} {c' : Tree} →
        Turns w rank i c done n c' → Turns w rank i (Seq c (Then s rest)) done n (seq c' (Then s rest))
    -- a turn of a node inside a branch
    in_par : {i : ℕ} {s : Fork} {stood : Bool} {branches : Trees} {done : List AnsweredDeed} {n : Node} {branches' : Trees} →
        OneTurns w rank i branches done n branches' → Turns w rank i (Par s stood branches) done n (Par s stood branches')
    -- a turn of a node inside a guard that let its body go on
    in_guard : {i : ℕ} {s : Watch} {stood : Bool} {c : Tree} {done : List AnsweredDeed} {n : Node} {c' : Tree} →
        Turns w rank i c done n c' → Turns w rank i (Guard s Body stood c) done n (Guard s Body stood c')

  -- a turn of one branch
  pub data OneTurns (w : Setting) (rank : ℕ → Node → ℕ) : ℕ → Trees → List AnsweredDeed → Node → Trees → Type 0 where
    first : {i : ℕ} {weak : Bool} {c : Tree} {others : Trees} {done : List AnsweredDeed} {n : Node} {c' : Tree} →
        Turns w rank i c done n c' → OneTurns w rank i (beside weak c others) done n (beside weak c' others)
    later : {i : ℕ} {weak : Bool} {c : Tree} {others : Trees} {done : List AnsweredDeed} {n : Node} {others' : Trees} →
        OneTurns w rank i others done n others' → OneTurns w rank i (beside weak c others) done n (beside weak c others')

  -- Passes w rank i k c done c': turns in the order of node numbers, from k on, lead from c to c'. Nothing is left to do in the tick. Each node has at most one
  -- turn
  pub data Passes (w : Setting) (rank : ℕ → Node → ℕ) : ℕ → ℕ → Tree → List AnsweredDeed → Tree → Type 0 where
    rests : {i k : ℕ} {c : Tree} → is_settled c ≡ true → Passes w rank i k c [] c
    goes : {i k : ℕ} {c : Tree} {done : List AnsweredDeed} {n : Node} {c' : Tree} {others : List AnsweredDeed} {c'' : Tree} →
        k ≤ rank i n → Turns w rank i c done n c' → Passes w rank i (suc (rank i n)) c' others c'' →
        Passes w rank i k c (done ++ others) c''
