-- Steps of trees: one relation for what could act and for what may act.
use Rattle.std.specs.Prelude.{ℕ, Bool, true, false, List, Option, Some, ◌≡◌, ⊤}
use Rattle.bl_tree.specs.declared.place.Place.{Place}
use Rattle.bl_tree.specs.declared.tree.Expr.{Expr}
use Rattle.bl_tree.specs.declared.tree.Guard.{Guard as GuardKind}
use Rattle.bl_tree.specs.declared.tree.Guard.TheVariants.{Abort, Reset}
use Rattle.bl_tree.specs.declared.tree.Path.{Path}
use Rattle.bl_tree.specs.declared.tree.Stmt.{Stmt, out-Stmt}
use Rattle.bl_tree.specs.declared.tree.Unit.{Unit as UnitDef}
use Rattle.bl_graph_nodes.specs.Nodes.{CheckAt, TestAt, arguments_of, entry}
use Rattle.bl_graph_nodes.specs.Plain.{Block, Bodies, Label, Plain, Act, Again, Await, Cobegin, Done, If, Repeat, Run as RunOf, Then, Until, When, While}
use Rattle.bl_graph_nodes.specs.Plain.{plain_body}
use Rattle.bl_graph_nodes.specs.Steps.{StepLabel, Gives as EndOf, Here, Inside, end_node, join_node, run_node}
use Rattle.bl_ctree.specs.Actions.{Silent, Acts, Asks, Copies, Gives}
use Rattle.bl_ctree.specs.Control.{Check, Body}
use Rattle.bl_ctree.specs.Instances.{Setting, callee_of, unit_at}
use Rattle.bl_ctree_laws.specs.Pending.{Deed, any_meets, deed, meets}
use Rattle.bl_ctree_laws.specs.Trees.{Call, Fork, Pause, Tree, Trees, Watch, Nil, Wait, Test, Do, Seq, Par, Guard, Run, beside, are_done, are_settled, before}
use Rattle.bl_ctree_laws.specs.Trees.{trees_begun, do_block, seq}

-- ---- the test of what stands beside

-- the test of a step that ignores what other branches may write
abbrev pub Anyway : Bool → Type 0
Anyway meets = ⊤

-- the test of a step that may act: no tree beside may still write what is read
abbrev pub Unmet : Bool → Type 0
Unmet meets = meets ≡ false

-- ---- steps

-- what the nodes of a tree have of their statements, by its parts: an `await`
abbrev pub pause : Label → Place → Expr → Pause
pause l at e = record { label = l; place = at; test = e }

-- the fork of a `cobegin`
abbrev pub fork : Label → Place → Bodies → Fork
fork l at bodies = record { label = l; place = at; bodies = bodies }

-- the watch of a `when`
abbrev pub watch : Label → Place → GuardKind → Expr → Block → Watch
watch l at guard e body = record { label = l; place = at; guard = guard; test = e; body = body }

-- the call of a `run`
abbrev pub call : Label → Place → Option Path → ℕ → List Expr → List Path → Call
call l at target a inputs outputs = record { label = l; place = at; unit = a; arguments = arguments_of target inputs outputs }

-- the body of a loop, and then the loop again or its test
abbrev pub turn : Block → Plain → Block
turn body next = before body (Then next Done)

mutual
  -- Moves T w i c d a n c': tree c of instance i becomes c' by deed a with answer d and label n
  pub data Moves (T : Bool → Type 0) (w : Setting) : ℕ → Tree → Bool → Deed → StepLabel → Tree → Type 0 where
    -- an assignment, a declaration, a call or a `return`
    acts : {i : ℕ} {l : Label} {s : Stmt} →
        Moves T w i (Do (Act l s)) true (deed i (out-Stmt s).place (Acts s)) (Here (entry (Act l s))) Nil
    -- the test of an `if` is true
    takes : {i : ℕ} {l : Label} {at : Place} {e : Expr} {body other : Block} →
        Moves T w i (Do (If l at e body other)) true (deed i at (Asks e)) (Here (TestAt l at e)) (do_block body)
    -- the test of an `if` is false
    passes : {i : ℕ} {l : Label} {at : Place} {e : Expr} {body other : Block} →
        Moves T w i (Do (If l at e body other)) false (deed i at (Asks e)) (Here (TestAt l at e)) (do_block other)
    -- `await` always pauses when it is reached
    pauses : {i : ℕ} {l : Label} {at : Place} {e : Expr} →
        Moves T w i (Do (Await l at e)) true (deed i at Silent) (Here (entry (Await l at e))) (Wait (pause l at e))
    -- a `run` begins: its inputs are copied, and its activity's body begins
    runs : {i : ℕ} {l : Label} {at : Place} {target : Option Path} {a : ℕ} {inputs : List Expr} {outputs : List Path} {callee : ℕ} {unit : UnitDef} →
        callee_of w i at ≡ Some callee → unit_at w callee ≡ Some unit →
        Moves T w i (Do (RunOf l at target a inputs outputs)) true (deed i at (Copies callee inputs))
        (Here (entry (RunOf l at target a inputs outputs)))
        (Run (call l at target a inputs outputs) callee Body false (do_block (plain_body unit.body)))
    -- a loop begins its turn
    repeats : {i : ℕ} {l : Label} {at : Place} {body : Block} →
        Moves T w i (Do (Repeat l at body)) true (deed i at Silent) (Here (entry (Repeat l at body))) (do_block (turn body (Repeat l at body)))
    repeats_until : {i : ℕ} {l : Label} {at : Place} {body : Block} {e : Expr} →
        Moves T w i (Do (Until l at body e)) true (deed i at Silent) (Here (entry (Until l at body e))) (do_block (turn body (Again l at body e)))
    -- the test after a turn is true, or false
    leaves : {i : ℕ} {l : Label} {at : Place} {body : Block} {e : Expr} →
        Moves T w i (Do (Again l at body e)) true (deed i at (Asks e)) (Here (TestAt l at e)) Nil
    turns : {i : ℕ} {l : Label} {at : Place} {body : Block} {e : Expr} →
        Moves T w i (Do (Again l at body e)) false (deed i at (Asks e)) (Here (TestAt l at e)) (Do (Until l at body e))
    -- the test before a turn is true, or false
    enters : {i : ℕ} {l : Label} {at : Place} {e : Expr} {body : Block} →
        Moves T w i (Do (While l at e body)) true (deed i at (Asks e)) (Here (TestAt l at e)) (do_block (turn body (While l at e body)))
    skips : {i : ℕ} {l : Label} {at : Place} {e : Expr} {body : Block} →
        Moves T w i (Do (While l at e body)) false (deed i at (Asks e)) (Here (TestAt l at e)) Nil
    -- all branches of a `cobegin` begin
    forks : {i : ℕ} {l : Label} {at : Place} {bodies : Bodies} →
        Moves T w i (Do (Cobegin l at bodies)) true (deed i at Silent) (Here (entry (Cobegin l at bodies))) (Par (fork l at bodies) false (trees_begun bodies))
    -- the body of a `when` begins, without a test
    guards : {i : ℕ} {l : Label} {at : Place} {guard : GuardKind} {e : Expr} {body : Block} →
        Moves T w i (Do (When l at guard e body)) true (deed i at Silent) (Here (entry (When l at guard e body)))
        (Guard (watch l at guard e body) Body false (do_block body))
    -- an `await` that was woken goes on, or pauses again
    goes_on : {i : ℕ} {s : Pause} → Moves T w i (Test s) true (deed i s.place (Asks s.test)) (Here (TestAt s.label s.place s.test)) Nil
    waits : {i : ℕ} {s : Pause} → Moves T w i (Test s) false (deed i s.place (Asks s.test)) (Here (TestAt s.label s.place s.test)) (Wait s)
    -- the condition of a guard is false: what is left of its body goes on
    lets : {i : ℕ} {s : Watch} {stood : Bool} {c : Tree} →
        Moves T w i (Guard s Check stood c) false (deed i s.place (Asks s.test)) (Here (CheckAt s.label s.place s.test)) (Guard s Body stood c)
    -- the condition of an `abort` guard is true: its body is dropped
    aborts : {i : ℕ} {s : Watch} {stood : Bool} {c : Tree} → s.guard ≡ Abort →
        Moves T w i (Guard s Check stood c) true (deed i s.place (Asks s.test)) (Here (CheckAt s.label s.place s.test)) Nil
    -- the condition of a `reset` guard is true: its body begins anew
    resets : {i : ℕ} {s : Watch} {stood : Bool} {c : Tree} → s.guard ≡ Reset →
        Moves T w i (Guard s Check stood c) true (deed i s.place (Asks s.test)) (Here (CheckAt s.label s.place s.test)) (Guard s Body stood (do_block s.body))
    -- a guard ends where its body has ended
    guard_ends : {i : ℕ} {s : Watch} {stood : Bool} →
        Moves T w i (Guard s Body stood Nil) true (deed i s.place Silent) (Here (end_node stood s.label s.place)) Nil
    -- a `run` that was woken: its inputs are copied
    copies : {i : ℕ} {s : Call} {callee : ℕ} {stood : Bool} {c : Tree} →
        Moves T w i (Run s callee Check stood c) true (deed i s.place (Copies callee s.arguments.inputs))
        (Here (run_node stood s.label s.place s.arguments)) (Run s callee Body stood c)
    -- a `run` ends where its body has ended: the target gets the result
    run_ends : {i : ℕ} {s : Call} {callee : ℕ} {stood : Bool} →
        Moves T w i (Run s callee Body stood Nil) true (deed i s.place (Gives callee s.arguments.target))
        (EndOf (run_node stood s.label s.place s.arguments)) Nil
    -- a `cobegin` ends where its branches are settled and so many have ended as are needed
    joins : {i : ℕ} {s : Fork} {stood : Bool} {branches : Trees} → are_settled branches ≡ true → are_done branches ≡ true →
        Moves T w i (Par s stood branches) true (deed i s.place Silent) (Here (join_node stood s.label s.place)) Nil
    -- a step inside a sequence
    in_seq : {i : ℕ} {c : Tree} {rest : Block} {d : Bool} {a : Deed} {n : StepLabel} {c' : Tree} →
        Moves T w i c d a n c' → Moves T w i (Seq c rest) d a n (seq c' rest)
    -- a step inside a branch
    in_par : {i : ℕ} {s : Fork} {stood : Bool} {branches : Trees} {d : Bool} {a : Deed} {n : StepLabel} {branches' : Trees} →
        OneMoves T w i branches d a n branches' → Moves T w i (Par s stood branches) d a n (Par s stood branches')
    -- a step inside a guard that let its body go on
    in_guard : {i : ℕ} {s : Watch} {stood : Bool} {c : Tree} {d : Bool} {a : Deed} {n : StepLabel} {c' : Tree} →
        Moves T w i c d a n c' → Moves T w i (Guard s Body stood c) d a n (Guard s Body stood c')
    -- a step of a called instance, inside a `run` that has its inputs
    in_run : {i : ℕ} {s : Call} {callee : ℕ} {stood : Bool} {c : Tree} {d : Bool} {a : Deed} {n : StepLabel} {c' : Tree} →
        Moves T w callee c d a n c' → Moves T w i (Run s callee Body stood c) d a
        (Inside (run_node stood s.label s.place s.arguments) s.unit n) (Run s callee Body stood c')

  -- a branch moves, where the others pass the test
  pub data OneMoves (T : Bool → Type 0) (w : Setting) : ℕ → Trees → Bool → Deed → StepLabel → Trees → Type 0 where
    first : {i : ℕ} {weak : Bool} {c : Tree} {others : Trees} {d : Bool} {a : Deed} {n : StepLabel} {c' : Tree} →
        Moves T w i c d a n c' → T (any_meets w i others a) → OneMoves T w i (beside weak c others) d a n (beside weak c' others)
    later : {i : ℕ} {weak : Bool} {c : Tree} {others : Trees} {d : Bool} {a : Deed} {n : StepLabel} {others' : Trees} →
        OneMoves T w i others d a n others' → T (meets w i c a) → OneMoves T w i (beside weak c others) d a n (beside weak c others')
