-- A pass over an instance and a store: turn by turn, each that of the lowest node at which something waits. Its deeds are done with the answers
-- that the store gives, and one of them may trap.
use Rattle.std.specs.Prelude.{◌≡◌, ◌≤◌, ℕ, suc, Bool, true, false, List, Option, Some, None}
use Rattle.bl_tree.specs.declared.place.Place.{Place}
use Rattle.bl_tree.specs.declared.tree.Expr.{Expr}
use Rattle.bl_tree.specs.declared.tree.Path.{Path}
use Rattle.bl_tree.specs.declared.tree.Unit.{Unit as UnitDef}
use Rattle.bl_graph_nodes.specs.Nodes.{Node, entry}
use Rattle.bl_graph_nodes.specs.Plain.{Block, Label, Plain, Then, plain_body}
use Rattle.bl_graph_nodes.specs.Plain.{Run as RunOf}
use Rattle.bl_graph_nodes.specs.Steps.{run_node}
use Rattle.bl_ctree.specs.Actions.{Copies, Gives}
use Rattle.bl_ctree.specs.Control.{Body, Check}
use Rattle.bl_ctree.specs.Instances.{Setting, callee_of, unit_at}
use Rattle.bl_ctree.specs.Store.{Store}
use Rattle.bl_ctree_laws.specs.Ends.{done_by}
use Rattle.bl_ctree_laws.specs.Pending.{Deed, deed}
use Rattle.bl_ctree_laws.specs.Steps.{call}
use Rattle.bl_ctree_laws.specs.Trees.{Call, Fork, Tree, Trees, Watch, Nil, Do, Seq, Par, Guard, Run, beside, do_block, is_nil, is_settled, seq}
use Rattle.bl_machine_laws.specs.Numbers.Turns.{InstancePoint}
use Rattle.bl_machine_laws.specs.Numbers.Waiting.{Waits}

-- nothing that waits in the tree has a lesser number than the node
abbrev pub First : (ℕ → Node → ℕ) → ℕ → Tree → Node → Type 0
First rank i c n = (y : Node) → Waits c None y → rank i n ≤ rank i y

-- the deed is done in the store, with this answer, and leaves that store
abbrev pub DeedYields : Setting → Deed → Store → Bool → Store → Type 0
DeedYields w a store d left = done_by w a store ≡ Some (record { answer = d; store = left })

mutual
  -- TurnSteps w rank i c store n c' left: one turn of the node n leads from the tree c of the instance i to c', and from the store to `left`
  pub data TurnSteps (w : Setting) (rank : ℕ → Node → ℕ) : ℕ → Tree → Store → Node → Tree → Store → Type 0 where
    point : {i : ℕ} {c : Tree} {store : Store} {d : Bool} {a : Deed} {n : Node} {c' : Tree} {left : Store} →
        InstancePoint w i c d a n c' → DeedYields w a store d left → TurnSteps w rank i c store n c' left
    -- a `run` begins
    runs : {i : ℕ} {l : Label} {at : Place} {target : Option Path} {a : ℕ} {inputs : List Expr} {outputs : List Path} {callee : ℕ} {unit : UnitDef}
        {store given : Store} {c : Tree} {left : Store} → callee_of w i at ≡ Some callee → unit_at w callee ≡ Some unit →
        DeedYields w (deed i at (Copies callee inputs)) store true given →
        Follows w rank callee 0 (do_block (plain_body unit.body)) given c left → is_nil c ≡ false →
        TurnSteps w rank i (Do (RunOf l at target a inputs outputs)) store (entry (RunOf l at target a inputs outputs))
        (Run (call l at target a inputs outputs) callee Body false c) left
    -- a `run` goes on, and its body doesn't end
    resumes : {i : ℕ} {s : Call} {callee : ℕ} {stood : Bool} {c : Tree} {store given : Store} {c' : Tree} {left : Store} →
        DeedYields w (deed i s.place (Copies callee s.arguments.inputs)) store true given → Follows w rank callee 0 c given c' left → is_nil c' ≡ false →
        TurnSteps w rank i (Run s callee Check stood c) store (run_node stood s.label s.place s.arguments) (Run s callee Body stood c') left
    -- a `run` goes on, its body ends, and the target gets the result
    returns : {i : ℕ} {s : Call} {callee : ℕ} {stood : Bool} {c : Tree} {store given ended left : Store} →
        DeedYields w (deed i s.place (Copies callee s.arguments.inputs)) store true given → Follows w rank callee 0 c given Nil ended →
        DeedYields w (deed i s.place (Gives callee s.arguments.target)) ended true left →
        TurnSteps w rank i (Run s callee Check stood c) store (run_node stood s.label s.place s.arguments) Nil left
    -- a turn of a node in a tree before what follows it
    in_seq : {i : ℕ} {c : Tree} {s : Plain} {rest : Block} {store : Store} {n : Node} {c' : Tree} {left : Store} →
        TurnSteps w rank i c store n c' left → TurnSteps w rank i (Seq c (Then s rest)) store n (seq c' (Then s rest)) left
    -- a turn of a node inside a branch
    in_par : {i : ℕ} {s : Fork} {stood : Bool} {branches : Trees} {store : Store} {n : Node} {branches' : Trees} {left : Store} →
        OneTurnSteps w rank i branches store n branches' left → TurnSteps w rank i (Par s stood branches) store n (Par s stood branches') left
    -- a turn of a node inside a guard that let its body go on
    in_guard : {i : ℕ} {s : Watch} {stood : Bool} {c : Tree} {store : Store} {n : Node} {c' : Tree} {left : Store} →
        TurnSteps w rank i c store n c' left → TurnSteps w rank i (Guard s Body stood c) store n (Guard s Body stood c') left

  -- a turn of one branch
  pub data OneTurnSteps (w : Setting) (rank : ℕ → Node → ℕ) : ℕ → Trees → Store → Node → Trees → Store → Type 0 where
    first : {i : ℕ} {weak : Bool} {c : Tree} {others : Trees} {store : Store} {n : Node} {c' : Tree} {left : Store} →
        TurnSteps w rank i c store n c' left → OneTurnSteps w rank i (beside weak c others) store n (beside weak c' others) left
    later : {i : ℕ} {weak : Bool} {c : Tree} {others : Trees} {store : Store} {n : Node} {others' : Trees} {left : Store} →
        OneTurnSteps w rank i others store n others' left → OneTurnSteps w rank i (beside weak c others) store n (beside weak c others') left

  -- Follows w rank i k c store c' left: turns of the instance from the number k on lead from c to c' and from the store to `left`. Each turn is that of the
  -- first waiting node, and nothing is left to do in the tick
  pub data Follows (w : Setting) (rank : ℕ → Node → ℕ) : ℕ → ℕ → Tree → Store → Tree → Store → Type 0 where
    rests : {i k : ℕ} {c : Tree} {store : Store} → is_settled c ≡ true → Follows w rank i k c store c store
    goes : {i k : ℕ} {c : Tree} {store : Store} {n : Node} {c' : Tree} {between : Store} {c'' : Tree} {left : Store} →
        k ≤ rank i n → First rank i c n → TurnSteps w rank i c store n c' between → Follows w rank i (suc (rank i n)) c' between c'' left →
        Follows w rank i k c store c'' left

mutual
  -- TurnTraps w rank i c store n: a turn of the node begins, and one of its deeds traps
  pub data TurnTraps (w : Setting) (rank : ℕ → Node → ℕ) : ℕ → Tree → Store → Node → Type 0 where
    point_traps : {i : ℕ} {c : Tree} {store : Store} {d : Bool} {a : Deed} {n : Node} {c' : Tree} →
        InstancePoint w i c d a n c' → done_by w a store ≡ None → TurnTraps w rank i c store n
    -- the inputs of a `run` that begins trap, or a deed in what it calls
    inputs_trap : {i : ℕ} {l : Label} {at : Place} {target : Option Path} {a : ℕ} {inputs : List Expr}
        {outputs : List Path} {callee : ℕ} {store : Store} →
        callee_of w i at ≡ Some callee → done_by w (deed i at (Copies callee inputs)) store ≡ None →
        TurnTraps w rank i (Do (RunOf l at target a inputs outputs)) store (entry (RunOf l at target a inputs outputs))
    run_traps : {i : ℕ} {l : Label} {at : Place} {target : Option Path} {a : ℕ} {inputs : List Expr} {outputs : List Path} {callee : ℕ} {unit : UnitDef}
        {store given : Store} → callee_of w i at ≡ Some callee → unit_at w callee ≡ Some unit →
        DeedYields w (deed i at (Copies callee inputs)) store true given → Fails w rank callee 0 (do_block (plain_body unit.body)) given →
        TurnTraps w rank i (Do (RunOf l at target a inputs outputs)) store (entry (RunOf l at target a inputs outputs))
    -- a `run` that goes on traps: its inputs do, or a deed in what it calls
    copy_traps : {i : ℕ} {s : Call} {callee : ℕ} {stood : Bool} {c : Tree} {store : Store} →
        done_by w (deed i s.place (Copies callee s.arguments.inputs)) store ≡ None →
        TurnTraps w rank i (Run s callee Check stood c) store (run_node stood s.label s.place s.arguments)
    resume_traps : {i : ℕ} {s : Call} {callee : ℕ} {stood : Bool} {c : Tree} {store given : Store} →
        DeedYields w (deed i s.place (Copies callee s.arguments.inputs)) store true given → Fails w rank callee 0 c given →
        TurnTraps w rank i (Run s callee Check stood c) store (run_node stood s.label s.place s.arguments)
    seq_traps : {i : ℕ} {c : Tree} {s : Plain} {rest : Block} {store : Store} {n : Node} →
        TurnTraps w rank i c store n → TurnTraps w rank i (Seq c (Then s rest)) store n
    par_traps : {i : ℕ} {s : Fork} {stood : Bool} {branches : Trees} {store : Store} {n : Node} →
        OneTurnTraps w rank i branches store n → TurnTraps w rank i (Par s stood branches) store n
    guard_traps : {i : ℕ} {s : Watch} {stood : Bool} {c : Tree} {store : Store} {n : Node} →
        TurnTraps w rank i c store n → TurnTraps w rank i (Guard s Body stood c) store n

  -- a turn of one branch that traps
  pub data OneTurnTraps (w : Setting) (rank : ℕ → Node → ℕ) : ℕ → Trees → Store → Node → Type 0 where
    first_traps : {i : ℕ} {weak : Bool} {c : Tree} {others : Trees} {store : Store} {n : Node} →
        TurnTraps w rank i c store n → OneTurnTraps w rank i (beside weak c others) store n
    later_traps : {i : ℕ} {weak : Bool} {c : Tree} {others : Trees} {store : Store} {n : Node} →
        OneTurnTraps w rank i others store n → OneTurnTraps w rank i (beside weak c others) store n

  -- Fails w rank i k c store: turns of the instance from the number k on, each of the first waiting node, lead to one that traps
  pub data Fails (w : Setting) (rank : ℕ → Node → ℕ) : ℕ → ℕ → Tree → Store → Type 0 where
    breaks : {i k : ℕ} {c : Tree} {store : Store} {n : Node} → k ≤ rank i n → First rank i c n → TurnTraps w rank i c store n →
        Fails w rank i k c store
    goes_on : {i k : ℕ} {c : Tree} {store : Store} {n : Node} {c' : Tree} {between : Store} →
        k ≤ rank i n → First rank i c n → TurnSteps w rank i c store n c' between → Fails w rank i (suc (rank i n)) c' between →
        Fails w rank i k c store
