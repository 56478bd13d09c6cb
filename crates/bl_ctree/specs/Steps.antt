-- Steps: one action at one point of a tree.
use Rattle.std.specs.Prelude.{ℕ, suc, Bool, true, false, List, [], ◌∷◌, ◌++◌, Option, Some, None, ◌≡◌}
use Rattle.bl_tree.specs.declared.tree.Arm.{Arm, out-Arm}
use Rattle.bl_tree.specs.declared.tree.Branch.{Branch}
use Rattle.bl_tree.specs.declared.tree.Expr.{Expr}
use Rattle.bl_tree.specs.declared.tree.Guard.{Guard as GuardKind}
use Rattle.bl_tree.specs.declared.tree.Guard.TheVariants.{Abort, Reset}
use Rattle.bl_tree.specs.declared.tree.Path.{Path}
use Rattle.bl_tree.specs.declared.tree.Stmt.{Stmt}
use Rattle.bl_tree.specs.declared.tree.StmtKind.TheOpen.{StmtKind-F}
use Rattle.bl_tree.specs.declared.tree.Unit.{Unit as UnitDef}
use Rattle.bl_ctree.specs.Actions.{Action, action, Silent, Acts, Asks, Copies, Gives, perform}
use Rattle.bl_ctree.specs.Control.{Control, Branches, Nil, Wait, Test, Do, Turn, Seq, Par, Guard, Run, branch, Check, Body, do_all, seq, branches_begun}
use Rattle.bl_ctree.specs.Control.{are_settled, are_done}
use Rattle.bl_ctree.specs.Instances.{Setting, callee_of, unit_at}
use Rattle.bl_ctree.specs.Pending.{meets, any_meets}
use Rattle.bl_ctree.specs.Positions.{Item, Begin, Again, Located, kind_of, place_of, block_items, body_items, further, is_act}
use Rattle.bl_ctree.specs.Store.{Store}

-- the block of an arm of an `if`: arms that were passed count
abbrev pub arm_items : Located → Arm → List Item
arm_items s arm = block_items s s.passed (out-Arm arm).body

-- the block of an `else`, when this arm is the last
abbrev pub else_items : Located → List Stmt → List Item
else_items s other = block_items s (suc s.passed) other

-- the body of a loop and then what follows a turn: the loop again, or its test
abbrev pub turn_items : Located → List Stmt → Item → List Item
turn_items s body next = block_items s 0 body ++ next ∷ []

-- Moves w i c d a c': the tree c of instance i moves to c' by the action a, whose answer is d
mutual
  -- a point of the tree acts
  pub data Moves (w : Setting) : ℕ → Control → Bool → Action → Control → Type 0 where
    -- an assignment, a declaration, a call or a `return`
    acts : {i : ℕ} {s : Located} → is_act (kind_of s) ≡ true → Moves w i (Do s) true (action i s (Acts s.stmt)) Nil
    -- the first test of an `if` is true
    takes_arm : {i : ℕ} {s : Located} {arm : Arm} {arms : List Arm} {other : List Stmt} →
        kind_of s ≡ StmtKind-F.If (arm ∷ arms) other →
        Moves w i (Do s) true (action i s (Asks (out-Arm arm).test)) (do_all (arm_items s arm))
    -- the first test of an `if` with further arms is false
    passes_arm : {i : ℕ} {s : Located} {arm next : Arm} {arms : List Arm} {other : List Stmt} →
        kind_of s ≡ StmtKind-F.If (arm ∷ next ∷ arms) other →
        Moves w i (Do s) false (action i s (Asks (out-Arm arm).test)) (Do (further s next arms other))
    -- the first test of an `if` without further arms is false
    takes_else : {i : ℕ} {s : Located} {arm : Arm} {other : List Stmt} →
        kind_of s ≡ StmtKind-F.If (arm ∷ []) other →
        Moves w i (Do s) false (action i s (Asks (out-Arm arm).test)) (do_all (else_items s other))
    -- `await` always pauses when it is reached
    pauses : {i : ℕ} {s : Located} {e : Expr} →
        kind_of s ≡ StmtKind-F.Await e → Moves w i (Do s) true (action i s Silent) (Wait s)
    -- a `run` begins: its inputs are copied, and its activity's body begins
    runs : {i : ℕ} {s : Located} {target : Option Path} {a : ℕ} {inputs : List Expr} {outputs : List Path} {callee : ℕ} {unit : UnitDef} →
        kind_of s ≡ StmtKind-F.Run target a inputs outputs → callee_of w i (place_of s) ≡ Some callee → unit_at w callee ≡ Some unit →
        Moves w i (Do s) true (action i s (Copies callee inputs)) (Run s callee Body false (do_all (body_items unit.body)))
    -- `repeat S end`
    repeats : {i : ℕ} {s : Located} {body : List Stmt} →
        kind_of s ≡ StmtKind-F.Repeat body → Moves w i (Do s) true (action i s Silent) (do_all (turn_items s body (Begin s)))
    -- `repeat S until e end`
    repeats_until : {i : ℕ} {s : Located} {body : List Stmt} {e : Expr} →
        kind_of s ≡ StmtKind-F.Until body e → Moves w i (Do s) true (action i s Silent) (do_all (turn_items s body (Again s)))
    -- the test after its body is true
    leaves : {i : ℕ} {s : Located} {body : List Stmt} {e : Expr} →
        kind_of s ≡ StmtKind-F.Until body e → Moves w i (Turn s) true (action i s (Asks e)) Nil
    -- the test after the body of a `repeat .. until` is false
    turns : {i : ℕ} {s : Located} {body : List Stmt} {e : Expr} →
        kind_of s ≡ StmtKind-F.Until body e → Moves w i (Turn s) false (action i s (Asks e)) (Do s)
    -- `while e repeat S end`, where e is true
    enters : {i : ℕ} {s : Located} {e : Expr} {body : List Stmt} →
        kind_of s ≡ StmtKind-F.While e body → Moves w i (Do s) true (action i s (Asks e)) (do_all (turn_items s body (Begin s)))
    -- `while e repeat S end`, where e is false
    skips : {i : ℕ} {s : Located} {e : Expr} {body : List Stmt} →
        kind_of s ≡ StmtKind-F.While e body → Moves w i (Do s) false (action i s (Asks e)) Nil
    -- all branches of a `cobegin` begin
    forks : {i : ℕ} {s : Located} {branches : List Branch} →
        kind_of s ≡ StmtKind-F.Cobegin branches → Moves w i (Do s) true (action i s Silent) (Par s false (branches_begun s 0 branches))
    -- the body of a `when` begins, without a test
    guards : {i : ℕ} {s : Located} {guard : GuardKind} {e : Expr} {body : List Stmt} →
        kind_of s ≡ StmtKind-F.When guard e body → Moves w i (Do s) true (action i s Silent) (Guard s Body false (do_all (block_items s 0 body)))
    -- an `await` that was woken goes on
    goes_on : {i : ℕ} {s : Located} {e : Expr} →
        kind_of s ≡ StmtKind-F.Await e → Moves w i (Test s) true (action i s (Asks e)) Nil
    -- an `await` that was woken pauses again
    waits : {i : ℕ} {s : Located} {e : Expr} →
        kind_of s ≡ StmtKind-F.Await e → Moves w i (Test s) false (action i s (Asks e)) (Wait s)
    -- the condition of a guard is false: what is left of its body goes on
    lets : {i : ℕ} {s : Located} {stood : Bool} {guard : GuardKind} {e : Expr} {body : List Stmt} {c : Control} →
        kind_of s ≡ StmtKind-F.When guard e body → Moves w i (Guard s Check stood c) false (action i s (Asks e)) (Guard s Body stood c)
    -- the condition of an `abort` guard is true: its body is dropped
    aborts : {i : ℕ} {s : Located} {stood : Bool} {e : Expr} {body : List Stmt} {c : Control} →
        kind_of s ≡ StmtKind-F.When Abort e body → Moves w i (Guard s Check stood c) true (action i s (Asks e)) Nil
    -- the condition of a `reset` guard is true: its body begins anew
    resets : {i : ℕ} {s : Located} {stood : Bool} {e : Expr} {body : List Stmt} {c : Control} →
        kind_of s ≡ StmtKind-F.When Reset e body → Moves w i (Guard s Check stood c) true (action i s (Asks e))
        (Guard s Body stood (do_all (block_items s 0 body)))
    -- a guard ends where its body has ended
    guard_ends : {i : ℕ} {s : Located} {stood : Bool} → Moves w i (Guard s Body stood Nil) true (action i s Silent) Nil
    -- a `run` that was woken: its inputs are copied
    copies : {i : ℕ} {s : Located} {callee : ℕ} {stood : Bool} {c : Control} {target : Option Path} {a : ℕ} {inputs : List Expr} {outputs : List Path} →
        kind_of s ≡ StmtKind-F.Run target a inputs outputs →
        Moves w i (Run s callee Check stood c) true (action i s (Copies callee inputs)) (Run s callee Body stood c)
    -- a `run` ends where its body has ended: the target gets the result
    run_ends : {i : ℕ} {s : Located} {callee : ℕ} {stood : Bool} {target : Option Path} {a : ℕ} {inputs : List Expr} {outputs : List Path} →
        kind_of s ≡ StmtKind-F.Run target a inputs outputs →
        Moves w i (Run s callee Body stood Nil) true (action i s (Gives callee target)) Nil
    -- a `cobegin` ends where its branches are settled and so many have ended as are needed
    joins : {i : ℕ} {s : Located} {stood : Bool} {branches : Branches} →
        are_settled branches ≡ true → are_done branches ≡ true → Moves w i (Par s stood branches) true (action i s Silent) Nil
    -- a step inside a sequence
    in_seq : {i : ℕ} {c : Control} {rest : List Item} {d : Bool} {a : Action} {c' : Control} →
        Moves w i c d a c' → Moves w i (Seq c rest) d a (seq c' rest)
    -- a step inside a branch
    in_par : {i : ℕ} {s : Located} {stood : Bool} {branches : Branches} {d : Bool} {a : Action} {branches' : Branches} →
        OneMoves w i branches d a branches' → Moves w i (Par s stood branches) d a (Par s stood branches')
    -- a step inside a guard that let its body go on
    in_guard : {i : ℕ} {s : Located} {stood : Bool} {c : Control} {d : Bool} {a : Action} {c' : Control} →
        Moves w i c d a c' → Moves w i (Guard s Body stood c) d a (Guard s Body stood c')
    -- a step of a called instance, inside a `run` that has its inputs
    in_run : {i : ℕ} {s : Located} {callee : ℕ} {stood : Bool} {c : Control} {d : Bool} {a : Action} {c' : Control} →
        Moves w callee c d a c' → Moves w i (Run s callee Body stood c) d a (Run s callee Body stood c')

  -- a branch moves, where no other branch may still write what the action reads
  pub data OneMoves (w : Setting) : ℕ → Branches → Bool → Action → Branches → Type 0 where
    first : {i : ℕ} {weak : Bool} {c : Control} {others : Branches} {d : Bool} {a : Action} {c' : Control} →
        Moves w i c d a c' → any_meets w i others a ≡ false → OneMoves w i (branch weak c others) d a (branch weak c' others)
    later : {i : ℕ} {weak : Bool} {c : Control} {others : Branches} {d : Bool} {a : Action} {others' : Branches} →
        OneMoves w i others d a others' → meets w i c a ≡ false → OneMoves w i (branch weak c others) d a (branch weak c others')

-- a step of the whole tree, which stands in instance 0
pub record Step (w : Setting) (c : Control) (store : Store) (a : Action) (c' : Control) (store' : Store) : Type 0 where
  pub answer : Bool
  pub moves : Moves w 0 c answer a c'
  pub performs : perform w a store ≡ Some (record { answer = answer; store = store' })

-- the action may act and its value traps
pub record Traps (w : Setting) (c : Control) (store : Store) (a : Action) : Type 0 where
  pub answer : Bool
  pub after : Control
  pub moves : Moves w 0 c answer a after
  pub fails : perform w a store ≡ None

-- the action may act: it leads on, or it traps
pub data Acting (w : Setting) (c : Control) (store : Store) (a : Action) : Type 0 where
  leads : {c' : Control} {store' : Store} → Step w c store a c' store' → Acting w c store a
  fails : Traps w c store a → Acting w c store a

-- no point of the tree may act
abbrev pub IsStill : Setting → Control → Type 0
IsStill w c = (d : Bool) (a : Action) (c' : Control) → ¬ Moves w 0 c d a c'
