-- What an act does, and what a call of a function leaves.
use Rattle.std.specs.Prelude.{ℕ, zero, suc, Bool, true, false, List, [], ◌∷◌, ◌++◌, map, take, drop, slice_get, Option, Some, None, option_map, option_and_then}
use Rattle.std.specs.Prelude.{unwrap_or, if◌then◌else◌}
use Rattle.bl_tree.specs.declared.tree.Expr.{Expr}
use Rattle.bl_tree.specs.declared.tree.Path.{Path}
use Rattle.bl_tree.specs.declared.tree.Stmt.{Stmt, fold-Stmt}
use Rattle.bl_tree.specs.declared.tree.StmtKind.TheOpen.{StmtKind-F, Arm-F, Branch-F, Stmt-F}
use Rattle.bl_tree.specs.declared.tree.StructDef.{StructDef}
use Rattle.bl_tree.specs.declared.tree.Unit.{Unit as UnitDef}
use Rattle.bl_tree.specs.declared.value.Value.{Value}
use Rattle.bl_tree.specs.Numbers.{is_one}
use Rattle.bl_tree.specs.Program.{locals_of}
use Rattle.bl_tree.specs.Typing.{is_function}
use Rattle.bl_eval.specs.declared.datum.Datum.{Datum}
use Rattle.bl_eval.specs.declared.datum.Left.{Left}
use Rattle.bl_eval.specs.Meaning.{View, Callee, Scope, Meaning, PathMeaning, meaning_of, operand, reading, path_meaning_of, value_in, values_of}
use Rattle.bl_eval.specs.Values.{put_at, zero_of}

-- ---- acts: what they make of the values of their unit's variables; none where they trap

-- an assignment puts the value where the path leads; none where the value or the path traps
abbrev pub assigned : PathMeaning → Option Value → View → Option (List Value)
assigned path value view =
    option_and_then (λ value. option_and_then (λ positions. put_at path.root positions value view.now) (path.positions view)) value

-- the initial value, and zero where there is none
abbrev pub initial_value : Scope → ℕ → Option Expr → View → Option Value
initial_value scope k (Some e) view = value_in scope e view
initial_value scope k None view = option_map (λ var. zero_of scope.structs var.ty) (slice_get scope.vars k)

-- a declaration puts the initial value into the variable with number k
abbrev pub declared : Scope → ℕ → Option Expr → View → Option (List Value)
declared scope k initial view = option_and_then (λ value. put_at k [] value view.now) (initial_value scope k initial view)

-- the variables once what the path names has the value. It was read at the call, so the path leads to a value still
abbrev pub put_back : PathMeaning → Value → View → List Value → List Value
put_back path value view now = unwrap_or (option_and_then (λ positions. put_at path.root positions value now) (path.positions view)) now

-- the variables once the paths have the values, one for one and in order
abbrev pub put_all : List PathMeaning → List Value → View → List Value → List Value
put_all [] values view now = now
put_all (path ∷ paths) [] view now = now
put_all (path ∷ paths) (value ∷ values) view now = put_all paths values view (put_back path value view now)

-- the caller's variables after a call: outputs are copied in and back, which passes by reference, as their paths don't overlap
abbrev pub outcome_of_call : List Meaning → List PathMeaning → View → Callee → Option (List Value)
outcome_of_call inputs outputs view callee =
    option_and_then (λ values. option_map (λ left. put_all outputs left.outputs view view.now) (callee values))
    (values_of (inputs ++ map reading outputs) view)

-- a call of the function with number f; none where an input, an output or the function traps
abbrev pub call_of : Scope → ℕ → List Expr → List Path → View → Option (List Value)
call_of scope f inputs outputs view =
    option_and_then (outcome_of_call (map (meaning_of scope) inputs) (map (path_meaning_of scope) outputs) view) (slice_get scope.callees f)

-- an assignment, a declaration or a call
abbrev pub acted : {A B C D : Type 0} → Scope → StmtKind-F A B C D → View → Option (List Value)
acted scope (StmtKind-F.Declare k initial) view = declared scope k initial view
acted scope (StmtKind-F.Assign path e) view = assigned (path_meaning_of scope path) (value_in scope e view) view
acted scope (StmtKind-F.Call f inputs outputs) view = call_of scope f inputs outputs view
acted scope _ view = None

-- ---- the statements of a function, in order over the values of its own variables

-- the outcome of a statement of a function: go on with the next statement, or return
pub data Flow : Type 0 where
  On : List Value → Flow
  Back : List Value → Option Datum → Flow

-- the meaning of a statement of a function, from the variables before it; none where it traps
abbrev pub StmtMeaning : Type 0
StmtMeaning = List Value → Option Flow

-- a function has no `prev`: what its variables were before is never asked for
abbrev pub own : List Value → View
own now = record { now = now; before = now }

-- what follows a statement that ended so: it is done where the statement went on, and else left out
abbrev pub flow_then : Option Flow → StmtMeaning → Option Flow
flow_then None next = None
flow_then (Some (Flow.On now)) next = next now
flow_then (Some (Flow.Back now result)) next = Some (Flow.Back now result)

-- statements one after another, until one returns or traps
abbrev pub in_order : List StmtMeaning → StmtMeaning
in_order [] now = Some (Flow.On now)
in_order (first ∷ rest) now = flow_then (first now) (in_order rest)

-- a condition and the block that is executed where it is true
pub record GuardedBlock : Type 0 where
  pub test : List Value → Option Bool
  pub body : StmtMeaning

-- whether a condition is true; none where it traps
abbrev pub truth : Scope → Expr → List Value → Option Bool
truth scope e now = option_map (λ a. is_one a.n) (operand (meaning_of scope e) (own now))

-- a condition of a loop; the given answer where there is none
abbrev pub condition : Scope → Option Expr → Bool → List Value → Option Bool
condition scope (Some e) without now = truth scope e now
condition scope None without now = Some without

-- the first block whose condition is true, and else the given one
abbrev pub first_true_choice : List GuardedBlock → StmtMeaning → StmtMeaning
first_true_choice [] other now = other now
first_true_choice (choice ∷ rest) other now =
    option_and_then (λ holds. if holds then choice.body now else first_true_choice rest other now) (choice.test now)

-- the greatest number of turns of a loop before it traps
unfoldable pub most_turns : ℕ
most_turns = 65536

-- a loop with n turns left, a condition before and one after each turn; it traps where another turn would begin
abbrev pub looped : (List Value → Option Bool) → StmtMeaning → (List Value → Option Bool) → ℕ → StmtMeaning
looped goes body ends zero now = option_and_then (λ more. if more then None else Some (Flow.On now)) (goes now)
looped goes body ends (suc n) now =
    option_and_then (λ more.
    if more
    then flow_then (body now) (λ new. option_and_then (λ done. if done then Some (Flow.On new) else looped goes body ends n new) (ends new))
    else Some (Flow.On now)) (goes now)

-- a `return`: the function is over, with the value of the expression where there is one
abbrev pub returned : Scope → Option Expr → StmtMeaning
returned scope (Some e) now = option_map (λ datum. Flow.Back now (Some datum)) (meaning_of scope e (own now))
returned scope None now = Some (Flow.Back now None)

-- `await`, `run`, `cobegin` and `when` stand in no function
abbrev pub kind_does : Scope → StmtKind-F StmtMeaning GuardedBlock StmtMeaning StmtMeaning → StmtMeaning
kind_does scope (StmtKind-F.Declare k initial) now = option_map Flow.On (declared scope k initial (own now))
kind_does scope (StmtKind-F.Assign path e) now = option_map Flow.On (assigned (path_meaning_of scope path) (value_in scope e (own now)) (own now))
kind_does scope (StmtKind-F.Call f inputs outputs) now = option_map Flow.On (call_of scope f inputs outputs (own now))
kind_does scope (StmtKind-F.Await e) now = None
kind_does scope (StmtKind-F.Run target a inputs outputs) now = None
kind_does scope (StmtKind-F.If arms other) now = first_true_choice arms (in_order other) now
kind_does scope (StmtKind-F.Cobegin branches) now = None
kind_does scope (StmtKind-F.When guard e body) now = None
kind_does scope (StmtKind-F.Repeat body) now = looped (condition scope None true) (in_order body) (condition scope None false) most_turns now
kind_does scope (StmtKind-F.Until body e) now = looped (condition scope None true) (in_order body) (condition scope (Some e) false) most_turns now
kind_does scope (StmtKind-F.While e body) now = looped (condition scope (Some e) true) (in_order body) (condition scope None false) most_turns now
kind_does scope (StmtKind-F.Return e) now = returned scope e now

-- an arm: its condition, and what its statements do in order
abbrev pub arm_does : Scope → Arm-F StmtMeaning GuardedBlock StmtMeaning StmtMeaning → GuardedBlock
arm_does scope arm = record { test = truth scope arm.test; body = in_order arm.body }

-- a branch: no function has one
abbrev pub branch_does : Branch-F StmtMeaning GuardedBlock StmtMeaning StmtMeaning → StmtMeaning
branch_does branch now = None

-- a statement does what its kind does
abbrev pub stmt_does : Stmt-F StmtMeaning GuardedBlock StmtMeaning StmtMeaning → StmtMeaning
stmt_does s = s.what

-- what a statement of a function does in a scope
abbrev pub does : Scope → Stmt → StmtMeaning
does scope = fold-Stmt StmtMeaning GuardedBlock StmtMeaning StmtMeaning (kind_does scope) (arm_does scope) branch_does stmt_does

-- ---- functions

-- the values of a unit's outputs, which come after its inputs
abbrev pub outputs_in : UnitDef → List Value → List Value
outputs_in unit now = take unit.outputs (drop unit.inputs now)

-- what the end of a function's body leaves
abbrev pub left_by : UnitDef → Flow → Left
left_by unit (Flow.On now) = record { outputs = outputs_in unit now; result = None }
left_by unit (Flow.Back now result) = record { outputs = outputs_in unit now; result = result }

-- the variables of a function as it begins: the arguments in its parameters, and zeros in the others
abbrev pub frame_of : List StructDef → UnitDef → List Value → List Value
frame_of structs unit arguments = arguments ++ map (λ var. zero_of structs var.ty) (locals_of unit)

-- the scope of a unit that sees these functions
abbrev pub scope_among : List StructDef → List Callee → UnitDef → Scope
scope_among structs callees unit = record { structs = structs; vars = unit.vars; callees = callees }

-- what a function that sees these others leaves when it is called
abbrev pub callee_of : List StructDef → List Callee → UnitDef → Callee
callee_of structs callees unit arguments =
    option_map (left_by unit) (in_order (map (does (scope_among structs callees unit)) unit.body) (frame_of structs unit arguments))

-- what a unit leaves when it is called among the functions before it: a function its results, an activity nothing
abbrev pub callable_of : List StructDef → List Callee → UnitDef → Callee
callable_of structs callees unit = if is_function unit.kind then callee_of structs callees unit else (λ arguments. None)

-- the functions with the units appended, each of which sees those before it
abbrev pub callees_after : List StructDef → List Callee → List UnitDef → List Callee
callees_after structs callees [] = callees
callees_after structs callees (unit ∷ rest) = callees_after structs (callees ++ callable_of structs callees unit ∷ []) rest

-- what each of the units leaves when it is called: a unit calls those before it alone, and an activity leaves nothing
abbrev pub callees_of : List StructDef → List UnitDef → List Callee
callees_of structs units = callees_after structs [] units
