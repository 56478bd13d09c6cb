-- Statements with their types, and what fails in them.
use Rattle.std.specs.Prelude.{ℕ, Bool, ◌&&◌, nat_eq, is_none, is_some, List, [], ◌∷◌, ◌++◌, map, length, slice_get, filter_map, Option, Some, None, option_map}
use Rattle.std.specs.Prelude.{option_and_then, if◌then◌else◌}
use Rattle.bl_tree.specs.declared.place.Place.{Place}
use Rattle.bl_tree.specs.declared.rule.Failure.{Failure}
use Rattle.bl_tree.specs.declared.rule.Further.TheVariants.{One}
use Rattle.bl_tree.specs.declared.rule.Rule.TheVariants as rule
use Rattle.bl_tree.specs.declared.scalar.Scalar.{Scalar as ScalarType}
use Rattle.bl_tree.specs.declared.scalar.Scalar.TheVariants.{Bool as OfBool}
use Rattle.bl_tree.specs.declared.tree.Arm.{Arm, roll-Arm}
use Rattle.bl_tree.specs.declared.tree.Branch.{Branch, roll-Branch}
use Rattle.bl_tree.specs.declared.tree.Expr.{Expr}
use Rattle.bl_tree.specs.declared.tree.Path.{Path, out-Path}
use Rattle.bl_tree.specs.declared.tree.Stmt.{Stmt, roll-Stmt}
use Rattle.bl_tree.specs.declared.tree.StmtKind.{StmtKind}
use Rattle.bl_tree.specs.declared.tree.StmtKind.TheVariants as what
use Rattle.bl_tree.specs.declared.tree.Ty.{Ty}
use Rattle.bl_tree.specs.declared.tree.Unit.{Unit as UnitDef}
use Rattle.bl_tree.specs.declared.tree.UnitKind.{UnitKind}
use Rattle.bl_tree.specs.declared.tree.Var.{Var}
use Rattle.bl_tree.specs.Reduce.{joined}
use Rattle.bl_tree.specs.Types.{same_type, scalar}
use Rattle.bl_tree.specs.Typing.{is_activity, may_change, outputs_of}
use Rattle.bl_names_tree.specs.declared.expr.NamedExpr.{NamedExpr}
use Rattle.bl_names_tree.specs.declared.expr.NamedTarget.{NamedTarget, out-NamedTarget}
use Rattle.bl_names_tree.specs.declared.expr.Root.{Root}
use Rattle.bl_names_tree.specs.declared.expr.Root.TheVariants as root
use Rattle.bl_names_tree.specs.declared.item.NamedConstant.{NamedConstant}
use Rattle.bl_names_tree.specs.declared.item.NamedVar.{NamedVar}
use Rattle.bl_names_tree.specs.declared.stmt.NamedArm.{NamedArm, fold-NamedArm}
use Rattle.bl_names_tree.specs.declared.stmt.NamedBranch.{NamedBranch, fold-NamedBranch}
use Rattle.bl_names_tree.specs.declared.stmt.NamedPath.{NamedPath}
use Rattle.bl_names_tree.specs.declared.stmt.NamedStmt.{NamedStmt, fold-NamedStmt, out-NamedStmt}
use Rattle.bl_names_tree.specs.declared.stmt.NamedStmtKind.{fold-NamedStmtKind}
use Rattle.bl_names_tree.specs.declared.stmt.NamedStmtKind.TheOpen.{NamedStmtKind-F, NamedArm-F, NamedBranch-F, NamedStmt-F}
use Rattle.bl_types.specs.declared.environment.Environment.{Environment}
use Rattle.bl_types.specs.declared.environment.Variable.{Variable}
use Rattle.bl_types.specs.declared.form.Found.{Found}
use Rattle.bl_types.specs.declared.form.Found.TheVariants as found
use Rattle.bl_types.specs.Declarations.{Declaring, Initial, after_constant, after_variable, initial, unchanged, with_variable}
use Rattle.bl_types.specs.Expressions.{Led, Targeted, all_failures, all_made, but_first, first_type, fitted, in_context, judged, miscounted, params_of}
use Rattle.bl_types.specs.Expressions.{path_found, stepped, targeted, to_field, type_of_variable, with_made}
use Rattle.bl_types.specs.Failures.{fails_at, unless}
use Rattle.bl_types.specs.Settled.{Settled}

-- ---- what one statement or block comes to

-- the judgement of a part of a body: what is known after it, its typed form if it has one, and its failures
pub record Walked (A : Type 0) : Type 0 where
  pub env : Environment
  pub made : Option A
  pub failures : List Failure

-- the judgement of a list of parts: what is known after it, the typed forms, and the failures
pub record Block (A : Type 0) : Type 0 where
  pub env : Environment
  pub made : List A
  pub failures : List Failure

-- the judgement of several parts, one after another
abbrev pub in_order : {A : Type 0} → List (Environment → Walked A) → Environment → Block A
in_order [] env = record { env = env; made = []; failures = [] }
in_order (part ∷ rest) env =
    let first : Walked _ = part env in
    let further : Block _ = in_order rest first.env in
    record { env = further.env; made = with_made first.made further.made; failures = first.failures ++ further.failures }

-- what a part comes to, from what is known after it, what is made of it and what fails in it
abbrev pub walked : {A : Type 0} → Environment → Option A → List Failure → Walked A
walked env made failures = record { env = env; made = made; failures = failures }

-- ---- conditions, outputs, and what may be changed

-- Where: the statement at this place stands in a function
abbrev pub misplaced : UnitKind → Place → List Failure
misplaced kind at = unless (is_activity kind) rule.Where at

-- a condition, which is bool
abbrev pub condition : Environment → NamedExpr → Settled
condition env e = in_context (Some (scalar OfBool)) (judged env e)

-- Immutable: the root of a target is neither a `var` nor an output; at the target, also its declaration
abbrev pub immutable_variable : Place → Option Variable → List Failure
immutable_variable at (Some var) = if may_change var.role then [] else record { rule = rule.Immutable; at = at; further = One var.place } ∷ []
immutable_variable at None = []

-- what fails in a change of the root at the place, where that is a variable
abbrev pub immutable : Environment → Place → Root → List Failure
immutable env at (root.Variable k) = immutable_variable at (slice_get env.vars k)
immutable env at (root.Constant k) = []

-- the type of what a target leads to, where that is a path
abbrev pub type_found : Found → Option Ty
type_found (found.Place path) = Some (out-Path path).ty
type_found _ = None

-- a path, which leads by fields alone
abbrev pub targeted_path : Environment → NamedPath → Targeted
targeted_path env path =
    let reached : Led = stepped (map (to_field env.structs) path.fields) (type_of_variable (slice_get env.vars path.root)) in
    record { found = path_found path.place path.root reached.parts reached.ty; failures = reached.failures }

-- a path that stands for an output or takes a result: it is made where its type fits
pub record Lent : Type 0 where
  pub made : Option Path
  pub failures : List Failure

-- Type: an output argument or the target of a run has another type than is wanted; at it
abbrev pub lent_as : Option Ty → Place → Found → Lent
lent_as (Some wanted) at (found.Place path) = if same_type wanted
    (out-Path path).ty then record { made = Some path; failures = [] } else record { made = None; failures = fails_at rule.Type at }
lent_as None at (found.Place path) = record { made = Some path; failures = [] }
lent_as wanted at _ = record { made = None; failures = [] }

-- where this type or nothing is wanted of a path
abbrev pub lent : Environment → Option Ty → NamedPath → Lent
lent env wanted path =
    let target : Targeted = targeted_path env path in
    let fitted : Lent = lent_as wanted path.place target.found in
    record { made = fitted.made; failures = target.failures ++ (fitted.failures ++ immutable_variable path.place (slice_get env.vars path.root)) }

-- outputs, of each of which the type of its parameter is wanted, and nothing of those beyond the parameters
abbrev pub all_lent : Environment → List NamedPath → List Var → List Lent
all_lent env [] params = []
all_lent env (path ∷ rest) params = lent env (first_type params) path ∷ all_lent env rest (but_first params)

-- the paths that are made
abbrev pub paths_made : List Lent → List Path
paths_made all = filter_map (λ lent. lent.made) all

-- what fails in paths, in order
abbrev pub paths_failures : List Lent → List Failure
paths_failures all = joined (map (λ lent. lent.failures) all)

-- the outputs of the unit that is called; none where it is not known
abbrev pub outputs_wanted : Option UnitDef → List Var
outputs_wanted (Some unit) = outputs_of unit
outputs_wanted None = []

-- ---- calls and runs

-- the arguments of a call or run
pub record Arguments : Type 0 where
  pub inputs : List Expr
  pub outputs : List Path
  -- whether all of them have types that fit
  pub complete : Bool
  pub failures : List Failure

-- the failure of a wrong number of inputs or outputs, where the unit that is called is known
abbrev pub counted : Place → ℕ → ℕ → Option UnitDef → List Failure
counted at inputs outputs (Some callee) = miscounted at inputs outputs callee
counted at inputs outputs None = []

-- the arguments of a call at the place, from its inputs and outputs and the unit that is called
abbrev pub arguments_from : Place → List Settled → List Lent → Option UnitDef → Arguments
arguments_from at inputs outputs callee = record {
  inputs = all_made inputs;
  outputs = paths_made outputs;
  complete = nat_eq (length (all_made inputs)) (length inputs) && nat_eq (length (paths_made outputs)) (length outputs);
  failures = all_failures inputs ++ (paths_failures outputs ++ counted at (length inputs) (length outputs) callee);
}

-- the arguments for the unit at a position; the name of the call stands at the place
abbrev pub arguments : Environment → Place → ℕ → List NamedExpr → List NamedPath → Arguments
arguments env at f inputs outputs =
    let callee : Option UnitDef = slice_get env.units f in
    arguments_from at (fitted (map (judged env) inputs) (params_of callee)) (all_lent env outputs (outputs_wanted callee)) callee

-- Return: a call statement names a function with a result
abbrev pub has_result : Place → Option UnitDef → List Failure
has_result at (Some callee) = unless (is_none callee.result) rule.Return at
has_result at None = []

-- a call of these arguments, where all of them have types that fit
abbrev pub if_complete : Arguments → (List Expr → List Path → StmtKind) → Option StmtKind
if_complete arguments make = if arguments.complete then Some (make arguments.inputs arguments.outputs) else None

-- a call statement, from its arguments
abbrev pub call_walked : Place → ℕ → Arguments → Environment → Walked StmtKind
call_walked at f arguments env = walked env (if_complete arguments (what.Call f)) (arguments.failures ++ has_result at (slice_get env.units f))

-- the target of a run, where one is written
pub record RunTarget : Type 0 where
  pub made : Option (Option Path)
  pub failures : List Failure

-- the type of what the unit gives; none where it has no result
abbrev pub result_type : Option UnitDef → Option Ty
result_type callee = option_and_then (λ unit. option_map scalar unit.result) callee

-- Return: the activity of a run with a target has no result; at the target
abbrev pub no_result : Place → Option UnitDef → List Failure
no_result at (Some callee) = unless (is_some callee.result) rule.Return at
no_result at None = []

-- the target of a run of this unit, of which the type of the result is wanted
abbrev pub run_target : Environment → Option UnitDef → Option NamedPath → RunTarget
run_target env callee None = record { made = Some None; failures = [] }
run_target env callee (Some path) =
    let target : Lent = lent env (result_type callee) path in
    record { made = option_map (λ path. Some path) target.made; failures = target.failures ++ no_result path.place callee }

-- a run is made where its target and all its arguments are
abbrev pub run_made : Option (Option Path) → ℕ → Arguments → Option StmtKind
run_made (Some target) a arguments = if_complete arguments (what.Run target a)
run_made None a arguments = None

-- a run at the place, from its target and its arguments
abbrev pub run_walked : Place → ℕ → RunTarget → Arguments → Environment → Walked StmtKind
run_walked at a target arguments env = walked env (run_made target.made a arguments) (misplaced env.kind at ++ (target.failures ++ arguments.failures))

-- ---- declarations, assignments and returns

-- a declaration of the variable with number k that has this initial value
abbrev pub declared_with : NamedVar → ℕ → Initial → Environment → Walked StmtKind
declared_with var k value env = walked (with_variable env var value.valued.ty) (option_map (λ e. what.Declare k (Some e)) value.valued.value) value.failures

-- a declaration of the variable with number k without an initial value
abbrev pub declared_without : ℕ → Declaring → Walked StmtKind
declared_without k after = walked after.env (Some (what.Declare k None)) after.failures

-- a declaration of the variable at a position
abbrev pub declare : ℕ → Option NamedVar → Option NamedExpr → Environment → Walked StmtKind
declare k (Some var) (Some e) env = declared_with var k (initial env var.ty e) env
declare k (Some var) None env = declared_without k (after_variable var env)
declare k None e env = walked env None []

-- what is known after an optional constant
abbrev pub after_optional_constant : Option NamedConstant → Environment → Declaring
after_optional_constant (Some constant) env = after_constant constant env
after_optional_constant None env = unchanged env

-- a constant of a block is no statement of the typed program
abbrev pub constant_walked : Declaring → Walked StmtKind
constant_walked after = walked after.env None after.failures

-- an assignment is made where the target is a path and the value is made
abbrev pub assign_made : Found → Option Expr → Option StmtKind
assign_made (found.Place path) (Some e) = Some (what.Assign path e)
assign_made _ _ = None

-- an assignment, from what its target leads to: the type of that is wanted of the value
abbrev pub assign : NamedTarget → Targeted → NamedExpr → Environment → Walked StmtKind
assign target leads e env =
    let value : Settled = in_context (type_found leads.found) (judged env e) in
    walked env (assign_made leads.found value.made)
    (leads.failures ++ (value.failures ++ immutable env (out-NamedTarget target).place (out-NamedTarget target).root))

-- Return: an expression stands where the unit has no result, or none where it has one; at the statement
abbrev pub returned : Place → Option NamedExpr → Option ScalarType → Environment → Walked StmtKind
returned at (Some e) (Some s) env = let value : Settled = in_context (Some (scalar s)) (judged env e) in
    walked env (option_map (λ e. what.Return (Some e)) value.made) value.failures
returned at (Some e) None env = let value : Settled = in_context None (judged env e) in
    walked env (option_map (λ e. what.Return (Some e)) value.made) (value.failures ++ fails_at rule.Return at)
returned at None (Some s) env = walked env (Some (what.Return None)) (fails_at rule.Return at)
returned at None None env = walked env (Some (what.Return None)) []

-- ---- blocks

-- an expression that is bool, and a block behind it
abbrev pub under : {A : Type 0} → List Failure → Settled → Block Stmt → (Expr → List Stmt → A) → Walked A
under earlier test body make = walked body.env (option_map (λ e. make e body.made) test.made) (earlier ++ (test.failures ++ body.failures))

-- a block, and then an expression that is bool
abbrev pub until : Block Stmt → Settled → Walked StmtKind
until body test = walked body.env (option_map (λ e. what.Until body.made e) test.made) (body.failures ++ test.failures)

-- an `if`, from its arms and its `else` block
abbrev pub choice : Block Arm → Block Stmt → Walked StmtKind
choice arms other = walked other.env (Some (what.If arms.made other.made)) (arms.failures ++ other.failures)

-- what a statement at a place comes to, from what is known before it
abbrev pub StatementJudgement : Type 0 → Type 0
StatementJudgement A = Environment → Walked A

-- a kind of statement at a place, from what its parts come to
abbrev pub walked_kind : List NamedConstant → List NamedVar →
    NamedStmtKind-F (Place → StatementJudgement StmtKind) (StatementJudgement Arm) (StatementJudgement Branch) (StatementJudgement Stmt) → Place → StatementJudgement StmtKind
walked_kind constants vars (NamedStmtKind-F.Declare k e) at env = declare k (slice_get vars k) e env
walked_kind constants vars (NamedStmtKind-F.Const k) at env = constant_walked (after_optional_constant (slice_get constants k) env)
walked_kind constants vars (NamedStmtKind-F.Assign target e) at env = assign target (targeted env target) e env
walked_kind constants vars (NamedStmtKind-F.Call name f inputs outputs) at env = call_walked name f (arguments env name f inputs outputs) env
walked_kind constants vars (NamedStmtKind-F.Await e) at env =
    walked env (option_map what.Await (condition env e).made) (misplaced env.kind at ++ (condition env e).failures)
walked_kind constants vars (NamedStmtKind-F.Run target name a inputs outputs) at env =
    run_walked at a (run_target env (slice_get env.units a) target) (arguments env name a inputs outputs) env
walked_kind constants vars (NamedStmtKind-F.If arms other) at env = let tested : Block Arm = in_order arms env in choice tested (in_order other tested.env)
walked_kind constants vars (NamedStmtKind-F.Cobegin branches) at env =
    let all : Block Branch = in_order branches env in walked all.env (Some (what.Cobegin all.made)) (misplaced env.kind at ++ all.failures)
walked_kind constants vars (NamedStmtKind-F.When guard e body) at env = under (misplaced env.kind at) (condition env e) (in_order body env) (what.When guard)
walked_kind constants vars (NamedStmtKind-F.Repeat body) at env = let all : Block Stmt = in_order body env in
    walked all.env (Some (what.Repeat all.made)) all.failures
walked_kind constants vars (NamedStmtKind-F.Until body e) at env = let all : Block Stmt = in_order body env in until all (condition all.env e)
walked_kind constants vars (NamedStmtKind-F.While e body) at env = under [] (condition env e) (in_order body env) what.While
walked_kind constants vars (NamedStmtKind-F.Return e) at env = returned at e env.result env

-- an arm with this condition and these statements
abbrev pub arm_of : Expr → List Stmt → Arm
arm_of test body = roll-Arm (record { test = test; body = body })

-- an arm, from what its statements come to
abbrev pub walked_arm : NamedArm-F (Place → StatementJudgement StmtKind) (StatementJudgement Arm) (StatementJudgement Branch) (StatementJudgement Stmt) → StatementJudgement Arm
walked_arm arm env = under [] (condition env arm.test) (in_order arm.body env) arm_of

-- a branch, from what its statements come to
abbrev pub walked_branch : NamedBranch-F (Place → StatementJudgement StmtKind) (StatementJudgement Arm) (StatementJudgement Branch) (StatementJudgement Stmt) → StatementJudgement Branch
walked_branch branch env =
    let all : Block Stmt = in_order branch.body env in walked all.env (Some (roll-Branch (record { weak = branch.weak; body = all.made }))) all.failures

-- a statement of this kind at the place
abbrev pub stmt_made : Place → StmtKind → Stmt
stmt_made at what = roll-Stmt (record { place = at; what = what })

-- a statement, from what its kind comes to at its place
abbrev pub walked_layer : NamedStmt-F (Place → StatementJudgement StmtKind) (StatementJudgement Arm) (StatementJudgement Branch) (StatementJudgement Stmt) → StatementJudgement Stmt
walked_layer s env = let kind : Walked StmtKind = s.what s.place env in walked kind.env (option_map (stmt_made s.place) kind.made) kind.failures

-- a statement, where these are the constants of the program and the variables of its unit
abbrev pub walked_stmt : List NamedConstant → List NamedVar → NamedStmt → StatementJudgement Stmt
walked_stmt constants vars = fold-NamedStmt (Place → StatementJudgement StmtKind) (StatementJudgement Arm) (StatementJudgement Branch) (StatementJudgement Stmt)
    (walked_kind constants vars) walked_arm walked_branch walked_layer

-- what a statement is made of, in its place
abbrev pub kind_walked : List NamedConstant → List NamedVar → NamedStmt → StatementJudgement StmtKind
kind_walked constants vars s =
    fold-NamedStmtKind (Place → StatementJudgement StmtKind) (StatementJudgement Arm) (StatementJudgement Branch) (StatementJudgement Stmt) (walked_kind constants vars) walked_arm walked_branch walked_layer
    (out-NamedStmt s).what (out-NamedStmt s).place

-- an arm, where these are the constants of the program and the variables of its unit
abbrev pub arm_walked : List NamedConstant → List NamedVar → NamedArm → StatementJudgement Arm
arm_walked constants vars = fold-NamedArm (Place → StatementJudgement StmtKind) (StatementJudgement Arm) (StatementJudgement Branch) (StatementJudgement Stmt)
    (walked_kind constants vars) walked_arm walked_branch walked_layer

-- a branch, where these are the constants of the program and the variables of its unit
abbrev pub branch_walked : List NamedConstant → List NamedVar → NamedBranch → StatementJudgement Branch
branch_walked constants vars = fold-NamedBranch (Place → StatementJudgement StmtKind) (StatementJudgement Arm) (StatementJudgement Branch) (StatementJudgement Stmt)
    (walked_kind constants vars) walked_arm walked_branch walked_layer

-- the statements of a block
abbrev pub walked_block : List NamedConstant → List NamedVar → List NamedStmt → Environment → Block Stmt
walked_block constants vars body env = in_order (map (walked_stmt constants vars) body) env
