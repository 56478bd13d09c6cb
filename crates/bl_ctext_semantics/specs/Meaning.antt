-- What C expressions, statements and functions do: the value or the memory after, how it ended, and how many statements were executed.
-- A form that no well-formed file has (a function that isn't known, a number where a place is due) traps or gives some fixed value.
use Rattle.std.specs.Prelude.{ℕ, ◌+◌, ℤ, pos, Bool, true, false, List, [], ◌∷◌, ◌++◌, map, Option, Some, None, option_map, unwrap_or, if◌then◌else◌}
use Rattle.bl_tree.specs.declared.text.Text.{Text}
use Rattle.bl_tree.specs.declared.scalar.Scalar.TheVariants.{Bool as OfBool}
use Rattle.bl_tree.specs.declared.scalar.Op.{Op}
use Rattle.bl_tree.specs.declared.scalar.Op.TheVariants.{And, Or, Not}
use Rattle.bl_tree.specs.declared.c.CArg.TheOpen.{CArg-F, CExprKind-F, CCall-F, CExpr-F, CIndex-F, CPlace-F, CStep-F}
use Rattle.bl_tree.specs.declared.c.CExpr.{CExpr, fold-CExpr}
use Rattle.bl_tree.specs.declared.c.CPlace.{CPlace, fold-CPlace}
use Rattle.bl_tree.specs.declared.c.CCall.{CCall, fold-CCall}
use Rattle.bl_tree.specs.declared.c.CStmtKind.TheOpen.{CStmtKind-F, CStmt-F}
use Rattle.bl_tree.specs.declared.c.CStmt.{CStmt, fold-CStmt}
use Rattle.bl_tree.specs.declared.c.CParam.{CParam}
use Rattle.bl_tree.specs.declared.c.CFunc.{CFunc}
use Rattle.bl_tree.specs.Numbers.{checked_of, checked_one_of, is_one}
use Rattle.bl_ctext.specs.Folds.{OpenPart}
use Rattle.bl_ctext_semantics.specs.Memory.{Projection, member, element, variable, Location, CValue, Memory, scalar, scalar_number, zeros, value_at, set_at, without_frame}
use Rattle.bl_ctext_semantics.specs.Tables.{Table, no_entries, table_of, with_entry, entry_or}
use Rattle.bl_ctext.specs.declared.builtin.Builtin.{Builtin}
use Rattle.bl_ctext_semantics.specs.Builtin.{builtin_of, builtin_value, index_within}
use Rattle.bl_ctext_semantics.specs.Course.{End, goes_on, breaks, returns, traps, result_at, Outcome, ending, going, after_statements, ended_by, in_order}
use Rattle.bl_ctext_semantics.specs.Course.{turn_or_none, loop_with_turns, turn_limit}

-- ---- answers with a count

-- the result of an evaluation: its answer, none where it traps, and how many statements were executed by called functions
pub record Counted (A : Type 0) : Type 0 where
  pub count : ℕ
  pub answer : Option A

-- an answer of an evaluation that calls nothing
abbrev pub given : {A : Type 0} → Option A → Counted A
given answer = record { count = 0; answer = answer }

-- an answer with n more statements before it
abbrev pub more : {A : Type 0} → ℕ → Counted A → Counted A
more n c = record { count = n + c.count; answer = c.answer }

-- the evaluation after n statements and this answer; nothing follows a trap
abbrev pub going_on : {A B : Type 0} → ℕ → Option A → (A → Counted B) → Counted B
going_on n None rest = record { count = n; answer = None }
going_on n (Some a) rest = more n (rest a)

-- one evaluation followed by another that uses its answer
abbrev pub next : {A B : Type 0} → Counted A → (A → Counted B) → Counted B
next first rest = going_on first.count first.answer rest

-- ---- functions

-- an argument: a number, or the place after `&`
pub data ArgumentValue : Type 0 where
  by_value : CValue → ArgumentValue
  by_address : Location → ArgumentValue

-- the result of a call: the memory after it, its count of statements, and its number, none where it trapped; 0 without a result
pub record CallResult : Type 0 where
  pub memory : Memory
  pub count : ℕ
  pub result : Option ℤ

-- the meaning of a function: its call at a depth in the chain of calls, with these arguments
abbrev pub Meaning : Type 0
Meaning = ℕ → List ArgumentValue → Memory → CallResult

-- the scope of an expression or statement: the earlier functions, the depth of the running function, and where its pointers lead
pub record Scope : Type 0 where
  pub known : Table Meaning
  pub depth : ℕ
  pub pointers : Table Location

-- the numbers of arguments by value
abbrev pub number_of_passed : ArgumentValue → ℤ
number_of_passed (by_value value) = scalar_number value
number_of_passed (by_address place) = pos 0

-- a call that gives a number and changes nothing
abbrev pub answered : Memory → Option ℤ → CallResult
answered memory result = record { memory = memory; count = 0; result = result }

-- a call of a function that may be known
abbrev pub applied : Option Meaning → ℕ → List ArgumentValue → Memory → CallResult
applied (Some meaning) depth passed memory = meaning depth passed memory
applied None depth passed memory = answered memory None

-- a call of a function that may be the prelude's
abbrev pub called_as : Option Builtin → Option Meaning → ℕ → List ArgumentValue → Memory → CallResult
called_as (Some builtin) function depth passed memory = answered memory (builtin_value builtin (map number_of_passed passed))
called_as None function depth passed memory = applied function depth passed memory

-- a call of the function of this name with these arguments
abbrev pub named_call : Scope → Text → List ArgumentValue → Memory → CallResult
named_call scope name passed memory = called_as (builtin_of name) (scope.known name) (scope.depth + 1) passed memory

-- a call's result with n more statements before it
abbrev pub later_call : ℕ → CallResult → CallResult
later_call n c = record { memory = c.memory; count = n + c.count; result = c.result }

-- the result of a call once its arguments are evaluated
abbrev pub called_after : Scope → Memory → Text → ℕ → Option (List ArgumentValue) → CallResult
called_after scope memory name n (Some passed) = later_call n (named_call scope name passed memory)
called_after scope memory name n None = record { memory = memory; count = n; result = None }

-- ---- expressions change nothing: each is evaluated in a scope and a memory, from left to right

-- what a part that is evaluated gives, in a scope and a memory
abbrev pub Evaluates : Type 0 → Type 0
Evaluates A = Scope → Memory → Counted A

-- the values of parts, evaluated one after the other up to the first that traps
abbrev pub each_of : {A : Type 0} → List (Evaluates A) → Evaluates (List A)
each_of [] scope memory = given (Some [])
each_of (evaluate ∷ rest) scope memory =
    next (evaluate scope memory) (λ a. next (each_of rest scope memory) (λ others. given (Some (a ∷ others))))

-- the ways of several steps, joined
abbrev pub way_of : List (List Projection) → List Projection
way_of [] = []
way_of (parts ∷ rest) = parts ++ way_of rest

-- the location to which the name of a place leads: a variable of the running function, or what a pointer points to
abbrev pub named_location : Scope → Bool → Text → Location
named_location scope false name = record { root = variable scope.depth name; parts = [] }
named_location scope true name = entry_or (record { root = variable scope.depth name; parts = [] }) scope.pointers name

-- a place further on
abbrev pub further : Location → List Projection → Location
further place parts = record { root = place.root; parts = place.parts ++ parts }

-- the element of an index; none, a trap, outside of the array
abbrev pub element_projection : Option ℤ → Option (List Projection)
element_projection None = None
element_projection (Some (pos k)) = Some (element k ∷ [])
element_projection (Some _) = None

-- a number that needs no evaluation
abbrev pub at_once : ℤ → Evaluates CValue
at_once n scope memory = given (Some (scalar n))

-- the value of a comparison, or of `&&` and `||`, whose right side counts only where the left doesn't decide
abbrev pub two_values : Op → Evaluates CValue → Evaluates CValue → Evaluates CValue
two_values And left right scope memory =
    next (left scope memory) (λ a. (if is_one (scalar_number a) then right else at_once (pos 0)) scope memory)
two_values Or left right scope memory =
    next (left scope memory) (λ a. (if is_one (scalar_number a) then at_once (pos 1) else right) scope memory)
two_values op left right scope memory =
    next (left scope memory) (λ a. next (right scope memory) (λ b. given (option_map scalar (checked_of op OfBool (scalar_number a) (scalar_number b)))))

-- a call in an expression gives its result
abbrev pub result_of : CallResult → Counted CValue
result_of c = record { count = c.count; answer = option_map scalar c.result }

-- the evaluation of an open part, where each part within it is evaluated
abbrev pub Evaluating : OpenPart → Type 0
Evaluating Of = Of (Evaluates ArgumentValue) (Evaluates CValue) (Scope → Memory → CallResult) (Evaluates CValue) (Evaluates (List Projection)) (Evaluates Location)
    (Evaluates (List Projection))

-- one step of the fold for each part: what it gives, where what its own parts give is known
abbrev pub arg_step : Evaluating CArg-F → Evaluates ArgumentValue
arg_step (CArg-F.Value value) scope memory = next (value scope memory) (λ v. given (Some (by_value v)))
arg_step (CArg-F.Address place) scope memory = next (place scope memory) (λ p. given (Some (by_address p)))

-- the value of an expression's form
abbrev pub kind_step : Evaluating CExprKind-F → Evaluates CValue
kind_step (CExprKind-F.Literal type n) scope memory = given (Some (scalar n))
kind_step (CExprKind-F.Read place) scope memory = next (place scope memory) (λ p. given (Some (value_at memory p)))
kind_step (CExprKind-F.Call call) scope memory = result_of (call scope memory)
kind_step (CExprKind-F.Not operand) scope memory =
    next (operand scope memory) (λ a. given (option_map scalar (checked_one_of Not OfBool (scalar_number a))))
kind_step (CExprKind-F.Two op left right) scope memory = two_values op left right scope memory

-- the result of a call: its arguments are evaluated, then the function is called
abbrev pub call_step : Evaluating CCall-F → Scope → Memory → CallResult
call_step call scope memory =
    let passed = each_of call.args scope memory in
    called_after scope memory call.name passed.count passed.answer

-- the value of an expression is that of its form
abbrev pub expr_step : Evaluating CExpr-F → Evaluates CValue
expr_step expr = expr.what

-- an index: the element that it chooses, a trap outside of the array
abbrev pub index_step : Evaluating CIndex-F → Evaluates (List Projection)
index_step index scope memory =
    next (index.at scope memory) (λ i. given (element_projection (index_within (scalar_number i) (pos index.length))))

-- the location of a place: where its name leads, and then along its steps
abbrev pub place_step : Evaluating CPlace-F → Evaluates Location
place_step place scope memory =
    next (each_of place.steps scope memory) (λ ways. given (Some (further (named_location scope place.through place.name) (way_of ways))))

-- a member, and the element of it where there is an index
abbrev pub indexed : Text → Option (Evaluates (List Projection)) → Evaluates (List Projection)
indexed name None scope memory = given (Some (member name ∷ []))
indexed name (Some index) scope memory = next (index scope memory) (λ parts. given (Some (member name ∷ parts)))

-- the parts along which a step leads
abbrev pub step_step : Evaluating CStep-F → Evaluates (List Projection)
step_step step = indexed step.member step.index

-- the value of an expression
abbrev pub value_c : CExpr → Evaluates CValue
value_c = fold-CExpr _ _ _ _ _ _ _ arg_step kind_step call_step expr_step index_step place_step step_step

-- the place that a place's text names
abbrev pub location_c : CPlace → Evaluates Location
location_c = fold-CPlace _ _ _ _ _ _ _ arg_step kind_step call_step expr_step index_step place_step step_step

-- the effect of a call
abbrev pub call_c : CCall → Scope → Memory → CallResult
call_c = fold-CCall _ _ _ _ _ _ _ arg_step kind_step call_step expr_step index_step place_step step_step

-- ---- statements

-- the meaning of a statement: its effect in a scope and a memory
abbrev pub CStmtMeaning : Type 0
CStmtMeaning = Scope → Memory → Outcome Memory

-- the statements of a block, one after the other
abbrev pub block_of : List CStmtMeaning → CStmtMeaning
block_of block scope = in_order (map (λ runs. runs scope) block)

-- the outcome of a statement that first evaluates something, and traps where that traps
abbrev pub executed : {A : Type 0} → Memory → Counted A → (A → Outcome Memory) → Outcome Memory
executed memory evaluated rest = ended_by memory (1 + evaluated.count) evaluated.answer rest

-- a call as a statement: its result is dropped
abbrev pub call_end : Option ℤ → End
call_end (Some result) = goes_on
call_end None = traps

-- the outcome of a call that is a statement
abbrev pub call_outcome : CallResult → Outcome Memory
call_outcome c = record { memory = c.memory; end = call_end c.result; count = 1 + c.count }

-- the condition once more, and a turn where it is true
abbrev pub once_more : Evaluates CValue → Scope → (Memory → Outcome Memory) → Memory → Outcome Memory
once_more condition scope turn memory =
    let c = condition scope memory in
    ended_by memory c.count c.answer (λ v. turn_or_none (is_one (scalar_number v)) memory turn)

-- one step of the fold for statements
abbrev pub stmt_kind_step : CStmtKind-F CStmtMeaning CStmtMeaning → CStmtMeaning
stmt_kind_step (CStmtKind-F.Set place expr) scope memory =
    executed memory (next (location_c place scope memory) (λ p. next (value_c expr scope memory) (λ v. given (Some (set_at memory p v))))) going
stmt_kind_step (CStmtKind-F.Clear place name) scope memory =
    executed memory (location_c place scope memory) (λ p. going (set_at memory p zeros))
stmt_kind_step (CStmtKind-F.Call call) scope memory = call_outcome (call_c call scope memory)
stmt_kind_step (CStmtKind-F.If condition block other) scope memory =
    executed memory (value_c condition scope memory) (λ v. (if is_one (scalar_number v) then block_of block else block_of (unwrap_or other [])) scope memory)
stmt_kind_step (CStmtKind-F.Loop name condition body) scope memory =
    after_statements 1 (loop_with_turns turn_limit (once_more (value_c condition) scope) (block_of body scope) memory)
stmt_kind_step CStmtKind-F.Break scope memory = record { memory = memory; end = breaks; count = 1 }
stmt_kind_step (CStmtKind-F.Return None) scope memory = record { memory = memory; end = returns (pos 0); count = 1 }
stmt_kind_step (CStmtKind-F.Return (Some expr)) scope memory =
    executed memory (value_c expr scope memory) (λ v. ending (returns (scalar_number v)) memory)

-- the effect of a statement is that of its form
abbrev pub stmt_step : CStmt-F CStmtMeaning CStmtMeaning → CStmtMeaning
stmt_step stmt = stmt.what

-- the effect of a statement
abbrev pub runs_c : CStmt → CStmtMeaning
runs_c = fold-CStmt CStmtMeaning CStmtMeaning stmt_kind_step stmt_step

-- the effect of the statements of a block
abbrev pub block_c : List CStmt → CStmtMeaning
block_c stmts = block_of (map runs_c stmts)

-- ---- functions and files

-- the locations to which the pointers of a function lead
abbrev pub pointers_of : List CParam → List ArgumentValue → List (Text × Location)
pointers_of (param ∷ params) (by_address place ∷ rest) = (param.name, place) ∷ pointers_of params rest
pointers_of (param ∷ params) (by_value value ∷ rest) = pointers_of params rest
pointers_of params [] = []
pointers_of [] passed = []

-- the memory once the parameters that aren't pointers have their values
abbrev pub with_params : ℕ → List CParam → List ArgumentValue → Memory → Memory
with_params depth (param ∷ params) (by_value value ∷ rest) memory =
    with_params depth params rest (set_at memory (record { root = variable depth param.name; parts = [] }) value)
with_params depth (param ∷ params) (by_address place ∷ rest) memory = with_params depth params rest memory
with_params depth params [] memory = memory
with_params depth [] passed memory = memory

-- the meaning of a function over earlier ones: its variables begin at 0, its parameters at the arguments, and all are gone after it
abbrev pub function_c : Table Meaning → CFunc → Meaning
function_c known function depth passed memory =
    let scope : Scope = record { known = known; depth = depth; pointers = table_of (pointers_of function.params passed) } in
    let o : Outcome Memory = block_c function.body scope (with_params depth function.params passed (without_frame depth memory)) in
    record { memory = without_frame depth o.memory; count = o.count; result = result_at o.end }

-- the functions in order by name, each over those before it
abbrev pub meanings_after : Table Meaning → List CFunc → List (Text × Meaning)
meanings_after known [] = []
meanings_after known (function ∷ rest) =
    (function.name, function_c known function) ∷ meanings_after (with_entry known function.name (function_c known function)) rest

-- the meaning of each function of a file
abbrev pub meanings : List CFunc → List (Text × Meaning)
meanings = meanings_after no_entries
