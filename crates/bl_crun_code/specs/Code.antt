-- The code of C expressions, statements, functions and files.
use Rattle.std.specs.Prelude.{ℕ, suc, ◌+◌, ℤ, pos, negsuc, Bool, true, false, ◌&&◌, int_le, List, [], ◌∷◌, ◌++◌, map, length, Option, Some, None, is_some}
use Rattle.std.specs.Prelude.{option_map, if◌then◌else◌}
use Rattle.std.specs.List.{list_all}
use Rattle.bl_tree.specs.declared.scalar.Op.{Op}
use Rattle.bl_tree.specs.declared.scalar.Op.TheVariants.{And, Or}
use Rattle.bl_tree.specs.declared.c.CType.{CType}
use Rattle.bl_tree.specs.declared.c.CType.TheVariants.{Scalar as OfScalar, Struct as OfStruct}
use Rattle.bl_tree.specs.declared.c.CArg.TheOpen.{CArg-F, CExprKind-F, CCall-F, CExpr-F, CIndex-F, CPlace-F, CStep-F}
use Rattle.bl_tree.specs.declared.c.CArg.{CArg, fold-CArg}
use Rattle.bl_tree.specs.declared.c.CExpr.{CExpr, fold-CExpr}
use Rattle.bl_tree.specs.declared.c.CPlace.{CPlace, fold-CPlace}
use Rattle.bl_tree.specs.declared.c.CCall.{CCall, fold-CCall}
use Rattle.bl_tree.specs.declared.c.CStmtKind.TheOpen.{CStmtKind-F, CStmt-F}
use Rattle.bl_tree.specs.declared.c.CStmt.{CStmt, fold-CStmt}
use Rattle.bl_tree.specs.declared.c.CFunc.{CFunc}
use Rattle.bl_ctext.specs.declared.builtin.Builtin.{Builtin}
use Rattle.bl_ctext_semantics.specs.Builtin.{builtin_of}
use Rattle.bl_ctext.specs.Folds.{OpenPart}
use Rattle.bl_ctext_semantics.specs.Sizes.{Sizes}
use Rattle.bl_ctext_semantics.specs.Tables.{Table, with_entry, entry_or}
use Rattle.bl_ctext_semantics_laws.specs.Layout.{Layouts, capped, frame_cells, slots_of}
use Rattle.bl_ctext_semantics_laws.specs.Reaching.{Ground, Index, Reach, Start, StepInto, Term, laid_in, near, reach_along, reach_member, start_of_slot, through}
use Rattle.bl_crun_code.specs.declared.instruction.Operand.{Operand}
use Rattle.bl_crun_code.specs.declared.instruction.Operand.TheVariants as op
use Rattle.bl_crun_code.specs.declared.instruction.Act.{Act}
use Rattle.bl_crun_code.specs.declared.instruction.Act.TheVariants as act
use Rattle.bl_crun_code.specs.declared.instruction.Instruction.{Instruction}

-- a list of instructions
abbrev pub Code : Type 0
Code = List Instruction

-- an instruction with which no statement begins
abbrev pub uncounted : Act → Instruction
uncounted does = record { statements = 0; act = does }

-- code with whose first instruction so many statements more begin
abbrev pub with_begun : ℕ → Code → Code
with_begun n [] = []
with_begun n (i ∷ rest) = record { statements = i.statements + n; act = i.act } ∷ rest

-- what is known of a function: the position of its first instruction, and how many cells its frame has
pub record FunctionEntry : Type 0 where
  pub entry : ℕ
  pub frame : ℕ

-- something compiled by the entries of the earlier functions
abbrev pub Coded : Type 0 → Type 0
Coded A = Ground FunctionEntry → A

-- ---- operands

-- code, and an operand that has a number once the code is over
pub record Ready : Type 0 where
  pub code : Code
  pub it : Operand

-- an expression compiled. `ready`, `into` and `test` take whether its operands may be read late, since nothing around it calls a function of the file, and the
-- first temporary that is free. `into` takes where the value is written; `test` takes how many instructions are passed where it is true, and where it isn't
pub record Valued : Type 0 where
  -- whether it calls no function of the file
  pub calm : Bool
  pub ready : Bool → ℕ → Ready
  pub into : Bool → ℕ → Operand → Code
  pub test : Bool → ℕ → ℕ → ℕ → Code

-- the first temporary that is free behind one, while an operand is needed
abbrev pub depth_behind : ℕ → Operand → ℕ
depth_behind depth (op.Temporary j) = suc depth
depth_behind depth (op.Indirect j) = suc depth
depth_behind depth _ = depth

-- the operand that has the number of the cell at which another one is read or written
abbrev pub address_in : Operand → Operand
address_in (op.Near k) = op.NearAddress k
address_in (op.Through p k) = op.ThroughAddress p k
address_in (op.Indirect j) = op.Temporary j
address_in o = o

-- an operand with an instruction that reads it
abbrev pub ending_with : Ready → (Operand → Act) → Code
ending_with ready does = ready.code ++ uncounted (does ready.it) ∷ []

-- code that makes a value a temporary's number
abbrev pub made : (ℕ → Operand → Code) → ℕ → Ready
made into depth = record { code = into depth (op.Temporary depth); it = op.Temporary depth }

-- ---- places

-- the operand of a place without indices
abbrev pub start_operand : Start → ℕ → Operand
start_operand (near k) passed = op.Near (capped (k + passed))
start_operand (through k) passed = op.Through k passed

-- the operand of a place without indices once it stands: where it isn't read late, a temporary has the cell's number that a pointer gives now
abbrev pub start_ready : Bool → ℕ → Operand → Ready
start_ready false depth (op.Through p k) = record { code = uncounted (act.Move (op.Temporary depth) (op.ThroughAddress p k)) ∷ []; it = op.Indirect depth }
start_ready late depth o = record { code = []; it = o }

-- code behind which a temporary has the number of the cell that is reached from one by indices, from left to right
abbrev pub along_code : Bool → ℕ → Operand → List (Term Valued) → Code
along_code late depth at [] = []
along_code late depth at (term ∷ terms) =
    let index : Ready = term.index.ready late (depth_behind depth at) in
    index.code ++ uncounted (act.Element depth at index.it term.length term.size) ∷ along_code late depth (op.Temporary depth) terms

-- a place that is reached from another one by indices
abbrev pub along_ready : Bool → ℕ → Ready → List (Term Valued) → Ready
along_ready late depth first [] = first
along_ready late depth first (term ∷ terms) =
    record { code = first.code ++ along_code late depth (address_in first.it) (term ∷ terms); it = op.Indirect depth }

-- a place: an operand at which its first cell is read or written
abbrev pub reach_ready : Reach Valued → Bool → ℕ → Ready
reach_ready reach late depth = along_ready late depth (start_ready late depth (start_operand reach.start reach.passed)) reach.terms

-- whether the indices of a place call no function of the file
abbrev pub reach_calm : Reach Valued → Bool
reach_calm reach = list_all (λ term. term.index.calm) reach.terms

-- the number of a place's first cell
abbrev pub address_ready : Reach Valued → Bool → ℕ → Ready
address_ready reach late depth = record { code = (reach_ready reach late depth).code; it = address_in (reach_ready reach late depth).it }

-- ---- expressions

-- a value that `ready` and `into` give, tested by its number
abbrev pub valued : Bool → (Bool → ℕ → Ready) → (Bool → ℕ → Operand → Code) → Valued
valued calm ready into = record {
  calm = calm;
  ready = ready;
  into = into;
  test = λ late depth hold fail. ending_with (ready late depth) (λ a. act.Test a hold fail);
}

-- whether an operand can have this number
abbrev pub is_small : ℤ → Bool
is_small n = int_le (negsuc 2147483647) n && int_le n (pos 2147483647)

-- a number as an operand
abbrev pub number_ready : ℤ → ℕ → Ready
number_ready n depth = if is_small n then record { code = []; it = op.Literal n } else made (λ _ into. uncounted (act.Constant into n) ∷ []) depth

-- a number
abbrev pub literal_valued : ℤ → Valued
literal_valued n = valued true (λ late depth. number_ready n depth) (λ late depth into. uncounted (act.Constant into n) ∷ [])

-- the number of a place's first cell
abbrev pub address_valued : Reach Valued → Valued
address_valued reach =
    valued (reach_calm reach) (address_ready reach) (λ late depth into. ending_with (address_ready reach late depth) (λ a. act.Move into a))

-- what is read at a place, which may be read late, and else is a temporary's number
abbrev pub fetched_ready : Reach Valued → Bool → ℕ → Ready
fetched_ready reach true depth = reach_ready reach true depth
fetched_ready reach false depth = made (λ d into. ending_with (reach_ready reach false d) (λ a. act.Move into a)) depth

-- what is read at a place of a scalar
abbrev pub fetched_valued : Reach Valued → Valued
fetched_valued reach =
    valued (reach_calm reach) (fetched_ready reach) (λ late depth into. ending_with (reach_ready reach late depth) (λ a. act.Move into a))

-- what is read at a place of a type: a number, or the number of a struct's first cell
abbrev pub read_valued : Option CType → Reach Valued → Valued
read_valued (Some (OfScalar s)) reach = fetched_valued reach
read_valued _ reach = address_valued reach

-- a value that is written first, where it is an operand
abbrev pub written_valued : Bool → (Bool → ℕ → Operand → Code) → Valued
written_valued calm into = valued calm (λ late. made (into late)) into

-- two operands, the left one first, and an instruction that reads them
abbrev pub pair_code : Valued → Valued → Bool → ℕ → (Operand → Operand → Act) → Code
pair_code first second late depth does =
    let a : Ready = first.ready late depth in
    a.code ++ ending_with (second.ready late (depth_behind depth a.it)) (λ b. does a.it b)

-- a negation
abbrev pub negated_into : Valued → Bool → ℕ → Operand → Code
negated_into operand late depth into = ending_with (operand.ready late depth) (λ a. act.Negate into a)

-- a value that is written by `into` and tested by `test`
abbrev pub tested_valued : Bool → (Bool → ℕ → Operand → Code) → (Bool → ℕ → ℕ → ℕ → Code) → Valued
tested_valued calm into test = record { calm = calm; ready = λ late. made (into late); into = into; test = test }

-- `!`
abbrev pub not_valued : Valued → Valued
not_valued operand = tested_valued operand.calm (negated_into operand) (λ late depth hold fail. operand.test late depth fail hold)

-- behind a test that passes so many instructions more where the right side doesn't count: the right side, or else this number
abbrev pub or_else : Code → Operand → ℤ → Code
or_else second into n = second ++ uncounted (act.Skip 1) ∷ uncounted (act.Constant into n) ∷ []

-- `&&` where its value is written
abbrev pub both_into : Valued → Valued → Bool → ℕ → Operand → Code
both_into first second late depth into =
    first.test late depth 0 (length (second.into late depth into) + 1) ++ or_else (second.into late depth into) into (pos 0)

-- `||` where its value is written
abbrev pub either_into : Valued → Valued → Bool → ℕ → Operand → Code
either_into first second late depth into =
    first.test late depth (length (second.into late depth into) + 1) 0 ++ or_else (second.into late depth into) into (pos 1)

-- `&&` that is tested
abbrev pub both_test : Valued → Valued → Bool → ℕ → ℕ → ℕ → Code
both_test first second late depth hold fail =
    first.test late depth 0 (length (second.test late depth hold fail) + fail) ++ second.test late depth hold fail

-- `||` that is tested
abbrev pub either_test : Valued → Valued → Bool → ℕ → ℕ → ℕ → Code
either_test first second late depth hold fail =
    first.test late depth (length (second.test late depth hold fail) + hold) 0 ++ second.test late depth hold fail

-- an operator on two values
abbrev pub two_valued : Op → Valued → Valued → Valued
two_valued And first second = tested_valued (first.calm && second.calm) (both_into first second) (both_test first second)
two_valued Or first second = tested_valued (first.calm && second.calm) (either_into first second) (either_test first second)
two_valued op first second =
    tested_valued (first.calm && second.calm) (λ late depth into. pair_code first second late depth (λ a b. act.Two op into a b))
    (λ late depth hold fail. pair_code first second late depth (λ a b. act.Compare op a b hold fail))

-- ---- calls

-- whether arguments call no function of the file
abbrev pub args_calm : List Valued → Bool
args_calm args = list_all (λ a. a.calm) args

-- code that makes arguments the numbers of temporaries, one behind the other
abbrev pub args_code : Bool → ℕ → List Valued → Code
args_code late depth [] = []
args_code late depth (arg ∷ args) = arg.into late depth (op.Temporary depth) ++ args_code late (suc depth) args

-- the instruction of a call of a function of the file
abbrev pub known_call : Ground FunctionEntry → ℕ → ℕ → Operand → Option FunctionEntry → Act
known_call here first args into None = act.Stop
known_call here first args into (Some known) =
    act.Call (record { entry = known.entry; first = first; args = args; passed = here.frame; frame = known.frame; into = into })

-- the code of a call whose result is written, of the prelude first. Where no argument of a function of the file calls another one, all of them are read late
abbrev pub call_into : Ground FunctionEntry → Option Builtin → Option FunctionEntry → List Valued → Bool → ℕ → Operand → Code
call_into here (Some builtin) known (a ∷ []) late depth into = ending_with (a.ready late depth) (λ x. act.One builtin into x)
call_into here (Some builtin) known (a ∷ b ∷ []) late depth into = pair_code a b late depth (λ x y. act.Both builtin into x y)
call_into here (Some builtin) known args late depth into = args_code late depth args ++ uncounted act.Stop ∷ []
call_into here None known args late depth into = args_code (args_calm args) depth args ++ uncounted (known_call here depth (length args) into known) ∷ []

-- a call
abbrev pub call_valued : Ground FunctionEntry → Option Builtin → Option FunctionEntry → List Valued → Valued
call_valued here builtin known args = written_valued (is_some builtin && args_calm args) (call_into here builtin known args)

-- a part of an expression, where each part within it is compiled so
abbrev pub Coding : OpenPart → Type 0
Coding Of = Of (Coded Valued) (Coded Valued) (Coded Valued) (Coded Valued) (Coded (Index Valued)) (Coded (Reach Valued)) (StepInto FunctionEntry Valued)

-- one step of the fold for each part: its code, where that of its own parts is known. An argument is a value or the number of a cell
abbrev pub arg_step : Coding CArg-F → Coded Valued
arg_step (CArg-F.Value value) here = value here
arg_step (CArg-F.Address place) here = address_valued (place here)

-- the code of an expression's form
abbrev pub kind_step : Coding CExprKind-F → Coded Valued
kind_step (CExprKind-F.Literal type n) here = literal_valued n
kind_step (CExprKind-F.Read place) here = read_valued (place here).ty (place here)
kind_step (CExprKind-F.Call call) here = call here
kind_step (CExprKind-F.Not operand) here = not_valued (operand here)
kind_step (CExprKind-F.Two op first second) here = two_valued op (first here) (second here)

-- the code of a call: its arguments from left to right, then the call itself
abbrev pub call_step : Coding CCall-F → Coded Valued
call_step call here = call_valued here (builtin_of call.name) (here.known call.name) (map (λ arg. arg here) call.args)

-- an expression has the code of its form
abbrev pub expr_step : Coding CExpr-F → Coded Valued
expr_step expr = expr.what

-- the index with its length, and the code of the expression that chooses the element
abbrev pub index_step : Coding CIndex-F → Coded (Index Valued)
index_step index here = record { length = index.length; index = index.at here }

-- how a place is reached: from the cell of its name on, step by step
abbrev pub place_step : Coding CPlace-F → Coded (Reach Valued)
place_step place here = reach_along place.steps here (start_of_slot (here.slots place.name))

-- the index of a step, where it has one
abbrev pub index_or_none : Option (Coded (Index Valued)) → Ground FunctionEntry → Option (Index Valued)
index_or_none index here = option_map (λ i. i here) index

-- how a step into a type goes on: to a member, and to an element of it where there is an index
abbrev pub step_step : Coding CStep-F → StepInto FunctionEntry Valued
step_step step here ty = reach_member here (laid_in here ty step.member) (index_or_none step.index here)

-- the code of an expression
abbrev pub expr_valued : CExpr → Coded Valued
expr_valued = fold-CExpr _ _ _ _ _ _ _ arg_step kind_step call_step expr_step index_step place_step step_step

-- the code of an argument
abbrev pub arg_code : CArg → Coded Valued
arg_code = fold-CArg _ _ _ _ _ _ _ arg_step kind_step call_step expr_step index_step place_step step_step

-- how a place is reached
abbrev pub reach_of_place : CPlace → Coded (Reach Valued)
reach_of_place = fold-CPlace _ _ _ _ _ _ _ arg_step kind_step call_step expr_step index_step place_step step_step

-- the code of a call
abbrev pub code_of_call : CCall → Coded Valued
code_of_call = fold-CCall _ _ _ _ _ _ _ arg_step kind_step call_step expr_step index_step place_step step_step

-- ---- statements: code behind which so many instructions stand up to the end of the loop around it, or of the function

-- the code of a statement, where it is known what stands around it, and which temporary is the first that is free
abbrev pub StmtCode : Type 0
StmtCode = Ground FunctionEntry → ℕ → ℕ → Code

-- the statements of a block, one after the other; those that come last know first what follows them
abbrev pub code_of_stmts : List StmtCode → StmtCode
code_of_stmts [] here depth left = []
code_of_stmts (stmt ∷ rest) here depth left = stmt here depth (length (code_of_stmts rest here depth left) + left) ++ code_of_stmts rest here depth left

-- the code of an `else` that may be absent
abbrev pub other_code : Option (List StmtCode) → StmtCode
other_code None here depth left = []
other_code (Some block) here depth left = code_of_stmts block here depth left

-- what stands behind the first block of an `if`: an instruction that passes the other one, where it isn't empty
abbrev pub else_code : Code → Code
else_code [] = []
else_code (i ∷ rest) = uncounted (act.Skip (length (i ∷ rest))) ∷ i ∷ rest

-- how many instructions of `else_code` stand before the other block
abbrev pub before_else : Code → ℕ
before_else [] = 0
before_else (i ∷ rest) = 1

-- the code of an `if`
abbrev pub if_code : Valued → ℕ → Code → Code → Code
if_code tested depth block other =
    with_begun 1 (tested.test tested.calm depth 0 (length block + before_else other)) ++ (block ++ else_code other)

-- the instruction with which a turn of a loop begins, a statement too
abbrev pub turn_begun : ℕ → Instruction
turn_begun depth = record { statements = 1; act = act.Turn depth }

-- the code of a loop behind the instruction that sets the count of its turns to 0
abbrev pub turns_code : ℕ → Code → Code → Code
turns_code depth test body = test ++ turn_begun depth ∷ (body ++ uncounted (act.Again (length test + length body + 1)) ∷ [])

-- the code of a loop
abbrev pub code_of_loop : Valued → ℕ → Code → Code
code_of_loop tested depth body =
    with_begun 1 (uncounted (act.Constant (op.Temporary depth) (pos 0)) ∷ [])
    ++ turns_code depth (tested.test tested.calm (suc depth) 0 (length body + 2)) body

-- a value of a type is written at a place, or a struct is copied there
abbrev pub set_code : Sizes → Option CType → Reach Valued → Valued → Bool → ℕ → Code
set_code known (Some (OfStruct name)) reach value late depth =
    let place : Ready = reach_ready reach late depth in
    place.code ++ ending_with (value.ready late (depth_behind depth place.it)) (λ from. act.Copy (address_in place.it) from (entry_or 0 known name))
set_code known _ reach value late depth =
    let place : Ready = reach_ready reach late depth in
    place.code ++ value.into late (depth_behind depth place.it) place.it

-- a struct is set to 0
abbrev pub clear_code : ℕ → Reach Valued → ℕ → Code
clear_code size reach depth = ending_with (address_ready reach (reach_calm reach) depth) (λ at. act.Zero at size)

-- what is returned
abbrev pub return_code : Valued → ℕ → Code
return_code value depth = ending_with (value.ready value.calm depth) (λ a. act.Return a)

-- one step of the fold for statements
abbrev pub stmt_kind_code : CStmtKind-F StmtCode StmtCode → StmtCode
stmt_kind_code (CStmtKind-F.Set place expr) here depth left =
    let reach : Reach Valued = reach_of_place place here in
    let value : Valued = expr_valued expr here in
    with_begun 1 (set_code here.sizes reach.ty reach value (reach_calm reach && value.calm) depth)
stmt_kind_code (CStmtKind-F.Clear place name) here depth left =
    with_begun 1 (clear_code (entry_or 0 here.sizes name) (reach_of_place place here) depth)
stmt_kind_code (CStmtKind-F.Call call) here depth left =
    let value : Valued = code_of_call call here in
    with_begun 1 (value.into value.calm depth (op.Temporary depth))
stmt_kind_code (CStmtKind-F.If condition block other) here depth left =
    if_code (expr_valued condition here) depth (code_of_stmts block here depth (length (else_code (other_code other here depth left)) + left))
    (other_code other here depth left)
stmt_kind_code (CStmtKind-F.Loop name condition body) here depth left =
    code_of_loop (expr_valued condition here) depth (code_of_stmts body here (suc depth) 1)
stmt_kind_code CStmtKind-F.Break here depth left = with_begun 1 (uncounted (act.Skip left) ∷ [])
stmt_kind_code (CStmtKind-F.Return None) here depth left = with_begun 1 (uncounted (act.Return (op.Literal (pos 0))) ∷ [])
stmt_kind_code (CStmtKind-F.Return (Some expr)) here depth left = with_begun 1 (return_code (expr_valued expr here) depth)

-- a statement has the code of its form
abbrev pub stmt_step : CStmt-F StmtCode StmtCode → StmtCode
stmt_step stmt = stmt.what

-- the code of a statement
abbrev pub code_of_stmt : CStmt → StmtCode
code_of_stmt = fold-CStmt StmtCode StmtCode stmt_kind_code stmt_step

-- the code of a block
abbrev pub code_of_block : List CStmt → StmtCode
code_of_block stmts = code_of_stmts (map code_of_stmt stmts)

-- ---- functions and files

-- what is known inside a function
abbrev pub ground_of : Sizes → Layouts → Table FunctionEntry → CFunc → Ground FunctionEntry
ground_of known structs earlier function =
    record { sizes = known; structs = structs; known = earlier; slots = slots_of known function; frame = frame_cells known function }

-- the code of a function that begins at a position: its statements, and a return of 0 behind the last. Its first temporary has the number of that position
abbrev pub code_of_function : Sizes → Layouts → ℕ → Table FunctionEntry → CFunc → Code
code_of_function known structs at earlier function =
    code_of_block function.body (ground_of known structs earlier function) at 0 ++ uncounted (act.Return (op.Literal (pos 0))) ∷ []

-- the entry of a function: where its code begins, and how many cells its frame has
abbrev pub function_entry : Sizes → ℕ → CFunc → FunctionEntry
function_entry known at function = record { entry = at; frame = frame_cells known function }

-- the functions in order, each over those before it, where the first begins at a position
abbrev pub functions_code : Sizes → Layouts → ℕ → Table FunctionEntry → List CFunc → Code
functions_code known structs at earlier [] = []
functions_code known structs at earlier (function ∷ rest) =
    let code : Code = code_of_function known structs at earlier function in
    code ++ functions_code known structs (at + length code) (with_entry earlier function.name (function_entry known at function)) rest

-- the functions by name, with their entries
abbrev pub entries_from : Sizes → Layouts → ℕ → Table FunctionEntry → List CFunc → Table FunctionEntry
entries_from known structs at earlier [] = earlier
entries_from known structs at earlier (function ∷ rest) =
    entries_from known structs (at + length (code_of_function known structs at earlier function))
    (with_entry earlier function.name (function_entry known at function)) rest
