-- The clauses of a well-formed file: each failure of one has a name and a place.
use Rattle.std.specs.Prelude.{◌≡◌, ℕ, ◌+◌, ◌-◌, Bool, true, false, not, ◌&&◌, ◌||◌, nat_lt, nat_le, nat_eq, min, ◌==◌, List, [], ◌∷◌, ◌++◌, map}
use Rattle.std.specs.Prelude.{length, drop, Option, Some, None, is_some, is_none, option_map, option_and_then, bytes_eq, codes, if◌then◌else◌}
use Rattle.std.specs.List.{list_all, starts_with}
use Rattle.bl_tree.specs.declared.text.Text.{Text}
use Rattle.bl_tree.specs.declared.place.Place.{Place}
use Rattle.bl_tree.specs.declared.scalar.Width.{Width}
use Rattle.bl_tree.specs.declared.scalar.Width.TheVariants.{W8, W16, W32, W64}
use Rattle.bl_tree.specs.declared.scalar.Scalar.{Scalar}
use Rattle.bl_tree.specs.declared.scalar.Scalar.TheVariants.{Bool as OfBool, Int, Nat, Bits}
use Rattle.bl_tree.specs.declared.scalar.Op.{Op}
use Rattle.bl_tree.specs.declared.scalar.Op.TheVariants.{Eq, Ne, Lt, Le, Gt, Ge, And, Or}
use Rattle.bl_tree.specs.declared.c.CType.{CType}
use Rattle.bl_tree.specs.declared.c.CType.TheVariants.{Scalar as OfScalar, Struct as OfStruct}
use Rattle.bl_tree.specs.declared.c.CMember.{CMember}
use Rattle.bl_tree.specs.declared.c.CStruct.{CStruct}
use Rattle.bl_tree.specs.declared.c.CParam.{CParam}
use Rattle.bl_tree.specs.declared.c.CLocal.{CLocal}
use Rattle.bl_tree.specs.declared.c.CFunc.{CFunc}
use Rattle.bl_tree.specs.declared.c.CArg.TheOpen.{CArg-F, CExprKind-F, CCall-F, CExpr-F, CIndex-F, CPlace-F, CStep-F}
use Rattle.bl_tree.specs.declared.c.CArg.{CArg, fold-CArg}
use Rattle.bl_tree.specs.declared.c.CIndex.{CIndex, fold-CIndex}
use Rattle.bl_tree.specs.declared.c.CStep.{CStep, fold-CStep}
use Rattle.bl_tree.specs.declared.c.CExpr.{CExpr, fold-CExpr}
use Rattle.bl_tree.specs.declared.c.CPlace.{CPlace, fold-CPlace}
use Rattle.bl_tree.specs.declared.c.CCall.{CCall, fold-CCall}
use Rattle.bl_tree.specs.declared.c.CStmtKind.TheOpen.{CStmtKind-F, CStmt-F}
use Rattle.bl_tree.specs.declared.c.CStmt.{CStmt, fold-CStmt}
use Rattle.bl_tree.specs.Reduce.{any_of, joined, greatest}
use Rattle.bl_ctext.specs.Folds.{OpenPart}
use Rattle.bl_ctext_semantics.specs.Parts.{Parts}
use Rattle.bl_ctext_semantics.specs.Tables.{Table, no_entries, table_of, with_entry, entry_or}
use Rattle.bl_ctext.specs.declared.builtin.Builtin.{Builtin}
use Rattle.bl_ctext.specs.declared.builtin.Builtin.TheVariants.{Stop}
use Rattle.bl_ctext_semantics.specs.Builtin.{builtin_of, builtin_params, builtin_result}
use Rattle.bl_ctext_semantics.specs.Calls.{calls_in_block, most}
use Rattle.bl_ctext_semantics.specs.Loops.{turns_in_block}

-- ---- what can fail, and where

-- the clauses of well-formed files
pub data Clause : Type 0 where
  -- structs, functions, the members of a struct, the parameters and locals of a function, and what counts the turns of its loops have different names
  distinct_names : Clause
  -- a struct, variable, member or function is declared before it is used
  declared_before : Clause
  -- at most 300 structs hold one another in a chain, and at most 300 functions call one another
  short_chain : Clause
  -- the structs bl_state, bl_in and bl_out exist
  interface_structs : Clause
  -- bl_in and bl_out begin with the byte `pad`; their further members are scalars, named i_ or o_ and something
  interface_members : Clause
  -- the last two functions are bl_init and bl_tick, with their parameters and results
  interface_functions : Clause
  -- all functions but the last two are static
  static_functions : Clause
  -- a parameter that is no pointer is a scalar
  scalar_parameter : Clause
  -- a pointer is used as (*p) alone, and nothing else is
  pointer_use : Clause
  -- a call has as many arguments as there are parameters, `&` exactly for the pointers, and their types
  arguments : Clause
  -- an array is used with an index of its length, nothing else with one; the index has the type that its function takes
  indices : Clause
  -- both sides of an assignment have one type
  assigned_type : Clause
  -- the operands of an operator have the one type that it takes
  operand_type : Clause
  -- conditions are bool
  condition_type : Clause
  -- `break` stands in a loop
  break_in_loop : Clause
  -- a function with a result surely returns, and every `return` has an expression of the function's type or none
  returns_result : Clause
  -- a function without a result is called as a statement
  void_as_statement : Clause
  -- a function with a result changes nothing through a pointer, but for bl_tick
  changes_nothing : Clause

-- a clause that fails, at the innermost struct, function, statement or expression that holds what it names
pub record Fault : Type 0 where
  pub clause : Clause
  pub at : Place

-- a clause that fails unless a test holds
abbrev pub unless : Bool → Clause → Place → List Fault
unless holds clause place = if holds then [] else record { clause = clause; at = place } ∷ []

-- ---- types

-- whether two widths are the same
abbrev pub same_width : Width → Width → Bool
same_width W8 W8 = true
same_width W16 W16 = true
same_width W32 W32 = true
same_width W64 W64 = true
same_width _ _ = false

-- whether two scalar types are the same
abbrev pub same_scalar : Scalar → Scalar → Bool
same_scalar OfBool OfBool = true
same_scalar (Int v) (Int w) = same_width v w
same_scalar (Nat v) (Nat w) = same_width v w
same_scalar (Bits v) (Bits w) = same_width v w
same_scalar _ _ = false

-- whether two types are the same
abbrev pub same_type : CType → CType → Bool
same_type (OfScalar s) (OfScalar t) = same_scalar s t
same_type (OfStruct m) (OfStruct n) = bytes_eq m n
same_type _ _ = false

-- two types agree; what has no type is compared with nothing
abbrev pub agree : Option CType → Option CType → Bool
agree (Some s) (Some t) = same_type s t
agree _ _ = true

-- a test of a type that something may not have
abbrev pub if_typed : Option CType → (CType → Bool) → Bool
if_typed (Some t) test = test t
if_typed None test = true

-- the type of conditions
abbrev pub bool_type : CType
bool_type = OfScalar OfBool

-- whether a type is a scalar
abbrev pub is_scalar : CType → Bool
is_scalar (OfScalar s) = true
is_scalar (OfStruct name) = false

-- whether a type is a scalar of numbers
abbrev pub is_number_type : CType → Bool
is_number_type (OfScalar OfBool) = false
is_number_type (OfScalar s) = true
is_number_type (OfStruct name) = false

-- an int type for bl_ix_s, an unsigned one for bl_ix_u
abbrev pub indexes : Bool → CType → Bool
indexes true (OfScalar (Int w)) = true
indexes false (OfScalar (Nat w)) = true
indexes _ _ = false

-- whether an operator between two expressions takes operands of the type
abbrev pub takes : Op → CType → Bool
takes Eq t = is_scalar t
takes Ne t = is_scalar t
takes Lt t = is_number_type t
takes Le t = is_number_type t
takes Gt t = is_number_type t
takes Ge t = is_number_type t
takes And t = same_type t bool_type
takes Or t = same_type t bool_type
takes _ t = false

-- ---- what is declared

-- a parameter or local
pub record Variable : Type 0 where
  pub pointer : Bool
  pub ty : CType

-- what a call of a function needs and gives
pub record Signature : Type 0 where
  -- whether a parameter of 64 bits takes every signed, or every unsigned, type
  pub widens : Bool
  pub params : List Variable
  pub result : Option Scalar

-- what is declared where an expression or statement stands
pub record Context : Type 0 where
  -- the structs by name, and the members of each
  pub structs : Table (Table CMember)
  -- the earlier functions
  pub functions : Table Signature
  pub variables : Table Variable
  -- the running function's result
  pub result : Option Scalar
  -- whether the running function may change nothing through a pointer
  pub is_read_only : Bool

-- a variable that holds a scalar itself
abbrev pub by_value : Scalar → Variable
by_value t = record { pointer = false; ty = OfScalar t }

-- the parameters and the result of a function of the prelude
abbrev pub builtin_signature : Builtin → Option Signature
builtin_signature Stop = None
builtin_signature b = Some (record { widens = true; params = map by_value (builtin_params b); result = builtin_result b })

-- a function of the prelude that may be called, else one of the file's
abbrev pub signature_as : Option Builtin → Option Signature → Option Signature
signature_as (Some b) own = builtin_signature b
signature_as None own = own

-- the parameters and the result of the function of a name, where one is declared before
abbrev pub signature_of : Context → Text → Option Signature
signature_of context name = signature_as (builtin_of name) (context.functions name)

-- ---- expressions

-- an expression or place: its type, none where its form gives none, and what fails in it
pub record Judged : Type 0 where
  pub ty : Option CType
  pub faults : List Fault

-- a place, and whether it begins with (*
pub record JudgedPlace : Type 0 where
  pub ty : Option CType
  pub through : Bool
  pub faults : List Fault

-- an argument: whether `&` stands before it, and whether it then begins with (*
pub record JudgedArg : Type 0 where
  pub address : Bool
  pub through : Bool
  pub ty : Option CType
  pub faults : List Fault

-- the judgement of a call: the signature of its function, and its faults
pub record JudgedCall : Type 0 where
  pub signature : Option Signature
  pub faults : List Fault

-- an index: by bl_ix_s or bl_ix_u, and for which length
pub record JudgedIndex : Type 0 where
  pub length : ℕ
  pub faults : List Fault

-- a judgement at a place: what has no place of its own is judged at that of the statement or expression around it
abbrev pub Judges : Type 0 → Type 0
Judges A = Context → Place → A

-- a step is judged after the type of what it steps into
abbrev pub StepJudgement : Type 0
StepJudgement = Context → Place → Option CType → Judged

-- the judgement of an open part, where each part within it is judged
abbrev pub Judging : OpenPart → Type 0
Judging Of = Of (Judges JudgedArg) (Judges Judged) (Judges JudgedCall) (Context → Judged) (Judges JudgedIndex) (Judges JudgedPlace) StepJudgement

-- whether an argument of a type fits a parameter's
abbrev pub fits_param : Bool → CType → CType → Bool
fits_param true (OfScalar (Int W64)) t = indexes true t
fits_param true (OfScalar (Nat W64)) t = indexes false t
fits_param _ wanted t = same_type wanted t

-- whether an argument suits a parameter
abbrev pub fits_arg : Bool → Variable → JudgedArg → Bool
fits_arg widens p a = (if p.pointer then a.address else not a.address) && if_typed a.ty (fits_param widens p.ty)

-- whether each argument fits its parameter, and there are as many
abbrev pub fit_each : Bool → List Variable → List JudgedArg → Bool
fit_each widens [] [] = true
fit_each widens (p ∷ ps) (a ∷ rest) = fits_arg widens p a && fit_each widens ps rest
fit_each widens [] (a ∷ rest) = false
fit_each widens (p ∷ ps) [] = false

-- whether the arguments of a call suit its function
abbrev pub fit_args : Option Signature → List JudgedArg → Bool
fit_args None args = true
fit_args (Some s) args = fit_each s.widens s.params args

-- one step of the fold for each part: its type and its faults, where those of its own parts are known
abbrev pub judge_arg : Judging CArg-F → Judges JudgedArg
judge_arg (CArg-F.Value value) context place =
    let v : Judged = value context in
    record { address = false; through = false; ty = v.ty; faults = v.faults }
judge_arg (CArg-F.Address target) context place =
    let p : JudgedPlace = target context place in
    record { address = true; through = p.through; ty = p.ty; faults = p.faults }

-- the result of a function that is known
abbrev pub known_result : Option Signature → Option (Option Scalar)
known_result signature = option_map (λ s. s.result) signature

-- the type of a call in an expression
abbrev pub result_type : Option (Option Scalar) → Option CType
result_type None = None
result_type (Some result) = option_map OfScalar result

-- whether a function is known to have no result
abbrev pub is_void : Option (Option Scalar) → Bool
is_void None = false
is_void (Some result) = is_none result

-- whether a call hands what a pointer leads to to a function without a result
abbrev pub hands_on : Option Signature → List JudgedArg → Bool
hands_on signature args = is_void (known_result signature) && any_of (map (λ a. a.address && a.through) args)

-- the type of an expression's form, and what fails in it
abbrev pub judge_kind : Judging CExprKind-F → Judges Judged
judge_kind (CExprKind-F.Literal type n) context place = record { ty = Some (OfScalar type); faults = [] }
judge_kind (CExprKind-F.Read target) context place =
    let p : JudgedPlace = target context place in
    record { ty = p.ty; faults = p.faults }
judge_kind (CExprKind-F.Call call) context place =
    let c : JudgedCall = call context place in
    record { ty = result_type (known_result c.signature); faults = c.faults ++ unless (not (is_void (known_result c.signature))) void_as_statement place }
judge_kind (CExprKind-F.Not operand) context place =
    let a : Judged = operand context in
    record { ty = Some bool_type; faults = a.faults ++ unless (agree a.ty (Some bool_type)) operand_type place }
judge_kind (CExprKind-F.Two op left right) context place =
    let a : Judged = left context in
    let b : Judged = right context in
    record {
      ty = Some bool_type;
      faults = a.faults ++ (b.faults ++ unless (if_typed a.ty (takes op) && if_typed b.ty (takes op) && agree a.ty b.ty) operand_type place);
    }

-- what fails in a call: its function is declared before, and its arguments suit the parameters
abbrev pub judge_call : Judging CCall-F → Judges JudgedCall
judge_call call context place =
    let signature : Option Signature = signature_of context call.name in
    let args : List JudgedArg = map (λ judge. judge context place) call.args in
    record {
      signature = signature;
      faults = unless (is_some signature) declared_before place
          ++ (joined (map (λ a. a.faults) args)
          ++ (unless (fit_args signature args) arguments place
          ++ unless (not (context.is_read_only && hands_on signature args)) changes_nothing place));
    }

-- an expression is judged at its own place
abbrev pub judge_expr : Judging CExpr-F → Context → Judged
judge_expr expr context = expr.what context expr.place

-- what fails in an index: its expression has the type that its function takes
abbrev pub judge_index : Judging CIndex-F → Judges JudgedIndex
judge_index index context place =
    let i : Judged = index.at context in
    record { length = index.length; faults = i.faults ++ unless (if_typed i.ty (indexes index.signed)) indices place }

-- the type of a variable, or of what a pointer leads to, used as the one or the other
abbrev pub judge_root : Option Variable → Bool → Place → Judged
judge_root None through place = record { ty = None; faults = unless false declared_before place }
judge_root (Some v) through place =
    let right : Bool = if v.pointer then through else not through in
    record { ty = if right then Some v.ty else None; faults = unless right pointer_use place }

-- the judgement of a place's steps, each into the type before it
abbrev pub judge_steps : List StepJudgement → StepJudgement
judge_steps [] context place ty = record { ty = ty; faults = [] }
judge_steps (step ∷ steps) context place ty =
    let first : Judged = step context place ty in
    let last : Judged = judge_steps steps context place first.ty in
    record { ty = last.ty; faults = first.faults ++ last.faults }

-- the judgement of a place: its variable is used in the right way, and each step suits the type before it
abbrev pub judge_place : Judging CPlace-F → Judges JudgedPlace
judge_place target context place =
    let root : Judged = judge_root (context.variables target.name) target.through place in
    let last : Judged = judge_steps target.steps context place root.ty in
    record { ty = last.ty; through = target.through; faults = root.faults ++ last.faults }

-- the type of a member that is used without an index, or with one for this length
abbrev pub judge_length : CType → Option ℕ → Option ℕ → Place → Judged
judge_length ty None None place = record { ty = Some ty; faults = [] }
judge_length ty (Some n) (Some k) place = record { ty = Some ty; faults = unless (n == k) indices place }
judge_length ty _ _ place = record { ty = None; faults = unless false indices place }

-- what is known behind a member, where there is one
abbrev pub judge_member : Option CMember → Option ℕ → Place → Judged
judge_member None length place = record { ty = None; faults = unless false declared_before place }
judge_member (Some m) length place = judge_length m.ty m.length length place

-- a member of a type, none where the type is no struct or has no such member
abbrev pub member_of : Context → CType → Text → Option CMember
member_of context (OfScalar s) name = None
member_of context (OfStruct struct) name = option_and_then (λ members. members name) (context.structs struct)

-- the judgement of a step into a type; without a type nothing fails
abbrev pub judge_into : Context → Text → Option ℕ → Place → Option CType → Judged
judge_into context name length place None = record { ty = None; faults = [] }
judge_into context name length place (Some ty) = judge_member (member_of context ty name) length place

-- what is known of an index that may be absent
abbrev pub index_or_none : Option (Judges JudgedIndex) → Judges (Option JudgedIndex)
index_or_none None context place = None
index_or_none (Some judge) context place = Some (judge context place)

-- the faults of an index that may be absent
abbrev pub faults_in_index : Option JudgedIndex → List Fault
faults_in_index None = []
faults_in_index (Some i) = i.faults

-- one step of the fold for a step of a place
abbrev pub judge_step : Judging CStep-F → StepJudgement
judge_step step context place ty =
    let i : Option JudgedIndex = index_or_none step.index context place in
    let m : Judged = judge_into context step.member (option_map (λ j. j.length) i) place ty in
    record { ty = m.ty; faults = faults_in_index i ++ m.faults }

-- the type of an expression and what fails in it, where these things are declared
abbrev pub judged_expr : CExpr → Context → Judged
judged_expr = fold-CExpr _ _ _ _ _ _ _ judge_arg judge_kind judge_call judge_expr judge_index judge_place judge_step

-- a place in a statement
abbrev pub judged_place : CPlace → Judges JudgedPlace
judged_place = fold-CPlace _ _ _ _ _ _ _ judge_arg judge_kind judge_call judge_expr judge_index judge_place judge_step

-- a call that is a statement
abbrev pub judged_call : CCall → Judges JudgedCall
judged_call = fold-CCall _ _ _ _ _ _ _ judge_arg judge_kind judge_call judge_expr judge_index judge_place judge_step

-- an argument, an index, a step
abbrev pub judged_arg : CArg → Judges JudgedArg
judged_arg = fold-CArg _ _ _ _ _ _ _ judge_arg judge_kind judge_call judge_expr judge_index judge_place judge_step

-- what is known of an index
abbrev pub judged_index : CIndex → Judges JudgedIndex
judged_index = fold-CIndex _ _ _ _ _ _ _ judge_arg judge_kind judge_call judge_expr judge_index judge_place judge_step

-- what is known of a step of a place
abbrev pub judged_step : CStep → StepJudgement
judged_step = fold-CStep _ _ _ _ _ _ _ judge_arg judge_kind judge_call judge_expr judge_index judge_place judge_step

-- ---- statements

-- a condition
abbrev pub condition_faults : CExpr → Context → List Fault
condition_faults expr context =
    let c : Judged = judged_expr expr context in
    c.faults ++ unless (agree c.ty (Some bool_type)) condition_type expr.place

-- what fails in a statement, where these things are declared; the test says whether it stands in a loop
abbrev pub StmtFaults : Type 0
StmtFaults = Context → Bool → List Fault

-- the faults of a block, statement after statement
abbrev pub block_faults : List StmtFaults → StmtFaults
block_faults block context looped = joined (map (λ faults. faults context looped) block)

-- the faults of an `else` that may be absent
abbrev pub other_faults : Option (List StmtFaults) → StmtFaults
other_faults None context looped = []
other_faults (Some block) context looped = block_faults block context looped

-- a `return` against the function's result
abbrev pub return_faults : Option CExpr → Option Scalar → Context → Place → List Fault
return_faults None None context place = []
return_faults None (Some t) context place = unless false returns_result place
return_faults (Some expr) None context place = (judged_expr expr context).faults ++ unless false returns_result place
return_faults (Some expr) (Some t) context place =
    let e : Judged = judged_expr expr context in
    e.faults ++ unless (agree e.ty (Some (OfScalar t))) returns_result expr.place

-- one step of the fold for statements
abbrev pub stmt_kind_faults : CStmtKind-F (Place → StmtFaults) StmtFaults → Place → StmtFaults
stmt_kind_faults (CStmtKind-F.Set target expr) place context looped =
    let p : JudgedPlace = judged_place target context place in
    let e : Judged = judged_expr expr context in
    p.faults ++ (e.faults ++ (unless (agree p.ty e.ty) assigned_type place
    ++ unless (not (context.is_read_only && p.through)) changes_nothing place))
stmt_kind_faults (CStmtKind-F.Clear target name) place context looped =
    let p : JudgedPlace = judged_place target context place in
    p.faults ++ (unless (is_some (context.structs name)) declared_before place
    ++ (unless (agree p.ty (Some (OfStruct name))) assigned_type place
    ++ unless (not (context.is_read_only && p.through)) changes_nothing place))
stmt_kind_faults (CStmtKind-F.Call call) place context looped = (judged_call call context place).faults
stmt_kind_faults (CStmtKind-F.If condition block other) place context looped =
    condition_faults condition context ++ (block_faults block context looped ++ other_faults other context looped)
stmt_kind_faults (CStmtKind-F.Loop turn condition body) place context looped =
    condition_faults condition context ++ block_faults body context true
stmt_kind_faults CStmtKind-F.Break place context looped = unless looped break_in_loop place
stmt_kind_faults (CStmtKind-F.Return expr) place context looped = return_faults expr context.result context place

-- a statement is judged at its own place
abbrev pub stmt_faults_step : CStmt-F (Place → StmtFaults) StmtFaults → StmtFaults
stmt_faults_step stmt = stmt.what stmt.place

-- the faults of a statement
abbrev pub faults_in_stmt : CStmt → StmtFaults
faults_in_stmt = fold-CStmt (Place → StmtFaults) StmtFaults stmt_kind_faults stmt_faults_step

-- ---- returns

-- the last of a list, else the other
abbrev pub last_or : Bool → List Bool → Bool
last_or other [] = other
last_or other (b ∷ rest) = last_or b rest

-- whether the last statement of a block surely returns
abbrev pub last_returns : List Bool → Bool
last_returns = last_or false

-- whether an `else` that may be absent surely returns
abbrev pub other_returns : Option (List Bool) → Bool
other_returns None = false
other_returns (Some block) = last_returns block

-- a `return`, and an `if` with `else` whose two blocks surely return
abbrev pub stmt_kind_returns : CStmtKind-F Bool Bool → Bool
stmt_kind_returns (CStmtKind-F.Return expr) = true
stmt_kind_returns (CStmtKind-F.If condition block other) = last_returns block && other_returns other
stmt_kind_returns _ = false

-- one step of the fold for statements
abbrev pub stmt_returns_step : CStmt-F Bool Bool → Bool
stmt_returns_step stmt = stmt.what

-- whether a statement surely returns
abbrev pub surely_returns : CStmt → Bool
surely_returns = fold-CStmt Bool Bool stmt_kind_returns stmt_returns_step

-- ---- names

-- the places of those entries whose name is in the table or stands earlier in the list
abbrev pub repeated : Table (Unit {0}) → List (Text × Place) → List Fault
repeated names [] = []
repeated names (entry ∷ rest) =
    unless (is_none (names entry.0)) distinct_names entry.1 ++ repeated (with_entry names entry.0 tt) rest

-- whether no name stands twice in the list, or is in the table
abbrev pub all_distinct : Table (Unit {0}) → List Text → Bool
all_distinct names [] = true
all_distinct names (name ∷ rest) = is_none (names name) && all_distinct (with_entry names name tt) rest

-- ---- structs

-- a type whose struct, if it is one, is among these
abbrev pub is_declared : Table (Table CMember) → CType → Bool
is_declared structs (OfScalar s) = true
is_declared structs (OfStruct name) = is_some (structs name)

-- a length of a chain, where more than 300 counts as 301
abbrev pub limited : ℕ → ℕ
limited n = min 301 n

-- the longest chain of structs that a type heads, where those of the earlier structs are known
abbrev pub depth_of_type : Table ℕ → CType → ℕ
depth_of_type depths (OfScalar s) = 0
depth_of_type depths (OfStruct name) = entry_or 0 depths name

-- how deep a struct is nested, where the depths of those before it are known
abbrev pub depth_of_struct : Table ℕ → CStruct → ℕ
depth_of_struct depths s = limited (1 + greatest (map (λ m. depth_of_type depths m.ty) s.members))

-- whether a member is the `pad` with which an interface struct begins
abbrev pub is_pad : CMember → Bool
is_pad m = bytes_eq m.name (codes "pad") && (same_type m.ty (OfScalar (Nat W8)) && is_none m.length)

-- whether a member can be a port: a scalar with the prefix
abbrev pub is_port : Text → CMember → Bool
is_port prefix m = (starts_with nat_eq m.name prefix && nat_lt (length prefix) (length m.name)) && (is_scalar m.ty && is_none m.length)

-- whether each of the members can be a port
abbrev pub are_ports : Text → List CMember → Bool
are_ports prefix [] = false
are_ports prefix (m ∷ ms) = is_pad m && list_all (is_port prefix) ms

-- the members of bl_in and bl_out; other structs have what members they like
abbrev pub interface_fits : CStruct → Bool
interface_fits s =
    if bytes_eq s.name (codes "bl_in") then are_ports (codes "i_") s.members
    else if bytes_eq s.name (codes "bl_out") then are_ports (codes "o_") s.members
    else true

-- the members of a struct by name
abbrev pub member_table : CStruct → Table CMember
member_table s = table_of (map (λ m. (m.name, m)) s.members)

-- what fails in a struct, after these
abbrev pub faults_in_struct : Table (Table CMember) → Table ℕ → CStruct → List Fault
faults_in_struct structs depths s =
    unless (is_none (structs s.name)) distinct_names s.place
    ++ (unless (list_all (λ m. is_declared structs m.ty) s.members) declared_before s.place
    ++ (unless (all_distinct no_entries (map (λ m. m.name) s.members)) distinct_names s.place
    ++ (unless (nat_le (depth_of_struct depths s) 300) short_chain s.place
    ++ unless (interface_fits s) interface_members s.place)))

-- the faults of structs, where those before them are known
abbrev pub struct_faults_after : Table (Table CMember) → Table ℕ → List CStruct → List Fault
struct_faults_after structs depths [] = []
struct_faults_after structs depths (s ∷ rest) =
    faults_in_struct structs depths s
    ++ struct_faults_after (with_entry structs s.name (member_table s)) (with_entry depths s.name (depth_of_struct depths s)) rest

-- ---- functions

-- a parameter as a variable
abbrev pub param_variable : CParam → Text × Variable
param_variable p = (p.name, record { pointer = p.pointer; ty = p.ty })

-- a local as a variable
abbrev pub local_variable : CLocal → Text × Variable
local_variable l = (l.name, record { pointer = false; ty = l.ty })

-- the parameters and locals of a function
abbrev pub parameters_and_locals : CFunc → List (Text × Variable)
parameters_and_locals f = map param_variable f.params ++ map local_variable f.locals

-- the parameters and the result of a function
abbrev pub signature_in : CFunc → Signature
signature_in f = record { widens = false; params = map (λ p. record { pointer = p.pointer; ty = p.ty }) f.params; result = f.result }

-- whether a function has to leave its objects: it has a result and isn't bl_tick
abbrev pub keeps_all : CFunc → Bool
keeps_all f = is_some f.result && not (bytes_eq f.name (codes "bl_tick"))

-- what is known inside a function
abbrev pub context_in : Table (Table CMember) → Table Signature → CFunc → Context
context_in structs functions f =
    record { structs = structs; functions = functions; variables = table_of (parameters_and_locals f); result = f.result; is_read_only = keeps_all f }

-- the longest chain of calls that a function heads
abbrev pub depth_of_function : Table ℕ → CFunc → ℕ
depth_of_function depths f = limited (1 + most depths (calls_in_block f.body))

-- the names of a function's parameters and locals
abbrev pub variable_names : CFunc → List Text
variable_names f = map (λ p. p.name) f.params ++ map (λ l. l.name) f.locals

-- a set of names as a table
abbrev pub names_table : List Text → Table (Unit {0})
names_table names = table_of (map (λ name. (name, tt)) names)

-- what fails in a function before its statements. The last test says whether it is one of the last two
abbrev pub faults_in_head : Table (Table CMember) → Table Signature → Table ℕ → Bool → CFunc → List Fault
faults_in_head structs functions depths last f =
    unless (is_none (functions f.name)) distinct_names f.place
    ++ (unless (all_distinct no_entries (variable_names f)) distinct_names f.place
    ++ (unless (list_all (λ p. is_declared structs p.ty) f.params && list_all (λ l. is_declared structs l.ty) f.locals) declared_before f.place
    ++ (unless (list_all (λ p. p.pointer || is_scalar p.ty) f.params) scalar_parameter f.place
    ++ (unless (if last then not f.fixed else f.fixed) static_functions f.place
    ++ (unless (nat_le (depth_of_function depths f) 300) short_chain f.place
    ++ unless (is_none f.result || last_returns (map surely_returns f.body)) returns_result f.place)))))

-- what fails in a function, after these
abbrev pub faults_in_function : Table (Table CMember) → Table Signature → Table ℕ → Bool → CFunc → List Fault
faults_in_function structs functions depths last f =
    faults_in_head structs functions depths last f
    ++ (repeated (names_table (variable_names f)) (turns_in_block f.body)
    ++ block_faults (map faults_in_stmt f.body) (context_in structs functions f) false)

-- the faults of functions, where those before them are known
abbrev pub function_faults_after : Table (Table CMember) → Table Signature → Table ℕ → List CFunc → List Fault
function_faults_after structs functions depths [] = []
function_faults_after structs functions depths (f ∷ rest) =
    faults_in_function structs functions depths (nat_lt (length rest) 2) f
    ++ function_faults_after structs (with_entry functions f.name (signature_in f)) (with_entry depths f.name (depth_of_function depths f)) rest

-- ---- the interface

-- a pointer parameter to a struct
abbrev pub points_to : Text → Text → CParam → Bool
points_to struct name p = p.pointer && (bytes_eq p.name name && same_type p.ty (OfStruct struct))

-- void bl_init(struct bl_state *s)
abbrev pub init_params : List CParam → Bool
init_params (s ∷ []) = points_to (codes "bl_state") (codes "s") s
init_params _ = false

-- uint32_t bl_tick(struct bl_state *s, struct bl_in *i, struct bl_out *o)
abbrev pub tick_params : List CParam → Bool
tick_params (s ∷ i ∷ o ∷ []) =
    points_to (codes "bl_state") (codes "s") s && (points_to (codes "bl_in") (codes "i") i && points_to (codes "bl_out") (codes "o") o)
tick_params _ = false

-- whether a function returns a scalar of this type
abbrev pub gives : Option Scalar → Scalar → Bool
gives None t = false
gives (Some s) t = same_scalar s t

-- the function before the last one is bl_init: where there is another, it is missing and the last function fails
abbrev pub init_faults : CFunc → Place → List Fault
init_faults f last =
    if bytes_eq f.name (codes "bl_init") then unless (is_none f.result && init_params f.params) interface_functions f.place
    else unless false interface_functions last

-- the faults of the function that must be `bl_tick`
abbrev pub tick_faults : CFunc → List Fault
tick_faults f = unless (bytes_eq f.name (codes "bl_tick") && (gives f.result (Nat W32) && tick_params f.params)) interface_functions f.place

-- a file without functions has no place; 0 to 0 stands for it
abbrev pub no_place : Place
no_place = record { start = 0; end = 0 }

-- the last two functions, or all where there are fewer
abbrev pub last_two : List CFunc → List CFunc
last_two funcs = drop (length funcs - 2) funcs

-- the faults of the last two functions
abbrev pub faults_of_two : List CFunc → List Fault
faults_of_two [] = unless false interface_functions no_place
faults_of_two (last ∷ []) = unless false interface_functions last.place ++ tick_faults last
faults_of_two (f ∷ last ∷ rest) = init_faults f last.place ++ tick_faults last

-- what fails in the two functions that a file is called by
abbrev pub interface_faults : List CFunc → List Fault
interface_faults funcs = faults_of_two (last_two funcs)

-- the place at which the last two functions are asked for
abbrev pub place_of_two : List CFunc → Place
place_of_two [] = no_place
place_of_two (last ∷ []) = last.place
place_of_two (f ∷ last ∷ rest) = last.place

-- the place of the last function
abbrev pub last_place : List CFunc → Place
last_place funcs = place_of_two (last_two funcs)

-- the structs of a file by name
abbrev pub struct_table : List CStruct → Table (Table CMember)
struct_table structs = table_of (map (λ s. (s.name, member_table s)) structs)

-- ---- the file

-- every clause that fails in a file, each with its place
unfoldable pub faults_in : Parts → List Fault
faults_in file =
    let structs : Table (Table CMember) = struct_table file.structs in
    struct_faults_after no_entries no_entries file.structs
    ++ (function_faults_after structs no_entries no_entries file.funcs
    ++ (unless (is_some (structs (codes "bl_state")) && (is_some (structs (codes "bl_in")) && is_some (structs (codes "bl_out"))))
    interface_structs (last_place file.funcs)
    ++ interface_faults file.funcs))

-- no clause fails anywhere
pub record WellFormed (file : Parts) : Type 0 where
  pub none : faults_in file ≡ []

-- whether the first place starts before the second, or ends before it where they start together
abbrev pub is_before : Place → Place → Bool
is_before a b = nat_lt a.start b.start || (a.start == b.start && nat_le a.end b.end)

-- the first of two places that may be there
abbrev pub earlier_of : Option Place → Option Place → Option Place
earlier_of None b = b
earlier_of (Some a) None = Some a
earlier_of (Some a) (Some b) = if is_before a b then Some a else Some b

-- the first place of those where something fails
abbrev pub first_place : List Fault → Option Place
first_place [] = None
first_place (fault ∷ rest) = earlier_of (Some fault.at) (first_place rest)

-- the first place at which a file isn't well formed
abbrev pub first_fault : Parts → Option Place
first_fault file = first_place (faults_in file)
