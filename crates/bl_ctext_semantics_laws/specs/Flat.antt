-- What C expressions, statements and functions do over numbered cells: a place is the number of its first cell, a pointer such a
-- number, and the frame of a function that runs begins at its base. How statements end, follow one another and are counted is the
-- same as in the meaning of C texts, and things are evaluated in the same order. Where a form has no meaning there, some value is given.
use Rattle.std.specs.Prelude.{ℕ, zero, suc, ◌+◌, ◌*◌, ℤ, pos, negsuc, Bool, true, false, ◌&&◌, nat_le, List, [], ◌∷◌, map, length, slice_set}
use Rattle.std.specs.Prelude.{slice_index_or, Option, Some, None, option_map, unwrap_or, if◌then◌else◌, not, int_lt, int_le}
use Rattle.std.specs.List.{copy_within}
use Rattle.std.specs.Ordering.{int_eq}
use Rattle.bl_tree.specs.declared.text.Text.{Text}
use Rattle.bl_tree.specs.declared.scalar.Op.{Op}
use Rattle.bl_tree.specs.declared.scalar.Op.TheVariants.{And, Or, Eq, Ne, Lt, Le, Gt, Ge}
use Rattle.bl_tree.specs.declared.c.CType.{CType}
use Rattle.bl_tree.specs.declared.c.CType.TheVariants.{Scalar as OfScalar, Struct as OfStruct}
use Rattle.bl_tree.specs.declared.c.CArg.TheOpen.{CArg-F, CExprKind-F, CCall-F, CExpr-F, CIndex-F, CPlace-F, CStep-F}
use Rattle.bl_tree.specs.declared.c.CExpr.{CExpr, fold-CExpr}
use Rattle.bl_tree.specs.declared.c.CPlace.{CPlace, fold-CPlace}
use Rattle.bl_tree.specs.declared.c.CCall.{CCall, fold-CCall}
use Rattle.bl_tree.specs.declared.c.CStmtKind.TheOpen.{CStmtKind-F, CStmt-F}
use Rattle.bl_tree.specs.declared.c.CStmt.{CStmt, fold-CStmt}
use Rattle.bl_tree.specs.declared.c.CFunc.{CFunc}
use Rattle.bl_tree.specs.Numbers.{is_one, number_of, takes_one, takes_two}
use Rattle.bl_ctext.specs.declared.builtin.Builtin.{Builtin}
use Rattle.bl_ctext.specs.declared.builtin.Builtin.TheVariants.{One, Two}
use Rattle.bl_ctext_semantics.specs.Builtin.{builtin_of, builtin_params, builtin_value, index_within}
use Rattle.bl_ctext_semantics.specs.Course.{breaks, returns, result_at, Outcome, ending, going, after_statements, ended_by, in_order, turn_or_none}
use Rattle.bl_ctext_semantics.specs.Course.{loop_with_turns, turn_limit}
use Rattle.bl_ctext.specs.Folds.{OpenPart}
use Rattle.bl_ctext_semantics.specs.Sizes.{Sizes}
use Rattle.bl_ctext_semantics.specs.Tables.{Table, with_entry, entry_or}
use Rattle.bl_tree.specs.Ports.{in_ranges}
use Rattle.bl_ctext_semantics_laws.specs.Layout.{Layouts, capped, frame_cells, slots_of}
use Rattle.bl_ctext_semantics_laws.specs.Reaching.{Ground, Index, Reach, Start, StepInto, Term, laid_in, near, reach_along, reach_member, start_of_slot, through}

-- the numbers of all cells, in order
abbrev pub Cells : Type 0
Cells = List ℤ

-- ---- answers

-- the result of an evaluation: the cells, the count of statements of called functions, and its answer, none where it traps
pub record FlatAnswer (A : Type 0) : Type 0 where
  pub cells : Cells
  pub count : ℕ
  pub answer : Option A

-- an answer that executed no statement
abbrev pub flat_answer : {A : Type 0} → Cells → Option A → FlatAnswer A
flat_answer cells answer = record { cells = cells; count = 0; answer = answer }

-- an answer with n more statements before it
abbrev pub more : {A : Type 0} → ℕ → FlatAnswer A → FlatAnswer A
more n l = record { cells = l.cells; count = n + l.count; answer = l.answer }

-- the evaluation after n statements and this answer; nothing follows a trap
abbrev pub going_on : {A B : Type 0} → Cells → ℕ → Option A → (Cells → A → FlatAnswer B) → FlatAnswer B
going_on cells n None rest = record { cells = cells; count = n; answer = None }
going_on cells n (Some a) rest = more n (rest cells a)

-- one evaluation followed by another that uses its answer
abbrev pub flat_next : {A B : Type 0} → FlatAnswer A → (Cells → A → FlatAnswer B) → FlatAnswer B
flat_next first rest = going_on first.cells first.count first.answer rest

-- ---- where expressions and statements stand

-- the evaluation of a part, from the base of a frame and the cells
abbrev pub Evaluates : Type 0 → Type 0
Evaluates A = ℕ → Cells → FlatAnswer A

-- the meaning of a function whose frame begins at this base, with these arguments: its result, 0 where it has none
abbrev pub Routine : Type 0
Routine = ℕ → List ℤ → Cells → FlatAnswer ℤ

-- ---- places

-- the number of a cell; no number below 0 is one
abbrev pub cell_number : ℤ → ℕ
cell_number (pos n) = capped n
cell_number (negsuc n) = 0

-- what a cell has; 0 behind the last
abbrev pub cell_at : Cells → ℕ → ℤ
cell_at cells k = slice_index_or cells k (pos 0)

-- the number of the cell where a place begins, in a frame with this base
abbrev pub start_address : Start → ℕ → Cells → ℕ
start_address (near k) base cells = capped (base + k)
start_address (through k) base cells = cell_number (cell_at cells (base + k))

-- an element of an array that begins at a cell; none, a trap, outside of it
abbrev pub element_address : Term (Evaluates ℤ) → ℕ → ℤ → Option ℕ
element_address term at i = option_map (λ k. capped (at + cell_number k * term.size)) (index_within i (pos term.length))

-- the address behind a cell along indices, evaluated from left to right
abbrev pub address_along : List (Term (Evaluates ℤ)) → ℕ → Evaluates ℕ
address_along [] at base cells = flat_answer cells (Some at)
address_along (term ∷ terms) at base cells =
    flat_next (term.index base cells) (λ after i. flat_next (flat_answer after (element_address term at i)) (λ same k. address_along terms k base same))

-- the number of a place's first cell
abbrev pub address_of : Reach (Evaluates ℤ) → Evaluates ℕ
address_of reach base cells = address_along reach.terms (capped (start_address reach.start base cells + reach.passed)) base cells

-- ---- expressions: of a scalar its number, of a struct the number of its first cell

-- what is read at a place of a type
abbrev pub read_at : Option CType → Cells → ℕ → ℤ
read_at (Some (OfScalar s)) cells at = cell_at cells at
read_at _ cells at = pos at

-- the values of parts, evaluated one after the other up to the first that traps
abbrev pub each_of : {A : Type 0} → List (Evaluates A) → Evaluates (List A)
each_of [] base cells = flat_answer cells (Some [])
each_of (evaluate ∷ rest) base cells =
    flat_next (evaluate base cells) (λ after a. flat_next (each_of rest base after) (λ last others. flat_answer last (Some (a ∷ others))))

-- a number that needs no evaluation
abbrev pub at_once : ℤ → Evaluates ℤ
at_once n base cells = flat_answer cells (Some n)

-- the number of a comparison; no well-formed file has another operator here
abbrev pub compared : Op → ℤ → ℤ → Option ℤ
compared Eq a b = Some (number_of (int_eq a b))
compared Ne a b = Some (number_of (not (int_eq a b)))
compared Lt a b = Some (number_of (int_lt a b))
compared Le a b = Some (number_of (int_le a b))
compared Gt a b = Some (number_of (int_lt b a))
compared Ge a b = Some (number_of (int_le b a))
compared _ a b = None

-- the value of a comparison, or of `&&` and `||`, whose right side counts only where the left doesn't decide
abbrev pub two_values : Op → Evaluates ℤ → Evaluates ℤ → Evaluates ℤ
two_values And first second base cells = flat_next (first base cells) (λ after a. (if is_one a then second else at_once (pos 0)) base after)
two_values Or first second base cells = flat_next (first base cells) (λ after a. (if is_one a then at_once (pos 1) else second) base after)
two_values op first second base cells =
    flat_next (first base cells) (λ after a. flat_next (second base after) (λ last b. flat_answer last (compared op a b)))

-- whether an operator takes its type, as every named function of the prelude does
abbrev pub is_typed : Builtin → Bool
is_typed (Two op t) = takes_two op t
is_typed (One op t) = takes_one op t
is_typed _ = true

-- what a function of the prelude gives for numbers of its parameters' types, and none, a trap, for others
abbrev pub prelude_value : Builtin → List ℤ → Option ℤ
prelude_value b numbers = if is_typed b && in_ranges (builtin_params b) numbers then builtin_value b numbers else None

-- a call of a function that may be known; its frame stands behind that of the caller
abbrev pub applied : Option Routine → ℕ → List ℤ → Cells → FlatAnswer ℤ
applied (Some routine) base args cells = routine base args cells
applied None base args cells = flat_answer cells None

-- a call of a function that may be the prelude's
abbrev pub called_as : Option Builtin → Option Routine → ℕ → List ℤ → Cells → FlatAnswer ℤ
called_as (Some builtin) routine base args cells = flat_answer cells (prelude_value builtin args)
called_as None routine base args cells = applied routine base args cells

-- a call of the function of this name: its frame begins behind the caller's
abbrev pub flat_call : Ground Routine → Text → ℕ → List ℤ → Cells → FlatAnswer ℤ
flat_call here name base args cells = called_as (builtin_of name) (here.known name) (capped (base + here.frame)) args cells

-- what depends on what is known where an expression or statement stands
abbrev pub Grounded : Type 0 → Type 0
Grounded A = Ground Routine → A

-- the evaluation of an open part, where each part within it is evaluated
abbrev pub Evaluating : OpenPart → Type 0
Evaluating Of = Of (Grounded (Evaluates ℤ)) (Grounded (Evaluates ℤ)) (Grounded (Evaluates ℤ)) (Grounded (Evaluates ℤ))
    (Grounded (Index (Evaluates ℤ)))
    (Grounded (Reach (Evaluates ℤ))) (StepInto Routine (Evaluates ℤ))

-- one step of the fold for each part, where its own parts are known. An argument is a number: for `&` that of the place's first cell
abbrev pub arg_step : Evaluating CArg-F → Grounded (Evaluates ℤ)
arg_step (CArg-F.Value value) here base cells = value here base cells
arg_step (CArg-F.Address place) here base cells = flat_next (address_of (place here) base cells) (λ after k. flat_answer after (Some (pos k)))

-- the value of an expression's form
abbrev pub kind_step : Evaluating CExprKind-F → Grounded (Evaluates ℤ)
kind_step (CExprKind-F.Literal type n) here base cells = flat_answer cells (Some n)
kind_step (CExprKind-F.Read place) here base cells =
    flat_next (address_of (place here) base cells) (λ after k. flat_answer after (Some (read_at (place here).ty after k)))
kind_step (CExprKind-F.Call call) here base cells = call here base cells
kind_step (CExprKind-F.Not operand) here base cells =
    flat_next (operand here base cells) (λ after a. flat_answer after (Some (number_of (if is_one a then false else true))))
kind_step (CExprKind-F.Two op first second) here base cells = two_values op (first here) (second here) base cells

-- the evaluation of a call: its arguments are evaluated, then the function is called
abbrev pub call_step : Evaluating CCall-F → Grounded (Evaluates ℤ)
call_step call here base cells =
    flat_next (each_of (map (λ arg. arg here) call.args) base cells) (λ after args. flat_call here call.name base args after)

-- the value of an expression is that of its form
abbrev pub expr_step : Evaluating CExpr-F → Grounded (Evaluates ℤ)
expr_step expr = expr.what

-- the index with its length, and how the element is chosen
abbrev pub index_step : Evaluating CIndex-F → Grounded (Index (Evaluates ℤ))
index_step index here = record { length = index.length; index = index.at here }

-- how a place is reached: from the cell of its name on, step by step
abbrev pub place_step : Evaluating CPlace-F → Grounded (Reach (Evaluates ℤ))
place_step place here = reach_along place.steps here (start_of_slot (here.slots place.name))

-- the index of a step, where it has one
abbrev pub index_or_none : Option (Grounded (Index (Evaluates ℤ))) → Ground Routine → Option (Index (Evaluates ℤ))
index_or_none index here = option_map (λ i. i here) index

-- how a step into a type goes on: to a member, and to an element of it where there is an index
abbrev pub step_step : Evaluating CStep-F → StepInto Routine (Evaluates ℤ)
step_step step here ty = reach_member here (laid_in here ty step.member) (index_or_none step.index here)

-- the value of an expression
abbrev pub value_flat : CExpr → Grounded (Evaluates ℤ)
value_flat = fold-CExpr _ _ _ _ _ _ _ arg_step kind_step call_step expr_step index_step place_step step_step

-- how a place is reached
abbrev pub reach_flat : CPlace → Grounded (Reach (Evaluates ℤ))
reach_flat = fold-CPlace _ _ _ _ _ _ _ arg_step kind_step call_step expr_step index_step place_step step_step

-- what a call gives
abbrev pub call_flat : CCall → Grounded (Evaluates ℤ)
call_flat = fold-CCall _ _ _ _ _ _ _ arg_step kind_step call_step expr_step index_step place_step step_step

-- ---- statements

-- the meaning of a statement: its effect in a frame with this base, over the cells
abbrev pub FlatStmtMeaning : Type 0
FlatStmtMeaning = Ground Routine → ℕ → Cells → Outcome Cells

-- the statements of a block, one after the other
abbrev pub block_of : List FlatStmtMeaning → FlatStmtMeaning
block_of block here base = in_order (map (λ runs. runs here base) block)

-- the outcome of a statement that first evaluates something, and traps where that traps; it counts n statements of its own
abbrev pub executed : {A : Type 0} → ℕ → FlatAnswer A → (Cells → A → Outcome Cells) → Outcome Cells
executed own evaluated rest = ended_by evaluated.cells (own + evaluated.count) evaluated.answer (rest evaluated.cells)

-- the cells after a copy of `size` of them from one position to another, where both ranges exist
abbrev pub copied : ℕ → ℕ → ℕ → Cells → Cells
copied size from at cells =
    if nat_le (from + size) (length cells) && nat_le (at + size) (length cells) then copy_within cells from (from + size) at else cells

-- the cells after a value is written at a place of a type: a number, or a copy of the struct at a cell
abbrev pub written_at : Sizes → Option CType → ℕ → ℤ → Cells → Cells
written_at known (Some (OfStruct name)) at value cells = copied (entry_or 0 known name) (cell_number value) at cells
written_at known _ at value cells = slice_set cells at value

-- the cells after `n` of them, from a position on, are set to 0, as far as there are cells
abbrev pub zeroed : ℕ → ℕ → Cells → Cells
zeroed zero at cells = cells
zeroed (suc n) at cells = zeroed n (suc at) (slice_set cells at (pos 0))

-- the condition once more, and a turn where it is true
abbrev pub once_more : Evaluates ℤ → ℕ → (Cells → Outcome Cells) → Cells → Outcome Cells
once_more condition base turn cells = executed 0 (condition base cells) (λ c v. turn_or_none (is_one v) c turn)

-- one step of the fold for statements
abbrev pub stmt_kind_step : CStmtKind-F FlatStmtMeaning FlatStmtMeaning → FlatStmtMeaning
stmt_kind_step (CStmtKind-F.Set place expr) here base cells =
    executed 1 (flat_next (address_of (reach_flat place here) base cells)
    (λ c k. flat_next (value_flat expr here base c) (λ d v. flat_answer (written_at here.sizes (reach_flat place here).ty k v d) (Some v))))
    (λ c v. going c)
stmt_kind_step (CStmtKind-F.Clear place name) here base cells =
    executed 1 (address_of (reach_flat place here) base cells) (λ c k. going (zeroed (entry_or 0 here.sizes name) k c))
stmt_kind_step (CStmtKind-F.Call call) here base cells = executed 1 (call_flat call here base cells) (λ c v. going c)
stmt_kind_step (CStmtKind-F.If condition block other) here base cells =
    executed 1 (value_flat condition here base cells) (λ c v. (if is_one v then block_of block else block_of (unwrap_or other [])) here base c)
stmt_kind_step (CStmtKind-F.Loop name condition body) here base cells =
    after_statements 1 (loop_with_turns turn_limit (once_more (value_flat condition here) base) (block_of body here base) cells)
stmt_kind_step CStmtKind-F.Break here base cells = record { memory = cells; end = breaks; count = 1 }
stmt_kind_step (CStmtKind-F.Return None) here base cells = record { memory = cells; end = returns (pos 0); count = 1 }
stmt_kind_step (CStmtKind-F.Return (Some expr)) here base cells =
    executed 1 (value_flat expr here base cells) (λ c v. ending (returns v) c)

-- the effect of a statement is that of its form
abbrev pub stmt_step : CStmt-F FlatStmtMeaning FlatStmtMeaning → FlatStmtMeaning
stmt_step stmt = stmt.what

-- the effect of a statement
abbrev pub runs_flat : CStmt → FlatStmtMeaning
runs_flat = fold-CStmt FlatStmtMeaning FlatStmtMeaning stmt_kind_step stmt_step

-- the effect of the statements of a block
abbrev pub block_flat : List CStmt → FlatStmtMeaning
block_flat stmts = block_of (map runs_flat stmts)

-- ---- functions and files

-- the arguments stand in the first cells of the frame
abbrev pub with_args : ℕ → List ℤ → Cells → Cells
with_args at [] cells = cells
with_args at (n ∷ ns) cells = with_args (suc at) ns (slice_set cells at n)

-- the frame of a function as it begins: all 0 but for the arguments
abbrev pub frame_begun : ℕ → ℕ → List ℤ → Cells → Cells
frame_begun size base args cells = with_args base args (zeroed size base cells)

-- what a function leaves whose body has come to this outcome
abbrev pub ended_as : Outcome Cells → FlatAnswer ℤ
ended_as o = record { cells = o.memory; count = o.count; answer = result_at o.end }

-- what is known inside a function
abbrev pub ground_of : Sizes → Layouts → Table Routine → CFunc → Ground Routine
ground_of known structs earlier function =
    record { sizes = known; structs = structs; known = earlier; slots = slots_of known function; frame = frame_cells known function }

-- the routine of a function over the earlier ones
abbrev pub routine_flat : Sizes → Layouts → Table Routine → CFunc → Routine
routine_flat known structs earlier function base args cells =
    ended_as (block_flat function.body (ground_of known structs earlier function) base (frame_begun (frame_cells known function) base args cells))

-- the functions in order by name, each over those before it
abbrev pub routines_after : Sizes → Layouts → Table Routine → List CFunc → List (Text × Routine)
routines_after known structs earlier [] = []
routines_after known structs earlier (function ∷ rest) =
    (function.name, routine_flat known structs earlier function)
    ∷ routines_after known structs (with_entry earlier function.name (routine_flat known structs earlier function)) rest
