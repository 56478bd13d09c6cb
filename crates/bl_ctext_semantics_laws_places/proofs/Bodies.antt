-- What statements fail in, which functions they call, what they cost and do, and what counts their turns, without their places.
use Rattle.std.proofs.Common.{◌≡◌, ℕ, Bool, true, false, not, ◌&&◌, List, [], ◌∷◌, ◌++◌, map, Option, Some, None, refl, ap}
use Rattle.std.proofs.Common.{ap₂, sym, ◌∙◌}
use Rattle.std.specs.Prelude.{is_some, option_map, max, unwrap_or, if◌then◌else◌}
use Rattle.std.proofs.Common.{◌+◌, ◌*◌, subst}
use Rattle.std.proofs.lemmas.List.{map-append}
use Rattle.bl_tree.specs.Numbers.{is_one}
use Rattle.bl_tree.specs.Reduce.{joined}
use Rattle.bl_tree.specs.declared.text.Text.{Text}
use Rattle.bl_tree.specs.declared.place.Place.{Place}
use Rattle.bl_tree.specs.declared.scalar.Scalar.{Scalar}
use Rattle.bl_tree.specs.declared.c.CType.TheVariants.{Scalar as OfScalar, Struct as OfStruct}
use Rattle.bl_tree.specs.declared.c.CCall.{CCall}
use Rattle.bl_tree.specs.declared.c.CExpr.{CExpr, fold-roll-CExpr, roll-out-CExpr}
use Rattle.bl_tree.specs.declared.c.CPlace.{CPlace}
use Rattle.bl_tree.specs.declared.c.CStmt.{CStmt}
use Rattle.bl_tree.specs.declared.c.CStmtKind.TheOpen.{CStmtKind-F}
use Rattle.bl_ctext_semantics.specs.Calls.{Names, arg_calls, block_or_none as calls_of_other, call_calls, calls_in, calls_in_block, calls_in_call}
use Rattle.bl_ctext_semantics.specs.Calls.{calls_in_place, calls_or_none, expr_calls, index_calls, kind_calls, place_calls, step_calls, stmt_calls}
use Rattle.bl_ctext_semantics.specs.Calls.{stmt_kind_calls}
use Rattle.bl_ctext_semantics.specs.Cost.{Costs, block_cost, cost_of_calls, cost_of_stmt, other_cost, stmt_cost_step, stmt_kind_cost}
use Rattle.bl_ctext_semantics.specs.Faults.{Context, Fault, Judged, JudgedCall, JudgedPlace, StmtFaults, agree, assigned_type, block_faults, bool_type}
use Rattle.bl_ctext_semantics.specs.Faults.{break_in_loop, changes_nothing, condition_faults, condition_type, declared_before, faults_in_stmt, judged_expr}
use Rattle.bl_ctext_semantics.specs.Faults.{judged_place, other_faults, return_faults, returns_result, stmt_faults_step, stmt_kind_faults, stmt_kind_returns}
use Rattle.bl_ctext_semantics.specs.Faults.{stmt_returns_step, surely_returns, unless}
use Rattle.bl_ctext_semantics.specs.Loops.{LoopCounters, stmt_kind_turns, stmt_turns_step, turns_in, turns_in_block}
use Rattle.bl_ctext_semantics.specs.Course.{after_statements, ending, going, loop_with_turns, returns, turn_limit}
use Rattle.bl_ctext_semantics.specs.Meaning.{Evaluates, ArgumentValue, CStmtMeaning, Scope, CallResult, arg_step, block_of, call_c, call_outcome, executed}
use Rattle.bl_ctext_semantics.specs.Meaning.{given, next, once_more, call_step, expr_step, index_step, kind_step, location_c, place_step, runs_c, step_step}
use Rattle.bl_ctext_semantics.specs.Meaning.{stmt_kind_step, stmt_step, value_c}
use Rattle.bl_ctext_semantics.specs.Memory.{CValue, Location, Memory, Projection, scalar_number, set_at, zeros}
use Rattle.bl_cparse_syntax_laws.specs.Placeless.{any_place, placeless_call, placeless_expr, placeless_place, placeless_result, placeless_stmt}
use Rattle.bl_ctext_semantics_laws_places.proofs.Exprs.{call_same, expr_same, place_same}
use Rattle.bl_ctext_semantics_laws_places.proofs.Judged.{bare, bare_judged, bare_place, bared, both_bare, call_bare, expr_bare, more_bare, place_bare}
use Rattle.bl_ctext_semantics_laws_places.proofs.Judged.{unless_bare}
use Rattle.bl_ctext_semantics_laws_places.proofs.Lists.{joined-map, map-twice}
use Rattle.bl_ctext_semantics_laws_places.proofs.Stmts.{level_turned, level_bare, stmts_same, stmts_turned}

-- ---- what expressions call and do

expr_calls_same : (e : CExpr) → calls_in (placeless_expr e) ≡ calls_in e
expr_calls_same =
    expr_same Names Names Names Names Names Names Names arg_calls kind_calls call_calls expr_calls index_calls place_calls step_calls (λ p q what. refl)

place_calls_same : (p : CPlace) → calls_in_place (placeless_place p) ≡ calls_in_place p
place_calls_same =
    place_same Names Names Names Names Names Names Names arg_calls kind_calls call_calls expr_calls index_calls place_calls step_calls (λ p q what. refl)

call_calls_same : (c : CCall) → calls_in_call (placeless_call c) ≡ calls_in_call c
call_calls_same =
    call_same Names Names Names Names Names Names Names arg_calls kind_calls call_calls expr_calls index_calls place_calls step_calls (λ p q what. refl)

result_calls_same : (e : Option CExpr) → calls_or_none (placeless_result e) ≡ calls_or_none e
result_calls_same None = refl
result_calls_same (Some e) = expr_calls_same e

value_same : (e : CExpr) → value_c (placeless_expr e) ≡ value_c e
value_same =
    expr_same (Evaluates ArgumentValue) (Evaluates CValue) (Scope → Memory → CallResult) (Evaluates CValue) (Evaluates (List Projection)) (Evaluates Location)
    (Evaluates (List Projection)) arg_step kind_step call_step expr_step index_step place_step step_step (λ p q what. refl)

location_same : (p : CPlace) → location_c (placeless_place p) ≡ location_c p
location_same =
    place_same (Evaluates ArgumentValue) (Evaluates CValue) (Scope → Memory → CallResult) (Evaluates CValue) (Evaluates (List Projection)) (Evaluates Location)
    (Evaluates (List Projection)) arg_step kind_step call_step expr_step index_step place_step step_step (λ p q what. refl)

called_same : (c : CCall) → call_c (placeless_call c) ≡ call_c c
called_same =
    call_same (Evaluates ArgumentValue) (Evaluates CValue) (Scope → Memory → CallResult) (Evaluates CValue) (Evaluates (List Projection)) (Evaluates Location)
    (Evaluates (List Projection)) arg_step kind_step call_step expr_step index_step place_step step_step (λ p q what. refl)

-- ---- what statements call and do, and how they end

calls_level : (level : CStmtKind-F Names Names) → stmt_kind_calls (level_bare level) ≡ stmt_kind_calls level
calls_level (CStmtKind-F.Set p e) = ap₂ (λ xs ys. xs ++ ys) (place_calls_same p) (expr_calls_same e)
calls_level (CStmtKind-F.Clear p name) = place_calls_same p
calls_level (CStmtKind-F.Call c) = call_calls_same c
calls_level (CStmtKind-F.If e block other) = ap (λ xs. xs ++ joined block ++ calls_of_other other) (expr_calls_same e)
calls_level (CStmtKind-F.Loop turn e body) = ap (λ xs. xs ++ joined body) (expr_calls_same e)
calls_level CStmtKind-F.Break = refl
calls_level (CStmtKind-F.Return e) = result_calls_same e

-- the functions that a body calls
pub calls_same : (body : List CStmt) → calls_in_block (map placeless_stmt body) ≡ calls_in_block body
calls_same body = ap joined (stmts_same Names Names stmt_kind_calls stmt_calls (λ p q what. refl) calls_level body)

cost_level : (level : CStmtKind-F (Costs → ℕ) (Costs → ℕ)) → stmt_kind_cost (level_bare level) ≡ stmt_kind_cost level
cost_level (CStmtKind-F.Set p e) =
    ap₂ (λ xs ys (known : Costs). 1 + (cost_of_calls known xs + cost_of_calls known ys)) (place_calls_same p) (expr_calls_same e)
cost_level (CStmtKind-F.Clear p name) = ap (λ xs (known : Costs). 1 + cost_of_calls known xs) (place_calls_same p)
cost_level (CStmtKind-F.Call c) = ap (λ xs (known : Costs). 1 + cost_of_calls known xs) (call_calls_same c)
cost_level (CStmtKind-F.If e block other) =
    ap (λ xs (known : Costs). 1 + (cost_of_calls known xs + max (block_cost block known) (other_cost other known))) (expr_calls_same e)
cost_level (CStmtKind-F.Loop turn e body) =
    ap (λ xs (known : Costs). 1 + (turn_limit + 1) * (1 + (cost_of_calls known xs + block_cost body known))) (expr_calls_same e)
cost_level CStmtKind-F.Break = refl
cost_level (CStmtKind-F.Return e) = ap (λ xs (known : Costs). 1 + cost_of_calls known xs) (result_calls_same e)

-- what each statement costs
pub costs_same : (body : List CStmt) → map cost_of_stmt (map placeless_stmt body) ≡ map cost_of_stmt body
costs_same = stmts_same (Costs → ℕ) (Costs → ℕ) stmt_kind_cost stmt_cost_step (λ p q what. refl) cost_level

returns_level : (level : CStmtKind-F Bool Bool) → stmt_kind_returns (level_bare level) ≡ stmt_kind_returns level
returns_level (CStmtKind-F.Set p e) = refl
returns_level (CStmtKind-F.Clear p name) = refl
returns_level (CStmtKind-F.Call c) = refl
returns_level (CStmtKind-F.If e block other) = refl
returns_level (CStmtKind-F.Loop turn e body) = refl
returns_level CStmtKind-F.Break = refl
returns_level (CStmtKind-F.Return e) = refl

-- which of them surely return
pub returns_same : (body : List CStmt) → map surely_returns (map placeless_stmt body) ≡ map surely_returns body
returns_same = stmts_same Bool Bool stmt_kind_returns stmt_returns_step (λ p q what. refl) returns_level

abbrev setting : Evaluates Location → Evaluates CValue → CStmtMeaning
setting target value scope memory =
    executed memory (next (target scope memory) (λ p. next (value scope memory) (λ v. given (Some (set_at memory p v))))) going

abbrev clearing : Evaluates Location → CStmtMeaning
clearing target scope memory = executed memory (target scope memory) (λ p. going (set_at memory p zeros))

abbrev calling : (Scope → Memory → CallResult) → CStmtMeaning
calling call scope memory = call_outcome (call scope memory)

abbrev branching : List CStmtMeaning → Option (List CStmtMeaning) → Evaluates CValue → CStmtMeaning
branching block other test scope memory =
    executed memory (test scope memory) (λ v. (if is_one (scalar_number v) then block_of block else block_of (unwrap_or other [])) scope memory)

abbrev looping : List CStmtMeaning → Evaluates CValue → CStmtMeaning
looping body test scope memory = after_statements 1 (loop_with_turns turn_limit (once_more test scope) (block_of body scope) memory)

abbrev returning : Evaluates CValue → CStmtMeaning
returning value scope memory = executed memory (value scope memory) (λ v. ending (returns (scalar_number v)) memory)

run_level : (level : CStmtKind-F CStmtMeaning CStmtMeaning) → stmt_kind_step (level_bare level) ≡ stmt_kind_step level
run_level (CStmtKind-F.Set p e) = ap₂ setting (location_same p) (value_same e)
run_level (CStmtKind-F.Clear p name) = ap clearing (location_same p)
run_level (CStmtKind-F.Call c) = ap calling (called_same c)
run_level (CStmtKind-F.If e block other) = ap (branching block other) (value_same e)
run_level (CStmtKind-F.Loop turn e body) = ap (looping body) (value_same e)
run_level CStmtKind-F.Break = refl
run_level (CStmtKind-F.Return None) = refl
run_level (CStmtKind-F.Return (Some e)) = ap returning (value_same e)

-- what each statement does
pub runs_same : (body : List CStmt) → map runs_c (map placeless_stmt body) ≡ map runs_c body
runs_same = stmts_same CStmtMeaning CStmtMeaning stmt_kind_step stmt_step (λ p q what. refl) run_level

-- ---- what counts the turns of loops

abbrev pub bare_turn : Text × Place → Text × Place
bare_turn turn = (turn.0, any_place)

abbrev bare_turns : LoopCounters → LoopCounters
bare_turns turns = map bare_turn turns

turns_level : (at : Place) (level : CStmtKind-F (Place → LoopCounters) LoopCounters) →
    stmt_kind_turns (level_turned bare_turns level) any_place ≡ bare_turns (stmt_kind_turns level at)
turns_level at (CStmtKind-F.Set p e) = refl
turns_level at (CStmtKind-F.Clear p name) = refl
turns_level at (CStmtKind-F.Call c) = refl
turns_level at (CStmtKind-F.If e block None) =
    ap (λ ts. ts ++ []) (joined-map bare_turn block) ∙ sym (map-append bare_turn (joined block) [])
turns_level at (CStmtKind-F.If e block (Some other)) =
    ap₂ (λ ts us. ts ++ us) (joined-map bare_turn block) (joined-map bare_turn other) ∙ sym (map-append bare_turn (joined block) (joined other))
turns_level at (CStmtKind-F.Loop turn e body) = ap (λ ts. (turn, any_place) ∷ ts) (joined-map bare_turn body)
turns_level at CStmtKind-F.Break = refl
turns_level at (CStmtKind-F.Return e) = refl

-- those of a body
pub turns_bare : (body : List CStmt) → turns_in_block (map placeless_stmt body) ≡ map bare_turn (turns_in_block body)
turns_bare body =
    ap joined (stmts_turned (Place → LoopCounters) LoopCounters stmt_kind_turns stmt_turns_step bare_turns turns_level body)
    ∙ joined-map bare_turn (map turns_in body)

-- ---- what fails

-- an expression has no place then
no_place_left : (e : CExpr) → (placeless_expr e).place ≡ any_place
no_place_left e = subst (λ x. (placeless_expr x).place ≡ any_place) (roll-out-CExpr e) (simp fold-roll-CExpr refl)

abbrev condition_at : Place → Judged → List Fault
condition_at at c = c.faults ++ unless (agree c.ty (Some bool_type)) condition_type at

condition_bare : (context : Context) (e : CExpr) → condition_faults (placeless_expr e) context ≡ bared (condition_faults e context)
condition_bare context e =
    ap₂ (λ at c. condition_at at c) (no_place_left e) (expr_bare context e)
    ∙ more_bare (judged_expr e context).faults _ _ (unless_bare (agree (judged_expr e context).ty (Some bool_type)) condition_type e.place)

abbrev return_at : Scalar → Place → Judged → List Fault
return_at t at e = e.faults ++ unless (agree e.ty (Some (OfScalar t))) returns_result at

return_bare : (context : Context) (at : Place) (e : Option CExpr) (result : Option Scalar) →
    return_faults (placeless_result e) result context any_place ≡ bared (return_faults e result context at)
return_bare context at None None = refl
return_bare context at None (Some t) = refl
return_bare context at (Some e) None =
    ap (λ (j : Judged). j.faults ++ unless false returns_result any_place) (expr_bare context e)
    ∙ more_bare (judged_expr e context).faults _ _ (unless_bare false returns_result at)
return_bare context at (Some e) (Some t) =
    ap₂ (λ p j. return_at t p j) (no_place_left e) (expr_bare context e)
    ∙ more_bare (judged_expr e context).faults _ _ (unless_bare (agree (judged_expr e context).ty (Some (OfScalar t))) returns_result e.place)

abbrev bare_stmt : StmtFaults → StmtFaults
bare_stmt faults context looped = bared (faults context looped)

pub block_bare : (block : List StmtFaults) (context : Context) (looped : Bool) →
    block_faults (map bare_stmt block) context looped ≡ bared (block_faults block context looped)
block_bare block context looped =
    ap joined (map-twice (λ (faults : StmtFaults). faults context looped) bare_stmt block
    ∙ sym (map-twice bared (λ (faults : StmtFaults). faults context looped) block))
    ∙ joined-map bare (map (λ (faults : StmtFaults). faults context looped) block)

other_bare : (other : Option (List StmtFaults)) (context : Context) (looped : Bool) →
    other_faults (option_map (map bare_stmt) other) context looped ≡ bared (other_faults other context looped)
other_bare None context looped = refl
other_bare (Some block) context looped = block_bare block context looped

abbrev set_faults : Bool → Place → JudgedPlace → Judged → List Fault
set_faults is_read_only at p e =
    p.faults ++ (e.faults ++ (unless (agree p.ty e.ty) assigned_type at ++ unless (not (is_read_only && p.through)) changes_nothing at))

set_faults-bare : (is_read_only : Bool) (at : Place) (p : JudgedPlace) (e : Judged) →
    set_faults is_read_only any_place (bare_place p) (bare_judged e) ≡ bared (set_faults is_read_only at p e)
set_faults-bare is_read_only at p e =
    more_bare p.faults _ _ (more_bare e.faults _ _
    (both_bare _ _ _ _ (unless_bare (agree p.ty e.ty) assigned_type at) (unless_bare (not (is_read_only && p.through)) changes_nothing at)))

abbrev clear_faults : Context → Text → Place → JudgedPlace → List Fault
clear_faults context name at p =
    p.faults ++ (unless (is_some (context.structs name)) declared_before at
    ++ (unless (agree p.ty (Some (OfStruct name))) assigned_type at ++ unless (not (context.is_read_only && p.through)) changes_nothing at))

clear_faults-bare : (context : Context) (name : Text) (at : Place) (p : JudgedPlace) →
    clear_faults context name any_place (bare_place p) ≡ bared (clear_faults context name at p)
clear_faults-bare context name at p =
    more_bare p.faults _ _ (both_bare _ _ _ _ (unless_bare (is_some (context.structs name)) declared_before at)
    (both_bare _ _ _ _ (unless_bare (agree p.ty (Some (OfStruct name))) assigned_type at)
    (unless_bare (not (context.is_read_only && p.through)) changes_nothing at)))

faults_level : (context : Context) (looped : Bool) (at : Place) (level : CStmtKind-F (Place → StmtFaults) StmtFaults) →
    stmt_kind_faults (level_turned bare_stmt level) any_place context looped ≡ bared (stmt_kind_faults level at context looped)
faults_level context looped at (CStmtKind-F.Set p e) =
    ap₂ (λ q v. set_faults context.is_read_only any_place q v) (place_bare context p at) (expr_bare context e)
    ∙ set_faults-bare context.is_read_only at (judged_place p context at) (judged_expr e context)
faults_level context looped at (CStmtKind-F.Clear p name) =
    ap (λ q. clear_faults context name any_place q) (place_bare context p at) ∙ clear_faults-bare context name at (judged_place p context at)
faults_level context looped at (CStmtKind-F.Call c) = ap (λ (j : JudgedCall). j.faults) (call_bare context c at)
faults_level context looped at (CStmtKind-F.If e block other) =
    both_bare _ _ _ _ (condition_bare context e) (both_bare _ _ _ _ (block_bare block context looped) (other_bare other context looped))
faults_level context looped at (CStmtKind-F.Loop turn e body) =
    both_bare _ _ _ _ (condition_bare context e) (block_bare body context true)
faults_level context looped at CStmtKind-F.Break = unless_bare looped break_in_loop at
faults_level context looped at (CStmtKind-F.Return e) = return_bare context at e context.result

-- what fails in the statements of a body
pub body_bare : (body : List CStmt) (context : Context) →
    block_faults (map faults_in_stmt (map placeless_stmt body)) context false ≡ bared (block_faults (map faults_in_stmt body) context false)
body_bare body context =
    ap (λ block. block_faults block context false)
    (stmts_turned (Place → StmtFaults) StmtFaults stmt_kind_faults stmt_faults_step bare_stmt
    (λ at level. λ i c looped. faults_level c looped at level i) body)
    ∙ block_bare (map faults_in_stmt body) context false
