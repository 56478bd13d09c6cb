-- The names of a tree that is spelled are names, and what the grammar wants filled is filled.
use Rattle.std.proofs.Common.{◌≡◌, ℕ, Bool, true, ◌&&◌, ◌||◌, List, map, refl, ap, sym, ◌∙◌}
use Rattle.std.specs.Prelude.{Option, is_some}
use Rattle.std.specs.List.{list_all}
use Rattle.bl_tree.specs.declared.token.Keyword.{Keyword}
use Rattle.bl_tree.specs.declared.place.Place.{Place}
use Rattle.bl_tree.specs.declared.token.Token.{Token}
use Rattle.bl_tree.specs.declared.tree.Guard.{Guard}
use Rattle.bl_tree.specs.Reduce.{all_of}
use Rattle.bl_lex.specs.Tokens.{Lexes}
use Rattle.bl_parse_tree.specs.declared.expr.RawExpr.{RawExpr}
use Rattle.bl_parse_tree.specs.declared.expr.RawTarget.{RawTarget}
use Rattle.bl_parse_tree.specs.declared.item.RawField.{RawField}
use Rattle.bl_parse_tree.specs.declared.item.RawItem.{RawItem}
use Rattle.bl_parse_tree.specs.declared.item.RawParam.{RawParam}
use Rattle.bl_parse_tree.specs.declared.item.RawStruct.{RawStruct}
use Rattle.bl_parse_tree.specs.declared.item.RawUnit.{RawUnit}
use Rattle.bl_parse_tree.specs.declared.name.Name.{Name}
use Rattle.bl_parse_tree.specs.declared.raw.Raw.{Raw}
use Rattle.bl_parse_tree.specs.declared.stmt.RawArm.{RawArm, fold-RawArm, fold-roll-RawArm, roll-RawArm}
use Rattle.bl_parse_tree.specs.declared.stmt.RawBranch.{RawBranch, fold-RawBranch, fold-roll-RawBranch, roll-RawBranch}
use Rattle.bl_parse_tree.specs.declared.stmt.RawConstant.{RawConstant}
use Rattle.bl_parse_tree.specs.declared.stmt.RawPath.{RawPath}
use Rattle.bl_parse_tree.specs.declared.stmt.RawStmt.{RawStmt, fold-roll-RawStmt, roll-RawStmt}
use Rattle.bl_parse_tree.specs.declared.stmt.RawStmtKind.{RawStmtKind, fold-RawStmtKind, fold-roll-RawStmtKind}
use Rattle.bl_parse_tree.specs.declared.stmt.RawStmtKind as kind
use Rattle.bl_parse_tree.specs.declared.stmt.RawStmtKind.TheVariants.{rolls-Var, rolls-Let, rolls-Const, rolls-Assign, rolls-Call, rolls-Await, rolls-Run}
use Rattle.bl_parse_tree.specs.declared.stmt.RawStmtKind.TheVariants.{rolls-If, rolls-Cobegin, rolls-When, rolls-Repeat, rolls-Until, rolls-While, rolls-Return}
use Rattle.bl_parse_tree.specs.declared.types.RawType.{RawType}
use Rattle.bl_parse_tree.specs.Names.{named, optional, is_filled, type_named, expr_named, target_named, path_named, constant_named, arguments_named}
use Rattle.bl_parse_tree.specs.Names.{stmt_kind_stands, arm_stands, branch_stands, stmt_layer_stands, stmt_stands, field_named, struct_stands, param_named}
use Rattle.bl_parse_tree.specs.Names.{item_stands}
use Rattle.bl_parse.specs.Programs.{SpellsField, SpellsFieldList, SpellsStruct, SpellsParam, SpellsParamList, SpellsParams, SpellsOutputParams, SpellsResult}
use Rattle.bl_parse.specs.Programs.{SpellsUnit, SpellsItem, SpellsItems, Spells}
use Rattle.bl_parse.specs.inner.Reading.{NamesStand}
use Rattle.bl_parse.specs.Statements.{SpellsTyping, SpellsMaybeTyping, SpellsValue, SpellsInitial, SpellsConstant, SpellsReceiver, SpellsStmt, SpellsKind}
use Rattle.bl_parse.specs.Statements.{SpellsBlock, SpellsArm, SpellsArms, SpellsElse, SpellsBranch, SpellsBranches}
use Rattle.bl_parse.proofs.LexLemmas.{names_stand}
use Rattle.bl_parse_laws.proofs.Tests.{Each, Filled, both, one_holds, none_hold, more_hold, listed, one_fills, more_fill, answers}
use Rattle.bl_parse_laws.proofs.Names.{name, ty, expression, place, inputs, path, outputs}

-- whether every name in what a statement says is one, and what the grammar wants filled is
abbrev kind_stands : RawStmtKind → Bool
kind_stands = fold-RawStmtKind Bool Bool Bool Bool stmt_kind_stands arm_stands branch_stands stmt_layer_stands

abbrev one_arm_stands : RawArm → Bool
one_arm_stands = fold-RawArm Bool Bool Bool Bool stmt_kind_stands arm_stands branch_stands stmt_layer_stands

abbrev one_branch_stands : RawBranch → Bool
one_branch_stands = fold-RawBranch Bool Bool Bool Bool stmt_kind_stands arm_stands branch_stands stmt_layer_stands

-- ---- the test at what is made

stmt_is : (at : Place) (what : RawStmtKind) → stmt_stands (roll-RawStmt (record { place = at; what = what })) ≡ kind_stands what
stmt_is at what = rw fold-roll-RawStmt refl

var_is : (n : Name) (t : Option RawType) (value : Option RawExpr)
    → kind_stands (kind.Var n t value) ≡ (named n && (optional type_named t && (optional expr_named value && (is_some t || is_some value))))
var_is n t value = ap kind_stands (sym (rolls-Var n t value)) ∙ rw fold-roll-RawStmtKind refl

let_is : (n : Name) (t : Option RawType) (value : RawExpr) → kind_stands (kind.Let n t value) ≡ (named n && (optional type_named t && expr_named value))
let_is n t value = ap kind_stands (sym (rolls-Let n t value)) ∙ rw fold-roll-RawStmtKind refl

constant_is : (one : RawConstant) → kind_stands (kind.Const one) ≡ constant_named one
constant_is one = ap kind_stands (sym (rolls-Const one)) ∙ rw fold-roll-RawStmtKind refl

assign_is : (to : RawTarget) (e : RawExpr) → kind_stands (kind.Assign to e) ≡ (target_named to && expr_named e)
assign_is to e = ap kind_stands (sym (rolls-Assign to e)) ∙ rw fold-roll-RawStmtKind refl

call_is : (f : Name) (given : List RawExpr) (taken : List RawPath) → kind_stands (kind.Call f given taken) ≡ (named f && arguments_named given taken)
call_is f given taken = ap kind_stands (sym (rolls-Call f given taken)) ∙ rw fold-roll-RawStmtKind refl

await_is : (e : RawExpr) → kind_stands (kind.Await e) ≡ expr_named e
await_is e = ap kind_stands (sym (rolls-Await e)) ∙ rw fold-roll-RawStmtKind refl

run_is : (to : Option RawPath) (a : Name) (given : List RawExpr) (taken : List RawPath)
    → kind_stands (kind.Run to a given taken) ≡ (optional path_named to && (named a && arguments_named given taken))
run_is to a given taken = ap kind_stands (sym (rolls-Run to a given taken)) ∙ rw fold-roll-RawStmtKind refl

if_is : (arms : List RawArm) (other : List RawStmt)
    → kind_stands (kind.If arms other) ≡ (is_filled (map one_arm_stands arms) && (all_of (map one_arm_stands arms) && all_of (map stmt_stands other)))
if_is arms other = ap kind_stands (sym (rolls-If arms other)) ∙ rw fold-roll-RawStmtKind refl

cobegin_is : (branches : List RawBranch) → kind_stands (kind.Cobegin branches)
    ≡ (is_filled (map one_branch_stands branches) && all_of (map one_branch_stands branches))
cobegin_is branches = ap kind_stands (sym (rolls-Cobegin branches)) ∙ rw fold-roll-RawStmtKind refl

when_is : (guard : Guard) (e : RawExpr) (body : List RawStmt) → kind_stands (kind.When guard e body) ≡ (expr_named e && all_of (map stmt_stands body))
when_is guard e body = ap kind_stands (sym (rolls-When guard e body)) ∙ rw fold-roll-RawStmtKind refl

repeat_is : (body : List RawStmt) → kind_stands (kind.Repeat body) ≡ all_of (map stmt_stands body)
repeat_is body = ap kind_stands (sym (rolls-Repeat body)) ∙ rw fold-roll-RawStmtKind refl

until_is : (body : List RawStmt) (e : RawExpr) → kind_stands (kind.Until body e) ≡ (all_of (map stmt_stands body) && expr_named e)
until_is body e = ap kind_stands (sym (rolls-Until body e)) ∙ rw fold-roll-RawStmtKind refl

while_is : (e : RawExpr) (body : List RawStmt) → kind_stands (kind.While e body) ≡ (expr_named e && all_of (map stmt_stands body))
while_is e body = ap kind_stands (sym (rolls-While e body)) ∙ rw fold-roll-RawStmtKind refl

return_is : (e : Option RawExpr) → kind_stands (kind.Return e) ≡ optional expr_named e
return_is e = ap kind_stands (sym (rolls-Return e)) ∙ rw fold-roll-RawStmtKind refl

arm_is : (e : RawExpr) (body : List RawStmt) → one_arm_stands (roll-RawArm (record { test = e; body = body }))
    ≡ (expr_named e && all_of (map stmt_stands body))
arm_is e body = rw fold-roll-RawArm refl

branch_is : (weak : Bool) (body : List RawStmt) → one_branch_stands (roll-RawBranch (record { weak = weak; body = body })) ≡ all_of (map stmt_stands body)
branch_is weak body = rw fold-roll-RawBranch refl

module _ (text : List ℕ) (tokens : List Token) (stand : NamesStand text tokens) where
  -- ---- parts of statements

  typing : {t : RawType} {from to : ℕ} → SpellsTyping text tokens t from to → type_named t ≡ true
  typing h = ty text tokens stand h.ty_at

  maybe_typing : {t : Option RawType} {from to : ℕ} → SpellsMaybeTyping text tokens t from to → optional type_named t ≡ true
  maybe_typing (SpellsMaybeTyping.absent none is) = ap (optional type_named) none
  maybe_typing (SpellsMaybeTyping.written t is) = ap (optional type_named) is ∙ typing t

  value : {e : RawExpr} {from to : ℕ} → SpellsValue text tokens e from to → expr_named e ≡ true
  value h = expression text tokens stand h.expr

  initial : {e : Option RawExpr} {from to : ℕ} → SpellsInitial text tokens e from to → optional expr_named e ≡ true
  initial (SpellsInitial.absent none is) = ap (optional expr_named) none
  initial (SpellsInitial.given e is) = ap (optional expr_named) is ∙ value e

  constant : {one : RawConstant} {from to : ℕ} → SpellsConstant text tokens one from to → constant_named one ≡ true
  constant h = both (name text tokens stand h.name) (both (maybe_typing h.typing) (value h.value))

  receiver : {to : Option RawPath} {m n : ℕ} → SpellsReceiver text tokens to m n → optional path_named to ≡ true
  receiver (SpellsReceiver.absent none is) = ap (optional path_named) none
  receiver (SpellsReceiver.given one t is) = ap (optional path_named) is ∙ path text tokens stand one

  -- ---- statements

  mutual
    statement : {s : RawStmt} {from to : ℕ} → SpellsStmt text tokens s from to → stmt_stands s ≡ true
    statement (SpellsStmt.placed what is) = ap stmt_stands is ∙ (stmt_is _ _ ∙ says what)

    says : {what : RawStmtKind} {from to : ℕ} → SpellsKind text tokens what from to → kind_stands what ≡ true
    says (SpellsKind.typed w n t e is) = ap kind_stands is ∙ (var_is _ _ _ ∙ both (name text tokens stand n) (both (typing t) (both (initial e) refl)))
    says (SpellsKind.inferred w n e is) = ap kind_stands is ∙ (var_is _ _ _ ∙ both (name text tokens stand n) (both refl (both (value e) refl)))
    says (SpellsKind.fixed w n t e is) = ap kind_stands is ∙ (let_is _ _ _ ∙ both (name text tokens stand n) (both (maybe_typing t) (value e)))
    says (SpellsKind.constant c is) = ap kind_stands is ∙ (constant_is _ ∙ constant c)
    says (SpellsKind.assign to e is) = ap kind_stands is ∙ (assign_is _ _ ∙ both (place text tokens stand to) (value e))
    says (SpellsKind.call n given taken is) = ap kind_stands is ∙ (call_is _ _ _ ∙ both (name text tokens stand n)
        (both (listed expr_named (inputs text tokens stand given)) (listed path_named (outputs text tokens stand taken))))
    says (SpellsKind.await w e is) = ap kind_stands is ∙ (await_is _ ∙ expression text tokens stand e)
    says (SpellsKind.run w to n given taken is) = ap kind_stands is ∙ (run_is _ _ _ _ ∙ both (receiver to) (both (name text tokens stand n)
        (both (listed expr_named (inputs text tokens stand given)) (listed path_named (outputs text tokens stand taken)))))
    says (SpellsKind.cobegin w branches ends is) = ap kind_stands is
        ∙ (cobegin_is _ ∙ both (answers one_branch_stands (some_branch branches)) (each_branch branches).hold)
    says (SpellsKind.guarded w e guard body ends is) = ap kind_stands is ∙ (when_is _ _ _ ∙ both (expression text tokens stand e) (block body).hold)
    says (SpellsKind.repeat w body ends is) = ap kind_stands is ∙ (repeat_is _ ∙ (block body).hold)
    says (SpellsKind.until w body u e ends is) = ap kind_stands is ∙ (until_is _ _ ∙ both (block body).hold (expression text tokens stand e))
    says (SpellsKind.while w e r body ends is) = ap kind_stands is ∙ (while_is _ _ ∙ both (expression text tokens stand e) (block body).hold)
    says (SpellsKind.branching arms other ends is) = ap kind_stands is
        ∙ (if_is _ _ ∙ both (answers one_arm_stands (some_arm arms)) (both (each_arm arms).hold (otherwise other).hold))
    says (SpellsKind.returns w none is) = ap kind_stands is ∙ return_is _
    says (SpellsKind.returns_value w on e is) = ap kind_stands is ∙ (return_is _ ∙ expression text tokens stand e)

    block : {body : List RawStmt} {from to : ℕ} → SpellsBlock text tokens body from to → Each stmt_stands body
    block (SpellsBlock.no_stmts none is) = none_hold stmt_stands none
    block (SpellsBlock.more_stmts body s is) = more_hold stmt_stands _ (block body) (statement s) is

    arm : {head : Keyword} {one : RawArm} {from to : ℕ} → SpellsArm text tokens head one from to → one_arm_stands one ≡ true
    arm (SpellsArm.headed w e t body is) = ap one_arm_stands is ∙ (arm_is _ _ ∙ both (expression text tokens stand e) (block body).hold)

    each_arm : {arms : List RawArm} {from to : ℕ} → SpellsArms text tokens arms from to → Each one_arm_stands arms
    each_arm (SpellsArms.first_arm one is) = one_holds one_arm_stands (arm one) is
    each_arm (SpellsArms.more_arms arms one is) = more_hold one_arm_stands _ (each_arm arms) (arm one) is

    some_arm : {arms : List RawArm} {from to : ℕ} → SpellsArms text tokens arms from to → Filled arms
    some_arm (SpellsArms.first_arm one is) = one_fills is
    some_arm (SpellsArms.more_arms arms one is) = more_fill _ _ is

    otherwise : {other : List RawStmt} {from to : ℕ} → SpellsElse text tokens other from to → Each stmt_stands other
    otherwise (SpellsElse.no_else none is) = none_hold stmt_stands none
    otherwise (SpellsElse.with_else w body) = block body

    branch : {one : RawBranch} {from to : ℕ} → SpellsBranch text tokens one from to → one_branch_stands one ≡ true
    branch (SpellsBranch.branched may body is) = ap one_branch_stands is ∙ (branch_is _ _ ∙ (block body).hold)

    each_branch : {branches : List RawBranch} {from to : ℕ} → SpellsBranches text tokens branches from to → Each one_branch_stands branches
    each_branch (SpellsBranches.first_branch one is) = one_holds one_branch_stands (branch one) is
    each_branch (SpellsBranches.more_branches branches w one is) = more_hold one_branch_stands _ (each_branch branches) (branch one) is

    some_branch : {branches : List RawBranch} {from to : ℕ} → SpellsBranches text tokens branches from to → Filled branches
    some_branch (SpellsBranches.first_branch one is) = one_fills is
    some_branch (SpellsBranches.more_branches branches w one is) = more_fill _ _ is

  -- ---- items

  field : {one : RawField} {from to : ℕ} → SpellsField text tokens one from to → field_named one ≡ true
  field h = both (name text tokens stand h.name) (typing h.ty)

  fields : {all : List RawField} {from to : ℕ} → SpellsFieldList text tokens all from to → Each field_named all
  fields (SpellsFieldList.first one is) = one_holds field_named (field one) is
  fields (SpellsFieldList.more others one is) = more_hold field_named _ (fields others) (field one) is

  some_field : {all : List RawField} {from to : ℕ} → SpellsFieldList text tokens all from to → Filled all
  some_field (SpellsFieldList.first one is) = one_fills is
  some_field (SpellsFieldList.more others one is) = more_fill _ _ is

  structure : {def : RawStruct} {from to : ℕ} → SpellsStruct text tokens def from to → struct_stands def ≡ true
  structure h = both (name text tokens stand h.name) (both (some_field h.fields).filled (listed field_named (fields h.fields)))

  param : {one : RawParam} {from to : ℕ} → SpellsParam text tokens one from to → param_named one ≡ true
  param h = both (name text tokens stand h.name) (typing h.ty)

  param_list : {all : List RawParam} {from to : ℕ} → SpellsParamList text tokens all from to → Each param_named all
  param_list (SpellsParamList.first one is) = one_holds param_named (param one) is
  param_list (SpellsParamList.more others comma one is) = more_hold param_named _ (param_list others) (param one) is

  params : {all : List RawParam} {from to : ℕ} → SpellsParams text tokens all from to → Each param_named all
  params (SpellsParams.none opens closes none) = none_hold param_named none
  params (SpellsParams.some opens all closes) = param_list all

  output_params : {all : List RawParam} {from to : ℕ} → SpellsOutputParams text tokens all from to → Each param_named all
  output_params (SpellsOutputParams.absent none is) = none_hold param_named none
  output_params (SpellsOutputParams.written all) = params all

  result : {t : Option RawType} {from to : ℕ} → SpellsResult text tokens t from to → optional type_named t ≡ true
  result (SpellsResult.absent none is) = ap (optional type_named) none
  result (SpellsResult.written w t is) = ap (optional type_named) is ∙ ty text tokens stand t

  unit : {one : RawUnit} {from to : ℕ} → SpellsUnit text tokens one from to → item_stands (RawItem.Unit one) ≡ true
  unit h = both
      (both (name text tokens stand h.name) (both (listed param_named (params h.inputs)) (listed param_named (output_params h.outputs))))
      (both (result h.result) (listed stmt_stands (block h.body)))

  item : {one : RawItem} {from to : ℕ} → SpellsItem text tokens one from to → item_stands one ≡ true
  item (SpellsItem.structure def is) = ap item_stands is ∙ structure def
  item (SpellsItem.constant c is) = ap item_stands is ∙ constant c
  item (SpellsItem.unit u is) = ap item_stands is ∙ unit u

  items : {all : List RawItem} {from to : ℕ} → SpellsItems text tokens all from to → Each item_stands all
  items (SpellsItems.none none is) = none_hold item_stands none
  items (SpellsItems.more others one is) = more_hold item_stands _ (items others) (item one) is

pub what_stands : (text : List ℕ) (tokens : List Token) (raw : Raw) → Lexes text tokens → Spells text tokens raw →
    list_all item_stands raw.items ≡ true
what_stands text tokens raw lexes h = listed item_stands (items text tokens (names_stand text tokens lexes) h.items)
