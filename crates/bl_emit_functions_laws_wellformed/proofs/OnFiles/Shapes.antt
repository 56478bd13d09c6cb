-- Which functions the parts of made C texts call.
use Rattle.std.proofs.Common.{◌≡◌, ℕ, ℤ, Bool, List, [], ◌∷◌, ◌++◌, map, Option, Some, None, refl, subst}
use Rattle.std.specs.Prelude.{option_map}
use Rattle.bl_tree.specs.declared.text.Text.{Text}
use Rattle.bl_tree.specs.declared.c.CArg.{CArg, CArg-F, fold-roll-CArg, roll-CArg}
use Rattle.bl_tree.specs.declared.c.CArg.TheVariants as argument
use Rattle.bl_tree.specs.declared.c.CCall.{CCall, fold-roll-CCall}
use Rattle.bl_tree.specs.declared.c.CExpr.{CExpr, fold-roll-CExpr}
use Rattle.bl_tree.specs.declared.c.CExprKind.{CExprKind, CExprKind-F, fold-roll-CExprKind, roll-CExprKind}
use Rattle.bl_tree.specs.declared.c.CExprKind.TheVariants as expression
use Rattle.bl_tree.specs.declared.c.CIndex.{fold-roll-CIndex}
use Rattle.bl_tree.specs.declared.c.CPlace.{CPlace, fold-roll-CPlace}
use Rattle.bl_tree.specs.declared.c.CStep.{CStep, fold-roll-CStep}
use Rattle.bl_tree.specs.declared.c.CStmt.{CStmt, fold-roll-CStmt}
use Rattle.bl_tree.specs.declared.c.CStmtKind.{CStmtKind, CStmtKind-F, fold-roll-CStmtKind, roll-CStmtKind}
use Rattle.bl_tree.specs.declared.c.CStmtKind.TheVariants as statement
use Rattle.bl_tree.specs.declared.scalar.Op.{Op}
use Rattle.bl_tree.specs.declared.scalar.Scalar.{Scalar}
use Rattle.bl_tree.specs.Reduce.{joined}
use Rattle.bl_ctext_semantics.specs.Calls.{block_or_none, calls_in, calls_in_arg, calls_in_block, calls_in_call, calls_in_place, calls_in_step, calls_in_stmt}
use Rattle.bl_ctext_semantics.specs.Calls.{calls_or_none}
use Rattle.bl_emit_acts.specs.Acts.{c_calling, c_clear, c_set, c_stmt}
use Rattle.bl_emit_acts.specs.Trees.{c_call, c_element, c_expr, c_index, c_literal, c_not, c_place, c_read, c_step, c_two}
use Rattle.bl_emit_functions.specs.Trees.{c_break, c_if, c_loop, c_return}

-- ---- places and arguments

pub place-calls : (through : Bool) (name : Text) (steps : List CStep) → calls_in_place (c_place through name steps) ≡ joined (map calls_in_step steps)
place-calls through name steps = rw fold-roll-CPlace refl

pub step-calls : (member : Text) → calls_in_step (c_step member) ≡ []
step-calls member = rw fold-roll-CStep refl

pub element-calls : (member : Text) (signed : Bool) (at : CExpr) (n : ℕ) → calls_in_step (c_element member (c_index signed at n)) ≡ calls_in at
element-calls member signed at n = rw (fold-roll-CStep, fold-roll-CIndex) refl

pub value-calls : (e : CExpr) → calls_in_arg (argument.Value e) ≡ calls_in e
value-calls e = subst (λ (a : CArg). calls_in_arg a ≡ calls_in e) (argument.rolls-Value e) (form e)
  where
    form : (e : CExpr) → calls_in_arg (roll-CArg (CArg-F.Value e)) ≡ calls_in e
    form e = rw fold-roll-CArg refl

pub address-calls : (place : CPlace) → calls_in_arg (argument.Address place) ≡ calls_in_place place
address-calls place = subst (λ (a : CArg). calls_in_arg a ≡ calls_in_place place) (argument.rolls-Address place) (form place)
  where
    form : (place : CPlace) → calls_in_arg (roll-CArg (CArg-F.Address place)) ≡ calls_in_place place
    form place = rw fold-roll-CArg refl

pub call-calls : (name : Text) (args : List CArg) → calls_in_call (c_call name args) ≡ name ∷ joined (map calls_in_arg args)
call-calls name args = rw fold-roll-CCall refl

-- ---- expressions

-- what is called in an expression of a form
by_kind : (k made : CExprKind) (names : List Text) → made ≡ k → calls_in (c_expr made) ≡ names → calls_in (c_expr k) ≡ names
by_kind k made names is shape = subst (λ (k : CExprKind). calls_in (c_expr k) ≡ names) is shape

pub literal-calls : (s : Scalar) (n : ℤ) → calls_in (c_literal s n) ≡ []
literal-calls s n =
    by_kind (expression.Literal s n) (roll-CExprKind (CExprKind-F.Literal s n)) [] (expression.rolls-Literal s n)
    (rw (fold-roll-CExpr, fold-roll-CExprKind) refl)

pub read-calls : (place : CPlace) → calls_in (c_read place) ≡ calls_in_place place
read-calls place =
    by_kind (expression.Read place) (roll-CExprKind (CExprKind-F.Read place)) (calls_in_place place) (expression.rolls-Read place)
    (rw (fold-roll-CExpr, fold-roll-CExprKind) refl)

pub not-calls : (e : CExpr) → calls_in (c_not e) ≡ calls_in e
not-calls e =
    by_kind (expression.Not e) (roll-CExprKind (CExprKind-F.Not e)) (calls_in e) (expression.rolls-Not e)
    (rw (fold-roll-CExpr, fold-roll-CExprKind) refl)

pub two-calls : (op : Op) (left right : CExpr) → calls_in (c_two op left right) ≡ calls_in left ++ calls_in right
two-calls op left right =
    by_kind (expression.Two op left right) (roll-CExprKind (CExprKind-F.Two op left right)) (calls_in left ++ calls_in right)
    (expression.rolls-Two op left right) (rw (fold-roll-CExpr, fold-roll-CExprKind) refl)

pub called-calls : (call : CCall) → calls_in (c_expr (expression.Call call)) ≡ calls_in_call call
called-calls call =
    by_kind (expression.Call call) (roll-CExprKind (CExprKind-F.Call call)) (calls_in_call call) (expression.rolls-Call call)
    (rw (fold-roll-CExpr, fold-roll-CExprKind) refl)

-- ---- statements

-- what is called in a statement of a form
by_form : (k made : CStmtKind) (names : List Text) → made ≡ k → calls_in_stmt (c_stmt made) ≡ names → calls_in_stmt (c_stmt k) ≡ names
by_form k made names is shape = subst (λ (k : CStmtKind). calls_in_stmt (c_stmt k) ≡ names) is shape

pub set-calls : (place : CPlace) (value : CExpr) → calls_in_stmt (c_set place value) ≡ calls_in_place place ++ calls_in value
set-calls place value =
    by_form (statement.Set place value) (roll-CStmtKind (CStmtKind-F.Set place value)) (calls_in_place place ++ calls_in value)
    (statement.rolls-Set place value) (rw (fold-roll-CStmt, fold-roll-CStmtKind) refl)

pub clear-calls : (place : CPlace) (name : Text) → calls_in_stmt (c_clear place name) ≡ calls_in_place place
clear-calls place name =
    by_form (statement.Clear place name) (roll-CStmtKind (CStmtKind-F.Clear place name)) (calls_in_place place)
    (statement.rolls-Clear place name) (rw (fold-roll-CStmt, fold-roll-CStmtKind) refl)

pub calling-calls : (call : CCall) → calls_in_stmt (c_calling call) ≡ calls_in_call call
calling-calls call =
    by_form (statement.Call call) (roll-CStmtKind (CStmtKind-F.Call call)) (calls_in_call call) (statement.rolls-Call call)
    (rw (fold-roll-CStmt, fold-roll-CStmtKind) refl)

pub break-calls : calls_in_stmt c_break ≡ []
break-calls = by_form statement.Break (roll-CStmtKind CStmtKind-F.Break) [] statement.rolls-Break (rw (fold-roll-CStmt, fold-roll-CStmtKind) refl)

pub loop-calls : (turn : Text) (test : CExpr) (body : List CStmt) → calls_in_stmt (c_loop turn test body) ≡ calls_in test ++ calls_in_block body
loop-calls turn test body =
    by_form (statement.Loop turn test body) (roll-CStmtKind (CStmtKind-F.Loop turn test body)) (calls_in test ++ calls_in_block body)
    (statement.rolls-Loop turn test body) (rw (fold-roll-CStmt, fold-roll-CStmtKind) refl)

pub return-calls : (value : Option CExpr) → calls_in_stmt (c_return value) ≡ calls_or_none value
return-calls value =
    by_form (statement.Return value) (roll-CStmtKind (CStmtKind-F.Return value)) (calls_or_none value) (statement.rolls-Return value) (form value)
  where
    form : (value : Option CExpr) → calls_in_stmt (c_stmt (roll-CStmtKind (CStmtKind-F.Return value))) ≡ calls_or_none value
    form None = rw (fold-roll-CStmt, fold-roll-CStmtKind) refl
    form (Some e) = rw (fold-roll-CStmt, fold-roll-CStmtKind) refl

-- what is called in an `else` that may be absent
abbrev pub other_calls : Option (List CStmt) → List Text
other_calls other = block_or_none (option_map (map calls_in_stmt) other)

pub if-calls : (test : CExpr) (block : List CStmt) (other : Option (List CStmt)) → calls_in_stmt (c_if test block other)
    ≡ (calls_in test ++ calls_in_block block) ++ other_calls other
if-calls test block other =
    by_form (statement.If test block other) (roll-CStmtKind (CStmtKind-F.If test block other)) ((calls_in test ++ calls_in_block block) ++ other_calls other)
    (statement.rolls-If test block other) (form other)
  where
    form : (other : Option (List CStmt)) → calls_in_stmt (c_stmt (roll-CStmtKind (CStmtKind-F.If test block other)))
        ≡ (calls_in test ++ calls_in_block block) ++ other_calls other
    form None = rw (fold-roll-CStmt, fold-roll-CStmtKind) refl
    form (Some rest) = rw (fold-roll-CStmt, fold-roll-CStmtKind) refl
