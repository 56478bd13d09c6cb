-- Which places the parts of made C texts name.
use Rattle.std.proofs.Common.{◌≡◌, ℕ, ℤ, Bool, List, [], ◌∷◌, ◌++◌, map, Option, Some, None, refl, subst}
use Rattle.std.specs.Prelude.{option_map}
use Rattle.bl_tree.specs.declared.text.Text.{Text}
use Rattle.bl_tree.specs.declared.c.CArg.{CArg, CArg-F, fold-roll-CArg, roll-CArg}
use Rattle.bl_tree.specs.declared.c.CArg.TheVariants as argument
use Rattle.bl_tree.specs.declared.c.CCall.{CCall, fold-roll-CCall}
use Rattle.bl_tree.specs.declared.c.CExpr.{CExpr, fold-roll-CExpr}
use Rattle.bl_tree.specs.declared.c.CExprKind.{CExprKind, CExprKind-F, fold-roll-CExprKind, roll-CExprKind}
use Rattle.bl_tree.specs.declared.c.CExprKind.TheVariants as expression
use Rattle.bl_tree.specs.declared.c.CIndex.{fold-roll-CIndex}
use Rattle.bl_tree.specs.declared.c.CPlace.{CPlace, fold-roll-CPlace}
use Rattle.bl_tree.specs.declared.c.CStep.{CStep, fold-roll-CStep}
use Rattle.bl_tree.specs.declared.c.CStmt.{CStmt, fold-roll-CStmt}
use Rattle.bl_tree.specs.declared.c.CStmtKind.{CStmtKind, CStmtKind-F, fold-roll-CStmtKind, roll-CStmtKind}
use Rattle.bl_tree.specs.declared.c.CStmtKind.TheVariants as statement
use Rattle.bl_tree.specs.declared.scalar.Op.{Op}
use Rattle.bl_tree.specs.declared.scalar.Scalar.{Scalar}
use Rattle.bl_tree.specs.Reduce.{joined}
use Rattle.bl_emit_acts.specs.Acts.{c_calling, c_clear, c_set, c_stmt}
use Rattle.bl_emit_acts.specs.Trees.{c_call, c_element, c_expr, c_index, c_literal, c_not, c_place, c_read, c_step, c_two}
use Rattle.bl_emit_functions.specs.Trees.{c_break, c_if, c_loop, c_return}
use Rattle.bl_ctext_places.specs.Places.{CPath, CPaths, StepParts, block_or_none, parts_of_step, places_in, places_in_arg, places_in_block}
use Rattle.bl_ctext_places.specs.Places.{places_in_call, places_in_place, places_in_stmt, places_of_option}

-- ---- places and arguments

-- the members of steps
abbrev pub members_in : List CStep → List Text
members_in steps = map (λ (step : StepParts). step.member) (map parts_of_step steps)

-- the places in the indices of steps
abbrev pub inside : List CStep → CPaths
inside steps = joined (map (λ (step : StepParts). step.inside) (map parts_of_step steps))

-- the place of these steps itself
abbrev pub place_of : Bool → Text → List CStep → CPath
place_of through name steps = record { through = through; name = name; members = members_in steps }

pub place-names : (through : Bool) (name : Text) (steps : List CStep) → places_in_place (c_place through name steps)
    ≡ place_of through name steps ∷ inside steps
place-names through name steps = rw fold-roll-CPlace refl

pub step-passes : (member : Text) → parts_of_step (c_step member) ≡ record { member = member; inside = [] }
step-passes member = rw fold-roll-CStep refl

pub element-passes : (member : Text) (signed : Bool) (at : CExpr) (n : ℕ) → parts_of_step (c_element member (c_index signed at n))
    ≡ record { member = member; inside = places_in at }
element-passes member signed at n = rw (fold-roll-CStep, fold-roll-CIndex) refl

pub value-names : (e : CExpr) → places_in_arg (argument.Value e) ≡ places_in e
value-names e = subst (λ (a : CArg). places_in_arg a ≡ places_in e) (argument.rolls-Value e) (form e)
  where
    form : (e : CExpr) → places_in_arg (roll-CArg (CArg-F.Value e)) ≡ places_in e
    form e = rw fold-roll-CArg refl

pub address-names : (place : CPlace) → places_in_arg (argument.Address place) ≡ places_in_place place
address-names place = subst (λ (a : CArg). places_in_arg a ≡ places_in_place place) (argument.rolls-Address place) (form place)
  where
    form : (place : CPlace) → places_in_arg (roll-CArg (CArg-F.Address place)) ≡ places_in_place place
    form place = rw fold-roll-CArg refl

pub call-names : (name : Text) (args : List CArg) → places_in_call (c_call name args) ≡ joined (map places_in_arg args)
call-names name args = rw fold-roll-CCall refl

-- ---- expressions

-- what is named in an expression of a form
by_kind : (k made : CExprKind) (places : CPaths) → made ≡ k → places_in (c_expr made) ≡ places → places_in (c_expr k) ≡ places
by_kind k made places is shape = subst (λ (k : CExprKind). places_in (c_expr k) ≡ places) is shape

pub literal-names : (s : Scalar) (n : ℤ) → places_in (c_literal s n) ≡ []
literal-names s n =
    by_kind (expression.Literal s n) (roll-CExprKind (CExprKind-F.Literal s n)) [] (expression.rolls-Literal s n)
    (rw (fold-roll-CExpr, fold-roll-CExprKind) refl)

pub read-names : (place : CPlace) → places_in (c_read place) ≡ places_in_place place
read-names place =
    by_kind (expression.Read place) (roll-CExprKind (CExprKind-F.Read place)) (places_in_place place) (expression.rolls-Read place)
    (rw (fold-roll-CExpr, fold-roll-CExprKind) refl)

pub not-names : (e : CExpr) → places_in (c_not e) ≡ places_in e
not-names e =
    by_kind (expression.Not e) (roll-CExprKind (CExprKind-F.Not e)) (places_in e) (expression.rolls-Not e)
    (rw (fold-roll-CExpr, fold-roll-CExprKind) refl)

pub two-names : (op : Op) (left right : CExpr) → places_in (c_two op left right) ≡ places_in left ++ places_in right
two-names op left right =
    by_kind (expression.Two op left right) (roll-CExprKind (CExprKind-F.Two op left right)) (places_in left ++ places_in right)
    (expression.rolls-Two op left right) (rw (fold-roll-CExpr, fold-roll-CExprKind) refl)

pub called-names : (call : CCall) → places_in (c_expr (expression.Call call)) ≡ places_in_call call
called-names call =
    by_kind (expression.Call call) (roll-CExprKind (CExprKind-F.Call call)) (places_in_call call) (expression.rolls-Call call)
    (rw (fold-roll-CExpr, fold-roll-CExprKind) refl)

-- ---- statements

-- what is named in a statement of a form
by_form : (k made : CStmtKind) (places : CPaths) → made ≡ k → places_in_stmt (c_stmt made) ≡ places → places_in_stmt (c_stmt k) ≡ places
by_form k made places is shape = subst (λ (k : CStmtKind). places_in_stmt (c_stmt k) ≡ places) is shape

pub set-names : (place : CPlace) (value : CExpr) → places_in_stmt (c_set place value) ≡ places_in_place place ++ places_in value
set-names place value =
    by_form (statement.Set place value) (roll-CStmtKind (CStmtKind-F.Set place value)) (places_in_place place ++ places_in value)
    (statement.rolls-Set place value) (rw (fold-roll-CStmt, fold-roll-CStmtKind) refl)

pub clear-names : (place : CPlace) (name : Text) → places_in_stmt (c_clear place name) ≡ places_in_place place
clear-names place name =
    by_form (statement.Clear place name) (roll-CStmtKind (CStmtKind-F.Clear place name)) (places_in_place place)
    (statement.rolls-Clear place name) (rw (fold-roll-CStmt, fold-roll-CStmtKind) refl)

pub calling-names : (call : CCall) → places_in_stmt (c_calling call) ≡ places_in_call call
calling-names call =
    by_form (statement.Call call) (roll-CStmtKind (CStmtKind-F.Call call)) (places_in_call call) (statement.rolls-Call call)
    (rw (fold-roll-CStmt, fold-roll-CStmtKind) refl)

pub break-names : places_in_stmt c_break ≡ []
break-names = by_form statement.Break (roll-CStmtKind CStmtKind-F.Break) [] statement.rolls-Break (rw (fold-roll-CStmt, fold-roll-CStmtKind) refl)

pub loop-names : (turn : Text) (test : CExpr) (body : List CStmt) → places_in_stmt (c_loop turn test body) ≡ places_in test ++ places_in_block body
loop-names turn test body =
    by_form (statement.Loop turn test body) (roll-CStmtKind (CStmtKind-F.Loop turn test body)) (places_in test ++ places_in_block body)
    (statement.rolls-Loop turn test body) (rw (fold-roll-CStmt, fold-roll-CStmtKind) refl)

pub return-names : (value : Option CExpr) → places_in_stmt (c_return value) ≡ places_of_option value
return-names value =
    by_form (statement.Return value) (roll-CStmtKind (CStmtKind-F.Return value)) (places_of_option value) (statement.rolls-Return value) (form value)
  where
    form : (value : Option CExpr) → places_in_stmt (c_stmt (roll-CStmtKind (CStmtKind-F.Return value))) ≡ places_of_option value
    form None = rw (fold-roll-CStmt, fold-roll-CStmtKind) refl
    form (Some e) = rw (fold-roll-CStmt, fold-roll-CStmtKind) refl

-- what is named in an `else` that may be absent
abbrev pub other_places : Option (List CStmt) → CPaths
other_places other = block_or_none (option_map (map places_in_stmt) other)

pub if-names : (test : CExpr) (block : List CStmt) (other : Option (List CStmt)) → places_in_stmt (c_if test block other)
    ≡ (places_in test ++ places_in_block block) ++ other_places other
if-names test block other =
    by_form (statement.If test block other) (roll-CStmtKind (CStmtKind-F.If test block other)) ((places_in test ++ places_in_block block) ++ other_places other)
    (statement.rolls-If test block other) (form other)
  where
    form : (other : Option (List CStmt)) → places_in_stmt (c_stmt (roll-CStmtKind (CStmtKind-F.If test block other)))
        ≡ (places_in test ++ places_in_block block) ++ other_places other
    form None = rw (fold-roll-CStmt, fold-roll-CStmtKind) refl
    form (Some rest) = rw (fold-roll-CStmt, fold-roll-CStmtKind) refl
