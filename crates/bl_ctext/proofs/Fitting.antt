-- What fits a depth, by what it is made of.
use Rattle.std.proofs.Common.{◌≡◌, ℕ, ◌+◌, ◌≤◌, ℤ, Bool, true, ◌&&◌, nat_le, List, [], ◌∷◌, ◌++◌, map, Some, None, refl, subst, arith}
use Rattle.std.proofs.lemmas.Bool.Decides.{nat_tests}
use Rattle.std.specs.List.{list_all}
use Rattle.bl_tree.proofs.Basics.{all_of_each, and_first, and_second}
use Rattle.bl_tree.specs.declared.place.Place.{Place}
use Rattle.bl_tree.specs.declared.scalar.Scalar.{Scalar}
use Rattle.bl_tree.specs.declared.scalar.Op.{Op}
use Rattle.bl_tree.specs.declared.c.CPlace.{CPlace, fold-roll-CPlace, roll-CPlace}
use Rattle.bl_tree.specs.declared.c.CStep.{CStep, fold-roll-CStep, roll-CStep}
use Rattle.bl_tree.specs.declared.c.CIndex.{CIndex}
use Rattle.bl_tree.specs.declared.c.CExpr.{CExpr, fold-roll-CExpr, roll-CExpr}
use Rattle.bl_tree.specs.declared.c.CExprKind.{CExprKind, CExprKind-F, fold-roll-CExprKind, roll-CExprKind}
use Rattle.bl_tree.specs.declared.c.CExprKind.TheVariants as expression
use Rattle.bl_tree.specs.declared.c.CStmtKind.TheVariants as statement
use Rattle.bl_tree.specs.declared.c.CArg.TheVariants as argument
use Rattle.bl_tree.specs.declared.c.CCall.{CCall, fold-roll-CCall, roll-CCall}
use Rattle.bl_tree.specs.declared.c.CArg.{CArg, CArg-F, fold-roll-CArg, roll-CArg}
use Rattle.bl_tree.specs.declared.c.CStmt.{CStmt, fold-roll-CStmt, roll-CStmt}
use Rattle.bl_tree.specs.declared.c.CStmtKind.{CStmtKind, CStmtKind-F, fold-roll-CStmtKind, roll-CStmtKind}
use Rattle.bl_tree.specs.declared.c.CMember.{CMember}
use Rattle.bl_tree.specs.declared.c.CStruct.{CStruct}
use Rattle.bl_tree.specs.declared.c.CFunc.{CFunc}
use Rattle.bl_tree.specs.Reduce.{all_of, greatest}
use Rattle.bl_ctext.specs.Names.{is_name, is_callee, is_function_name, is_struct_name}
use Rattle.bl_ctext.specs.Spellable.{is_literal, is_c_operator, has_any, is_spellable, spells_expr, spells_place, spells_step, spells_call}
use Rattle.bl_ctext.specs.Spellable.{spells_arg, spells_stmt, spells_param, spells_local, spells_returned, spells_func, spells_struct, spells_member}
use Rattle.bl_ctext.specs.inner.Depths.{expr_depth, place_depth, step_depth, call_depth, arg_depth, stmt_depth, func_depth}
use Rattle.bl_ctext.specs.inner.Fits.{step_fits, place_fits, expr_fits, arg_fits, call_fits, stmt_fits, stmts_fit, func_fits}
use Rattle.bl_ctext.proofs.TextNesting.{spellable-by}

-- a test and a bound, from the two and back
pub joined_fits : (spells : Bool) (n d : ℕ) → spells ≡ true → n ≤ d → (spells && nat_le n d) ≡ true
joined_fits spells n d h le = let test : nat_le n d ≡ true = grind (arith, nat_tests) in rw (h, test) refl

pub bound : (spells : Bool) (n d : ℕ) → (spells && nat_le n d) ≡ true → n ≤ d
bound spells n d h = let test : nat_le n d ≡ true = and_second spells (nat_le n d) h in grind (arith, nat_tests)

list-spells : {A : Type 0} (spells : A → Bool) (depth : A → ℕ) (d : ℕ) (xs : List A) → list_all (λ x. spells x && nat_le (depth x) d) xs ≡ true →
    all_of (map spells xs) ≡ true
list-spells spells depth d [] h = refl
list-spells spells depth d (x ∷ xs) h =
    let here : (spells x && nat_le (depth x) d) ≡ true = and_first _ (list_all (λ x. spells x && nat_le (depth x) d) xs) h in
    rw (and_first (spells x) (nat_le (depth x) d) here) (list-spells spells depth d xs (and_second (spells x && nat_le (depth x) d) _ h))

list-depth : {A : Type 0} (spells : A → Bool) (depth : A → ℕ) (d : ℕ) (xs : List A) → list_all (λ x. spells x && nat_le (depth x) d) xs ≡ true →
    greatest (map depth xs) ≤ d
list-depth spells depth d [] h = omega arith
list-depth spells depth d (x ∷ xs) h =
    let here : depth x ≤ d = bound (spells x) (depth x) d (and_first _ (list_all (λ x. spells x && nat_le (depth x) d) xs) h) in
    let rest : greatest (map depth xs) ≤ d = list-depth spells depth d xs (and_second (spells x && nat_le (depth x) d) _ h) in
    omega arith

pub step-fits : (d : ℕ) (name : List ℕ) → is_name name ≡ true → step_fits d (roll-CStep (record { member = name; index = None })) ≡ true
unfolding step_fits
step-fits d name h =
    let e : spells_step (roll-CStep (record { member = name; index = None })) ≡ true = rw (fold-roll-CStep, h) refl in
    let n : step_depth (roll-CStep (record { member = name; index = None })) ≤ d = rw fold-roll-CStep (omega arith) in
    joined_fits _ (step_depth (roll-CStep (record { member = name; index = None }))) d e n

pub place-fits : (d : ℕ) (through : Bool) (name : List ℕ) (steps : List CStep) → 1 ≤ d → is_name name ≡ true →
    list_all (step_fits d) steps ≡ true →
    place_fits d (roll-CPlace (record { through = through; name = name; steps = steps })) ≡ true
unfolding place_fits step_fits
place-fits d through name steps le h i =
    let all : all_of (map spells_step steps) ≡ true = list-spells spells_step step_depth d steps i in
    let few : greatest (map step_depth steps) ≤ d = list-depth spells_step step_depth d steps i in
    let e : spells_place (roll-CPlace (record { through = through; name = name; steps = steps })) ≡ true = rw (fold-roll-CPlace, h, all) refl in
    let n : place_depth (roll-CPlace (record { through = through; name = name; steps = steps })) ≤ d = rw fold-roll-CPlace (omega arith) in
    joined_fits _ (place_depth (roll-CPlace (record { through = through; name = name; steps = steps }))) d e n

-- what fits a depth fits a greater one
pub place_fits-more : (d e : ℕ) (at : CPlace) → d ≤ e → place_fits d at ≡ true → place_fits e at ≡ true
unfolding place_fits
place_fits-more d e at le h = joined_fits (spells_place at) (place_depth at) e (and_first _ _ h) (omega (arith, bound (spells_place at) (place_depth at) d h))

pub expr_fits-more : (d e : ℕ) (value : CExpr) → d ≤ e → expr_fits d value ≡ true → expr_fits e value ≡ true
unfolding expr_fits
expr_fits-more d e value le h =
    joined_fits (spells_expr value) (expr_depth value) e (and_first _ _ h) (omega (arith, bound (spells_expr value) (expr_depth value) d h))

pub stmt_fits-more : (d e : ℕ) (s : CStmt) → d ≤ e → stmt_fits d s ≡ true → stmt_fits e s ≡ true
unfolding stmt_fits
stmt_fits-more d e s le h = joined_fits (spells_stmt s) (stmt_depth s) e (and_first _ _ h) (omega (arith, bound (spells_stmt s) (stmt_depth s) d h))

pub stmts_fit-more : (d e : ℕ) (body : List CStmt) → d ≤ e → stmts_fit d body ≡ true → stmts_fit e body ≡ true
stmts_fit-more d e [] le h = refl
stmts_fit-more d e (s ∷ body) le h =
    rw (stmt_fits-more d e s le (and_first (stmt_fits d s) (stmts_fit d body) h)) (stmts_fit-more d e body le (and_second (stmt_fits d s) (stmts_fit d body) h))

abbrev kind : Place → CExprKind-F CArg CExprKind CCall CExpr CIndex CPlace CStep → CExpr
kind place layer = roll-CExpr (record { place = place; what = roll-CExprKind layer })

literal_open-fits : (d : ℕ) (place : Place) (s : Scalar) (n : ℤ) → 2 ≤ d → is_literal s n ≡ true →
    expr_fits d (kind place (CExprKind-F.Literal s n)) ≡ true
unfolding expr_fits
literal_open-fits d place s n le h =
    let e : spells_expr (kind place (CExprKind-F.Literal s n)) ≡ true = rw (fold-roll-CExpr, fold-roll-CExprKind) h in
    let m : expr_depth (kind place (CExprKind-F.Literal s n)) ≤ d = rw (fold-roll-CExpr, fold-roll-CExprKind) le in
    joined_fits _ (expr_depth (kind place (CExprKind-F.Literal s n))) d e m

read_open-fits : (d : ℕ) (place : Place) (at : CPlace) → place_fits d at ≡ true → expr_fits d (kind place (CExprKind-F.Read at)) ≡ true
unfolding expr_fits place_fits
read_open-fits d place at h =
    let e : spells_expr (kind place (CExprKind-F.Read at)) ≡ true = rw (fold-roll-CExpr, fold-roll-CExprKind) (and_first _ _ h) in
    let m : expr_depth (kind place (CExprKind-F.Read at)) ≤ d = rw (fold-roll-CExpr, fold-roll-CExprKind) (bound (spells_place at) (place_depth at) d h) in
    joined_fits _ (expr_depth (kind place (CExprKind-F.Read at))) d e m

called_open-fits : (d : ℕ) (place : Place) (call : CCall) → call_fits d call ≡ true → expr_fits d (kind place (CExprKind-F.Call call)) ≡ true
unfolding expr_fits call_fits
called_open-fits d place call h =
    let e : spells_expr (kind place (CExprKind-F.Call call)) ≡ true = rw (fold-roll-CExpr, fold-roll-CExprKind) (and_first _ _ h) in
    let m : expr_depth (kind place (CExprKind-F.Call call)) ≤ d =
    rw (fold-roll-CExpr, fold-roll-CExprKind) (bound (spells_call call) (call_depth call) d h) in
    joined_fits _ (expr_depth (kind place (CExprKind-F.Call call))) d e m

two_open-fits : (d e : ℕ) (place : Place) (o : Op) (a b : CExpr) → d + 1 ≤ e → is_c_operator o ≡ true → expr_fits d a ≡ true →
    expr_fits d b ≡ true →
    expr_fits e (kind place (CExprKind-F.Two o a b)) ≡ true
unfolding expr_fits
two_open-fits d e place o a b le h i j =
    let left : expr_depth a ≤ d = bound (spells_expr a) (expr_depth a) d i in
    let right : expr_depth b ≤ d = bound (spells_expr b) (expr_depth b) d j in
    let one : spells_expr a ≡ true = and_first _ _ i in
    let other : spells_expr b ≡ true = and_first _ _ j in
    let s : spells_expr (kind place (CExprKind-F.Two o a b)) ≡ true = rw (fold-roll-CExpr, fold-roll-CExprKind, h, one, other) refl in
    let m : expr_depth (kind place (CExprKind-F.Two o a b)) ≤ e = rw (fold-roll-CExpr, fold-roll-CExprKind) (omega arith) in
    joined_fits _ (expr_depth (kind place (CExprKind-F.Two o a b))) e s m

value_open-fits : (d : ℕ) (value : CExpr) → expr_fits d value ≡ true → arg_fits d (roll-CArg (CArg-F.Value value)) ≡ true
unfolding arg_fits expr_fits
value_open-fits d value h =
    let e : spells_arg (roll-CArg (CArg-F.Value value)) ≡ true = rw fold-roll-CArg (and_first _ _ h) in
    let m : arg_depth (roll-CArg (CArg-F.Value value)) ≤ d = rw fold-roll-CArg (bound (spells_expr value) (expr_depth value) d h) in
    joined_fits _ (arg_depth (roll-CArg (CArg-F.Value value))) d e m

address_open-fits : (d : ℕ) (at : CPlace) → place_fits d at ≡ true → arg_fits d (roll-CArg (CArg-F.Address at)) ≡ true
unfolding arg_fits place_fits
address_open-fits d at h =
    let e : spells_arg (roll-CArg (CArg-F.Address at)) ≡ true = rw fold-roll-CArg (and_first _ _ h) in
    let m : arg_depth (roll-CArg (CArg-F.Address at)) ≤ d = rw fold-roll-CArg (bound (spells_place at) (place_depth at) d h) in
    joined_fits _ (arg_depth (roll-CArg (CArg-F.Address at))) d e m

pub call-fits : (d e : ℕ) (name : List ℕ) (args : List CArg) → d + 1 ≤ e → is_callee name ≡ true → list_all (arg_fits d) args ≡ true →
    call_fits e (roll-CCall (record { name = name; args = args })) ≡ true
unfolding call_fits arg_fits
call-fits d e name args le h i =
    let all : all_of (map spells_arg args) ≡ true = list-spells spells_arg arg_depth d args i in
    let few : greatest (map arg_depth args) ≤ d = list-depth spells_arg arg_depth d args i in
    let s : spells_call (roll-CCall (record { name = name; args = args })) ≡ true = rw (fold-roll-CCall, h, all) refl in
    let m : call_depth (roll-CCall (record { name = name; args = args })) ≤ e = rw fold-roll-CCall (omega arith) in
    joined_fits _ (call_depth (roll-CCall (record { name = name; args = args }))) e s m

abbrev what : Place → CStmtKind-F CStmtKind CStmt → CStmt
what place layer = roll-CStmt (record { place = place; what = roll-CStmtKind layer })

set_open-fits : (d : ℕ) (place : Place) (at : CPlace) (value : CExpr) → place_fits d at ≡ true → expr_fits d value ≡ true →
    stmt_fits d (what place (CStmtKind-F.Set at value)) ≡ true
unfolding stmt_fits place_fits expr_fits
set_open-fits d place at value h i =
    let one : spells_place at ≡ true = and_first _ _ h in
    let other : spells_expr value ≡ true = and_first _ _ i in
    let left : place_depth at ≤ d = bound (spells_place at) (place_depth at) d h in
    let right : expr_depth value ≤ d = bound (spells_expr value) (expr_depth value) d i in
    let s : spells_stmt (what place (CStmtKind-F.Set at value)) ≡ true = rw (fold-roll-CStmt, fold-roll-CStmtKind, one, other) refl in
    let m : stmt_depth (what place (CStmtKind-F.Set at value)) ≤ d = rw (fold-roll-CStmt, fold-roll-CStmtKind) (omega arith) in
    joined_fits _ (stmt_depth (what place (CStmtKind-F.Set at value))) d s m

call_stmt_open-fits : (d : ℕ) (place : Place) (call : CCall) → call_fits d call ≡ true → stmt_fits d (what place (CStmtKind-F.Call call)) ≡ true
unfolding stmt_fits call_fits
call_stmt_open-fits d place call h =
    let s : spells_stmt (what place (CStmtKind-F.Call call)) ≡ true = rw (fold-roll-CStmt, fold-roll-CStmtKind) (and_first _ _ h) in
    let m : stmt_depth (what place (CStmtKind-F.Call call)) ≤ d =
    rw (fold-roll-CStmt, fold-roll-CStmtKind) (bound (spells_call call) (call_depth call) d h) in
    joined_fits _ (stmt_depth (what place (CStmtKind-F.Call call))) d s m

return_open-fits : (d : ℕ) (place : Place) (value : CExpr) → expr_fits d value ≡ true →
    stmt_fits d (what place (CStmtKind-F.Return (Some value))) ≡ true
unfolding stmt_fits expr_fits
return_open-fits d place value h =
    let s : spells_stmt (what place (CStmtKind-F.Return (Some value))) ≡ true = rw (fold-roll-CStmt, fold-roll-CStmtKind) (and_first _ _ h) in
    let m : stmt_depth (what place (CStmtKind-F.Return (Some value))) ≤ d =
    rw (fold-roll-CStmt, fold-roll-CStmtKind) (bound (spells_expr value) (expr_depth value) d h) in
    joined_fits _ (stmt_depth (what place (CStmtKind-F.Return (Some value)))) d s m

if_open-fits : (d e : ℕ) (place : Place) (test : CExpr) (body : List CStmt) → d + 1 ≤ e → expr_fits d test ≡ true → stmts_fit d body ≡ true →
    stmt_fits e (what place (CStmtKind-F.If test body None)) ≡ true
unfolding stmt_fits expr_fits
if_open-fits d e place test body le h i =
    let one : spells_expr test ≡ true = and_first _ _ h in
    let left : expr_depth test ≤ d = bound (spells_expr test) (expr_depth test) d h in
    let all : all_of (map spells_stmt body) ≡ true = list-spells spells_stmt stmt_depth d body i in
    let few : greatest (map stmt_depth body) ≤ d = list-depth spells_stmt stmt_depth d body i in
    let s : spells_stmt (what place (CStmtKind-F.If test body None)) ≡ true = rw (fold-roll-CStmt, fold-roll-CStmtKind, one, all) refl in
    let m : stmt_depth (what place (CStmtKind-F.If test body None)) ≤ e = rw (fold-roll-CStmt, fold-roll-CStmtKind) (omega arith) in
    joined_fits _ (stmt_depth (what place (CStmtKind-F.If test body None))) e s m

pub literal-fits : (d : ℕ) (place : Place) (s : Scalar) (n : ℤ) → 2 ≤ d → is_literal s n ≡ true →
    expr_fits d (roll-CExpr (record { place = place; what = expression.Literal s n })) ≡ true
literal-fits d place s n le h =
    subst (λ (k : CExprKind). expr_fits d (roll-CExpr (record { place = place; what = k })) ≡ true) (expression.rolls-Literal s n)
    (literal_open-fits d place s n le h)

pub read-fits : (d : ℕ) (place : Place) (at : CPlace) → place_fits d at ≡ true →
    expr_fits d (roll-CExpr (record { place = place; what = expression.Read at })) ≡ true
read-fits d place at h =
    subst (λ (k : CExprKind). expr_fits d (roll-CExpr (record { place = place; what = k })) ≡ true) (expression.rolls-Read at) (read_open-fits d place at h)

pub called-fits : (d : ℕ) (place : Place) (call : CCall) → call_fits d call ≡ true →
    expr_fits d (roll-CExpr (record { place = place; what = expression.Call call })) ≡ true
called-fits d place call h =
    subst (λ (k : CExprKind). expr_fits d (roll-CExpr (record { place = place; what = k })) ≡ true) (expression.rolls-Call call)
    (called_open-fits d place call h)

pub two-fits : (d e : ℕ) (place : Place) (o : Op) (a b : CExpr) → d + 1 ≤ e → is_c_operator o ≡ true → expr_fits d a ≡ true →
    expr_fits d b ≡ true →
    expr_fits e (roll-CExpr (record { place = place; what = expression.Two o a b })) ≡ true
two-fits d e place o a b le h i j =
    subst (λ (k : CExprKind). expr_fits e (roll-CExpr (record { place = place; what = k })) ≡ true) (expression.rolls-Two o a b)
    (two_open-fits d e place o a b le h i j)

pub value-fits : (d : ℕ) (value : CExpr) → expr_fits d value ≡ true → arg_fits d (argument.Value value) ≡ true
value-fits d value h = subst (λ (arg : CArg). arg_fits d arg ≡ true) (argument.rolls-Value value) (value_open-fits d value h)

pub address-fits : (d : ℕ) (at : CPlace) → place_fits d at ≡ true → arg_fits d (argument.Address at) ≡ true
address-fits d at h = subst (λ (arg : CArg). arg_fits d arg ≡ true) (argument.rolls-Address at) (address_open-fits d at h)

pub set-fits : (d : ℕ) (place : Place) (at : CPlace) (value : CExpr) → place_fits d at ≡ true → expr_fits d value ≡ true →
    stmt_fits d (roll-CStmt (record { place = place; what = statement.Set at value })) ≡ true
set-fits d place at value h i =
    subst (λ (k : CStmtKind). stmt_fits d (roll-CStmt (record { place = place; what = k })) ≡ true) (statement.rolls-Set at value)
    (set_open-fits d place at value h i)

pub call_stmt-fits : (d : ℕ) (place : Place) (call : CCall) → call_fits d call ≡ true →
    stmt_fits d (roll-CStmt (record { place = place; what = statement.Call call })) ≡ true
call_stmt-fits d place call h =
    subst (λ (k : CStmtKind). stmt_fits d (roll-CStmt (record { place = place; what = k })) ≡ true) (statement.rolls-Call call)
    (call_stmt_open-fits d place call h)

pub return-fits : (d : ℕ) (place : Place) (value : CExpr) → expr_fits d value ≡ true →
    stmt_fits d (roll-CStmt (record { place = place; what = statement.Return (Some value) })) ≡ true
return-fits d place value h =
    subst (λ (k : CStmtKind). stmt_fits d (roll-CStmt (record { place = place; what = k })) ≡ true) (statement.rolls-Return (Some value))
    (return_open-fits d place value h)

pub if-fits : (d e : ℕ) (place : Place) (test : CExpr) (body : List CStmt) → d + 1 ≤ e → expr_fits d test ≡ true → stmts_fit d body ≡ true →
    stmt_fits e (roll-CStmt (record { place = place; what = statement.If test body None })) ≡ true
if-fits d e place test body le h i =
    subst (λ (k : CStmtKind). stmt_fits e (roll-CStmt (record { place = place; what = k })) ≡ true) (statement.rolls-If test body None)
    (if_open-fits d e place test body le h i)

pub func-fits : (d e : ℕ) (f : CFunc) → d + 1 ≤ e → 1 ≤ d → spells_returned f.result ≡ true → is_function_name f.name ≡ true →
    list_all spells_param f.params ≡ true → list_all spells_local f.locals ≡ true → stmts_fit d f.body ≡ true →
    func_fits e f ≡ true
unfolding func_fits stmt_fits
func-fits d e f le le' result named params locals body =
    let all : all_of (map spells_stmt f.body) ≡ true = list-spells spells_stmt stmt_depth d f.body body in
    let few : greatest (map stmt_depth f.body) ≤ d = list-depth spells_stmt stmt_depth d f.body body in
    let h : all_of (map spells_param f.params) ≡ true = all_of_each spells_param f.params params in
    let i : all_of (map spells_local f.locals) ≡ true = all_of_each spells_local f.locals locals in
    joined_fits (spells_func f) (func_depth f) e (rw (result, named, h, i, all) refl) (omega arith)

pub struct-spells : (place : Place) (name : List ℕ) (members : List CMember) → is_struct_name name ≡ true → has_any members ≡ true →
    list_all spells_member members ≡ true →
    spells_struct (record { place = place; name = name; members = members }) ≡ true
struct-spells place name members named some all =
    let h : all_of (map spells_member members) ≡ true = all_of_each spells_member members all in
    rw (named, some, h) refl

-- A text of at least one struct and one function has a spelling where all its structs have and its functions fit.
pub file-spells : (structs : List CStruct) (funcs : List CFunc) → has_any structs ≡ true → has_any funcs ≡ true →
    list_all spells_struct structs ≡ true →
    list_all (func_fits 2000) funcs ≡ true →
    is_spellable structs funcs ≡ true
unfolding func_fits
file-spells structs funcs some some' h i =
    spellable-by structs funcs some some' (all_of_each spells_struct structs h) (list-spells spells_func func_depth 2000 funcs i)
    (list-depth spells_func func_depth 2000 funcs i)
