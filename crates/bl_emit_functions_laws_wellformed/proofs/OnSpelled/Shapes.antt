-- What further kinds of statements need to fit a depth.
use Rattle.std.proofs.Common.{◌≡◌, ℕ, ◌+◌, ◌≤◌, true, ◌&&◌, nat_le, List}
use Rattle.std.proofs.Common.{[], ◌∷◌, map, Some, None, refl, sym, subst, arith}
use Rattle.std.proofs.lemmas.Bool.Decides.{nat_tests}
use Rattle.bl_tree.proofs.Basics.{and_first, and_second}
use Rattle.bl_tree.specs.declared.text.Text.{Text}
use Rattle.bl_tree.specs.declared.c.CExpr.{CExpr, fold-roll-CExpr, roll-CExpr}
use Rattle.bl_tree.specs.declared.c.CExprKind.{CExprKind, CExprKind-F, fold-roll-CExprKind, roll-CExprKind}
use Rattle.bl_tree.specs.declared.c.CExprKind.TheVariants as expression
use Rattle.bl_tree.specs.declared.c.CPlace.{CPlace}
use Rattle.bl_tree.specs.declared.c.CStmt.{CStmt, fold-roll-CStmt, roll-CStmt}
use Rattle.bl_tree.specs.declared.c.CStmtKind.{CStmtKind, CStmtKind-F, fold-roll-CStmtKind, roll-CStmtKind}
use Rattle.bl_tree.specs.declared.c.CStmtKind.TheVariants as statement
use Rattle.bl_tree.specs.Reduce.{all_of, greatest}
use Rattle.bl_ctext.specs.Names.{is_struct_name, is_turn_name}
use Rattle.bl_ctext.specs.Spellable.{spells_expr, spells_place, spells_stmt}
use Rattle.bl_ctext.specs.inner.Depths.{expr_depth, place_depth, stmt_depth}
use Rattle.bl_ctext.specs.inner.Fits.{expr_fits, place_fits, stmt_fits, stmts_fit}
use Rattle.bl_emit_acts.specs.Acts.{c_clear}
use Rattle.bl_emit_acts.specs.Trees.{c_read, nowhere}
use Rattle.bl_emit_functions.specs.Trees.{c_break, c_if, c_loop, c_return}
use Rattle.bl_ctext.proofs.Fitting.{bound, joined_fits}

block-spells : (d : ℕ) (body : List CStmt) → stmts_fit d body ≡ true → all_of (map spells_stmt body) ≡ true
unfolding stmt_fits
block-spells d [] h = refl
block-spells d (s ∷ body) h =
    let here : stmt_fits d s ≡ true = and_first (stmt_fits d s) (stmts_fit d body) h in
    rw (and_first (spells_stmt s) (nat_le (stmt_depth s) d) here) (block-spells d body (and_second (stmt_fits d s) (stmts_fit d body) h))

block-depth : (d : ℕ) (body : List CStmt) → stmts_fit d body ≡ true → greatest (map stmt_depth body) ≤ d
unfolding stmt_fits
block-depth d [] h = omega arith
block-depth d (s ∷ body) h =
    let here : stmt_depth s ≤ d = bound (spells_stmt s) (stmt_depth s) d (and_first (stmt_fits d s) (stmts_fit d body) h) in
    let rest : greatest (map stmt_depth body) ≤ d = block-depth d body (and_second (stmt_fits d s) (stmts_fit d body) h) in
    omega (arith, here, rest)

abbrev layered : CStmtKind-F CStmtKind CStmt → CStmt
layered layer = roll-CStmt (record { place = nowhere; what = roll-CStmtKind layer })

abbrev closed : CStmtKind → CStmt
closed kind = roll-CStmt (record { place = nowhere; what = kind })

clear_open : (d : ℕ) (at : CPlace) (name : Text) → 1 ≤ d → is_struct_name name ≡ true → place_fits d at ≡ true →
    stmt_fits d (layered (CStmtKind-F.Clear at name)) ≡ true
unfolding stmt_fits place_fits
clear_open d at name low named h =
    let one : spells_place at ≡ true = and_first _ _ h in
    let deep : place_depth at ≤ d = bound (spells_place at) (place_depth at) d h in
    let s : spells_stmt (layered (CStmtKind-F.Clear at name)) ≡ true = rw (fold-roll-CStmt, fold-roll-CStmtKind, one, named) refl in
    let m : stmt_depth (layered (CStmtKind-F.Clear at name)) ≤ d = rw (fold-roll-CStmt, fold-roll-CStmtKind) (omega (arith, deep, low)) in
    joined_fits _ (stmt_depth (layered (CStmtKind-F.Clear at name))) d s m

-- a struct that is cleared
pub clear-fits : (d : ℕ) (at : CPlace) (name : Text) → 1 ≤ d → is_struct_name name ≡ true → place_fits d at ≡ true →
    stmt_fits d (c_clear at name) ≡ true
clear-fits d at name low named h =
    subst (λ (k : CStmtKind). stmt_fits d (closed k) ≡ true) (statement.rolls-Clear at name) (clear_open d at name low named h)

break_open : (d : ℕ) → stmt_fits d (layered CStmtKind-F.Break) ≡ true
unfolding stmt_fits
break_open d =
    let s : spells_stmt (layered CStmtKind-F.Break) ≡ true = rw (fold-roll-CStmt, fold-roll-CStmtKind) refl in
    let m : stmt_depth (layered CStmtKind-F.Break) ≤ d = rw (fold-roll-CStmt, fold-roll-CStmtKind) (omega arith) in
    joined_fits _ (stmt_depth (layered CStmtKind-F.Break)) d s m

-- `break`
pub break-fits : (d : ℕ) → stmt_fits d c_break ≡ true
break-fits d = subst (λ (k : CStmtKind). stmt_fits d (closed k) ≡ true) statement.rolls-Break (break_open d)

end_open : (d : ℕ) → stmt_fits d (layered (CStmtKind-F.Return None)) ≡ true
unfolding stmt_fits
end_open d =
    let s : spells_stmt (layered (CStmtKind-F.Return None)) ≡ true = rw (fold-roll-CStmt, fold-roll-CStmtKind) refl in
    let m : stmt_depth (layered (CStmtKind-F.Return None)) ≤ d = rw (fold-roll-CStmt, fold-roll-CStmtKind) (omega arith) in
    joined_fits _ (stmt_depth (layered (CStmtKind-F.Return None))) d s m

-- `return` without a value
pub end-fits : (d : ℕ) → stmt_fits d (c_return None) ≡ true
end-fits d = subst (λ (k : CStmtKind). stmt_fits d (closed k) ≡ true) (statement.rolls-Return None) (end_open d)

else_open : (d e : ℕ) (test : CExpr) (body other : List CStmt) → d + 1 ≤ e → expr_fits d test ≡ true → stmts_fit d body ≡ true →
    stmts_fit d other ≡ true → stmt_fits e (layered (CStmtKind-F.If test body (Some other))) ≡ true
unfolding stmt_fits expr_fits
else_open d e test body other le h i j =
    let one : spells_expr test ≡ true = and_first _ _ h in
    let left : expr_depth test ≤ d = bound (spells_expr test) (expr_depth test) d h in
    let all : all_of (map spells_stmt body) ≡ true = block-spells d body i in
    let few : greatest (map stmt_depth body) ≤ d = block-depth d body i in
    let all_others : all_of (map spells_stmt other) ≡ true = block-spells d other j in
    let few_others : greatest (map stmt_depth other) ≤ d = block-depth d other j in
    let s : spells_stmt (layered (CStmtKind-F.If test body (Some other))) ≡ true =
    rw (fold-roll-CStmt, fold-roll-CStmtKind, one, all, all_others) refl in
    let m : stmt_depth (layered (CStmtKind-F.If test body (Some other))) ≤ e =
    rw (fold-roll-CStmt, fold-roll-CStmtKind) (omega (arith, left, few, few_others, le)) in
    joined_fits _ (stmt_depth (layered (CStmtKind-F.If test body (Some other)))) e s m

-- an `if` with an `else`
pub else-fits : (d e : ℕ) (test : CExpr) (body other : List CStmt) → d + 1 ≤ e → expr_fits d test ≡ true → stmts_fit d body ≡ true →
    stmts_fit d other ≡ true → stmt_fits e (c_if test body (Some other)) ≡ true
else-fits d e test body other le h i j =
    subst (λ (k : CStmtKind). stmt_fits e (closed k) ≡ true) (statement.rolls-If test body (Some other)) (else_open d e test body other le h i j)

loop_open : (d e : ℕ) (turn : Text) (test : CExpr) (body : List CStmt) → d + 2 ≤ e → 1 ≤ d → is_turn_name turn ≡ true →
    expr_fits d test ≡ true → stmts_fit d body ≡ true → stmt_fits e (layered (CStmtKind-F.Loop turn test body)) ≡ true
unfolding stmt_fits expr_fits
loop_open d e turn test body le low named h i =
    let one : spells_expr test ≡ true = and_first _ _ h in
    let left : expr_depth test ≤ d = bound (spells_expr test) (expr_depth test) d h in
    let all : all_of (map spells_stmt body) ≡ true = block-spells d body i in
    let few : greatest (map stmt_depth body) ≤ d = block-depth d body i in
    let s : spells_stmt (layered (CStmtKind-F.Loop turn test body)) ≡ true = rw (fold-roll-CStmt, fold-roll-CStmtKind, named, one, all) refl in
    let m : stmt_depth (layered (CStmtKind-F.Loop turn test body)) ≤ e =
    rw (fold-roll-CStmt, fold-roll-CStmtKind) (omega (arith, left, few, le, low)) in
    joined_fits _ (stmt_depth (layered (CStmtKind-F.Loop turn test body))) e s m

-- a loop
pub loop-fits : (d e : ℕ) (turn : Text) (test : CExpr) (body : List CStmt) → d + 2 ≤ e → 1 ≤ d → is_turn_name turn ≡ true →
    expr_fits d test ≡ true → stmts_fit d body ≡ true → stmt_fits e (c_loop turn test body) ≡ true
loop-fits d e turn test body le low named h i =
    subst (λ (k : CStmtKind). stmt_fits e (closed k) ≡ true) (statement.rolls-Loop turn test body) (loop_open d e turn test body le low named h i)

abbrev reading : CPlace → CExpr
reading at = roll-CExpr (record { place = nowhere; what = roll-CExprKind (CExprKind-F.Read at) })

read_open : (d : ℕ) (place : CPlace) → expr_fits d (reading place) ≡ true → place_fits d place ≡ true
unfolding expr_fits place_fits
read_open d place h =
    let spelled : spells_expr (reading place) ≡ true = and_first (spells_expr (reading place)) _ h in
    let within : expr_depth (reading place) ≤ d = bound (spells_expr (reading place)) (expr_depth (reading place)) d h in
    let one : spells_place place ≡ true = rw (fold-roll-CExpr, fold-roll-CExprKind) at spelled in
    let deep : place_depth place ≤ d = rw (fold-roll-CExpr, fold-roll-CExprKind) at within in
    joined_fits (spells_place place) (place_depth place) d one deep

-- a place fits where what stands there does
pub read-place : (d : ℕ) (place : CPlace) → expr_fits d (c_read place) ≡ true → place_fits d place ≡ true
read-place d place h =
    read_open d place (subst (λ (k : CExprKind). expr_fits d (roll-CExpr (record { place = nowhere; what = k })) ≡ true)
    (sym (expression.rolls-Read place)) h)
