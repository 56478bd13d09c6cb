-- What the parts of made C texts need to fit a depth.
use Rattle.std.proofs.Common.{◌≡◌, ℕ, ◌+◌, ◌≤◌, Bool, true, ◌&&◌, refl, subst, arith}
use Rattle.std.proofs.lemmas.Bool.Decides.{nat_tests}
use Rattle.bl_tree.proofs.Basics.{and_first}
use Rattle.bl_tree.specs.declared.text.Text.{Text}
use Rattle.bl_tree.specs.declared.c.CStep.{fold-roll-CStep}
use Rattle.bl_tree.specs.declared.c.CIndex.{fold-roll-CIndex}
use Rattle.bl_tree.specs.declared.c.CExpr.{CExpr, fold-roll-CExpr, roll-CExpr}
use Rattle.bl_tree.specs.declared.c.CExprKind.{CExprKind, CExprKind-F, fold-roll-CExprKind, roll-CExprKind}
use Rattle.bl_tree.specs.declared.c.CExprKind.TheVariants as expression
use Rattle.bl_ctext.specs.Names.{is_name}
use Rattle.bl_ctext.specs.Spellable.{is_length, spells_expr, spells_step}
use Rattle.bl_ctext.specs.inner.Depths.{expr_depth, step_depth}
use Rattle.bl_ctext.specs.inner.Fits.{expr_fits, step_fits}
use Rattle.bl_emit_acts.specs.Trees.{c_element, c_index, c_not, nowhere}
use Rattle.bl_ctext.proofs.Fitting.{bound, joined_fits}

not_open : (d e : ℕ) (a : CExpr) → d + 1 ≤ e → expr_fits d a ≡ true →
    expr_fits e (roll-CExpr (record { place = nowhere; what = roll-CExprKind (CExprKind-F.Not a) })) ≡ true
unfolding expr_fits
not_open d e a le h =
    let one : spells_expr a ≡ true = and_first _ _ h in
    let deep : expr_depth a ≤ d = bound (spells_expr a) (expr_depth a) d h in
    let code : CExpr = roll-CExpr (record { place = nowhere; what = roll-CExprKind (CExprKind-F.Not a) }) in
    let s : spells_expr code ≡ true = rw (fold-roll-CExpr, fold-roll-CExprKind) one in
    let m : expr_depth code ≤ e = rw (fold-roll-CExpr, fold-roll-CExprKind) (omega arith) in
    joined_fits (spells_expr code) (expr_depth code) e s m

-- `!` of what fits
pub not-fits : (d e : ℕ) (a : CExpr) → d + 1 ≤ e → expr_fits d a ≡ true → expr_fits e (c_not a) ≡ true
not-fits d e a le h =
    subst (λ (k : CExprKind). expr_fits e (roll-CExpr (record { place = nowhere; what = k })) ≡ true) (expression.rolls-Not a) (not_open d e a le h)

-- an element behind an index that fits
pub element-fits : (d e : ℕ) (name : Text) (signed : Bool) (index : CExpr) (n : ℕ) → d + 2 ≤ e → is_name name ≡ true → is_length n ≡ true →
    expr_fits d index ≡ true → step_fits e (c_element name (c_index signed index n)) ≡ true
unfolding expr_fits step_fits
element-fits d e name signed index n le named long h =
    let one : spells_expr index ≡ true = and_first _ _ h in
    let deep : expr_depth index ≤ d = bound (spells_expr index) (expr_depth index) d h in
    let s : spells_step (c_element name (c_index signed index n)) ≡ true = rw (fold-roll-CStep, fold-roll-CIndex, named, one, long) refl in
    let m : step_depth (c_element name (c_index signed index n)) ≤ e = rw (fold-roll-CStep, fold-roll-CIndex) (omega arith) in
    joined_fits (spells_step (c_element name (c_index signed index n))) (step_depth (c_element name (c_index signed index n))) e s m
