-- Whether a part of a text has a spelling in which no more than so many brackets are open at once.
use Rattle.std.specs.Prelude.{ℕ, Bool, ◌&&◌, nat_le, List}
use Rattle.std.specs.List.{list_all}
use Rattle.bl_tree.specs.declared.c.CPlace.{CPlace}
use Rattle.bl_tree.specs.declared.c.CStep.{CStep}
use Rattle.bl_tree.specs.declared.c.CExpr.{CExpr}
use Rattle.bl_tree.specs.declared.c.CCall.{CCall}
use Rattle.bl_tree.specs.declared.c.CArg.{CArg}
use Rattle.bl_tree.specs.declared.c.CStmt.{CStmt}
use Rattle.bl_tree.specs.declared.c.CFunc.{CFunc}
use Rattle.bl_ctext.specs.Spellable.{spells_expr, spells_place, spells_step, spells_call, spells_arg, spells_stmt, spells_func}
use Rattle.bl_ctext.specs.inner.Depths.{expr_depth, place_depth, step_depth, call_depth, arg_depth, stmt_depth, func_depth}

-- whether a step of a place fits within this depth
unfoldable pub step_fits : ℕ → CStep → Bool
step_fits depth step = spells_step step && nat_le (step_depth step) depth

-- whether a place fits within this depth
unfoldable pub place_fits : ℕ → CPlace → Bool
place_fits depth place = spells_place place && nat_le (place_depth place) depth

-- whether an expression fits within this depth
unfoldable pub expr_fits : ℕ → CExpr → Bool
expr_fits depth e = spells_expr e && nat_le (expr_depth e) depth

-- whether an argument fits within this depth
unfoldable pub arg_fits : ℕ → CArg → Bool
arg_fits depth arg = spells_arg arg && nat_le (arg_depth arg) depth

-- whether a call fits within this depth
unfoldable pub call_fits : ℕ → CCall → Bool
call_fits depth call = spells_call call && nat_le (call_depth call) depth

-- whether a statement fits within this depth
unfoldable pub stmt_fits : ℕ → CStmt → Bool
stmt_fits depth s = spells_stmt s && nat_le (stmt_depth s) depth

-- each statement of a list
abbrev pub stmts_fit : ℕ → List CStmt → Bool
stmts_fit depth body = list_all (stmt_fits depth) body

-- whether a function fits within this depth
unfoldable pub func_fits : ℕ → CFunc → Bool
func_fits depth f = spells_func f && nat_le (func_depth f) depth
