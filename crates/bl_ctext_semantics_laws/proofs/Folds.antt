-- What the further kinds of parts of expressions do over numbered cells.
use Rattle.std.proofs.Common.{ℤ}
use Rattle.bl_tree.specs.declared.c.CArg.{CArg, fold-CArg}
use Rattle.bl_tree.specs.declared.c.CExprKind.{CExprKind, fold-CExprKind}
use Rattle.bl_tree.specs.declared.c.CIndex.{CIndex, fold-CIndex}
use Rattle.bl_tree.specs.declared.c.CStep.{CStep, fold-CStep}
use Rattle.bl_ctext_semantics_laws.specs.Flat.{Evaluates, Grounded, Routine, arg_step, call_step, expr_step, index_step, kind_step, place_step, step_step}
use Rattle.bl_ctext_semantics_laws.specs.Reaching.{Index, StepInto}

abbrev pub arg_flat : CArg → Grounded (Evaluates ℤ)
arg_flat = fold-CArg _ _ _ _ _ _ _ arg_step kind_step call_step expr_step index_step place_step step_step

abbrev pub kind_flat : CExprKind → Grounded (Evaluates ℤ)
kind_flat = fold-CExprKind _ _ _ _ _ _ _ arg_step kind_step call_step expr_step index_step place_step step_step

abbrev pub index_flat : CIndex → Grounded (Index (Evaluates ℤ))
index_flat = fold-CIndex _ _ _ _ _ _ _ arg_step kind_step call_step expr_step index_step place_step step_step

abbrev pub step_flat : CStep → StepInto Routine (Evaluates ℤ)
step_flat = fold-CStep _ _ _ _ _ _ _ arg_step kind_step call_step expr_step index_step place_step step_step
