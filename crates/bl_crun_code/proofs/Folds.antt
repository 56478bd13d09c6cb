-- The code of the further kinds of parts of expressions.
use Rattle.bl_tree.specs.declared.c.CExprKind.{CExprKind, fold-CExprKind}
use Rattle.bl_tree.specs.declared.c.CIndex.{CIndex, fold-CIndex}
use Rattle.bl_tree.specs.declared.c.CStep.{CStep, fold-CStep}
use Rattle.bl_ctext_semantics_laws.specs.Reaching.{Index, StepInto}
use Rattle.bl_crun_code.specs.Code.{Coded, FunctionEntry, Valued, arg_step, call_step, expr_step, index_step, kind_step, place_step, step_step}

abbrev pub kind_code : CExprKind → Coded Valued
kind_code = fold-CExprKind _ _ _ _ _ _ _ arg_step kind_step call_step expr_step index_step place_step step_step

abbrev pub index_code : CIndex → Coded (Index Valued)
index_code = fold-CIndex _ _ _ _ _ _ _ arg_step kind_step call_step expr_step index_step place_step step_step

abbrev pub step_code : CStep → StepInto FunctionEntry Valued
step_code = fold-CStep _ _ _ _ _ _ _ arg_step kind_step call_step expr_step index_step place_step step_step
