-- What the further kinds of parts of expressions mean, which functions they call, and how they are judged.
use Rattle.std.proofs.Common.{List}
use Rattle.bl_tree.specs.declared.c.CArg.{CArg, fold-CArg}
use Rattle.bl_tree.specs.declared.c.CExprKind.{CExprKind, fold-CExprKind}
use Rattle.bl_tree.specs.declared.c.CIndex.{CIndex, fold-CIndex}
use Rattle.bl_tree.specs.declared.c.CStep.{CStep, fold-CStep}
use Rattle.bl_ctext_semantics.specs.Calls.{Names, arg_calls, call_calls, expr_calls, index_calls, kind_calls, place_calls, step_calls}
use Rattle.bl_ctext_semantics.specs.Faults.{Judged, Judges, judge_arg, judge_call, judge_expr, judge_index, judge_kind, judge_place, judge_step}
use Rattle.bl_ctext_semantics.specs.Meaning.{ArgumentValue, Evaluates, arg_step, call_step, expr_step, index_step, kind_step, place_step, step_step}
use Rattle.bl_ctext_semantics.specs.Memory.{CValue, Projection}

abbrev pub arg_c : CArg → Evaluates ArgumentValue
arg_c = fold-CArg _ _ _ _ _ _ _ arg_step kind_step call_step expr_step index_step place_step step_step

abbrev pub kind_c : CExprKind → Evaluates CValue
kind_c = fold-CExprKind _ _ _ _ _ _ _ arg_step kind_step call_step expr_step index_step place_step step_step

abbrev pub index_c : CIndex → Evaluates (List Projection)
index_c = fold-CIndex _ _ _ _ _ _ _ arg_step kind_step call_step expr_step index_step place_step step_step

abbrev pub step_c : CStep → Evaluates (List Projection)
step_c = fold-CStep _ _ _ _ _ _ _ arg_step kind_step call_step expr_step index_step place_step step_step

abbrev pub calls_in_kind : CExprKind → Names
calls_in_kind = fold-CExprKind _ _ _ _ _ _ _ arg_calls kind_calls call_calls expr_calls index_calls place_calls step_calls

abbrev pub calls_in_index : CIndex → Names
calls_in_index = fold-CIndex _ _ _ _ _ _ _ arg_calls kind_calls call_calls expr_calls index_calls place_calls step_calls

abbrev pub judged_kind : CExprKind → Judges Judged
judged_kind = fold-CExprKind _ _ _ _ _ _ _ judge_arg judge_kind judge_call judge_expr judge_index judge_place judge_step
