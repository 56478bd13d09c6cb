-- Whether the calls in arguments and steps may be made.
use Rattle.std.specs.Prelude.{List}
use Rattle.bl_tree.specs.declared.c.CArg.{CArg, fold-CArg}
use Rattle.bl_tree.specs.declared.c.CStep.{CStep, fold-CStep}
use Rattle.bl_tree.specs.declared.text.Text.{Text}
use Rattle.bl_simplify_laws.specs.Tables.{ArgStands, StepStands, arg_stands, call_stands, expr_stands, index_stands, kind_stands, place_stands, step_stands}

-- the spot after `&`, and whether all calls in an argument may be made, where functions of these names take a frame first
abbrev pub arg_check : List Text → CArg → ArgStands
arg_check framed = fold-CArg _ _ _ _ _ _ _ arg_stands kind_stands (call_stands framed) expr_stands index_stands place_stands step_stands

-- the member of a step, and whether all calls in its index may be made
abbrev pub step_check : List Text → CStep → StepStands
step_check framed = fold-CStep _ _ _ _ _ _ _ arg_stands kind_stands (call_stands framed) expr_stands index_stands place_stands step_stands
