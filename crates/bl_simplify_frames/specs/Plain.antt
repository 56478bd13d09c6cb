-- Whether functions of some names are called in arguments and steps.
use Rattle.std.specs.Prelude.{Bool, true, false, List, [], ◌∷◌, Option, Some, None, bytes_eq}
use Rattle.bl_tree.specs.declared.c.CArg.{CArg, fold-CArg}
use Rattle.bl_tree.specs.declared.c.CStep.{CStep, fold-CStep}
use Rattle.bl_tree.specs.declared.text.Text.{Text}
use Rattle.bl_simplify_laws_frames.specs.Reached.{ArgFrames, StepFrames, arg_frames, call_frames, expr_frames, index_frames, kind_frames, place_frames, step_frames}

-- the spot whose address an argument is, where that is told, and whether no function of these names is called in it
abbrev pub plain_arg : List Text → CArg → ArgFrames
plain_arg names = fold-CArg _ _ _ _ _ _ _ arg_frames (kind_frames names) call_frames expr_frames index_frames place_frames step_frames

-- the member of a step, where it has no index, and whether no function of these names is called in that
abbrev pub plain_step : List Text → CStep → StepFrames
plain_step names = fold-CStep _ _ _ _ _ _ _ arg_frames (kind_frames names) call_frames expr_frames index_frames place_frames step_frames

-- whether there are no members of steps
abbrev pub is_none_told : List (Option Text) → Bool
is_none_told [] = true
is_none_told (step ∷ steps) = false

-- whether members of steps are one, which is this member
abbrev pub is_first_told : List (Option Text) → Text → Bool
is_first_told [] m = false
is_first_told (Some n ∷ []) m = bytes_eq n m
is_first_told (None ∷ []) m = false
is_first_told (step ∷ next ∷ steps) m = false
