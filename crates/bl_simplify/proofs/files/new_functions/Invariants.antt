use Rattle.std.proofs.Common.{take}
use Rattle.bl_simplify_frames.specs.Told.{as_frames}
use Rattle.bl_simplify.specs.Files.{AreNewOf}
use Rattle.bl_simplify.proofs.files.new_functions.Given as goal

abbrev pub invariant-loop-function : goal.invariant-loop-function
invariant-loop-function l = AreNewOf (as_frames l.frames) (take l.function-index l.functions) l.new
