use Rattle.bl_simplify_laws.proofs.OnFrames.{calls-leave}
use Rattle.bl_simplify_laws.proofs.OnMemories.{functions-keep}
use Rattle.bl_simplify_laws.proofs.frames.calls_keep.Goals as goal

pub returns : goal.returns
returns c = record { calls = calls-leave; functions = functions-keep }
