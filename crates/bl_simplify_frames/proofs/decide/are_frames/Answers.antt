use Rattle.std.proofs.lemmas.Result.{IfOk-weaker}
use Rattle.std.proofs.Common.{rules}
use Rattle.bl_simplify_frames.specs.Told.{as_frames}
use Rattle.bl_simplify_frames.proofs.OnDecided.{are-of}
use Rattle.bl_simplify_frames.proofs.decide.are_frames.Goals as goal

pub returns : goal.returns
returns c =
    IfOk-weaker c.all_keep.result _ _
    (λ kept all. λ is. are-of c.args.structs.now (as_frames c.args.frames.now) c.args.functions.now (search rules) (search rules) (all is)) c.all_keep.ensures
