use Rattle.std.proofs.Common.{rules, sym, ◌∙◌}
use Rattle.bl_simplify_frames.specs.Told.{as_frame, as_frames}
use Rattle.bl_simplify_frames.proofs.OnDecided.{told-none, told-some}
use Rattle.bl_simplify_frames.proofs.decide.keeps.Goals as goal

pub keeps_with-requires : goal.keeps_with-requires
keeps_with-requires c = told-some (as_frames c.args.frames.now) _ (as_frame c.in-Some.frame.now) (search rules)

pub keeps_with-requires-in-None : goal.keeps_with-requires-in-None
keeps_with-requires-in-None c = told-none (as_frames c.args.frames.now) _ (search rules) ∙ sym (search rules)
