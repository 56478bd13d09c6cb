use Rattle.bl_simplify_walk.proofs.OnForms.{form-copied}
use Rattle.bl_simplify_walk.proofs.rules.copied_blocks.Goals as goal

pub returns : goal.returns
returns c = form-copied
