use Rattle.bl_simplify_walk.proofs.OnJoined.{form-part}
use Rattle.bl_simplify_walk.proofs.rules.part_forms.Goals as goal

pub returns : goal.returns
returns c = form-part
