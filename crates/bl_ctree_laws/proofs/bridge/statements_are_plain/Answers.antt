use Rattle.bl_ctree_laws.proofs.PlainKinds.{statements_are_plain}
use Rattle.bl_ctree_laws.proofs.bridge.statements_are_plain.Goals as goal

pub returns : goal.returns
returns c = statements_are_plain
