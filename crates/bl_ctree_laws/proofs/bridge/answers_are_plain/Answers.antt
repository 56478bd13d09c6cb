use Rattle.bl_ctree_laws.proofs.Answering.{answers_are_plain}
use Rattle.bl_ctree_laws.proofs.bridge.answers_are_plain.Goals as goal

pub returns : goal.returns
returns c = answers_are_plain
