use Rattle.bl_ctree_laws_peeled.proofs.Relating.{related_meet}
use Rattle.bl_ctree_laws_peeled.proofs.answers.related_trees_meet.Goals as goal

pub returns : goal.returns
returns c = related_meet
