use Rattle.bl_ctree_laws_peeled.proofs.Relating.{related_answer}
use Rattle.bl_ctree_laws_peeled.proofs.answers.related_trees_answer.Goals as goal

pub returns : goal.returns
returns c = related_answer
