use Rattle.bl_ctree_laws_peeled.proofs.Answering.{unrolled_answers}
use Rattle.bl_ctree_laws_peeled.proofs.unrolling.unrolled_blocks_answer.Goals as goal

pub returns : goal.returns
returns c = unrolled_answers
