use Rattle.bl_ctree_laws_peeled.proofs.Blocks.{blocks_are_same, unrolling_joins}
use Rattle.bl_ctree_laws_peeled.proofs.unrolling.blocks_unroll.Goals as goal

pub returns : goal.returns
returns c = record { none = blocks_are_same; joined = unrolling_joins }
