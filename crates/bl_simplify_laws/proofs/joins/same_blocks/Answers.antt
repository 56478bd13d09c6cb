use Rattle.bl_simplify_laws.proofs.OnJoins.{join-blocks, join-branches, join-chain, join-function, join-loop}
use Rattle.bl_simplify_laws.proofs.joins.same_blocks.Goals as goal

pub returns : goal.returns
returns c = record { chain = join-chain; blocks = join-blocks; branches = join-branches; turns = join-loop; function = join-function }
