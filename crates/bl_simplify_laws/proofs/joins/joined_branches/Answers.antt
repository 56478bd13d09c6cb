use Rattle.bl_simplify_laws.proofs.OnJoins.{join-either, join-ends}
use Rattle.bl_simplify_laws.proofs.joins.joined_branches.Goals as goal

pub returns : goal.returns
returns c = record { ends = join-ends; either = join-either }
