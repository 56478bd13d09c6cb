use Rattle.bl_simplify_laws.proofs.OnJoins.{join-and, join-and-not, join-not, join-or, join-or-not}
use Rattle.bl_simplify_laws.proofs.joins.joined_tests.Goals as goal

pub returns : goal.returns
returns c = record { and = join-and; or = join-or; not = join-not; and_not = join-and-not; or_not = join-or-not }
