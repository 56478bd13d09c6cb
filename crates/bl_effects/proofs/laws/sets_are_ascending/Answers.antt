use Rattle.bl_effects.proofs.SetLemmas.{set_ascends, set_members}
use Rattle.bl_effects.proofs.laws.sets_are_ascending.Goals as goal

pub returns-clause-members : goal.returns-clause-members
returns-clause-members c = set_members

pub returns-clause-order : goal.returns-clause-order
returns-clause-order c = set_ascends
