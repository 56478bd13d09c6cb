use Rattle.bl_effects.proofs.InstantLemmas.{loops_agree, surface_agrees}
use Rattle.bl_effects.proofs.laws.endings_agree.Goals as goal

pub returns-clause-surface : goal.returns-clause-surface
returns-clause-surface c = surface_agrees

pub returns-clause-loops : goal.returns-clause-loops
returns-clause-loops c = loops_agree
