use Rattle.bl_effects.proofs.SetLemmas.{overlaps_itself, overlaps_symm}
use Rattle.bl_effects.proofs.laws.overlap_is_mutual.Goals as goal

pub returns-clause-itself : goal.returns-clause-itself
returns-clause-itself c = overlaps_itself

pub returns-clause-mutual : goal.returns-clause-mutual
returns-clause-mutual c = overlaps_symm
