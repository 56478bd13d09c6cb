use Rattle.bl_ctree_laws_peeled.proofs.Programs.{peeled_is_same_program}
use Rattle.bl_ctree_laws_peeled.proofs.bodies.peeled_programs_are_alike.Goals as goal

pub returns : goal.returns
returns c = peeled_is_same_program
