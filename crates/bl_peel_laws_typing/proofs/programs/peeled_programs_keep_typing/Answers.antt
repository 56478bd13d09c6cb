use Rattle.bl_peel_laws_typing.proofs.Units.{peeled_keeps_typing, units_stand_peeled}
use Rattle.bl_peel_laws_typing.proofs.programs.peeled_programs_keep_typing.Goals as goal

pub returns-clause-units : goal.returns-clause-units
returns-clause-units c = units_stand_peeled

pub returns-clause-whole : goal.returns-clause-whole
returns-clause-whole c = peeled_keeps_typing
