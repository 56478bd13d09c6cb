use Rattle.bl_peel_laws.proofs.Declaring.{peeled_is_from_text, peeled_prevs_are_declared}
use Rattle.bl_peel_laws.proofs.prevs.prevs_of_peeled_units_are_declared.Goals as goal

pub returns-clause-unit : goal.returns-clause-unit
returns-clause-unit c = peeled_prevs_are_declared

pub returns-clause-units : goal.returns-clause-units
returns-clause-units c = peeled_is_from_text
