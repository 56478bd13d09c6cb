use Rattle.bl_machine_pass_laws_typing.proofs.OnFits.Passing.{passes_keep}
use Rattle.bl_machine_pass_laws_typing.proofs.fits.turns_fit.Goals as goal

pub returns : goal.returns
returns c = passes_keep c.instances_have_callers.ensures.callers c.views_are_typed.ensures c.trees_stay_placed.ensures
