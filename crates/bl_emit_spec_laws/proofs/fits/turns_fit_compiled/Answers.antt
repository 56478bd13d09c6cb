use Rattle.bl_emit_spec_laws.proofs.OnFits.{turns_fit}
use Rattle.bl_emit_spec_laws.proofs.fits.turns_fit_compiled.Goals as goal

pub returns : goal.returns
returns c = turns_fit c.turns_fit.ensures
