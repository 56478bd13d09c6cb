use Rattle.bl_ctext_semantics_laws.proofs.Results.{builtins-fit}
use Rattle.bl_ctext_semantics_laws.proofs.fits.builtins_fit.Goals as goal

pub returns : goal.returns
returns c = builtins-fit
