use Rattle.bl_ctext_semantics.specs.Parts.{parts_of}
use Rattle.bl_ctext_semantics_laws.proofs.Memories.{cleared-fits}
use Rattle.bl_ctext_semantics_laws.proofs.fits.cleared_fits.Goals as goal

pub returns : goal.returns
returns c = cleared-fits (parts_of c.args._file.now)
