use Rattle.bl_ctext_semantics.specs.Parts.{parts_of}
use Rattle.bl_ctext_semantics_laws.proofs.Memories.{cells-fit}
use Rattle.bl_ctext_semantics_laws.proofs.fits.cells_fit.Goals as goal

pub returns : goal.returns
returns c = cells-fit (parts_of c.args._file.now)
