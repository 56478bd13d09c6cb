use Rattle.bl_ctext_semantics.specs.Parts.{parts_of}
use Rattle.bl_ctext_semantics_laws.proofs.Memories.{reading-fits}
use Rattle.bl_ctext_semantics_laws.proofs.fits.reading_fits.Goals as goal

pub returns : goal.returns
returns c = reading-fits (parts_of c.args._file.now)
