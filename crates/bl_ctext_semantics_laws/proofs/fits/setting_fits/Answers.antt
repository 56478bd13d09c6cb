use Rattle.bl_ctext_semantics.specs.Parts.{parts_of}
use Rattle.bl_ctext_semantics_laws.proofs.Memories.{setting-fits}
use Rattle.bl_ctext_semantics_laws.proofs.fits.setting_fits.Goals as goal

pub returns : goal.returns
returns c = setting-fits (parts_of c.args._file.now)
