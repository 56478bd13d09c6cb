use Rattle.bl_ctext_semantics.specs.Parts.{parts_of}
use Rattle.bl_ctext_semantics.proofs.TraceLemmas.{goes-on}
use Rattle.bl_ctext_semantics.proofs.laws.goes_on.Goals as goal

pub returns : goal.returns
returns c = goes-on (parts_of c.args._file.now)
