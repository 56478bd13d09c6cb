use Rattle.bl_ctext_semantics.specs.Parts.{parts_of}
use Rattle.bl_ctext_semantics.proofs.BoundLemmas.{tick-le}
use Rattle.bl_ctext_semantics.proofs.laws.within_bound.Goals as goal

pub returns : goal.returns
returns c = tick-le (parts_of c.args._file.now)
