use Rattle.bl_ctext_semantics.specs.Parts.{parts_of}
use Rattle.bl_ctext_semantics.proofs.EndLemmas.{always-ends}
use Rattle.bl_ctext_semantics.proofs.laws.always_ends.Goals as goal

pub returns : goal.returns
returns c = always-ends (parts_of c.args._file.now)
