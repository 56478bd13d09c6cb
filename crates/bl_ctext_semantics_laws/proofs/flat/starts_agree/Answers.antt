use Rattle.bl_ctext_semantics.specs.Parts.{parts_of}
use Rattle.bl_ctext_semantics_laws.proofs.Entry.{starts-agree}
use Rattle.bl_ctext_semantics_laws.proofs.flat.starts_agree.Goals as goal

pub returns : goal.returns
returns c = starts-agree (parts_of c.args._file.now) c.args._file.now.spellable
