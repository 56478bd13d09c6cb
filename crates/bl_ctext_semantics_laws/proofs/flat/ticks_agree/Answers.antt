use Rattle.bl_ctext_semantics.specs.Parts.{parts_of}
use Rattle.bl_ctext_semantics_laws.proofs.Entry.{ticks-agree}
use Rattle.bl_ctext_semantics_laws.proofs.flat.ticks_agree.Goals as goal

pub returns : goal.returns
returns c = ticks-agree (parts_of c.args._file.now) c.args._file.now.spellable
