use Rattle.bl_ctext_semantics.specs.Parts.{parts_of}
use Rattle.bl_ctext_semantics_laws.proofs.Runs.{starts-run}
use Rattle.bl_ctext_semantics_laws.proofs.flat.starts_run.Goals as goal

pub returns : goal.returns
returns c = starts-run (parts_of c.args._file.now) c.args._file.now.spellable
