use Rattle.bl_emit_laws.proofs.OnLinked.Coming.{compiled_simulate}
use Rattle.bl_emit_laws.proofs.linked.needed_simulate.Goals as goal

pub returns : goal.returns
returns c program =
    compiled_simulate program.structs program.units program.entry (c.needed_are_known.ensures program) c.tables_know_all.ensures
