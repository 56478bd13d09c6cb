use Rattle.bl_emit_spec_laws.proofs.OnTables.Known.{know_all}
use Rattle.bl_emit_spec_laws.proofs.tables.tables_know_all.Goals as goal

pub returns : goal.returns
returns c = know_all
