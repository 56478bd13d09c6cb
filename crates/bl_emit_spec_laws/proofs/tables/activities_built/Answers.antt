use Rattle.bl_emit_spec_laws.proofs.OnTables.Built.{all_built}
use Rattle.bl_emit_spec_laws.proofs.tables.activities_built.Goals as goal

pub returns : goal.returns
returns c = all_built
