use Rattle.bl_emit_spec_laws.proofs.OnActivities.Following.{compiled_simulate}
use Rattle.bl_emit_spec_laws.proofs.activities.activities_simulate.Goals as goal

pub returns : goal.returns
returns c = compiled_simulate c.accepted_programs_are_orderly.ensures c.calls_simulate.ensures
