use Rattle.bl_emit_spec_laws_files.proofs.OnCounters.{counters_suffice}
use Rattle.bl_emit_spec_laws_files.proofs.counters.counters_suffice.Goals as goal

pub returns : goal.returns
returns c = counters_suffice c.activities_count.ensures c.copies_are_counters.ensures
