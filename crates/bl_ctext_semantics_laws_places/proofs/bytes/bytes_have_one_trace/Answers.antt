use Rattle.bl_ctext_semantics_laws_places.proofs.Texts.{each_trace, one_trace}
use Rattle.bl_ctext_semantics_laws_places.proofs.bytes.bytes_have_one_trace.Goals as goal

pub returns-clause-each : goal.returns-clause-each
returns-clause-each c = each_trace

pub returns-clause-one : goal.returns-clause-one
returns-clause-one c = one_trace
