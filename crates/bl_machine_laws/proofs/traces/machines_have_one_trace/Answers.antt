use Rattle.bl_machine_laws.proofs.OnTraces.Runs.{machines_have_one_trace}
use Rattle.bl_machine_laws.proofs.traces.machines_have_one_trace.Goals as goal

pub returns : goal.returns
returns c = machines_have_one_trace c.accepted_programs_are_ordered.ensures c.machines_give_orders.ensures c.runs_of_passes_are_meant.ensures
