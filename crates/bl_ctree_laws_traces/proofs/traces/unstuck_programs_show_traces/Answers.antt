use Rattle.bl_ctree_laws_traces.proofs.OnTraces.Allowed.{unstuck_show_traces}
use Rattle.bl_ctree_laws_traces.proofs.traces.unstuck_programs_show_traces.Goals as goal

pub returns : goal.returns
returns c = unstuck_show_traces
