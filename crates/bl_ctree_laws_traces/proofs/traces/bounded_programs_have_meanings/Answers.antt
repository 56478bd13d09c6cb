use Rattle.bl_ctree_laws_traces.proofs.OnTraces.Allowed.{bounded_have_meanings}
use Rattle.bl_ctree_laws_traces.proofs.OnTraces.Extending.{bounded_have_ticks}
use Rattle.bl_ctree_laws_traces.proofs.traces.bounded_programs_have_meanings.Goals as goal

pub returns : goal.returns
returns c =
    let ticks = bounded_have_ticks c.bounded_lists_go_on.ensures in
    record { ticks = ticks; meanings = bounded_have_meanings ticks }
