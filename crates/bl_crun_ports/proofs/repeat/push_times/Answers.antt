use Rattle.bl_crun_ports.proofs.SpanLemmas.{times-next}
use Rattle.bl_crun_ports.proofs.repeat.push_times.Goals as goal

pub loop-turn-preserved : goal.loop-turn-preserved
loop-turn-preserved c =
    times-next c.args.kinds.now.items c.loop-turn.kinds.items c.push_part.new.kinds.items c.args.part c.loop-turn._turn c.requires c.loop-turn.invariant
    c.in_ok-push_part.ensures
