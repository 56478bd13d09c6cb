use Rattle.std.proofs.Common.{◌≡◌, ◌++◌}
use Rattle.bl_crun_ports.specs.inner.Spans.{at_span, repeated}
use Rattle.bl_crun_ports.proofs.repeat.push_times.Given as goal

abbrev pub invariant-loop-turn : goal.invariant-loop-turn
invariant-loop-turn l = l.kinds.items ≡ l.initial.kinds.items ++ repeated l._turn (at_span l.part l.initial.kinds.items)
