use Rattle.std.proofs.Common.{◌≡◌, ◌+◌, ◌-◌, ◌++◌}
use Rattle.bl_machine_pass.specs.Transitions.{once, once_but}
use Rattle.bl_machine_transitions.specs.Listed.{counters_from}
use Rattle.bl_machine_transitions.specs.inner.Joined.{Seen, layout_in}
use Rattle.bl_machine_transitions.proofs.changes.once.Given as goal

abbrev pub invariant-loop-step : goal.invariant-loop-step
invariant-loop-step l =
    Seen l.low l.seen l.found
    × (l.found ++ once_but l.found (counters_from (layout_in l.t) (l.p + l.step) (l.count - l.step))
    ≡ once (counters_from (layout_in l.t) l.p l.count))
