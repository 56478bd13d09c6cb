use Rattle.std.proofs.Common.{refl}
use Rattle.bl_cause.specs.Fails.{FailsCycle, Never}
use Rattle.bl_cause.proofs.FirstLemmas.{on_ok}
use Rattle.bl_cause.proofs.WalkLemmas.{never_twice_never_cycle}
use Rattle.bl_cause.proofs.ordered.Goals as goal

pub in_order-requires : goal.in_order-requires
in_order-requires c =
    let none = rw c.in-Ok-None.field-0-is at c.in-Ok-None.ensures.none in never_twice_never_cycle c.args.graph.now c.requires none

pub returns-in-Ok-None-clause-passes : goal.returns-in-Ok-None-clause-passes
returns-in-Ok-None-clause-passes c =
    let none = rw c.in-Ok-None.field-0-is at c.in-Ok-None.ensures.none in on_ok c.in_order.result (Never (FailsCycle c.args.graph.now)) none

pub returns-in-Ok-Some-clause-refused : goal.returns-in-Ok-Some-clause-refused
returns-in-Ok-Some-clause-refused c = let first = rw c.in-Ok-Some.field-0-is at c.in-Ok-Some.ensures.some in (refl, first)
