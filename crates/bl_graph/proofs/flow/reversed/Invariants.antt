use Rattle.std.proofs.Common.{◌≡◌, map}
use Rattle.bl_graph.proofs.flow.reversed.Given as goal

abbrev pub invariant-loop-span : goal.invariant-loop-span
invariant-loop-span l = l.back ≡ map (λ span. span.now) l.yielded
