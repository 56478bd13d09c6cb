use Rattle.std.proofs.Common.{◌≡◌, ◌++◌, drop, map}
use Rattle.bl_emit_spec.specs.Activities.{rested_local}
use Rattle.bl_emit.proofs.locals.all_rested.Given as goal

abbrev pub invariant-loop-k : goal.invariant-loop-k
invariant-loop-k l = l.made ++ map (rested_local l.sizes) (drop l.k-index l.counters) ≡ map (rested_local l.sizes) l.counters
