use Rattle.std.proofs.Common.{◌≡◌, ◌++◌, drop, map}
use Rattle.bl_emit_spec.specs.Activities.{rested_code}
use Rattle.bl_emit.proofs.code.all_rested.Given as goal

abbrev pub invariant-loop-k : goal.invariant-loop-k
invariant-loop-k l = l.made ++ map rested_code (drop l.k-index l.counters) ≡ map rested_code l.counters
