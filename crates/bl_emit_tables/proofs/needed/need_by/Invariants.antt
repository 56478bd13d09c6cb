use Rattle.std.proofs.Common.{◌≡◌, ◌++◌}
use Rattle.bl_limits_measures.specs.Calls.{calls_of}
use Rattle.bl_emit_tables.proofs.needed.need_by.Given as goal

abbrev pub invariant-loop-run : goal.invariant-loop-run
invariant-loop-run l = l.needs ≡ calls_of l.unit ++ l.yielded
