use Rattle.std.proofs.Common.{◌≡◌, ◌++◌}
use Rattle.bl_emit_functions.specs.Functions.{flag_locals}
use Rattle.bl_emit_functions.proofs.functions.with_flags.Given as goal

abbrev pub invariant-loop-k : goal.invariant-loop-k
invariant-loop-k l = l.made ≡ l.initial.made ++ flag_locals l.k
