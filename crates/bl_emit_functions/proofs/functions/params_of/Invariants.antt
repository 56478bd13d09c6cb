use Rattle.std.proofs.Common.{◌≡◌, ◌++◌, drop}
use Rattle.bl_emit_functions.specs.Functions.{params_from}
use Rattle.bl_emit_functions.proofs.functions.params_of.Given as goal

abbrev pub invariant-loop-k : goal.invariant-loop-k
invariant-loop-k l = l.made ++ params_from l.structs l.vars l.k (drop l.k l.parameters) ≡ params_from l.structs l.vars 0 l.parameters
