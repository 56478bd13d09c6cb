use Rattle.std.proofs.Common.{◌≡◌, ◌++◌, drop}
use Rattle.bl_module.specs.Own.{params_known_from}
use Rattle.bl_module.proofs.params.params_known_from.Given as goal

abbrev pub invariant-loop-param : goal.invariant-loop-param
invariant-loop-param l = l.made ++ params_known_from l.k l.vars (drop l.param-index l.params) ≡ params_known_from l.initial.k l.vars l.params
