use Rattle.std.proofs.Common.{◌≡◌, ◌++◌, drop, map}
use Rattle.bl_module.specs.Behind.{resolved_param}
use Rattle.bl_module.proofs.made.push_vars.Given as goal

abbrev pub invariant-loop-param : goal.invariant-loop-param
invariant-loop-param l =
    l.vars ++ map (resolved_param l.names l.role) (drop l.param-index l.params) ≡ l.initial.vars ++ map (resolved_param l.names l.role) l.params
