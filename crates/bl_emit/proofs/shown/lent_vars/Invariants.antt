use Rattle.std.proofs.Common.{◌≡◌, ◌++◌, drop, map}
use Rattle.bl_emit_spec.specs.Lent.{lent_var}
use Rattle.bl_emit.proofs.shown.lent_vars.Given as goal

abbrev pub invariant-loop-var : goal.invariant-loop-var
invariant-loop-var l = l.made ++ map lent_var (drop l.var-index l.vars) ≡ map lent_var l.vars
