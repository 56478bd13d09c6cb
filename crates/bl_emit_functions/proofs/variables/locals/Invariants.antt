use Rattle.std.proofs.Common.{◌≡◌, ◌++◌, drop}
use Rattle.bl_emit_acts.specs.Sites.{site_in}
use Rattle.bl_emit_functions.specs.Functions.{locals_from}
use Rattle.bl_emit_functions.proofs.variables.locals.Given as goal

abbrev pub invariant-loop-var : goal.invariant-loop-var
invariant-loop-var l = l.made ++ locals_from (site_in l.site) l.k (drop l.var-index l.vars) ≡ locals_from (site_in l.site) 0 l.vars
