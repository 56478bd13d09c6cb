use Rattle.std.proofs.Common.{◌≡◌, drop}
use Rattle.bl_emit_acts.specs.Sites.{site_in}
use Rattle.bl_emit_functions.specs.Functions.{holds_any}
use Rattle.bl_emit_functions.proofs.variables.holds_any.Given as goal

abbrev pub invariant-loop-var : goal.invariant-loop-var
invariant-loop-var l = holds_any (site_in l.site) (drop l.var-index l.vars) ≡ holds_any (site_in l.site) l.vars
