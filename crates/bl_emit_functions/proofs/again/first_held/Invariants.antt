use Rattle.std.proofs.Common.{◌≡◌, drop}
use Rattle.bl_emit_acts.specs.Sites.{site_in}
use Rattle.bl_emit_functions.specs.Functions.{first_held}
use Rattle.bl_emit_functions.proofs.again.first_held.Given as goal

abbrev pub invariant-loop-var : goal.invariant-loop-var
invariant-loop-var l = first_held (site_in l.site) l.k (drop l.var-index l.vars) ≡ first_held (site_in l.site) 0 l.vars
