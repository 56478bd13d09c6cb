use Rattle.std.proofs.Common.{◌≡◌, ◌++◌, drop}
use Rattle.bl_emit_acts.specs.Sites.{site_in}
use Rattle.bl_emit_functions.specs.inner.Again.{unread_again}
use Rattle.bl_emit_functions.proofs.again.locals_again.Given as goal

abbrev pub invariant-loop-var : goal.invariant-loop-var
invariant-loop-var l = l.made ++ unread_again (site_in l.site) l.names l.k (drop l.var-index l.vars) ≡ unread_again (site_in l.site) l.names 0 l.vars
