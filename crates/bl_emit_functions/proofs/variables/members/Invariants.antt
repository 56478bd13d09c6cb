use Rattle.std.proofs.Common.{◌≡◌, ◌++◌, drop}
use Rattle.bl_emit_acts.specs.Sites.{site_in}
use Rattle.bl_emit_functions.specs.Functions.{members_from}
use Rattle.bl_emit_functions.proofs.variables.members.Given as goal

abbrev pub invariant-loop-var : goal.invariant-loop-var
invariant-loop-var l = l.made ++ members_from (site_in l.site) l.k (drop l.var-index l.vars) ≡ members_from (site_in l.site) 0 l.vars
