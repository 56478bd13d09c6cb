use Rattle.std.proofs.Common.{◌≡◌, ◌++◌, drop}
use Rattle.bl_emit_acts.specs.Sites.{site_in}
use Rattle.bl_emit_functions.specs.Functions.{copies_from}
use Rattle.bl_emit_functions.proofs.functions.copies.Given as goal

abbrev pub invariant-loop-var : goal.invariant-loop-var
invariant-loop-var l = l.made ++ copies_from (site_in l.site) l.k (drop l.var-index l.inputs) ≡ copies_from (site_in l.site) 0 l.inputs
