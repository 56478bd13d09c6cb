use Rattle.std.proofs.Common.{◌≡◌, take}
use Rattle.bl_tree.specs.Ports.{columns_of}
use Rattle.bl_rows.proofs.columns.columns_of.Given as goal

abbrev pub invariant-vars : goal.invariant-vars
invariant-vars l = l.columns ≡ columns_of (take l.var-index l.vars)
