use Rattle.std.proofs.Common.{◌≡◌, ◌++◌, drop}
use Rattle.bl_names.proofs.expr.copies.Given as goal

abbrev pub invariant-loop-name : goal.invariant-loop-name
invariant-loop-name l = l.made ++ drop l.name-index l.names ≡ l.names
