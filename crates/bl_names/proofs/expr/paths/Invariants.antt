use Rattle.std.proofs.Common.{◌≡◌, ◌++◌, drop, map}
use Rattle.bl_names.specs.Naming.{named_path}
use Rattle.bl_names.proofs.expr.paths.Given as goal

abbrev pub invariant-loop-one : goal.invariant-loop-one
invariant-loop-one l = l.made ++ map (named_path l.scopes) (drop l.one-index l.all) ≡ map (named_path l.scopes) l.all
