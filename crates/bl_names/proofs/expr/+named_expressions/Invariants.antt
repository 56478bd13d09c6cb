use Rattle.std.proofs.Common.{◌≡◌, ◌++◌, drop, map}
use Rattle.bl_names.specs.Naming.{named_expr, named_step}
use Rattle.bl_names.proofs.expr.+named_expressions.Given as goal

abbrev pub invariant-exprs-loop-e : goal.invariant-exprs-loop-e
invariant-exprs-loop-e l = l.made ++ map (named_expr l.scopes) (drop l.e-index l.all) ≡ map (named_expr l.scopes) l.all

abbrev pub invariant-parts-loop-one : goal.invariant-parts-loop-one
invariant-parts-loop-one l = l.made ++ map (named_step l.scopes) (drop l.one-index l.all) ≡ map (named_step l.scopes) l.all
