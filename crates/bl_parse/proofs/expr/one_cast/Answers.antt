use Rattle.std.proofs.Common.{lit≤}
use Rattle.bl_parse_tree.specs.declared.expr.RawExprKind as kind
use Rattle.bl_parse.specs.Expressions.{SpellsExpr}
use Rattle.bl_parse.proofs.ExprLemmas.{placed_by}
use Rattle.bl_parse.proofs.expr.one_cast.Goals as goal

pub returns-clause-spelled : goal.returns-clause-spelled
returns-clause-spelled c k operand word =
    SpellsExpr.cast (lit≤ tt) operand word c.in_ok-target.ensures.spelled
    (placed_by (kind.Cast c.in_ok-target.target) c.span-place.ensures c.in_ok-operand.ensures)
