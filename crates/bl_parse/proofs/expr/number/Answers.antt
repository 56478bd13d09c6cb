use Rattle.std.proofs.Common.{refl, false, ◌∷◌, []}
use Rattle.bl_parse_syntax.specs.Grammar.{number}
use Rattle.bl_parse_tree.specs.declared.expr.RawExprKind as kind
use Rattle.bl_parse.specs.Expressions.{SpellsExpr}
use Rattle.bl_parse.proofs.ExprLemmas.{placed}
use Rattle.bl_parse.proofs.ReadLemmas.{then, pass, opened}
use Rattle.bl_parse.proofs.expr.number.Goals as goal

pub returns-clause-spelled : goal.returns-clause-spelled
returns-clause-spelled c = SpellsExpr.number {n = c.args.value} c.take.ensures.taken (placed (kind.Number false c.args.value) c.span.ensures)

pub returns-clause-follows : goal.returns-clause-follows
returns-clause-follows c = then (opened (number ∷ []) (λ v. refl) c.requires.stands refl) (pass c.take.ensures.next)
