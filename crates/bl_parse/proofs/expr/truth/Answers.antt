use Rattle.std.proofs.Common.{refl, ◌∷◌, []}
use Rattle.bl_parse_syntax.specs.Grammar.{word}
use Rattle.bl_parse_tree.specs.declared.expr.RawExprKind as kind
use Rattle.bl_tree.specs.declared.token.TokenKind.TheVariants.{Word}
use Rattle.bl_parse.specs.Expressions.{SpellsExpr}
use Rattle.bl_parse.proofs.ExprLemmas.{placed}
use Rattle.bl_parse.proofs.PartLemmas.{truth_word}
use Rattle.bl_parse.proofs.ReadLemmas.{then, pass, opened}
use Rattle.bl_parse.proofs.expr.truth.Goals as goal

pub returns-clause-spelled : goal.returns-clause-spelled
returns-clause-spelled c = SpellsExpr.truth (record { kind = Word c.args.k; token = c.take.ensures.taken; is = c.requires.is })
    (placed (kind.Truth c.args.b) c.span.ensures)

pub returns-clause-follows : goal.returns-clause-follows
returns-clause-follows c = then (opened (word c.args.k ∷ []) (λ v. refl) c.requires.stands (truth_word c.requires.is)) (pass c.take.ensures.next)
