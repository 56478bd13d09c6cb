use Rattle.std.proofs.Common.{refl, ◌∷◌, []}
use Rattle.bl_tree.specs.declared.token.Keyword.TheVariants as keyword
use Rattle.bl_parse_syntax.specs.Grammar.{name, word}
use Rattle.bl_parse_tree.specs.declared.expr.RawExprKind as kind
use Rattle.bl_parse.specs.Expressions.{SpellsExpr}
use Rattle.bl_parse.proofs.ExprLemmas.{placed}
use Rattle.bl_parse.proofs.ReadLemmas.{next_name, after, then, pass, opened}
use Rattle.bl_parse.proofs.expr.previous.Goals as goal

pub name-requires : goal.name-requires
name-requires c = record {
  stands = next_name (after c.requires.awaits
      (then (opened (word keyword.Prev ∷ name ∷ []) (λ v. refl) c.requires.stands refl) (pass c.take.ensures.next)));
}

pub returns-clause-spelled : goal.returns-clause-spelled
returns-clause-spelled c = SpellsExpr.before c.take.ensures.taken c.in_ok-variable.ensures.spelled (placed (kind.Prev c.in_ok-variable.variable) c.span.ensures)

pub returns-clause-follows : goal.returns-clause-follows
returns-clause-follows c = then (opened (word keyword.Prev ∷ name ∷ []) (λ v. refl) c.requires.stands refl)
    (then (pass c.take.ensures.next) (c.in_ok-variable.ensures.follows))
