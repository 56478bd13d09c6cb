use Rattle.std.proofs.Common.{refl, ◌∷◌, []}
use Rattle.bl_tree.specs.declared.token.Keyword.TheVariants as keyword
use Rattle.bl_parse_syntax.specs.declared.grammar.Part.TheVariants.{Expr}
use Rattle.bl_parse_syntax.specs.Grammar.{word, the}
use Rattle.bl_parse.specs.Statements.{SpellsKind}
use Rattle.bl_parse.proofs.ReadLemmas.{after, then, pass, opened}
use Rattle.bl_parse.proofs.stmt.awaiting.Goals as goal

pub read_expr-requires : goal.read_expr-requires
read_expr-requires c = record {
  awaits = after c.requires.awaits
      (then (opened (word keyword.Await ∷ the Expr ∷ []) (λ v. refl) c.requires.stands refl) (pass c.take.ensures.next));
}

pub returns-clause-spelled : goal.returns-clause-spelled
returns-clause-spelled c = SpellsKind.await c.take.ensures.taken c.in_ok-e.ensures.spelled refl

pub returns-clause-follows : goal.returns-clause-follows
returns-clause-follows c = then (opened (word keyword.Await ∷ the Expr ∷ []) (λ v. refl) c.requires.stands refl)
    (then (pass c.take.ensures.next) (c.in_ok-e.ensures.follows))
