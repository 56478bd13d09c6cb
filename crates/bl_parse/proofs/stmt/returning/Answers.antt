use Rattle.std.proofs.Common.{refl, sym, ◌∙◌, ◌∷◌, []}
use Rattle.bl_tree.specs.declared.token.Keyword.TheVariants as keyword
use Rattle.bl_parse_syntax.specs.declared.grammar.Part.TheVariants.{AfterReturn}
use Rattle.bl_parse_syntax.specs.Grammar.{word, the}
use Rattle.bl_parse.specs.Statements.{SpellsKind}
use Rattle.bl_parse.proofs.ReturnLemmas.{returned, bare}
use Rattle.bl_parse.proofs.ReadLemmas.{after, then, pass, opened}
use Rattle.bl_parse.proofs.stmt.returning.Goals as goal

pub read_expr-requires : goal.read_expr-requires
read_expr-requires c = record {
  awaits = after c.requires.awaits
      (then (opened (word keyword.Return ∷ the AfterReturn ∷ []) (λ v. refl) c.requires.stands refl)
      (then (pass c.take.ensures.next) (returned c.args.source.now.tokens.now c.args.at.now _ c.requires.stands
      (sym c.takes_value.ensures ∙ c.if-takes_value.true) (c.take.ensures.next))));
}

pub returns-in_ok-e-clause-spelled : goal.returns-in_ok-e-clause-spelled
returns-in_ok-e-clause-spelled c = SpellsKind.returns_value c.take.ensures.taken
    (sym c.takes_value.ensures ∙ c.if-takes_value.true) c.in_ok-e.ensures.spelled refl

pub returns-in_ok-e-clause-follows : goal.returns-in_ok-e-clause-follows
returns-in_ok-e-clause-follows c = then (opened (word keyword.Return ∷ the AfterReturn ∷ []) (λ v. refl) c.requires.stands refl)
    (then (pass c.take.ensures.next) (then (returned c.args.source.now.tokens.now c.args.at.now _ c.requires.stands
    (sym c.takes_value.ensures ∙ c.if-takes_value.true) (c.take.ensures.next)) (c.in_ok-e.ensures.follows)))

pub returns-else-takes_value-clause-spelled : goal.returns-else-takes_value-clause-spelled
returns-else-takes_value-clause-spelled c = SpellsKind.returns c.take-else-takes_value.ensures.taken (sym c.takes_value.ensures ∙ c.if-takes_value.false) refl

pub returns-else-takes_value-clause-follows : goal.returns-else-takes_value-clause-follows
returns-else-takes_value-clause-follows c = then (opened (word keyword.Return ∷ the AfterReturn ∷ []) (λ v. refl) c.requires.stands refl)
    (then (pass c.take-else-takes_value.ensures.next) (bare c.args.source.now.tokens.now c.args.at.now _ c.requires.stands
    (sym c.takes_value.ensures ∙ c.if-takes_value.false) (c.take-else-takes_value.ensures.next)))
