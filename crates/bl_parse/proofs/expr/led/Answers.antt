use Rattle.std.proofs.Common.{[], ◌∷◌, refl, sym, ◌∙◌}
use Rattle.bl_tree.specs.declared.token.Keyword.TheVariants as keyword
use Rattle.bl_parse_syntax.specs.Grammar.{word}
use Rattle.bl_parse.specs.Expressions.{IsTruth}
use Rattle.bl_parse.proofs.PartLemmas.{other_word, primary_false}
use Rattle.bl_parse.proofs.ReadLemmas.{next_word, after, opened_last}
use Rattle.bl_parse.proofs.expr.led.Goals as goal

pub truth-requires-clause-is : goal.truth-requires-clause-is
truth-requires-clause-is c = IsTruth.yes

pub truth-requires-else-eq-2-clause-stands : goal.truth-requires-else-eq-2-clause-stands
truth-requires-else-eq-2-clause-stands c = next_word
    (after c.requires.awaits (opened_last (word keyword.False ∷ []) _ (λ v. refl) c.requires.stands
    (primary_false c.args.k
    (other_word keyword.Prev c.args.k refl (sym c.eq.ensures ∙ c.if-eq.false))
    (other_word keyword.True c.args.k refl (sym c.eq-else-eq.ensures ∙ c.if-eq-2.false)))))

pub truth-requires-else-eq-2-clause-is : goal.truth-requires-else-eq-2-clause-is
truth-requires-else-eq-2-clause-is c = IsTruth.no
