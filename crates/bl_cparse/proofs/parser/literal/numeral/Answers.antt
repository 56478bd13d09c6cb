use Rattle.std.proofs.lemmas.Bool.{false_from_ne_true}
use Rattle.bl_cparse.proofs.NumberLemmas.{written, not_parsed}
use Rattle.bl_cparse.proofs.parser.literal.numeral.Goals as goal

pub returns-in-Err-clause-none : goal.returns-in-Err-clause-none
returns-in-Err-clause-none c = λ none of. false_from_ne_true _ (λ m. not_parsed of c.args.text.now c.parse.result c.parse.ensures.value.0 c.in-Err.is m)

pub returns-else-eq-clause-none : goal.returns-else-eq-clause-none
returns-else-eq-clause-none c = λ none of. false_from_ne_true _
    (λ m. written of c.args.text.now c.format.result.now c.parse.result c.eq.result c.parse.ensures.value.0 c.in-Ok.is
    c.format.ensures.text c.eq.ensures c.if-eq.false m)
