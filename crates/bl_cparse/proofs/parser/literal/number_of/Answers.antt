use Rattle.std.proofs.lemmas.Bool.{false_from_ne_true}
use Rattle.bl_cparse.proofs.NumberLemmas.{numeral}
use Rattle.bl_cparse.proofs.parser.literal.number_of.Goals as goal

pub returns-in-Err-clause-none : goal.returns-in-Err-clause-none
returns-in-Err-clause-none c = λ none of. false_from_ne_true _ (λ m. c.in-Err.ensures.cases.0 (numeral of c.args.digits.now m).text)
