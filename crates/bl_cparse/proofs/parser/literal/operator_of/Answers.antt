use Rattle.std.proofs.Common.{sym, ◌∙◌}
use Rattle.bl_cparse.proofs.WordLemmas.{no_operator}
use Rattle.bl_cparse.proofs.parser.literal.operator_of.Goals as goal

pub returns-clause-none : goal.returns-clause-none
returns-clause-none c = λ none. no_operator c.args.sign.now (sym c.is.ensures.same ∙ c.if-is.false)
    (sym c.is-2.ensures.same ∙ c.if-is-2.false) (sym c.is-3.ensures.same ∙ c.if-is-3.false)
    (sym c.is-4.ensures.same ∙ c.if-is-4.false) (c.order_of.ensures.none none)
