use Rattle.std.proofs.Common.{sym, refl, ◌∙◌}
use Rattle.bl_cparse.proofs.WordLemmas.{no_scalar}
use Rattle.bl_cparse.proofs.parser.literal.scalar_of.Goals as goal

pub returns-in-None-clause-none : goal.returns-in-None-clause-none
returns-in-None-clause-none c = λ none. no_scalar c.args.word.now (sym c.is.ensures.same ∙ c.if-is.false)
    (c.in_default.ensures.none refl) (c.in-None.ensures.none refl)
