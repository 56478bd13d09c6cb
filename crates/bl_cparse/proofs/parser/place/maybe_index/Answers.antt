use Rattle.bl_cparse.proofs.ExprOpening.{index_absent}
use Rattle.std.proofs.Common.{rules, sym, ◌∙◌}
use Rattle.bl_cparse.proofs.parser.place.maybe_index.Goals as goal

pub returns-in_err-index-clause-follows : goal.returns-in_err-index-clause-follows
returns-in_err-index-clause-follows c = λ rest e. let h = sym c.sees.ensures.is ∙ c.if-sees.true in search rules

pub returns-then-sees-clause-follows : goal.returns-then-sees-clause-follows
returns-then-sees-clause-follows c = λ rest e. let h = sym c.sees.ensures.is ∙ c.if-sees.true in search rules

pub returns-clause-follows : goal.returns-clause-follows
returns-clause-follows c = λ rest e. index_absent (sym c.sees.ensures.is ∙ c.if-sees.false) e
