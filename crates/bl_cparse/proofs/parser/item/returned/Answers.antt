use Rattle.bl_cparse.proofs.ItemOpening.{func_scalar, func_void}
use Rattle.std.proofs.Common.{rules, sym, ◌∙◌}
use Rattle.bl_cparse.proofs.parser.item.returned.Goals as goal

pub returns-then-eat-clause-follows : goal.returns-then-eat-clause-follows
returns-then-eat-clause-follows c = λ room rest e. let o = func_void (sym c.eat.ensures.is ∙ c.if-eat.true) e in search rules

pub returns-in_err-scalar-clause-follows : goal.returns-in_err-scalar-clause-follows
returns-in_err-scalar-clause-follows c = λ room rest e. let o = func_scalar (sym c.eat.ensures.is ∙ c.if-eat.false) e in search rules

pub returns-clause-follows : goal.returns-clause-follows
returns-clause-follows c = λ room rest e. let o = func_scalar (sym c.eat.ensures.is ∙ c.if-eat.false) e in search rules
