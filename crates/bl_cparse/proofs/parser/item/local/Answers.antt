use Rattle.bl_cparse.proofs.ItemOpening.{local_scalar, local_struct}
use Rattle.std.proofs.Common.{rules, sym, ◌∙◌}
use Rattle.bl_cparse.proofs.parser.item.local.Goals as goal

pub returns-then-eat-clause-follows : goal.returns-then-eat-clause-follows
returns-then-eat-clause-follows c = λ room rest e. let o = local_struct (sym c.eat.ensures.is ∙ c.if-eat.true) e in search rules

pub returns-in_err-scalar-clause-follows : goal.returns-in_err-scalar-clause-follows
returns-in_err-scalar-clause-follows c = λ room rest e. let o = local_scalar (sym c.eat.ensures.is ∙ c.if-eat.false) e in search rules

pub returns-in_err-name-clause-follows : goal.returns-in_err-name-clause-follows
returns-in_err-name-clause-follows c = λ room rest e. let o = local_scalar (sym c.eat.ensures.is ∙ c.if-eat.false) e in search rules

pub returns-in_err-take-clause-follows : goal.returns-in_err-take-clause-follows
returns-in_err-take-clause-follows c = λ room rest e. let o = local_scalar (sym c.eat.ensures.is ∙ c.if-eat.false) e in search rules

pub returns-in_err-take-2-clause-follows : goal.returns-in_err-take-2-clause-follows
returns-in_err-take-2-clause-follows c = λ room rest e. let o = local_scalar (sym c.eat.ensures.is ∙ c.if-eat.false) e in search rules

pub returns-in_err-take-3-clause-follows : goal.returns-in_err-take-3-clause-follows
returns-in_err-take-3-clause-follows c = λ room rest e. let o = local_scalar (sym c.eat.ensures.is ∙ c.if-eat.false) e in search rules

pub returns-clause-follows : goal.returns-clause-follows
returns-clause-follows c = λ room rest e. let o = local_scalar (sym c.eat.ensures.is ∙ c.if-eat.false) e in search rules
