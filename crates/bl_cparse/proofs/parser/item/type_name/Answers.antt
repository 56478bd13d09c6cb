use Rattle.std.proofs.Common.{rules, sym, ◌∙◌}
use Rattle.bl_cparse.proofs.ItemOpening.{type_scalar, type_struct}
use Rattle.bl_cparse.proofs.parser.item.type_name.Goals as goal

pub returns-in_err-struct_name-clause-follows : goal.returns-in_err-struct_name-clause-follows
returns-in_err-struct_name-clause-follows c = λ room rest e. let o = type_struct (sym c.eat.ensures.is ∙ c.if-eat.true) e in search rules

pub returns-then-eat-clause-follows : goal.returns-then-eat-clause-follows
returns-then-eat-clause-follows c = λ room rest e. let o = type_struct (sym c.eat.ensures.is ∙ c.if-eat.true) e in search rules

pub returns-in_err-scalar-clause-follows : goal.returns-in_err-scalar-clause-follows
returns-in_err-scalar-clause-follows c = λ room rest e. let o = type_scalar (sym c.eat.ensures.is ∙ c.if-eat.false) e in search rules

pub returns-clause-follows : goal.returns-clause-follows
returns-clause-follows c = λ room rest e. let o = type_scalar (sym c.eat.ensures.is ∙ c.if-eat.false) e in search rules
