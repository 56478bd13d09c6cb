use Rattle.bl_cparse.proofs.ItemOpening.{length_absent, length_stands}
use Rattle.std.proofs.Common.{rules, sym, ◌∙◌}
use Rattle.bl_cparse.proofs.parser.item.member_length.Goals as goal

pub returns-then-not-eat-clause-follows : goal.returns-then-not-eat-clause-follows
returns-then-not-eat-clause-follows c = λ room rest e. rw (c.eat.ensures.no c.if-not-eat.true) (length_absent (sym c.eat.ensures.is ∙ c.if-not-eat.true) e)

pub returns-in_err-length-clause-follows : goal.returns-in_err-length-clause-follows
returns-in_err-length-clause-follows c = λ room rest e. let o = length_stands (sym c.eat.ensures.is ∙ c.if-not-eat.false) e in search rules

pub returns-in_err-take-clause-follows : goal.returns-in_err-take-clause-follows
returns-in_err-take-clause-follows c = λ room rest e. let o = length_stands (sym c.eat.ensures.is ∙ c.if-not-eat.false) e in search rules

pub returns-clause-follows : goal.returns-clause-follows
returns-clause-follows c = λ room rest e. let o = length_stands (sym c.eat.ensures.is ∙ c.if-not-eat.false) e in search rules
