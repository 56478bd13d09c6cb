use Rattle.bl_cparse.proofs.ExprOpening.{expr_bracketed, expr_simple}
use Rattle.std.proofs.Common.{rules, sym, ◌∙◌}
use Rattle.bl_cparse.proofs.parser.expr.begun.Goals as goal

pub returns-in_err-p-clause-follows : goal.returns-in_err-p-clause-follows
returns-in_err-p-clause-follows c = λ rest e. let o = expr_bracketed (sym c.sees.ensures.is ∙ c.if-sees.true) e in let p = o.0 in let q = o.1 in search rules

pub returns-in_ok-p-clause-follows : goal.returns-in_ok-p-clause-follows
returns-in_ok-p-clause-follows c = λ rest e. let o = expr_bracketed (sym c.sees.ensures.is ∙ c.if-sees.true) e in let p = o.0 in let q = o.1 in search rules

pub returns-in_err-p-2-clause-follows : goal.returns-in_err-p-2-clause-follows
returns-in_err-p-2-clause-follows c = λ rest e. let o = expr_simple (sym c.sees.ensures.is ∙ c.if-sees.false) e in search rules

pub returns-in_ok-p-2-clause-follows : goal.returns-in_ok-p-2-clause-follows
returns-in_ok-p-2-clause-follows c = λ rest e. let o = expr_simple (sym c.sees.ensures.is ∙ c.if-sees.false) e in search rules
