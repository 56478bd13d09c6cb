use Rattle.std.proofs.Common.{rules, sym, ◌∙◌}
use Rattle.bl_cparse.proofs.ExprOpening.{use_called, use_steps}
use Rattle.bl_cparse.proofs.parser.expr.name_used.Goals as goal

pub returns-in_err-p-clause-follows : goal.returns-in_err-p-clause-follows
returns-in_err-p-clause-follows c = λ rest e. let o =
    use_called (sym c.sees.ensures.is ∙ c.if-sees.true) (c.in_ok-name.ensures.follows _ e) in let p = o.0 in let q = o.1 in search rules

pub returns-then-sees-clause-follows : goal.returns-then-sees-clause-follows
returns-then-sees-clause-follows c = λ rest e. let o =
    use_called (sym c.sees.ensures.is ∙ c.if-sees.true) (c.in_ok-name.ensures.follows _ e) in let p = o.0 in let q = o.1 in search rules

pub returns-clause-follows : goal.returns-clause-follows
returns-clause-follows c = λ rest e. let o = use_steps (sym c.sees.ensures.is ∙ c.if-sees.false) (c.in_ok-name.ensures.follows _ e) in search rules
