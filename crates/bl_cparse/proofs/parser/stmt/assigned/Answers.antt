use Rattle.bl_cparse.proofs.StmtOpening.{assign_value, value_bracketed, value_simple}
use Rattle.std.proofs.Common.{rules, sym, ◌∙◌}
use Rattle.bl_cparse.proofs.parser.stmt.assigned.Goals as goal

pub returns-in_err-take-clause-follows : goal.returns-in_err-take-clause-follows
returns-in_err-take-clause-follows c = λ dot rest e. let o = assign_value dot e in search rules

pub returns-then-sees-clause-follows : goal.returns-then-sees-clause-follows
returns-then-sees-clause-follows c = λ dot rest e. let o =
    value_bracketed (sym c.sees.ensures.is ∙ c.if-sees.true) (c.in_ok-take.ensures.follows _ (assign_value dot e)) in let p = o.0 in
    let q = o.1 in search rules

pub returns-in_err-value-clause-follows : goal.returns-in_err-value-clause-follows
returns-in_err-value-clause-follows c = λ dot rest e. let o =
    value_simple (sym c.sees.ensures.is ∙ c.if-sees.false) (c.in_ok-take.ensures.follows _ (assign_value dot e)) in search rules

pub returns-clause-follows : goal.returns-clause-follows
returns-clause-follows c = λ dot rest e. let o = value_simple (sym c.sees.ensures.is ∙ c.if-sees.false)
    (c.in_ok-take.ensures.follows _ (assign_value dot e)) in search rules
