use Rattle.bl_cparse.proofs.StmtOpening.{name_assigned, name_called}
use Rattle.std.proofs.Common.{rules, sym, ◌∙◌}
use Rattle.bl_cparse.proofs.parser.stmt.named.Goals as goal

pub returns-then-sees-clause-follows : goal.returns-then-sees-clause-follows
returns-then-sees-clause-follows c = λ rest e. let o =
    name_called (sym c.sees.ensures.is ∙ c.if-sees.true) (c.in_ok-name.ensures.follows _ e) in let p = o.0 in let q = o.1 in search rules

pub returns-else-sees-clause-follows : goal.returns-else-sees-clause-follows
returns-else-sees-clause-follows c = λ rest e. let o =
    name_assigned (sym c.sees.ensures.is ∙ c.if-sees.false) (c.in_ok-name.ensures.follows _ e) in search rules
