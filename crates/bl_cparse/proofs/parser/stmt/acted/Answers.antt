use Rattle.std.proofs.Common.{rules, sym, ◌∙◌}
use Rattle.bl_cparse.proofs.StmtOpening.{stmt_named, stmt_prelude, stmt_through}
use Rattle.bl_cparse.proofs.parser.stmt.acted.Goals as goal

pub returns-in_err-name-clause-follows : goal.returns-in_err-name-clause-follows
returns-in_err-name-clause-follows c = λ other rest e. let o = stmt_through (sym c.sees.ensures.is ∙ c.if-sees.true) e in let p =
    o.0 in let q = o.1 in search rules

pub returns-then-sees-clause-follows : goal.returns-then-sees-clause-follows
returns-then-sees-clause-follows c = λ other rest e. let o = stmt_through (sym c.sees.ensures.is ∙ c.if-sees.true) e in let p =
    o.0 in let q = o.1 in search rules

pub returns-then-is_name-clause-follows : goal.returns-then-is_name-clause-follows
returns-then-is_name-clause-follows c = λ other rest e. let o =
    stmt_named (rw c.piece.ensures at (sym c.is_name.ensures ∙ c.if-is_name.true)) e in search rules

pub returns-in_err-name-2-clause-follows : goal.returns-in_err-name-2-clause-follows
returns-in_err-name-2-clause-follows c = λ other rest e. let o =
    stmt_prelude (rw c.piece.ensures at (sym c.is_name.ensures ∙ c.if-is_name.false))
    (sym c.sees.ensures.is ∙ c.if-sees.false) other e in let p = o.0 in let q = o.1 in search rules

pub returns-clause-follows : goal.returns-clause-follows
returns-clause-follows c = λ other rest e. let o =
    stmt_prelude (rw c.piece.ensures at (sym c.is_name.ensures ∙ c.if-is_name.false))
    (sym c.sees.ensures.is ∙ c.if-sees.false) other e in let p = o.0 in let q = o.1 in search rules
