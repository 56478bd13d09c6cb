use Rattle.std.proofs.Common.{rules, sym, ◌∙◌}
use Rattle.bl_cparse.proofs.StmtOpening.{stmt_if, stmt_turns, stmts_end, stmts_more}
use Rattle.bl_cparse.proofs.parser.stmt.further.Goals as goal

pub returns-in_err-next-clause-follows : goal.returns-in_err-next-clause-follows
returns-in_err-next-clause-follows c = λ rest e. let o = stmts_end (sym c.sees.ensures.is ∙ c.if-sees.true) e in search rules

pub returns-in_ok-next-clause-follows : goal.returns-in_ok-next-clause-follows
returns-in_ok-next-clause-follows c = λ rest e. let o = stmts_end (sym c.sees.ensures.is ∙ c.if-sees.true) e in search rules

pub returns-in_err-next-2-clause-follows : goal.returns-in_err-next-2-clause-follows
returns-in_err-next-2-clause-follows c = λ rest e. let o =
    stmt_if (sym c.sees-else-sees.ensures.is ∙ c.if-sees-2.true) (stmts_more (sym c.sees.ensures.is ∙ c.if-sees.false) e) in let p =
    o.0 in let q = o.1 in search rules

pub returns-in_ok-next-2-clause-follows : goal.returns-in_ok-next-2-clause-follows
returns-in_ok-next-2-clause-follows c = λ rest e. let o =
    stmt_if (sym c.sees-else-sees.ensures.is ∙ c.if-sees-2.true) (stmts_more (sym c.sees.ensures.is ∙ c.if-sees.false) e) in let p =
    o.0 in let q = o.1 in search rules

pub returns-in_err-next-3-clause-follows : goal.returns-in_err-next-3-clause-follows
returns-in_err-next-3-clause-follows c = λ rest e. let o =
    stmt_turns (sym c.sees-else-sees-2.ensures.is ∙ c.if-sees-3.true) (stmts_more (sym c.sees.ensures.is ∙ c.if-sees.false) e) in
    let p = o.0 in let q = o.1 in search rules

pub returns-in_ok-next-3-clause-follows : goal.returns-in_ok-next-3-clause-follows
returns-in_ok-next-3-clause-follows c = λ rest e. let o =
    stmt_turns (sym c.sees-else-sees-2.ensures.is ∙ c.if-sees-3.true) (stmts_more (sym c.sees.ensures.is ∙ c.if-sees.false) e) in
    let p = o.0 in let q = o.1 in search rules

pub returns-in_err-next-4-clause-follows : goal.returns-in_err-next-4-clause-follows
returns-in_err-next-4-clause-follows c = λ rest e. let o = stmts_more (sym c.sees.ensures.is ∙ c.if-sees.false) e in let p =
    sym c.sees-else-sees.ensures.is ∙ c.if-sees-2.false in let q = sym c.sees-else-sees-2.ensures.is ∙ c.if-sees-3.false in search rules

pub returns-in_ok-next-4-clause-follows : goal.returns-in_ok-next-4-clause-follows
returns-in_ok-next-4-clause-follows c = λ rest e. let o = stmts_more (sym c.sees.ensures.is ∙ c.if-sees.false) e in let p =
    sym c.sees-else-sees.ensures.is ∙ c.if-sees-2.false in let q = sym c.sees-else-sees-2.ensures.is ∙ c.if-sees-3.false in search rules

pub closed-requires-clause-open : goal.closed-requires-clause-open
closed-requires-clause-open c = c.requires.open (sym c.sees.ensures.is ∙ c.if-sees.true)
