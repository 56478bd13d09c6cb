use Rattle.bl_cparse.proofs.ExprOpening.{place_named, place_through}
use Rattle.std.proofs.Common.{rules, sym, ◌∙◌}
use Rattle.bl_cparse.proofs.parser.place.place_root.Goals as goal

pub returns-in_err-name-clause-follows : goal.returns-in_err-name-clause-follows
returns-in_err-name-clause-follows c = λ rest e. let o = place_through (sym c.sees.ensures.is ∙ c.if-sees.true) e in let p = o.0 in
    let q = o.1 in search rules

pub returns-then-sees-clause-follows : goal.returns-then-sees-clause-follows
returns-then-sees-clause-follows c = λ rest e. let o = place_through (sym c.sees.ensures.is ∙ c.if-sees.true) e in let p = o.0 in let q = o.1 in search rules

pub returns-in_err-name-2-clause-follows : goal.returns-in_err-name-2-clause-follows
returns-in_err-name-2-clause-follows c = λ rest e. let o = place_named (sym c.sees.ensures.is ∙ c.if-sees.false) e in search rules

pub returns-clause-follows : goal.returns-clause-follows
returns-clause-follows c = λ rest e. let o = place_named (sym c.sees.ensures.is ∙ c.if-sees.false) e in search rules
