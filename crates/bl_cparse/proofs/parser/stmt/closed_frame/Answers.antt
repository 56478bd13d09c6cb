use Rattle.bl_cparse_syntax.specs.Expects.{Expects}
use Rattle.bl_cparse.specs.declared.parser.stmt.Opened.{Opened}
use Rattle.bl_cparse_syntax.specs.declared.grammar.Part.TheVariants.{Stmts}
use Rattle.std.proofs.Common.{[], rules, subst, ◌++◌, ◌∷◌}
use Rattle.bl_cparse.specs.inner.Awaiting.{closed_wanted, outside}
use Rattle.std.specs.Prelude.{codes}
use Rattle.bl_cparse.specs.inner.Reading.{part, sign}
use Rattle.bl_cparse.proofs.parser.stmt.closed_frame.Goals as goal

pub returns-in_err-next-in-Then-clause-follows : goal.returns-in_err-next-in-Then-clause-follows
returns-in_err-next-in-Then-clause-follows c = λ rest e. let o =
    subst (λ (op : Opened). Expects (sign (codes "}") ∷
    (((closed_wanted op c.args.frame.room ++ part Stmts c.args.frame.room ∷ sign (codes "}") ∷ []) ++ outside c.args.outer.items)
    ++ rest)) c.args.r.now) c.in-Then.is e in search rules

pub returns-in_ok-next-in-Then-clause-follows : goal.returns-in_ok-next-in-Then-clause-follows
returns-in_ok-next-in-Then-clause-follows c = λ rest e. let o =
    subst (λ (op : Opened). Expects (sign (codes "}") ∷
    (((closed_wanted op c.args.frame.room ++ part Stmts c.args.frame.room ∷ sign (codes "}") ∷ []) ++ outside c.args.outer.items)
    ++ rest)) c.args.r.now) c.in-Then.is e in search rules

pub returns-in_err-next-in-Else-clause-follows : goal.returns-in_err-next-in-Else-clause-follows
returns-in_err-next-in-Else-clause-follows c = λ rest e. let o =
    subst (λ (op : Opened). Expects (sign (codes "}") ∷
    (((closed_wanted op c.args.frame.room ++ part Stmts c.args.frame.room ∷ sign (codes "}") ∷ []) ++ outside c.args.outer.items)
    ++ rest)) c.args.r.now) c.in-Else.is e in search rules

pub returns-in_ok-next-in-Else-clause-follows : goal.returns-in_ok-next-in-Else-clause-follows
returns-in_ok-next-in-Else-clause-follows c = λ rest e. let o =
    subst (λ (op : Opened). Expects (sign (codes "}") ∷
    (((closed_wanted op c.args.frame.room ++ part Stmts c.args.frame.room ∷ sign (codes "}") ∷ []) ++ outside c.args.outer.items)
    ++ rest)) c.args.r.now) c.in-Else.is e in search rules

pub returns-in_err-next-in-Turns-clause-follows : goal.returns-in_err-next-in-Turns-clause-follows
returns-in_err-next-in-Turns-clause-follows c = λ rest e. let o =
    subst (λ (op : Opened). Expects (sign (codes "}") ∷
    (((closed_wanted op c.args.frame.room ++ part Stmts c.args.frame.room ∷ sign (codes "}") ∷ []) ++ outside c.args.outer.items)
    ++ rest)) c.args.r.now) c.in-Turns.is e in search rules

pub returns-in_ok-next-in-Turns-clause-follows : goal.returns-in_ok-next-in-Turns-clause-follows
returns-in_ok-next-in-Turns-clause-follows c = λ rest e. let o =
    subst (λ (op : Opened). Expects (sign (codes "}") ∷
    (((closed_wanted op c.args.frame.room ++ part Stmts c.args.frame.room ∷ sign (codes "}") ∷ []) ++ outside c.args.outer.items)
    ++ rest)) c.args.r.now) c.in-Turns.is e in search rules
