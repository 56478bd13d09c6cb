use Rattle.bl_cparse_syntax.specs.Expects.{Expects}
use Rattle.bl_cparse.specs.declared.parser.expr.Held.{Held}
use Rattle.bl_cparse.specs.inner.Awaiting.{behind, held_wanted}
use Rattle.std.proofs.Common.{rules, subst, ◌++◌}
use Rattle.bl_cparse.proofs.parser.expr.closed_held.Goals as goal

pub returns-in_err-p-in-Negation-clause-follows : goal.returns-in_err-p-in-Negation-clause-follows
returns-in_err-p-in-Negation-clause-follows c = λ rest e. let o =
    subst (λ (h : Held). Expects ((held_wanted h ++ behind c.args.outer.items) ++ rest) c.args.r.now) c.in-Negation.is e in search rules

pub returns-in_ok-p-in-Negation-clause-follows : goal.returns-in_ok-p-in-Negation-clause-follows
returns-in_ok-p-in-Negation-clause-follows c = λ rest e. let o =
    subst (λ (h : Held). Expects ((held_wanted h ++ behind c.args.outer.items) ++ rest) c.args.r.now) c.in-Negation.is e in search rules

pub returns-in_err-p-in-First-clause-follows : goal.returns-in_err-p-in-First-clause-follows
returns-in_err-p-in-First-clause-follows c = λ rest e. let o =
    subst (λ (h : Held). Expects ((held_wanted h ++ behind c.args.outer.items) ++ rest) c.args.r.now) c.in-First.is e in search rules

pub returns-in_ok-p-in-First-clause-follows : goal.returns-in_ok-p-in-First-clause-follows
returns-in_ok-p-in-First-clause-follows c = λ rest e. let o =
    subst (λ (h : Held). Expects ((held_wanted h ++ behind c.args.outer.items) ++ rest) c.args.r.now) c.in-First.is e in search rules

pub returns-in_err-p-in-Second-clause-follows : goal.returns-in_err-p-in-Second-clause-follows
returns-in_err-p-in-Second-clause-follows c = λ rest e. let o =
    subst (λ (h : Held). Expects ((held_wanted h ++ behind c.args.outer.items) ++ rest) c.args.r.now) c.in-Second.is e in search rules

pub returns-in_ok-p-in-Second-clause-follows : goal.returns-in_ok-p-in-Second-clause-follows
returns-in_ok-p-in-Second-clause-follows c = λ rest e. let o =
    subst (λ (h : Held). Expects ((held_wanted h ++ behind c.args.outer.items) ++ rest) c.args.r.now) c.in-Second.is e in search rules

pub returns-in_err-p-in-Argument-clause-follows : goal.returns-in_err-p-in-Argument-clause-follows
returns-in_err-p-in-Argument-clause-follows c = λ rest e. let o =
    subst (λ (h : Held). Expects ((held_wanted h ++ behind c.args.outer.items) ++ rest) c.args.r.now) c.in-Argument.is e in search rules

pub returns-in_ok-p-in-Argument-clause-follows : goal.returns-in_ok-p-in-Argument-clause-follows
returns-in_ok-p-in-Argument-clause-follows c = λ rest e. let o =
    subst (λ (h : Held). Expects ((held_wanted h ++ behind c.args.outer.items) ++ rest) c.args.r.now) c.in-Argument.is e in search rules

pub returns-in_err-p-in-Index-clause-follows : goal.returns-in_err-p-in-Index-clause-follows
returns-in_err-p-in-Index-clause-follows c = λ rest e. let o =
    subst (λ (h : Held). Expects ((held_wanted h ++ behind c.args.outer.items) ++ rest) c.args.r.now) c.in-Index.is e in search rules

pub returns-in_ok-p-in-Index-clause-follows : goal.returns-in_ok-p-in-Index-clause-follows
returns-in_ok-p-in-Index-clause-follows c = λ rest e. let o =
    subst (λ (h : Held). Expects ((held_wanted h ++ behind c.args.outer.items) ++ rest) c.args.r.now) c.in-Index.is e in search rules

pub returns-in_err-op-in-First-clause-follows : goal.returns-in_err-op-in-First-clause-follows
returns-in_err-op-in-First-clause-follows c = λ rest e. let o =
    subst (λ (h : Held). Expects ((held_wanted h ++ behind c.args.outer.items) ++ rest) c.args.r.now) c.in-First.is e in search rules
