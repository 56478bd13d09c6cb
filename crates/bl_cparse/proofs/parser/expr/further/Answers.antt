use Rattle.bl_cparse_syntax.specs.Expects.{Expects}
use Rattle.bl_cparse.specs.declared.parser.expr.Next.{Next}
use Rattle.bl_cparse.specs.inner.Awaiting.{behind, next_wanted}
use Rattle.std.proofs.Common.{rules, subst, ◌++◌}
use Rattle.bl_cparse.proofs.parser.expr.further.Goals as goal

pub returns-in_err-p-in-Wanted-clause-follows : goal.returns-in_err-p-in-Wanted-clause-follows
returns-in_err-p-in-Wanted-clause-follows c = λ rest e. let o =
    subst (λ (n : Next). Expects ((next_wanted n ++ behind c.args.partial.outer.items) ++ rest) c.args.r.now) c.in-Wanted.is e in search rules

pub returns-in_ok-p-in-Wanted-clause-follows : goal.returns-in_ok-p-in-Wanted-clause-follows
returns-in_ok-p-in-Wanted-clause-follows c = λ rest e. let o =
    subst (λ (n : Next). Expects ((next_wanted n ++ behind c.args.partial.outer.items) ++ rest) c.args.r.now) c.in-Wanted.is e in search rules

pub returns-in_err-p-in-Argument-clause-follows : goal.returns-in_err-p-in-Argument-clause-follows
returns-in_err-p-in-Argument-clause-follows c = λ rest e. let o =
    subst (λ (n : Next). Expects ((next_wanted n ++ behind c.args.partial.outer.items) ++ rest) c.args.r.now) c.in-Argument.is e in search rules

pub returns-in_ok-p-in-Argument-clause-follows : goal.returns-in_ok-p-in-Argument-clause-follows
returns-in_ok-p-in-Argument-clause-follows c = λ rest e. let o =
    subst (λ (n : Next). Expects ((next_wanted n ++ behind c.args.partial.outer.items) ++ rest) c.args.r.now) c.in-Argument.is e in search rules

pub returns-in_err-p-in-Place-clause-follows : goal.returns-in_err-p-in-Place-clause-follows
returns-in_err-p-in-Place-clause-follows c = λ rest e. let o =
    subst (λ (n : Next). Expects ((next_wanted n ++ behind c.args.partial.outer.items) ++ rest) c.args.r.now) c.in-Place.is e in search rules

pub returns-in_ok-p-in-Place-clause-follows : goal.returns-in_ok-p-in-Place-clause-follows
returns-in_ok-p-in-Place-clause-follows c = λ rest e. let o =
    subst (λ (n : Next). Expects ((next_wanted n ++ behind c.args.partial.outer.items) ++ rest) c.args.r.now) c.in-Place.is e in search rules

pub returns-in_err-p-in-Whole-clause-follows : goal.returns-in_err-p-in-Whole-clause-follows
returns-in_err-p-in-Whole-clause-follows c = λ rest e. let o =
    subst (λ (n : Next). Expects ((next_wanted n ++ behind c.args.partial.outer.items) ++ rest) c.args.r.now) c.in-Whole.is e in search rules

pub returns-in_ok-p-in-Whole-clause-follows : goal.returns-in_ok-p-in-Whole-clause-follows
returns-in_ok-p-in-Whole-clause-follows c = λ rest e. let o =
    subst (λ (n : Next). Expects ((next_wanted n ++ behind c.args.partial.outer.items) ++ rest) c.args.r.now) c.in-Whole.is e in search rules
