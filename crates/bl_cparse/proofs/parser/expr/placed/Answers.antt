use Rattle.bl_cparse_syntax.specs.Expects.{Expects}
use Rattle.bl_cparse.specs.declared.parser.expr.Use.{Use}
use Rattle.bl_cparse.specs.inner.Awaiting.{behind, use_wanted}
use Rattle.std.proofs.Common.{rules, subst, ◌++◌}
use Rattle.bl_cparse.proofs.parser.expr.placed.Goals as goal

pub returns-in-Value-clause-follows : goal.returns-in-Value-clause-follows
returns-in-Value-clause-follows c = λ rest e. let o =
    subst (λ (u : Use). Expects ((use_wanted u ++ behind c.args.outer.items) ++ rest) c.args.r.now) c.in-Value.is e in search rules

pub returns-in_err-p-in-Address-clause-follows : goal.returns-in_err-p-in-Address-clause-follows
returns-in_err-p-in-Address-clause-follows c = λ rest e. let o =
    subst (λ (u : Use). Expects ((use_wanted u ++ behind c.args.outer.items) ++ rest) c.args.r.now) c.in-Address.is e in search rules

pub returns-in_ok-p-in-Address-clause-follows : goal.returns-in_ok-p-in-Address-clause-follows
returns-in_ok-p-in-Address-clause-follows c = λ rest e. let o =
    subst (λ (u : Use). Expects ((use_wanted u ++ behind c.args.outer.items) ++ rest) c.args.r.now) c.in-Address.is e in search rules
