use Rattle.std.proofs.Common.{rules, sym, ◌∙◌}
use Rattle.bl_cparse.proofs.ExprOpening.{simple_named, simple_prelude}
use Rattle.bl_cparse.proofs.parser.expr.named.Goals as goal

pub returns-in_err-p-clause-follows : goal.returns-in_err-p-clause-follows
returns-in_err-p-clause-follows c = λ plain_ rest e. let o =
    simple_named (rw c.piece.ensures at (sym c.is_name.ensures ∙ c.if-is_name.true)) e in search rules

pub returns-in_ok-p-clause-follows : goal.returns-in_ok-p-clause-follows
returns-in_ok-p-clause-follows c = λ plain_ rest e. let o =
    simple_named (rw c.piece.ensures at (sym c.is_name.ensures ∙ c.if-is_name.true)) e in search rules

pub returns-in_err-p-2-clause-follows : goal.returns-in_err-p-2-clause-follows
returns-in_err-p-2-clause-follows c = λ plain_ rest e. let o =
    simple_prelude (rw c.piece.ensures at (sym c.is_name.ensures ∙ c.if-is_name.false)) plain_ e in let p = o.0 in let q = o.1 in search rules

pub returns-in_ok-p-2-clause-follows : goal.returns-in_ok-p-2-clause-follows
returns-in_ok-p-2-clause-follows c = λ plain_ rest e. let o =
    simple_prelude (rw c.piece.ensures at (sym c.is_name.ensures ∙ c.if-is_name.false)) plain_ e in let p = o.0 in let q = o.1 in search rules
