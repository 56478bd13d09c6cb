use Rattle.bl_cparse_syntax.specs.declared.grammar.Part.TheVariants.{ArgRest, Expr}
use Rattle.bl_cparse_syntax.specs.Expects.{Expects}
use Rattle.std.specs.Prelude.{List, codes}
use Rattle.bl_ctext.specs.Token.{Token}
use Rattle.bl_cparse.proofs.ExprOpening.{arg_address, arg_value}
use Rattle.bl_cparse.specs.inner.Awaiting.{behind}
use Rattle.bl_cparse.specs.inner.Reading.{part, sign}
use Rattle.std.proofs.Common.{rules, subst, sym, ◌++◌, ◌∙◌, ◌∷◌}
use Rattle.bl_cparse.proofs.parser.expr.argument.Goals as goal

pub returns-in_err-p-clause-follows : goal.returns-in_err-p-clause-follows
returns-in_err-p-clause-follows c = λ rest e. let o = arg_address (sym c.eat.ensures.is ∙ c.if-eat.true) e in search rules

pub returns-then-eat-clause-follows : goal.returns-then-eat-clause-follows
returns-then-eat-clause-follows c = λ rest e. let o = arg_address (sym c.eat.ensures.is ∙ c.if-eat.true) e in search rules

pub returns-in_err-p-2-clause-follows : goal.returns-in_err-p-2-clause-follows
returns-in_err-p-2-clause-follows c = λ rest e. let o = arg_value (sym c.eat.ensures.is ∙ c.if-eat.false) e in let q =
    subst (λ (ts : List Token). Expects (part Expr c.args.call.room ∷ part ArgRest c.args.call.room ∷ sign (codes ")")
    ∷ (behind c.args.outer.items ++ rest)) ts) (sym (c.eat.ensures.no c.if-eat.false)) o in search rules

pub returns-clause-follows : goal.returns-clause-follows
returns-clause-follows c = λ rest e. let o = arg_value (sym c.eat.ensures.is ∙ c.if-eat.false) e in let q =
    subst (λ (ts : List Token). Expects (part Expr c.args.call.room ∷ part ArgRest c.args.call.room ∷ sign (codes ")")
    ∷ (behind c.args.outer.items ++ rest)) ts) (sym (c.eat.ensures.no c.if-eat.false)) o in search rules
