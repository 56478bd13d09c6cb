use Rattle.bl_cparse_syntax.specs.declared.grammar.Part.TheVariants.{Arg, ArgRest}
use Rattle.bl_cparse_syntax.specs.Expects.{Expects}
use Rattle.std.specs.Prelude.{List, codes}
use Rattle.bl_ctext.specs.Token.{Token}
use Rattle.bl_cparse.proofs.ExprOpening.{args_none, args_some}
use Rattle.bl_cparse.specs.inner.Awaiting.{behind}
use Rattle.bl_cparse.specs.inner.Reading.{part, sign}
use Rattle.bl_cparse.proofs.ReadLemmas.{passed}
use Rattle.std.proofs.Common.{rules, subst, sym, ◌++◌, ◌-◌, ◌∙◌, ◌∷◌}
use Rattle.bl_cparse.proofs.parser.expr.call.Goals as goal

pub returns-then-eat-clause-follows : goal.returns-then-eat-clause-follows
returns-then-eat-clause-follows c = λ enough rest e. let o =
    args_none (sym c.eat.ensures.is ∙ c.if-eat.true) (c.in_ok-open.ensures.follows enough _ e) in let q =
    passed (c.eat.ensures.yes c.if-eat.true) o in search rules

pub returns-clause-follows : goal.returns-clause-follows
returns-clause-follows c = λ enough rest e. let o =
    args_some (sym c.eat.ensures.is ∙ c.if-eat.false) (c.in_ok-open.ensures.follows enough _ e) in let q =
    c.eat.ensures.no c.if-eat.false in c.awaiting.ensures.awaits rest _
    (subst (λ (ts : List Token). Expects (part Arg (c.args.room - 1) ∷ part ArgRest (c.args.room - 1) ∷ sign (codes ")")
    ∷ (behind c.args.outer.items ++ rest)) ts) (sym q) o)
