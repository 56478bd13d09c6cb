use Rattle.bl_cparse_syntax.specs.Expects.{Expects}
use Rattle.bl_cparse_syntax.specs.declared.grammar.Part.TheVariants.{Expr, Steps}
use Rattle.bl_cparse.specs.inner.Reading.{GoesOnAPlace, part}
use Rattle.std.specs.Prelude.{List}
use Rattle.bl_ctext.specs.Token.{Token}
use Rattle.bl_cparse.proofs.ExprOpening.{arg_address, arg_value, steps_end}
use Rattle.bl_cparse.proofs.ReadLemmas.{passed, wanting}
use Rattle.std.proofs.Common.{rules, subst, sym, ◌∙◌, ◌∷◌, ◌≡◌}
use Rattle.bl_cparse.proofs.parser.place.argument.Goals as goal

pub returns-in_err-root-clause-follows : goal.returns-in_err-root-clause-follows
returns-in_err-root-clause-follows c = λ rest e. let o =
    passed (c.eat.ensures.yes c.if-eat.true) (arg_address (sym c.eat.ensures.is ∙ c.if-eat.true) e) in search rules

pub returns-in_err-at-clause-follows : goal.returns-in_err-at-clause-follows
returns-in_err-at-clause-follows c = λ rest e. wanting _ _ _ c.from_residual-in_err-at.ensures.1
    (c.in_err-at.ensures.follows Steps GoesOnAPlace.steps rest
    (c.in_ok-root.ensures.follows _ (passed (c.eat.ensures.yes c.if-eat.true) (arg_address (sym c.eat.ensures.is ∙ c.if-eat.true) e))))

pub returns-then-eat-clause-follows : goal.returns-then-eat-clause-follows
returns-then-eat-clause-follows c = λ rest e. steps_end c.in_ok-at.ensures.ends
    (c.in_ok-at.ensures.follows Steps GoesOnAPlace.steps rest
    (c.in_ok-root.ensures.follows _ (passed (c.eat.ensures.yes c.if-eat.true) (arg_address (sym c.eat.ensures.is ∙ c.if-eat.true) e))))

pub returns-in_err-expr-clause-follows : goal.returns-in_err-expr-clause-follows
returns-in_err-expr-clause-follows c = λ rest e. let same : c.eat.new.self ≡ c.args.r.now = c.eat.ensures.no c.if-eat.false in
    let o = subst (λ (ts : List Token). Expects (part Expr c.args.room ∷ rest) ts) (sym same)
    (arg_value (sym c.eat.ensures.is ∙ c.if-eat.false) e) in search rules

pub returns-clause-follows : goal.returns-clause-follows
returns-clause-follows c = λ rest e. let same : c.eat.new.self ≡ c.args.r.now = c.eat.ensures.no c.if-eat.false in let o =
    subst (λ (ts : List Token). Expects (part Expr c.args.room ∷ rest) ts) (sym same) (arg_value (sym c.eat.ensures.is ∙ c.if-eat.false) e) in search rules
