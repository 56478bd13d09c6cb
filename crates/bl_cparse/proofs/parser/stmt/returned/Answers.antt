use Rattle.bl_cparse_syntax.specs.Expects.{Expects}
use Rattle.bl_cparse_syntax.specs.declared.grammar.Part.TheVariants.{Expr}
use Rattle.std.specs.Prelude.{List, codes}
use Rattle.bl_ctext.specs.Token.{Token}
use Rattle.bl_cparse.specs.inner.Reading.{part, sign}
use Rattle.bl_cparse.proofs.ReadLemmas.{passed}
use Rattle.bl_cparse.proofs.StmtOpening.{result_none, result_value}
use Rattle.std.proofs.Common.{rules, subst, sym, ◌∙◌, ◌∷◌, ◌≡◌}
use Rattle.bl_cparse.proofs.parser.stmt.returned.Goals as goal

pub returns-then-eat-clause-follows : goal.returns-then-eat-clause-follows
returns-then-eat-clause-follows c = λ rest e. passed (c.eat.ensures.yes c.if-eat.true) (result_none (sym c.eat.ensures.is ∙ c.if-eat.true) e)

pub returns-in_err-value-clause-follows : goal.returns-in_err-value-clause-follows
returns-in_err-value-clause-follows c = λ rest e. let same : c.eat.new.self ≡ c.args.r.now = c.eat.ensures.no c.if-eat.false in
    let o = subst (λ (ts : List Token). Expects (part Expr c.args.room ∷ sign (codes ";") ∷ rest) ts) (sym same)
    (result_value (sym c.eat.ensures.is ∙ c.if-eat.false) e) in search rules

pub returns-in_err-take-clause-follows : goal.returns-in_err-take-clause-follows
returns-in_err-take-clause-follows c = λ rest e. let same : c.eat.new.self ≡ c.args.r.now = c.eat.ensures.no c.if-eat.false in
    let o = subst (λ (ts : List Token). Expects (part Expr c.args.room ∷ sign (codes ";") ∷ rest) ts) (sym same)
    (result_value (sym c.eat.ensures.is ∙ c.if-eat.false) e) in search rules

pub returns-clause-follows : goal.returns-clause-follows
returns-clause-follows c = λ rest e. let same : c.eat.new.self ≡ c.args.r.now = c.eat.ensures.no c.if-eat.false in let o =
    subst (λ (ts : List Token). Expects (part Expr c.args.room ∷ sign (codes ";") ∷ rest) ts) (sym same)
    (result_value (sym c.eat.ensures.is ∙ c.if-eat.false) e) in search rules
