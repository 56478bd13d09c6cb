use Rattle.bl_cparse_syntax.specs.Expects.{Expects}
use Rattle.bl_cparse_syntax.specs.declared.grammar.Part.TheVariants.{Expr, Inside}
use Rattle.std.specs.Prelude.{List, codes}
use Rattle.bl_ctext.specs.Token.{Token}
use Rattle.bl_cparse.proofs.ReadLemmas.{at_same}
use Rattle.bl_cparse.specs.inner.Awaiting.{behind}
use Rattle.bl_cparse.proofs.ExprOpening.{inside_negative, inside_not, inside_place, inside_two}
use Rattle.bl_cparse.specs.inner.Reading.{operator, part, sign}
use Rattle.std.proofs.Common.{rules, subst, sym, ◌++◌, ◌-◌, ◌∙◌, ◌∷◌, ◌≡◌}
use Rattle.bl_cparse.proofs.parser.expr.opened.Goals as goal

pub returns-in_err-p-clause-follows : goal.returns-in_err-p-clause-follows
returns-in_err-p-clause-follows c = λ rest e. let o = inside_place (sym c.eat.ensures.is ∙ c.if-eat.true) e in search rules

pub returns-then-eat-clause-follows : goal.returns-then-eat-clause-follows
returns-then-eat-clause-follows c = λ rest e. let o = inside_place (sym c.eat.ensures.is ∙ c.if-eat.true) e in search rules

pub returns-in_err-p-2-clause-follows : goal.returns-in_err-p-2-clause-follows
returns-in_err-p-2-clause-follows c = λ rest e. let same : c.eat.new.self ≡ c.args.r.now = c.eat.ensures.no c.if-eat.false in
    let o = inside_negative (sym c.sees.ensures.is ∙ c.if-sees.true)
    (subst (λ (ts : List Token). Expects (part Inside c.args.room ∷ (behind c.args.outer.items ++ rest)) ts) (sym same) e) in search rules

pub returns-then-sees-clause-follows : goal.returns-then-sees-clause-follows
returns-then-sees-clause-follows c = λ rest e. let same : c.eat.new.self ≡ c.args.r.now = c.eat.ensures.no c.if-eat.false in let o =
    inside_negative (sym c.sees.ensures.is ∙ c.if-sees.true)
    (subst (λ (ts : List Token). Expects (part Inside c.args.room ∷ (behind c.args.outer.items ++ rest)) ts) (sym same) e) in search rules

pub returns-in_err-p-3-clause-follows : goal.returns-in_err-p-3-clause-follows
returns-in_err-p-3-clause-follows c = λ rest e. let same : c.eat.new.self ≡ c.args.r.now = c.eat.ensures.no c.if-eat.false in
    let o = inside_not (sym c.eat-2.ensures.is ∙ c.if-eat-2.true)
    (subst (λ (ts : List Token). Expects (part Inside c.args.room ∷ (behind c.args.outer.items ++ rest)) ts) (sym same) e) in search rules

pub returns-then-eat-2-clause-follows : goal.returns-then-eat-2-clause-follows
returns-then-eat-2-clause-follows c = λ rest e. let same : c.eat.new.self ≡ c.args.r.now = c.eat.ensures.no c.if-eat.false in
    let o = inside_not (sym c.eat-2.ensures.is ∙ c.if-eat-2.true)
    (subst (λ (ts : List Token). Expects (part Inside c.args.room ∷ (behind c.args.outer.items ++ rest)) ts) (sym same) e) in search rules

pub returns-in_err-p-4-clause-follows : goal.returns-in_err-p-4-clause-follows
returns-in_err-p-4-clause-follows c = λ rest e. let same : c.eat.new.self ≡ c.args.r.now = c.eat.ensures.no c.if-eat.false in
    let o = inside_two (at_same same (codes "*") (sym c.eat.ensures.is ∙ c.if-eat.false))
    (sym c.eat-2.ensures.is ∙ c.if-eat-2.false) (sym c.sees.ensures.is ∙ c.if-sees.false)
    (subst (λ (ts : List Token). Expects (part Inside c.args.room ∷ (behind c.args.outer.items ++ rest)) ts) (sym same) e) in
    let q = subst (λ (ts : List Token). Expects (part Expr (c.args.room - 1) ∷ operator ∷ part Expr (c.args.room - 1)
    ∷ sign (codes ")") ∷ (behind c.args.outer.items ++ rest)) ts) (sym (c.eat-2.ensures.no c.if-eat-2.false)) o in search rules

pub returns-clause-follows : goal.returns-clause-follows
returns-clause-follows c = λ rest e. let same : c.eat.new.self ≡ c.args.r.now = c.eat.ensures.no c.if-eat.false in let o =
    inside_two (at_same same (codes "*") (sym c.eat.ensures.is ∙ c.if-eat.false)) (sym c.eat-2.ensures.is ∙ c.if-eat-2.false)
    (sym c.sees.ensures.is ∙ c.if-sees.false) (subst (λ (ts : List Token). Expects
    (part Inside c.args.room ∷ (behind c.args.outer.items ++ rest)) ts) (sym same) e) in let q =
    subst (λ (ts : List Token). Expects (part Expr (c.args.room - 1) ∷ operator ∷ part Expr (c.args.room - 1) ∷ sign (codes ")")
    ∷ (behind c.args.outer.items ++ rest)) ts) (sym (c.eat-2.ensures.no c.if-eat-2.false)) o in search rules
