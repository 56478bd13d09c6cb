use Rattle.bl_cparse_syntax.specs.Expects.{Expects}
use Rattle.std.specs.Prelude.{List}
use Rattle.bl_ctext.specs.Token.{Token}
use Rattle.bl_cparse.specs.inner.Awaiting.{behind, use_wanted}
use Rattle.bl_cparse.proofs.ExprOpening.{index_absent, steps_end, steps_more}
use Rattle.bl_cparse.proofs.ReadLemmas.{passed}
use Rattle.std.proofs.Common.{rules, subst, sym, ◌++◌, ◌∙◌, ◌≡◌}
use Rattle.bl_cparse.proofs.parser.expr.step.Goals as goal

pub returns-in_err-p-clause-follows : goal.returns-in_err-p-clause-follows
returns-in_err-p-clause-follows c = λ rest e. let same : c.eat.new.self ≡ c.args.r.now = c.eat.ensures.no c.if-not-eat.true in
    let o = subst (λ (ts : List Token). Expects ((use_wanted c.args.of ++ behind c.args.outer.items) ++ rest) ts) (sym same)
    (steps_end (sym c.eat.ensures.is ∙ c.if-not-eat.true) e) in search rules

pub returns-then-not-eat-clause-follows : goal.returns-then-not-eat-clause-follows
returns-then-not-eat-clause-follows c = λ rest e. let same : c.eat.new.self ≡ c.args.r.now = c.eat.ensures.no c.if-not-eat.true in
    let o = subst (λ (ts : List Token). Expects ((use_wanted c.args.of ++ behind c.args.outer.items) ++ rest) ts) (sym same)
    (steps_end (sym c.eat.ensures.is ∙ c.if-not-eat.true) e) in search rules

pub returns-in_err-member-clause-follows : goal.returns-in_err-member-clause-follows
returns-in_err-member-clause-follows c = λ rest e. let o =
    passed (c.eat.ensures.yes c.if-not-eat.false) (steps_more (sym c.eat.ensures.is ∙ c.if-not-eat.false) e) in search rules

pub returns-in_err-p-2-clause-follows : goal.returns-in_err-p-2-clause-follows
returns-in_err-p-2-clause-follows c = λ rest e. let o =
    passed (c.eat.ensures.yes c.if-not-eat.false) (steps_more (sym c.eat.ensures.is ∙ c.if-not-eat.false) e) in let h =
    sym c.sees.ensures.is ∙ c.if-sees.true in search rules

pub returns-then-sees-clause-follows : goal.returns-then-sees-clause-follows
returns-then-sees-clause-follows c = λ rest e. let o =
    passed (c.eat.ensures.yes c.if-not-eat.false) (steps_more (sym c.eat.ensures.is ∙ c.if-not-eat.false) e) in let h =
    sym c.sees.ensures.is ∙ c.if-sees.true in search rules

pub returns-in_err-place-clause-follows : goal.returns-in_err-place-clause-follows
returns-in_err-place-clause-follows c = λ rest e. let o =
    index_absent (sym c.sees.ensures.is ∙ c.if-sees.false)
    (c.in_ok-member.ensures.follows _ (passed (c.eat.ensures.yes c.if-not-eat.false)
    (steps_more (sym c.eat.ensures.is ∙ c.if-not-eat.false) e))) in search rules

pub returns-clause-follows : goal.returns-clause-follows
returns-clause-follows c = λ rest e. let o = index_absent (sym c.sees.ensures.is ∙ c.if-sees.false)
    (c.in_ok-member.ensures.follows _ (passed (c.eat.ensures.yes c.if-not-eat.false)
    (steps_more (sym c.eat.ensures.is ∙ c.if-not-eat.false) e))) in search rules
