use Rattle.bl_cparse_syntax.specs.Expects.{Expects}
use Rattle.bl_cparse_syntax.specs.declared.grammar.Part.TheVariants.{Inside}
use Rattle.std.specs.Prelude.{List, codes}
use Rattle.bl_ctext.specs.Token.{Token}
use Rattle.bl_cparse.proofs.StmtOpening.{open_inside, open_struct}
use Rattle.bl_cparse.specs.inner.Reading.{part, sign}
use Rattle.bl_cparse.proofs.ReadLemmas.{passed}
use Rattle.std.proofs.Common.{rules, subst, sym, ◌∙◌, ◌∷◌}
use Rattle.bl_cparse.proofs.parser.stmt.bracketed.Goals as goal

pub returns-then-eat-clause-follows : goal.returns-then-eat-clause-follows
returns-then-eat-clause-follows c = λ enough rest e. let o =
    passed (c.eat.ensures.yes c.if-eat.true) (open_struct (sym c.eat.ensures.is ∙ c.if-eat.true) (c.in_ok-take.ensures.follows _ e)) in search rules

pub returns-in_err-value-clause-follows : goal.returns-in_err-value-clause-follows
returns-in_err-value-clause-follows c = λ enough rest e. let same = c.eat.ensures.no c.if-eat.false in let o =
    subst (λ (ts : List Token). Expects (part Inside c.args.room ∷ sign (codes ";") ∷ rest) ts) (sym same)
    (open_inside (sym c.eat.ensures.is ∙ c.if-eat.false) (c.in_ok-take.ensures.follows _ e)) in search rules

pub returns-clause-follows : goal.returns-clause-follows
returns-clause-follows c = λ enough rest e. let same = c.eat.ensures.no c.if-eat.false in let o =
    subst (λ (ts : List Token). Expects (part Inside c.args.room ∷ sign (codes ";") ∷ rest) ts) (sym same)
    (open_inside (sym c.eat.ensures.is ∙ c.if-eat.false) (c.in_ok-take.ensures.follows _ e)) in search rules
