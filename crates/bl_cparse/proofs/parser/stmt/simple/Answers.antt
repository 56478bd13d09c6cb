use Rattle.bl_cparse_syntax.specs.Expects.{Expects}
use Rattle.std.specs.Prelude.{List, codes}
use Rattle.bl_cparse_syntax.specs.declared.grammar.Part.TheVariants.{Stmt}
use Rattle.bl_ctext.specs.Token.{Token}
use Rattle.bl_cparse.proofs.ReadLemmas.{at_same, passed}
use Rattle.bl_cparse.proofs.StmtOpening.{none_starts, stmt_break, stmt_return}
use Rattle.bl_cparse.specs.inner.Reading.{part}
use Rattle.std.proofs.Common.{rules, subst, sym, ◌∙◌, ◌∷◌, ◌≡◌}
use Rattle.bl_cparse.proofs.parser.stmt.simple.Goals as goal

pub returns-in_err-take-clause-follows : goal.returns-in_err-take-clause-follows
returns-in_err-take-clause-follows c = λ a b rest e. let o =
    passed (c.eat.ensures.yes c.if-eat.true) (stmt_break (sym c.eat.ensures.is ∙ c.if-eat.true) e) in search rules

pub returns-then-eat-clause-follows : goal.returns-then-eat-clause-follows
returns-then-eat-clause-follows c = λ a b rest e. let o =
    passed (c.eat.ensures.yes c.if-eat.true) (stmt_break (sym c.eat.ensures.is ∙ c.if-eat.true) e) in search rules

pub returns-then-eat-2-clause-follows : goal.returns-then-eat-2-clause-follows
returns-then-eat-2-clause-follows c = λ a b rest e. let same : c.eat.new.self ≡ c.args.r.now = c.eat.ensures.no c.if-eat.false in
    let o = passed (c.eat-2.ensures.yes c.if-eat-2.true)
    (stmt_return (sym c.eat-2.ensures.is ∙ c.if-eat-2.true)
    (subst (λ (ts : List Token). Expects (part Stmt c.args.room ∷ rest) ts) (sym same) e)) in search rules

pub returns-clause-follows : goal.returns-clause-follows
returns-clause-follows c = λ a b rest e. let same : c.eat.new.self ≡ c.args.r.now = c.eat.ensures.no c.if-eat.false in
    let both_ : c.eat-2.new.self ≡ c.args.r.now = c.eat-2.ensures.no c.if-eat-2.false ∙ same in
    c.acted.ensures.follows (none_starts c.eat-2.new.self (at_same both_ (codes "if") a) (at_same both_ (codes "{") b)
    (at_same both_ (codes "break") (sym c.eat.ensures.is ∙ c.if-eat.false))
    (at_same both_ (codes "return") (at_same (sym same) (codes "return") (sym c.eat-2.ensures.is ∙ c.if-eat-2.false)))) rest
    (subst (λ (ts : List Token). Expects (part Stmt c.args.room ∷ rest) ts) (sym both_) e)
