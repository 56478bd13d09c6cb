use Rattle.std.proofs.Common.{sym, ◌∙◌, rules}
use Rattle.bl_cparse.proofs.ReadLemmas.{passed}
use Rattle.bl_cparse.proofs.ExprOpening.{other_index}
use Rattle.bl_cparse.proofs.parser.place.index_sign.Goals as goal

pub returns-in_err-take-clause-follows : goal.returns-in_err-take-clause-follows
returns-in_err-take-clause-follows c = λ rest e. let o =
    other_index (c.eat.ensures.no c.if-eat.false) (sym c.eat.ensures.is ∙ c.if-eat.false) e in search rules

pub returns-clause-follows : goal.returns-clause-follows
returns-clause-follows c = λ rest e. let o = other_index (c.eat.ensures.no c.if-eat.false) (sym c.eat.ensures.is ∙ c.if-eat.false) e in search rules

pub returns-then-eat-clause-follows : goal.returns-then-eat-clause-follows
returns-then-eat-clause-follows c = λ rest e. passed (c.eat.ensures.yes c.if-eat.true) e
