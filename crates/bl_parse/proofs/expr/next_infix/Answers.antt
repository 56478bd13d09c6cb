use Rattle.std.proofs.Common.{◌≤◌, subst, sym, ◌∙◌}
use Rattle.bl_parse.specs.Operators.{left_level}
use Rattle.bl_parse.proofs.OperatorLemmas.{infix_one, no_infix}
use Rattle.bl_parse.proofs.PartLemmas.{none_is, takes_tight, takes_left, takes_none}
use Rattle.bl_parse.proofs.expr.next_infix.Goals as goal

pub returns-then-takes-clause-tight : goal.returns-then-takes-clause-tight
returns-then-takes-clause-tight c = takes_tight c.args.level c.in-Some.found.level (left_level c.in-Some.found.level) c.args.bound
    (sym c.takes.ensures ∙ c.if-takes.true)

pub returns-then-takes-clause-left : goal.returns-then-takes-clause-left
returns-then-takes-clause-left c = takes_left c.args.level c.in-Some.found.level (left_level c.in-Some.found.level) c.args.bound
    (sym c.takes.ensures ∙ c.if-takes.true)

pub returns-else-takes-clause-none : goal.returns-else-takes-clause-none
returns-else-takes-clause-none c = λ e own op is le fit. let same = infix_one c.in-Some.ensures.spelled is in
    takes_none c.args.level c.in-Some.found.level (left_level c.in-Some.found.level) c.args.bound (sym c.takes.ensures ∙ c.if-takes.false)
    (subst (λ n. c.args.level ≤ n) (sym same) le) (subst (λ n. left_level n ≤ c.args.bound) (sym same) fit)

pub returns-in-None-clause-none : goal.returns-in-None-clause-none
returns-in-None-clause-none c = λ e. no_infix c.args.source.now.tokens.now c.args.at c.args.level c.args.bound (c.infix_at.ensures.none (none_is c.in-None.is))
