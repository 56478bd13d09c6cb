use Rattle.std.proofs.Common.{◌≡◌, ◌∙◌, get_or, sym, subst}
use Rattle.bl_cause.specs.Walks.{EdgeWalk}
use Rattle.bl_cause.specs.inner.Steps.{Ends, Tree}
use Rattle.bl_cause.proofs.StepLemmas.{blank, no_way_back}
use Rattle.bl_cause.proofs.way_back.way_back.Goals as goal

pub returns-in-None-clause-none : goal.returns-in-None-clause-none
returns-in-None-clause-none c = λ edges rows there rest walk.
    no_way_back edges c.args.first c.in_ok-steps.steps (c.in_ok-steps.ensures.tree edges rows) (c.in_ok-steps.ensures.closed edges rows)
    (λ ends. c.in-None.ensures (subst (Ends c.args.first.from) (sym c.deref.ensures) ends)) rest walk

pub returns-clause-some : goal.returns-clause-some
returns-clause-some c = λ edges rows there.
    let tree = subst (Tree edges c.args.first) (sym c.deref-in-Some.ensures) (c.in_ok-steps.ensures.tree edges rows) in
    let same = c.deref.ensures ∙ sym c.deref-in-Some.ensures in
    let last = subst (λ steps. (get_or steps c.in-Some.last blank).edge.to ≡ c.args.first.from) same (c.in-Some.ensures.1 blank) in
    (there, subst (λ node. EdgeWalk edges c.args.first.to c.in_ok-rest-in-Some.rest.items node) last (c.in_ok-rest-in-Some.ensures edges c.args.first blank tree))
