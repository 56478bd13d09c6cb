use Rattle.std.proofs.Common.{true, ◌∙◌}
use Rattle.bl_cause.specs.declared.first.Found.{Found}
use Rattle.bl_cause.specs.Fails.{BeginsWalk, FailsCycle, IsFirst, Never}
use Rattle.bl_cause.proofs.FirstLemmas.{first_view, never_view, ok_none, ok_some}
use Rattle.bl_cause.proofs.walks.first_listed.Goals as goal

pub returns-clause-none : goal.returns-clause-none
returns-clause-none c =
    ok_none c.first_walk.result (Never (BeginsWalk c.deref.result.now c.deref-2.result.now true)) (Never (FailsCycle c.args.graph.now))
    (never_view c.args.graph.now.nodes c.deref.result.now c.args.graph.now.edges c.deref-2.result.now true c.deref.ensures
    (c.deref-2.ensures ∙ c.in_ok-edges.ensures ∙ c.kept.ensures))
    c.first_walk.ensures.none

pub returns-clause-some : goal.returns-clause-some
returns-clause-some c =
    ok_some c.first_walk.result (λ (walk : Found). IsFirst (BeginsWalk c.deref.result.now c.deref-2.result.now true) walk.at walk.also)
    (λ (walk : Found). IsFirst (FailsCycle c.args.graph.now) walk.at walk.also)
    (λ walk. first_view c.args.graph.now.nodes c.deref.result.now c.args.graph.now.edges c.deref-2.result.now true walk.at walk.also c.deref.ensures
    (c.deref-2.ensures ∙ c.in_ok-edges.ensures ∙ c.kept.ensures))
    c.first_walk.ensures.some
