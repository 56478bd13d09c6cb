use Rattle.std.proofs.Common.{sym, ◌∙◌}
use Rattle.bl_cause.proofs.KeptLemmas.{cycle_walks, twice_walks}
use Rattle.bl_cause.proofs.walks.has_walk.Goals as goal

pub returns-then-is_some : goal.returns-then-is_some
returns-then-is_some c is none =
    twice_walks c.args.graph.now c.in_ok-twice.twice (sym c.is_some.ensures ∙ c.if-is_some.true) c.in_ok-twice.ensures.some none

pub returns : goal.returns
returns c is none = cycle_walks c.args.graph.now c.in_ok-cycle.cycle (sym c.is_some-2.ensures ∙ is) c.in_ok-cycle.ensures none
