use Rattle.std.proofs.Common.{ap, ◌∙◌, map}
use Rattle.bl_tree.proofs.Basics.{drop_next}
use Rattle.bl_tree.specs.Reduce.{joined}
use Rattle.bl_conflict.proofs.FirstLemmas.{best-next}
use Rattle.bl_conflict.specs.inner.Failures.{aliases_of_unit, least_by, of_alias}
use Rattle.bl_effects.specs.Rules.{aliases_in}
use Rattle.bl_conflict.proofs.alias.first.Goals as goal

pub loop-unit-preserved : goal.loop-unit-preserved
loop-unit-preserved c =
    let best = c.in_ok-best.ensures ∙ ap (λ body. least_by of_alias c.loop-unit.best (joined (map aliases_in body))) c.deref.ensures in
    rw best (best-next of_alias aliases_of_unit _ _ c.unit-item.result c.loop-unit.best _
    (drop_next c.args.units.now c.loop-unit.unit-index c.unit-item.result c.loop-unit-test.true c.unit-item.is) c.loop-unit.invariant)
