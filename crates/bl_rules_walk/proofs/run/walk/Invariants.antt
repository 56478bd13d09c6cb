use Rattle.bl_ctree.specs.Measure.{steps}
use Rattle.bl_rules_walk.proofs.run.walk.Given as goal

abbrev pub ghost-walk_bounded : goal.ghost-walk_bounded
ghost-walk_bounded a =
    let peeled = a.accepted.now.peeled.program in
    steps peeled.structs peeled.units peeled.entry
