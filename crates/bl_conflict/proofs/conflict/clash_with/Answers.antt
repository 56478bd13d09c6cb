use Rattle.bl_conflict.proofs.RootLemmas.{none_of}
use Rattle.bl_conflict.proofs.conflict.clash_with.Goals as goal

pub returns-then-not-may_meet : goal.returns-then-not-may_meet
returns-then-not-may_meet c =
    none_of c.args.touched.now c.args.vars.now c.args.earlier.now c.args.second.now c.args.best c.requires
    (c.may_meet.ensures c.if-not-may_meet.true)
