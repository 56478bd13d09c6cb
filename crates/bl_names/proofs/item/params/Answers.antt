use Rattle.bl_names.specs.Named.{param_piece}
use Rattle.bl_names.proofs.PastLemmas.{loop_past}
use Rattle.bl_names.proofs.item.params.Goals as goal

pub loop-one-preserved : goal.loop-one-preserved
loop-one-preserved c =
    loop_past (param_piece c.args.role) c.args.all.now c.loop-one.one-index c.one-item.result c.loop-one.state c.param.new.state _
    c.loop-one-test.true c.one-item.is c.in_ok-param.ensures c.loop-one.invariant
