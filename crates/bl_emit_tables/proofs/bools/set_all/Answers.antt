use Rattle.bl_emit_spec.specs.Programs.{set_from}
use Rattle.bl_emit_tables.proofs.SetLemmas.{set_end, set_step}
use Rattle.bl_emit_tables.proofs.bools.set_all.Goals as goal

pub loop-position-preserved : goal.loop-position-preserved
loop-position-preserved c =
    set_step c.args.positions.now c.loop-position.position-index c.loop-position.tests c.set_one.new.tests
    (set_from c.args.positions.now 0 c.args.tests.now) c.loop-position-test.true c.set_one.ensures c.loop-position.invariant

pub returns : goal.returns
returns c =
    set_end c.args.positions.now c.loop-position.position-index c.loop-position.tests (set_from c.args.positions.now 0 c.args.tests.now)
    c.loop-position-test.false c.loop-position.invariant
