use Rattle.std.proofs.Common.{◌∙◌, ◌+◌, ◌<◌, ◌^◌, length, arith}
use Rattle.bl_ctree.specs.Instances.{expanded, runs_of}
use Rattle.bl_ctree_store.proofs.ExpansionLemmas.{deepens, run_room, shifts}
use Rattle.bl_ctree_store.proofs.expansion.+expanding.Goals as goal

pub from_unit-expanded-requires : goal.from_unit-expanded-requires
from_unit-expanded-requires t c =
    let room : length c.loop-run.all + length (expanded c.args.units.now c.args.longest c.run-item.result.unit) < 2 ^ 32 =
    run_room c.args.units.now c.args.longest c.loop-run.all c.deref-run-items.result.now (runs_of c.args.unit.now) _ c.loop-run.run-index c.run-item.result
    c.loop-run.invariant.below (c.deref-run-items.ensures ∙ c.in_ok-runs.ensures) c.requires.few c.loop-run-test.true c.run-item.is in
    (omega (arith, c.decreases), (omega arith, omega arith))

pub from_unit-overflow_cast-n : goal.from_unit-overflow_cast-n
from_unit-overflow_cast-n t c =
    let room : length c.loop-run.all + length (expanded c.args.units.now c.args.longest c.run-item.result.unit) < 2 ^ 32 =
    run_room c.args.units.now c.args.longest c.loop-run.all c.deref-run-items.result.now (runs_of c.args.unit.now) _ c.loop-run.run-index c.run-item.result
    c.loop-run.invariant.below (c.deref-run-items.ensures ∙ c.in_ok-runs.ensures) c.requires.few c.loop-run-test.true c.run-item.is in
    omega (arith, c.len-n.ensures)

pub from_unit-append_called-requires-clause-shift : goal.from_unit-append_called-requires-clause-shift
from_unit-append_called-requires-clause-shift t c =
    let room : length c.loop-run.all + length (expanded c.args.units.now c.args.longest c.run-item.result.unit) < 2 ^ 32 =
    run_room c.args.units.now c.args.longest c.loop-run.all c.deref-run-items.result.now (runs_of c.args.unit.now) _ c.loop-run.run-index c.run-item.result
    c.loop-run.invariant.below (c.deref-run-items.ensures ∙ c.in_ok-runs.ensures) c.requires.few c.loop-run-test.true c.run-item.is in
    let fits : c.len-n.result + length (expanded c.args.units.now c.args.longest c.run-item.result.unit) < 2 ^ 32 = omega (arith, c.len-n.ensures) in
    shifts c.args.units.now c.args.longest c.run-item.result.unit c.len-n.result c.in_ok-alone.alone c.in_ok-alone.ensures fits

pub from_unit-append_called-requires-clause-depth : goal.from_unit-append_called-requires-clause-depth
from_unit-append_called-requires-clause-depth t c =
    deepens c.args.units.now c.args.longest c.run-item.result.unit c.in_ok-alone.alone c.in_ok-alone.ensures c.requires.short
