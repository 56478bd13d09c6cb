use Rattle.std.proofs.Common.{List, [], false, refl, take}
use Rattle.bl_tree.specs.declared.tree.Unit.{Unit as UnitDef}
use Rattle.bl_emit.specs.Kept.{parts_in}
use Rattle.bl_emit.specs.Programs.{units_told}
use Rattle.bl_emit.proofs.PartLemmas.{no_test, step}
use Rattle.bl_emit.proofs.units.all_parts.Goals as goal

pub returns-then-k-needed : goal.returns-then-k-needed
returns-then-k-needed c =
    no_test c.args.structs.now (take c.loop-k.k c.args.units.now) c.args.units.now c.args.needed.now c.loop-k.left.now c.loop-k.k
    (parts_in c.loop-k.made)
    (units_told c.args.structs.now [] [] c.args.units.now c.args.needed.now c.args.machine.now) c.if-k-needed.true c.loop-k.invariant

pub loop-k-preserved : goal.loop-k-preserved
loop-k-preserved c =
    let front : List UnitDef = take c.loop-k.k c.args.units.now in
    step c.args.structs.now c.args.units.now c.args.needed.now c.loop-k.left.now c.loop-k.k (parts_in c.loop-k.made) c.index-units-k.result
    c.index-units-k-in-loop-k.result false front c.deref.result.now (parts_in c.in_ok-here.here) (parts_in c.in_ok-made.made)
    (units_told c.args.structs.now [] [] c.args.units.now c.args.needed.now c.args.machine.now) c.machine_after-left.result.now c.loop-k-test.true
    c.if-k-needed.false c.index-units-k.is c.index-units-k-in-loop-k.is refl c.deref.ensures c.in_ok-here.ensures c.in_ok-made.ensures
    c.machine_after-left.ensures c.loop-k.invariant
