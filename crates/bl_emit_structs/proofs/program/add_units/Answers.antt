use Rattle.std.proofs.Common.{◌≡◌, ap, map, ◌∙◌}
use Rattle.bl_tree.proofs.Basics.{drop_next}
use Rattle.bl_tree.specs.Reduce.{joined}
use Rattle.bl_emit_structs.specs.Structs.{arrays_of, structs_for_unit}
use Rattle.bl_emit_structs.specs.inner.Added.{all_added}
use Rattle.bl_emit_structs.proofs.Steps.{after-next}
use Rattle.bl_emit_structs.proofs.program.add_units.Goals as goal

pub loop-unit-preserved : goal.loop-unit-preserved
loop-unit-preserved c =
    let step : c.add_variables.new.collected ≡ all_added c.loop-unit.collected (structs_for_unit c.args.structs.now c.unit-item.result) =
    c.in_ok-add_variables.ensures
    ∙ ap (λ vars. all_added c.loop-unit.collected (joined (map (λ var. arrays_of c.args.structs.now var.ty) vars))) c.deref.ensures in
    rw step
    (after-next (structs_for_unit c.args.structs.now) _ _ c.unit-item.result c.loop-unit.collected _
    (drop_next c.args.units.now c.loop-unit.unit-index c.unit-item.result c.loop-unit-test.true c.unit-item.is) c.loop-unit.invariant)
