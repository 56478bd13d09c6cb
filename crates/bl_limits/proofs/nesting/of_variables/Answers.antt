use Rattle.bl_tree.proofs.Basics.{drop_next}
use Rattle.bl_tree.specs.declared.tree.Unit.{Unit as UnitDef}
use Rattle.bl_limits.specs.inner.Failures.{unit_variable_failures}
use Rattle.bl_limits.proofs.Lists.{first-next}
use Rattle.bl_limits.proofs.nesting.of_variables.Goals as goal

pub loop-unit-preserved : goal.loop-unit-preserved
loop-unit-preserved c =
    rw (c.of_unit-first.ensures, c.deref.ensures)
    (first-next (λ (unit : UnitDef). unit_variable_failures c.args.structs.now unit.vars) _ _ c.unit-item.result c.loop-unit.first _
    (drop_next c.args.units.now c.loop-unit.unit-index c.unit-item.result c.loop-unit-test.true c.unit-item.is) c.loop-unit.invariant)
