use Rattle.std.proofs.Common.{◌≡◌, drop, map}
use Rattle.bl_tree.specs.Reduce.{joined}
use Rattle.bl_emit_structs.specs.Structs.{structs_for_unit}
use Rattle.bl_emit_structs.specs.inner.Added.{all_added}
use Rattle.bl_emit_structs.proofs.program.add_units.Given as goal

abbrev pub invariant-loop-unit : goal.invariant-loop-unit
invariant-loop-unit l =
    all_added l.collected (joined (map (structs_for_unit l.structs) (drop l.unit-index l.units)))
    ≡ all_added l.initial.collected (joined (map (structs_for_unit l.structs) l.units))
