-- All is so that the C file of an accepted program asks of its units.
use Rattle.std.specs.Prelude.{ℕ, List, []}
use Rattle.bl_tree.specs.declared.tree.StructDef.{StructDef}
use Rattle.bl_tree.specs.declared.tree.Unit.{Unit as UnitDef}
use Rattle.bl_tree.specs.Program.{IsWellTyped}
use Rattle.bl_effects.specs.Rules.{Passes}
use Rattle.bl_limits.specs.Rules.{Passes as KeepsLimits}
use Rattle.bl_machine.specs.declared.machine.Activity.{Activity as InMachine}
use Rattle.bl_machine.specs.Machines.{AreActivitiesOf}
use Rattle.bl_emit_spec.specs.Programs.{needed_units}
use Rattle.bl_emit_spec_laws_wellformed_bodies.specs.Lists.{AllConditions}

-- each needed unit meets the conditions of its C, with any machine of the program, where rules Pause, Instant and Cells hold
abbrev pub UnitsMeetConditions : List StructDef → List UnitDef → ℕ → Type 0
UnitsMeetConditions structs units entry =
    (machine : List InMachine) → IsWellTyped structs units entry → Passes units → KeepsLimits structs units entry → AreActivitiesOf units machine →
    AllConditions structs units [] [] units (needed_units units entry) machine
