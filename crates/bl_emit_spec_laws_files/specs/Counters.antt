-- The counters of the activities of an accepted program suffice.
use Rattle.std.specs.Prelude.{◌≡◌, ℕ, true, List, Some, slice_get}
use Rattle.bl_tree.specs.declared.tree.StructDef.{StructDef}
use Rattle.bl_tree.specs.declared.tree.Unit.{Unit as UnitDef}
use Rattle.bl_tree.specs.Program.{IsWellTyped}
use Rattle.bl_tree.specs.Typing.{is_activity}
use Rattle.bl_effects.specs.Rules.{Passes}
use Rattle.bl_machine.specs.declared.machine.Activity.{Activity as InMachine}
use Rattle.bl_machine.specs.Machines.{AreActivitiesOf}
use Rattle.bl_emit_spec_laws.specs.Calls.Built.{Activities, AreBuilt}
use Rattle.bl_emit_spec_laws_files.specs.Begins.{CountersSuffice}

-- each activity, needed or not, has a counter and owns the counters that its rules ask for, where rules Pause and Instant hold
abbrev pub AllSuffice : Type 0
AllSuffice =
    (structs : List StructDef) (units : List UnitDef) (entry : ℕ) (machine : List InMachine) (activities : Activities) → IsWellTyped structs units entry →
    Passes units → AreActivitiesOf units machine → AreBuilt structs units machine activities → (k : ℕ) (unit : UnitDef) →
    slice_get units k ≡ Some unit → is_activity unit.kind ≡ true → CountersSuffice (activities k)
