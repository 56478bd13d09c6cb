-- Each activity of an accepted program may rest somewhere.
use Rattle.std.specs.Prelude.{◌≡◌, ℕ, ◌<◌, true, List, Contains, length}
use Rattle.bl_tree.specs.declared.tree.StructDef.{StructDef}
use Rattle.bl_tree.specs.declared.tree.Unit.{Unit as UnitDef}
use Rattle.bl_tree.specs.Program.{IsWellTyped}
use Rattle.bl_tree.specs.Typing.{is_activity}
use Rattle.bl_effects.specs.Rules.{Passes}
use Rattle.bl_graph_nodes.specs.Plain.{plain_body}
use Rattle.bl_machine.specs.declared.machine.Activity.{Activity as InMachine}
use Rattle.bl_machine.specs.Layout.{places_in}
use Rattle.bl_machine.specs.Machines.{IsActivityOf}
use Rattle.bl_machine_pass.specs.Numbered.{sizes_of}

-- the body of an activity has a resting place, where none of the rules Pause and Instant fails
abbrev pub ActivitiesRest : Type 0
ActivitiesRest =
    (structs : List StructDef) (units : List UnitDef) (entry : ℕ) (unit : UnitDef) → IsWellTyped structs units entry → Passes units →
    Contains units unit → is_activity unit.kind ≡ true → 0 < places_in (plain_body unit.body)

-- the activity of a machine has a counter, where none of the rules Pause and Instant fails
abbrev pub ActivitiesCount : Type 0
ActivitiesCount =
    (structs : List StructDef) (units : List UnitDef) (entry : ℕ) (unit : UnitDef) (one : InMachine) → IsWellTyped structs units entry → Passes units →
    Contains units unit → is_activity unit.kind ≡ true → IsActivityOf unit one → 0 < length (sizes_of one.slots)
