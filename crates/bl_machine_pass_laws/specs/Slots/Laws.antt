-- Numbers of resting places in a list, and by labels.
use Rattle.std.specs.Prelude.{◌≡◌, ℕ, List, Some, slice_get}
use Rattle.bl_tree.specs.declared.tree.Stmt.{Stmt}
use Rattle.bl_tree.specs.declared.tree.StructDef.{StructDef}
use Rattle.bl_tree.specs.declared.tree.Unit.{Unit as UnitDef}
use Rattle.bl_tree.specs.Program.{IsWellTyped}
use Rattle.bl_graph_nodes.specs.Plain.{plain_body}
use Rattle.bl_machine.specs.declared.slots.Slot.{Slot}
use Rattle.bl_machine.specs.Slots.{Counters}
use Rattle.bl_machine_pass.specs.SlotLayout.{SlotsAreDistinct}
use Rattle.bl_machine_pass.specs.Numbered.{slots_of}
use Rattle.bl_machine_pass_laws.specs.Slots.Branches.{EachBranches}

-- the places of a body are distinguished by their numbers, found by labels, where a list of these has them
abbrev pub NumbersAreDistinct : Type 0
NumbersAreDistinct =
    (body : List Stmt) (list : List Slot) → Counters (plain_body body) list → EachBranches (plain_body body) →
    SlotsAreDistinct (slots_of (plain_body body) list) (plain_body body)

-- each `cobegin` in a typed program has a branch
abbrev pub TypedHaveBranches : Type 0
TypedHaveBranches =
    (structs : List StructDef) (units : List UnitDef) (entry : ℕ) (k : ℕ) (unit : UnitDef) → IsWellTyped structs units entry →
    slice_get units k ≡ Some unit → EachBranches (plain_body unit.body)
