-- The numbers of resting places in the rules of an activity.
use Rattle.std.specs.Prelude.{◌≡◌, ℕ, ◌<◌, ◌≤◌, ◌^◌, true, List, Some, length, slice_get}
use Rattle.std.specs.List.{list_all}
use Rattle.bl_tree.specs.declared.tree.StructDef.{StructDef}
use Rattle.bl_tree.specs.declared.tree.Unit.{Unit as UnitDef}
use Rattle.bl_tree.specs.Program.{IsWellTyped}
use Rattle.bl_graph_nodes.specs.Plain.{plain_body}
use Rattle.bl_machine.specs.declared.slots.Slot.{Slot}
use Rattle.bl_machine.specs.Slots.{Counters}
use Rattle.bl_machine_pass.specs.Numbered.{sizes_of, slots_of}
use Rattle.bl_machine_pass.specs.Transitions.{rules}
use Rattle.bl_emit_spec_laws_wellformed.specs.Spelled.{rule_fits}

-- where a list has a number for each resting place of a typed program's activity, 32 bits count these places and 64 the counters, all numbers in
-- the rules of its nodes are ones of their counters' types
abbrev pub RulesStand : List StructDef → List UnitDef → ℕ → Type 0
RulesStand structs units entry =
    (k : ℕ) (unit : UnitDef) (list : List Slot) → IsWellTyped structs units entry → slice_get units k ≡ Some unit →
    Counters (plain_body unit.body) list → length list < 2 ^ 32 → length (sizes_of list) ≤ 2 ^ 64 →
    list_all (rule_fits (sizes_of list)) (rules (slots_of (plain_body unit.body) list) (plain_body unit.body)) ≡ true
