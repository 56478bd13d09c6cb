-- What the rules of an activity's body ask and change is told by registers that its C function has.
use Rattle.std.specs.Prelude.{◌≡◌, ℕ, ◌<◌, ◌≤◌, ◌^◌, true, List, Contains, Some, length, slice_get, unwrap_or}
use Rattle.std.specs.List.{list_all}
use Rattle.bl_tree.specs.declared.tree.StructDef.{StructDef}
use Rattle.bl_tree.specs.declared.tree.Unit.{Unit as UnitDef}
use Rattle.bl_tree.specs.Typing.{is_activity}
use Rattle.bl_graph_nodes.specs.Nodes.{Node, entry, nodes_in}
use Rattle.bl_graph_nodes.specs.Plain.{Block, Plain, Then, plain_body}
use Rattle.bl_machine.specs.declared.machine.Activity.{Activity as InMachine}
use Rattle.bl_machine.specs.declared.slots.Slot.{Slot}
use Rattle.bl_machine.specs.Layout.{places_in}
use Rattle.bl_machine.specs.Machines.{AreActivitiesOf}
use Rattle.bl_machine_pass.specs.SlotLayout.{Spot, slot_at, spots_in}
use Rattle.bl_machine_pass.specs.Transitions.{Transition}
use Rattle.bl_emit_spec.specs.Activities.{Activity, activity_view, first_rules}
use Rattle.bl_emit_spec.specs.Blocks.{Sizes}
use Rattle.bl_emit_spec_laws.specs.Registers.Laws.{CopiesAgree, asks_its_own, changes_its_own}
use Rattle.bl_emit_spec_laws.specs.Registers.Registers.{FewRegisters}
use Rattle.bl_emit_spec_laws.specs.Calls.Built.{Activities, AreBuilt, last_rules, registered}

-- the unit at the position is an activity, what its C is made of was built of a machine of the units
pub record BuiltAt (structs : List StructDef) (units : List UnitDef) (machine : List InMachine) (activities : Activities) (k : ℕ) (unit : UnitDef) :
    Type 0 where
  pub agrees : AreActivitiesOf units machine
  pub built : AreBuilt structs units machine activities
  pub is_there : slice_get units k ≡ Some unit
  pub activity : is_activity unit.kind ≡ true

-- a number is a value of one of the counters, from 1 up to the greatest one
pub record PlaceCounts (sizes : Sizes) (slot : Slot) : Type 0 where
  pub counter : slot.counter < length sizes
  pub low : 0 < slot.value
  pub high : slot.value ≤ unwrap_or (slice_get sizes slot.counter) 0

-- the number of each resting place is one of a counter, within its greatest value
abbrev pub PlacesCount : Type 0
PlacesCount =
    (structs : List StructDef) (units : List UnitDef) (machine : List InMachine) (activities : Activities) (k : ℕ) (unit : UnitDef) (p : Spot) →
    BuiltAt structs units machine activities k unit → Contains (spots_in (plain_body unit.body)) p →
    PlaceCounts (activities k).sizes (slot_at (activities k).slots p)

-- the counters of which C copies what they held are counters
abbrev pub CopiesAreCounters : Type 0
CopiesAreCounters =
    (structs : List StructDef) (units : List UnitDef) (machine : List InMachine) (activities : Activities) (k : ℕ) (unit : UnitDef) (c : ℕ) →
    BuiltAt structs units machine activities k unit → (activity_view (activities k)).is_read c ≡ true → c < length (activities k).sizes

-- the registers have copies of exactly these
abbrev pub CopiesAreRead : Type 0
CopiesAreRead = (a : Activity) → CopiesAgree (activity_view a) (registered a)

-- all that the rule of a block's last node changes is a register
abbrev pub ChangesAreOwn : Type 0
ChangesAreOwn =
    (structs : List StructDef) (units : List UnitDef) (machine : List InMachine) (activities : Activities) (k : ℕ) (unit : UnitDef)
    (rule : Transition) →
    BuiltAt structs units machine activities k unit → Contains (last_rules (activities k)) rule →
    let a = activities k in
    (list_all (changes_its_own (activity_view a).number (registered a)) rule.on_true ≡ true)
    × (list_all (changes_its_own (activity_view a).number (registered a)) rule.on_false ≡ true)

-- all that the rule of a block's first node asks is told by registers, where there are few enough resting places for a counter
abbrev pub AskedAreOwn : Type 0
AskedAreOwn =
    (structs : List StructDef) (units : List UnitDef) (machine : List InMachine) (activities : Activities) (k : ℕ) (unit : UnitDef)
    (rule : Transition) →
    BuiltAt structs units machine activities k unit → places_in (plain_body unit.body) < 2 ^ 32 →
    Contains (first_rules (activities k)) rule →
    asks_its_own (activity_view (activities k)) (registered (activities k)) rule.node rule.condition ≡ true

-- the flag of the node at which a body begins is a register
abbrev pub EntriesAreOwn : Type 0
EntriesAreOwn =
    (structs : List StructDef) (units : List UnitDef) (machine : List InMachine) (activities : Activities) (k : ℕ) (unit : UnitDef) (s : Plain)
    (rest : Block) → BuiltAt structs units machine activities k unit → plain_body unit.body ≡ Then s rest →
    (registered (activities k)).flags ((activity_view (activities k)).number (entry s)) ≡ true

-- the number of each node is small, where there are few enough nodes
abbrev pub NodesAreFew : Type 0
NodesAreFew =
    (structs : List StructDef) (units : List UnitDef) (machine : List InMachine) (activities : Activities) (k : ℕ) (unit : UnitDef) (n : Node) →
    BuiltAt structs units machine activities k unit → length (activities k).order ≤ 2 ^ 64 → Contains (nodes_in (plain_body unit.body)) n →
    (activity_view (activities k)).number n < 2 ^ 64

-- the numbers of registers are small, where there are few enough nodes and counters
abbrev pub RegistersAreFew : Type 0
RegistersAreFew =
    (structs : List StructDef) (units : List UnitDef) (machine : List InMachine) (activities : Activities) (k : ℕ) (unit : UnitDef) →
    BuiltAt structs units machine activities k unit → length (activities k).order ≤ 2 ^ 64 → length (activities k).sizes ≤ 2 ^ 64 →
    FewRegisters (registered (activities k))
