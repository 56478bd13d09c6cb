-- Machines: for each activity of a program its nodes in the order in which one pass takes them, and numbers for where it may rest.
use Rattle.std.specs.Prelude.{◌≡◌, ℕ, List, Contains, length}
use Rattle.bl_tree.specs.declared.program.Program.{Program}
use Rattle.bl_tree.specs.declared.tree.Unit.{Unit as UnitDef}
use Rattle.bl_cause.specs.Activities.{EachTwo, activities}
use Rattle.bl_graph_nodes.specs.Plain.{plain_body}
use Rattle.bl_machine.specs.declared.machine.Activity.{Activity}
use Rattle.bl_machine.specs.Blocks.{Ordered}
use Rattle.bl_machine.specs.Layout.{counters_in}
use Rattle.bl_machine.specs.Slots.{Counters, numbered_slots}

-- what contracts see of a machine
pub record SeenMachine : Type 0 where
  -- the program whose activities these are
  pub program : Program
  pub activities : List Activity

-- the blocks are an order of the body's nodes, and the slots distinguish its resting places. Counters are laid out from 0 on: parts that rest one after
-- another, or instead of one another, share counters
pub record IsActivityOf (unit : UnitDef) (activity : Activity) : Type 0 where
  pub order : Ordered (plain_body unit.body) activity.blocks
  pub counters : Counters (plain_body unit.body) activity.slots
  pub slots : activity.slots ≡ numbered_slots (counters_in (plain_body unit.body) 0)

-- the list has one activity for each activity among the units, in their order
abbrev pub AreActivitiesOf : List UnitDef → List Activity → Type 0
AreActivitiesOf units machine = EachTwo IsActivityOf (activities units) machine

-- the invariant of machines
abbrev pub IsMachine : SeenMachine → Type 0
IsMachine machine = AreActivitiesOf machine.program.units machine.activities

-- each node is a block of its own
pub record IsPlainActivityOf (unit : UnitDef) (activity : Activity) : Type 0 where
  pub single : (block : List ℕ) → Contains activity.blocks block → length block ≡ 1

-- every activity of the machine is plain: each node is a block of its own
abbrev pub IsPlainMachine : SeenMachine → Type 0
IsPlainMachine machine = EachTwo IsPlainActivityOf (activities machine.program.units) machine.activities
