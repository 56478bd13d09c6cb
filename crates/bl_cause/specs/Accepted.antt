-- What is known of a program that is accepted.
use Rattle.std.specs.Prelude.{List}
use Rattle.bl_cause.specs.Activities.{AreGraphs, AreOrders}
use Rattle.bl_cause.specs.Rules.{Passes}
use Rattle.bl_cause.specs.declared.order.Order.{Order}
use Rattle.bl_effects.specs.Rules.{Passes as UnitsPass}
use Rattle.bl_limits.specs.Rules.{Passes as KeepsLimits}
use Rattle.bl_graph.specs.declared.tick_graph.Graph.{Graph}
use Rattle.bl_tree.specs.declared.program.Program.{Program}
use Rattle.bl_tree.specs.declared.tree.Unit.{Unit as UnitDef}

-- what contracts see of an accepted program
pub record AcceptedProgram : Type 0 where
  pub program : Program
  -- the tick graphs of its activities
  pub graphs : List Graph
  -- an order of the nodes for each tick graph
  pub orders : List Order

-- the activities' tick graphs, and an order of each graph
pub record IsSchedule (units : List UnitDef) (graphs : List Graph) (orders : List Order) : Type 0 where
  pub each_graph : AreGraphs units graphs
  pub each_order : AreOrders graphs orders

-- no rule fails for the program, and the rest is its schedule. The rules from Type to Entry are kept by every `Program`. Where loops have first turns
-- of their own, this is said of the program with peeled bodies that `bl_cause_trees` gives
pub record IsAccepted (accepted : AcceptedProgram) : Type 0 where
  -- none of Pause, Conflict, Alias and Instant fails for the program
  pub passes : UnitsPass accepted.program.units
  -- neither Frames nor Cells fails for the program
  pub limits : KeepsLimits accepted.program.structs accepted.program.units accepted.program.entry
  -- neither Twice nor Cycle fails for the program
  pub no_walks : Passes accepted.program.units
  pub schedule : IsSchedule accepted.program.units accepted.graphs accepted.orders
