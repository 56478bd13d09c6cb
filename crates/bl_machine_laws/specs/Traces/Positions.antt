-- Numbers by which a pass goes through the nodes of each instance as they stand in the blocks of a machine.
use Rattle.std.specs.Prelude.{◌≡◌, ℕ, List, Some, slice_get}
use Rattle.bl_tree.specs.declared.tree.StructDef.{StructDef}
use Rattle.bl_tree.specs.declared.tree.Unit.{Unit as UnitDef}
use Rattle.bl_tree.specs.Program.{IsWellTyped}
use Rattle.bl_tree.specs.Reduce.{joined}
use Rattle.bl_effects.specs.Rules.{Passes}
use Rattle.bl_graph_nodes.specs.Nodes.{Node, nodes_in}
use Rattle.bl_graph_nodes.specs.Plain.{plain_body}
use Rattle.bl_cause.specs.Activities.{graph_position}
use Rattle.bl_ctree.specs.declared.instance.Instance.{Instance}
use Rattle.bl_ctree.specs.Instances.{Setting, setting_of}
use Rattle.bl_ctree_laws_traces.specs.Ready.Ordered.{ActivitiesAreOrdered}
use Rattle.bl_machine.specs.declared.machine.Activity.{Activity}
use Rattle.bl_machine.specs.Machines.{AreActivitiesOf}
use Rattle.bl_machine_laws.specs.Passes.Orders.{Orders}

-- the number of each node is its position in the blocks of its activity, one block after another
abbrev pub GoBy : Setting → List Activity → (ℕ → Node → ℕ) → Type 0
GoBy w machine rank =
    (i : ℕ) (instance : Instance) (unit : UnitDef) (activity : Activity) (n : Node) (k : ℕ) → slice_get w.instances i ≡ Some instance →
    slice_get w.units instance.unit ≡ Some unit → slice_get machine (graph_position w.units instance.unit) ≡ Some activity →
    slice_get (nodes_in (plain_body unit.body)) k ≡ Some n → slice_get (joined activity.blocks) (rank i n) ≡ Some k

-- numbers that are
pub record HasPositions (w : Setting) (machine : List Activity) : Type 0 where
  pub rank : ℕ → Node → ℕ
  pub go_by : GoBy w machine rank

-- the positions of nodes in a machine's activities rise along all edges and differ between nodes, and such positions exist
pub record MachinesGiveOrders : Type 0 where
  pub orders : (structs : List StructDef) (units : List UnitDef) (entry : ℕ) (machine : List Activity) (rank : ℕ → Node → ℕ) →
      let w = setting_of structs units entry in
      IsWellTyped structs units entry → Passes units → AreActivitiesOf units machine → GoBy w machine rank → Orders w rank
  pub positions : (structs : List StructDef) (units : List UnitDef) (entry : ℕ) (machine : List Activity) →
      IsWellTyped structs units entry → Passes units → ActivitiesAreOrdered units → AreActivitiesOf units machine →
      HasPositions (setting_of structs units entry) machine
