-- A pass over an instance, from any store.
use Rattle.std.specs.Prelude.{◌≡◌, ◌≤◌, ℕ, Bool, List, Some, None}
use Rattle.bl_tree.specs.declared.tree.StructDef.{StructDef}
use Rattle.bl_tree.specs.declared.tree.Unit.{Unit as UnitDef}
use Rattle.bl_graph_nodes.specs.Nodes.{Node}
use Rattle.bl_graph_nodes.specs.Plain.{plain_body}
use Rattle.bl_ctree.specs.Instances.{Setting, setting_of, unit_at}
use Rattle.bl_ctree.specs.Store.{Store}
use Rattle.bl_ctree_laws.specs.Shrinks.{Paces}
use Rattle.bl_ctree_laws.specs.Trees.{Tree}
use Rattle.bl_ctree_laws_traces.specs.Progress.FitsGraph.{FitsGraph}
use Rattle.bl_ctree_laws_traces.specs.Progress.Places.{AllCallable, whole}
use Rattle.bl_machine_laws.specs.Numbers.Turns.{AnsweredDeed, Passes}
use Rattle.bl_machine_laws.specs.Numbers.Waiting.{Waits}
use Rattle.bl_machine_laws.specs.Passes.Follows.{Fails, Follows}
use Rattle.bl_machine_laws.specs.Passes.Low.{LowSteps, LowTrap}
use Rattle.bl_machine_laws.specs.Passes.Orders.{Orders}
use Rattle.bl_machine_laws.specs.Passes.Steady.{Steady}

-- all that waits in the tree has a number of at least k
abbrev pub WaitsFrom : (ℕ → Node → ℕ) → ℕ → ℕ → Tree → Type 0
WaitsFrom rank i k c = (n : Node) → Waits c None n → k ≤ rank i n

-- a whole pass over the instance from the number k on, in which each step is the lowest possible one
pub record WholePass (w : Setting) (rank : ℕ → Node → ℕ) (i k : ℕ) (c : Tree) (store : Store) : Type 0 where
  pub done : List AnsweredDeed
  pub tree : Tree
  pub left : Store
  pub passes : Passes w rank i k c done tree
  pub steps : LowSteps w rank i c store done tree left
  pub follows : Follows w rank i k c store tree left

-- a pass comes to its end, or the lowest steps and the turns lead to a trap
pub data PassOrTrap (w : Setting) (rank : ℕ → Node → ℕ) (i k : ℕ) (c : Tree) (store : Store) : Type 0 where
  comes_to_end : WholePass w rank i k c store → PassOrTrap w rank i k c store
  is_cut : LowTrap w rank i c store → Fails w rank i k c store → PassOrTrap w rank i k c store

-- a pass exists over each tree at its place and each store, turn by turn in the order of numbers. No pass of a call is under way in the tree
abbrev pub InstancesHavePasses : Type 0
InstancesHavePasses =
    (structs : List StructDef) (units : List UnitDef) (entry : ℕ) (rank : ℕ → Node → ℕ) (i k : ℕ) (unit : UnitDef) (stood : Bool) (c : Tree)
    (store : Store) →
    let w = setting_of structs units entry in
    Paces w → AllCallable w → Orders w rank → unit_at w i ≡ Some unit → FitsGraph w i c (whole stood (plain_body unit.body)) → Steady c →
    WaitsFrom rank i k c → PassOrTrap w rank i k c store
