-- The ticks of an accepted program as passes over its entry.
use Rattle.std.specs.Prelude.{◌≡◌, ◌⊎◌, ℕ, ℤ, true, List, [], ◌∷◌, ◌++◌, map}
use Rattle.bl_tree.specs.declared.tree.StructDef.{StructDef}
use Rattle.bl_tree.specs.declared.tree.Unit.{Unit as UnitDef}
use Rattle.bl_tree.specs.Program.{IsWellTyped}
use Rattle.bl_effects.specs.Rules.{Passes}
use Rattle.bl_graph_nodes.specs.Nodes.{Node}
use Rattle.bl_ctree.specs.Actions.{Action}
use Rattle.bl_ctree.specs.Control as control
use Rattle.bl_ctree.specs.Control.{Control}
use Rattle.bl_ctree.specs.Instances.{Setting, setting_of}
use Rattle.bl_ctree.specs.Reaches.{Reaches}
use Rattle.bl_ctree.specs.Store.{Store, woken_store}
use Rattle.bl_ctree.specs.Ticks.{Maximal, Rests, Trapped}
use Rattle.bl_ctree_laws.specs.Bridge.{deed_of, plain_tree}
use Rattle.bl_ctree_laws.specs.Trees.{woken}
use Rattle.bl_machine_laws.specs.Passes.Low.{LowTrap}
use Rattle.bl_machine_laws.specs.Passes.Orders.{Orders}
use Rattle.bl_machine_laws.specs.Passes.Pass.{WholePass}

-- a whole pass over the woken tree is a maximal list of steps of the tick, with the same deeds in the same order
pub record TickPasses (w : Setting) (rank : ℕ → Node → ℕ) (row : List ℤ) (c : Control) (store : Store) : Type 0 where
  pub pass : WholePass w rank 0 0 (woken (plain_tree c)) (woken_store row store)
  pub actions : List Action
  pub after : Control
  pub is : plain_tree after ≡ pass.tree
  pub maximal : Maximal w (control.woken c) (woken_store row store) actions (Rests after pass.left)
  pub deeds : map deed_of actions ≡ map (λ one. one.deed) pass.done
  pub settled : control.is_settled after ≡ true

-- the lowest steps of a tick lead to one that traps, and they are a maximal list of steps
pub record TickTraps (w : Setting) (rank : ℕ → Node → ℕ) (row : List ℤ) (c : Control) (store : Store) : Type 0 where
  pub trap : LowTrap w rank 0 (woken (plain_tree c)) (woken_store row store)
  pub actions : List Action
  pub maximal : Maximal w (control.woken c) (woken_store row store) actions Trapped
  pub deeds : map deed_of actions ≡ map (λ one. one.deed) trap.done ++ trap.deed ∷ []

-- each tick of an accepted program is a pass or traps: for every reachable tree and store, every row of inputs, and every order of the nodes
abbrev pub TicksArePasses : Type 0
TicksArePasses =
    (structs : List StructDef) (units : List UnitDef) (entry : ℕ) (rank : ℕ → Node → ℕ) → IsWellTyped structs units entry → Passes units →
    let w = setting_of structs units entry in
    Orders w rank → (rows : List (List ℤ)) (row : List ℤ) (c : Control) (store : Store) → Reaches w rows c store →
    TickPasses w rank row c store ⊎ TickTraps w rank row c store
