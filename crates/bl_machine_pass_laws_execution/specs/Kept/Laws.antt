-- What passes by rules leave alone, and where inputs of a call go.
use Rattle.std.specs.Prelude.{◌≡◌, ℕ, Bool, List, Some, option_map, slice_get}
use Rattle.bl_tree.specs.declared.place.Place.{Place}
use Rattle.bl_tree.specs.declared.tree.Expr.{Expr}
use Rattle.bl_tree.specs.declared.tree.StructDef.{StructDef}
use Rattle.bl_tree.specs.declared.tree.Unit.{Unit as UnitDef}
use Rattle.bl_tree.specs.declared.value.Value.{Value}
use Rattle.bl_graph_nodes.specs.Nodes.{Node}
use Rattle.bl_ctree.specs.Actions.{Copies, result_at}
use Rattle.bl_ctree.specs.Instances.{Setting, setting_of, unit_at}
use Rattle.bl_ctree.specs.Store.{Store}
use Rattle.bl_ctree_laws.specs.Pending.{deed}
use Rattle.bl_ctree_laws_confluence.specs.Deeds.Nesting.{Inside}
use Rattle.bl_ctree_laws_confluence.specs.Stores.{before_of}
use Rattle.bl_machine.specs.Uses.{Slots}
use Rattle.bl_machine_laws.specs.Passes.Follows.{DeedYields}
use Rattle.bl_machine_pass.specs.Registers.{Registers}
use Rattle.bl_machine_pass_laws_execution.specs.Executes.{ClearsInside, Executes, Performs}
use Rattle.bl_machine_pass_laws_execution.specs.Frames.{ChangeOnly, Frames}
use Rattle.bl_machine_pass_laws_execution.specs.Kept.Kept.{StoreKept}

-- what passes by rules leave alone, in the setting of a program
pub record PassesKeepIn (w : Setting) (rank : ℕ → Node → ℕ) (slots : ℕ → Slots) (clear : ℕ → Frames → Frames) : Type 0 where
  -- a pass of an instance, from any of its nodes on, leaves the store but for what is inside the instance and for homes of its outputs
  pub stores : (j k : ℕ) (unit : UnitDef) (frames : Frames) (store : Store) (copies : List Value) (r : Registers) (frames' : Frames) (left : Store)
      (r' : Registers) → unit_at w j ≡ Some unit → Executes w rank slots clear j k frames store copies r frames' left r' →
      StoreKept w j unit store left
  -- the deed at a node of an instance leaves the store but for what is inside the instance and for homes of its outputs
  pub nodes : (j : ℕ) (n : Node) (unit : UnitDef) (frames : Frames) (store : Store) (answer : Bool) (frames' : Frames) (left : Store) →
      unit_at w j ≡ Some unit → Performs w rank slots clear j n frames store answer frames' left → StoreKept w j unit store left
  -- frames of counters change inside the instance only, where a `run` clears only frames inside the callee
  pub counters : (j k : ℕ) (frames : Frames) (store : Store) (copies : List Value) (r : Registers) (frames' : Frames) (left : Store)
      (r' : Registers) → ClearsInside w clear → Executes w rank slots clear j k frames store copies r frames' left r' →
      ChangeOnly (Inside w j) frames frames'
  pub node_counters : (j : ℕ) (n : Node) (frames : Frames) (store : Store) (answer : Bool) (frames' : Frames) (left : Store) →
      ClearsInside w clear → Performs w rank slots clear j n frames store answer frames' left → ChangeOnly (Inside w j) frames frames'

-- passes keep the store and the frames outside of their instance, in every program
abbrev pub PassesKeep : Type 0
PassesKeep =
    (structs : List StructDef) (units : List UnitDef) (entry : ℕ) (rank : ℕ → Node → ℕ) (slots : ℕ → Slots)
    (clear : ℕ → Frames → Frames) →
    PassesKeepIn (setting_of structs units entry) rank slots clear

-- the inputs of a `run` are copied to the frame of what it calls
pub record InputsGoIn : Type 0 where
  -- all other frames stay
  pub others : (w : Setting) (i callee x : ℕ) (at : Place) (inputs : List Expr) (store : Store) (d : Bool) (given : Store) →
      DeedYields w (deed i at (Copies callee inputs)) store d given → (x ≡ callee → ⊥) → slice_get given x ≡ slice_get store x
  -- values before the tick and results are unchanged in each frame
  pub before : (w : Setting) (i callee x : ℕ) (at : Place) (inputs : List Expr) (store : Store) (d : Bool) (given : Store) →
      DeedYields w (deed i at (Copies callee inputs)) store d given →
      option_map before_of (slice_get given x) ≡ option_map before_of (slice_get store x)
  pub results : (w : Setting) (i callee x : ℕ) (at : Place) (inputs : List Expr) (store : Store) (d : Bool) (given : Store) →
      DeedYields w (deed i at (Copies callee inputs)) store d given → result_at given x ≡ result_at store x
