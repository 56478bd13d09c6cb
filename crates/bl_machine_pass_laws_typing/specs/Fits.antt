-- What is done at the nodes of a typed program leaves typed stores typed.
use Rattle.std.specs.Prelude.{◌≡◌, ℕ, true, Bool, List, Some}
use Rattle.bl_tree.specs.declared.tree.StructDef.{StructDef}
use Rattle.bl_tree.specs.declared.tree.Unit.{Unit as UnitDef}
use Rattle.bl_tree.specs.declared.value.Value.{Value}
use Rattle.bl_tree.specs.Program.{IsWellTyped}
use Rattle.bl_eval.specs.Values.{values_fit}
use Rattle.bl_graph_nodes.specs.Nodes.{Node}
use Rattle.bl_ctree.specs.Instances.{setting_of, unit_at}
use Rattle.bl_ctree.specs.Store.{Store}
use Rattle.bl_ctree_laws_typing.specs.Fits.{StoreFits}
use Rattle.bl_machine.specs.Uses.{Slots}
use Rattle.bl_machine_pass.specs.Registers.{Registers}
use Rattle.bl_machine_pass.specs.Transitions.{Transition}
use Rattle.bl_machine_pass_laws_execution.specs.Executes.{Executes, HasRule, Performs, recopied}
use Rattle.bl_machine_pass_laws_execution.specs.Frames.{Frames}

-- the turn of a node keeps a typed store and typed copies, and a pass by rules keeps a typed store
pub record TurnsKeepTypes (structs : List StructDef) (units : List UnitDef) (entry : ℕ) : Type 0 where
  pub performs : (rank : ℕ → Node → ℕ) (slots : ℕ → Slots) (clear : ℕ → Frames → Frames) (i : ℕ) (unit : UnitDef) (rule : Transition)
      (frames : Frames)
      (store : Store) (answer : Bool) (frames' : Frames) (left : Store) → let w = setting_of structs units entry in
      unit_at w i ≡ Some unit → HasRule slots i unit rule → StoreFits w store →
      Performs w rank slots clear i rule.node frames store answer frames' left → StoreFits w left
  pub executes : (rank : ℕ → Node → ℕ) (slots : ℕ → Slots) (clear : ℕ → Frames → Frames) (i k : ℕ) (frames : Frames)
      (store : Store)
      (copies : List Value) (r : Registers) (frames' : Frames) (left : Store) (r' : Registers) → let w = setting_of structs units entry in
      StoreFits w store → Executes w rank slots clear i k frames store copies r frames' left r' → StoreFits w left
  pub copies : (i : ℕ) (unit : UnitDef) (n : Node) (left : Store) (copies : List Value) → let w = setting_of structs units entry in
      unit_at w i ≡ Some unit → StoreFits w left → values_fit structs unit.vars copies ≡ true →
      values_fit structs unit.vars (recopied w i n left copies) ≡ true

-- passes keep stores and copies typed, in each typed program
abbrev pub PassesKeepTypes : Type 0
PassesKeepTypes = (structs : List StructDef) (units : List UnitDef) (entry : ℕ) → IsWellTyped structs units entry → TurnsKeepTypes structs units entry
