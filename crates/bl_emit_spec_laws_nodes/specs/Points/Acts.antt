-- Where an act or a `return` is done.
use Rattle.std.specs.Prelude.{◌≡◌, ℕ, true, List, [], Some, slice_get}
use Rattle.bl_tree.specs.declared.place.Place.{Place}
use Rattle.bl_tree.specs.declared.tree.Stmt.{Stmt, out-Stmt}
use Rattle.bl_tree.specs.declared.tree.StmtKind.{out-StmtKind}
use Rattle.bl_tree.specs.declared.tree.StructDef.{StructDef}
use Rattle.bl_tree.specs.declared.tree.Unit.{Unit as UnitDef}
use Rattle.bl_tree.specs.declared.tree.Var.{Var}
use Rattle.bl_tree.specs.declared.value.Value.{Value}
use Rattle.bl_tree.specs.Program.{IsWellTyped}
use Rattle.bl_tree.specs.Typing.{var_at}
use Rattle.bl_graph_nodes.specs.Nodes.{ActAt, Node, nodes_in}
use Rattle.bl_graph_nodes.specs.Plain.{Label, plain_body}
use Rattle.bl_ctext_semantics.specs.Memory.{Location}
use Rattle.bl_ctree.specs.Actions.{Acts, outcome_there, result_at}
use Rattle.bl_ctree.specs.Instances.{Setting, callee_of, setting_of, unit_at}
use Rattle.bl_ctree.specs.Store.{Store, view_at}
use Rattle.bl_ctree_laws.specs.Pending.{deed}
use Rattle.bl_ctree_laws_typing.specs.Fits.{StoreFits}
use Rattle.bl_emit_acts.specs.declared.home.Home.TheVariants.{Held}
use Rattle.bl_emit_acts_laws_simulation.specs.Acts.{is_act}
use Rattle.bl_emit_acts_laws_simulation.specs.Encodes.{home_at}
use Rattle.bl_emit_acts_laws_simulation.specs.Laws.{overlaps_in}
use Rattle.bl_machine.specs.declared.machine.Activity.{Activity as InMachine}
use Rattle.bl_machine_laws.specs.Passes.Follows.{DeedYields}
use Rattle.bl_emit_spec_laws.specs.Calls.Built.{Activities, site_at}
use Rattle.bl_emit_spec_laws.specs.Calls.Laws.{BlocksSimulate}
use Rattle.bl_emit_spec_laws.specs.Calls.Memories.{Nests}
use Rattle.bl_emit_spec_laws_nodes.specs.Points.Laws.{Remembering, ReturnsEnd, RulesOwn, is_return_node}
use Rattle.bl_emit_spec_laws_nodes.specs.Points.Nodes.{NodesStand, PrevsAgree, ViewsFit}

-- no output of a call at a node overlaps another output or an aggregate input
abbrev pub NodesApart : List UnitDef → Type 0
NodesApart units =
    (k position : ℕ) (unit : UnitDef) (l : Label) (s : Stmt) → slice_get units k ≡ Some unit →
    slice_get (nodes_in (plain_body unit.body)) position ≡ Some (ActAt l s) → overlaps_in (out-StmtKind (out-Stmt s).what) ≡ []

-- an act of an instance, at a node of its unit's body, is done in a store that fits, and leaves these values of the instance's variables
pub record Acted (w : Setting) (i : ℕ) (unit : UnitDef) (l : Label) (s : Stmt) (store left : Store) (values : List Value) : Type 0 where
  pub is_there : unit_at w i ≡ Some unit
  pub position : ℕ
  pub node : slice_get (nodes_in (plain_body unit.body)) position ≡ Some (ActAt l s)
  pub act : is_act (out-StmtKind (out-Stmt s).what) ≡ true
  pub fitting : StoreFits w store
  pub outcome : outcome_there w store i s ≡ Some values
  pub done : DeedYields w (deed i (out-Stmt s).place (Acts s)) store true left

-- The instance sees then the values that the act leaves. What is inside the instances that it calls has the variables that it had, and the
-- result is what it was
pub record ActsSeen (w : Setting) (activities : Activities) : Type 0 where
  pub own : (i : ℕ) (unit : UnitDef) (l : Label) (s : Stmt) (store left : Store) (values : List Value) →
      Acted w i unit l s store left values → (view_at w left i).now ≡ values
  pub inner : (i : ℕ) (unit : UnitDef) (l : Label) (s : Stmt) (store left : Store) (values : List Value) →
      Acted w i unit l s store left values → (at : Place) (j k : ℕ) (f m f' m' : Location) (x : ℕ) (var : Var) → callee_of w i at ≡ Some j →
      Nests w activities j f m k f' m' → var_at (site_at w activities k) x ≡ Some var → home_at (site_at w activities k) x ≡ Held →
      slice_get (view_at w left k).now x ≡ slice_get (view_at w store k).now x
  pub result : (i : ℕ) (unit : UnitDef) (l : Label) (s : Stmt) (store left : Store) (values : List Value) →
      Acted w i unit l s store left values → result_at left i ≡ result_at store i

-- an act is done at the node
abbrev pub IsActNode : Node → Type 0
IsActNode (ActAt l s) = is_act (out-StmtKind (out-Stmt s).what) ≡ true
IsActNode _ = ⊥

-- the blocks of nodes with an act simulate them
abbrev pub ActNodesSimulate : List StructDef → List UnitDef → ℕ → Type 0
ActNodesSimulate structs units entry =
    (machine : List InMachine) (activities : Activities) → IsWellTyped structs units entry → RulesOwn (setting_of structs units entry) activities →
    ReturnsEnd units activities →
    Remembering (setting_of structs units entry) activities → NodesStand structs units → ViewsFit structs units entry → PrevsAgree →
    NodesApart units → ActsSeen (setting_of structs units entry) activities → BlocksSimulate structs units entry machine activities IsActNode

-- the blocks of nodes with a `return` simulate them
abbrev pub ReturnNodesSimulate : List StructDef → List UnitDef → ℕ → Type 0
ReturnNodesSimulate structs units entry =
    (machine : List InMachine) (activities : Activities) → IsWellTyped structs units entry → RulesOwn (setting_of structs units entry) activities →
    Remembering (setting_of structs units entry) activities → NodesStand structs units → ViewsFit structs units entry → PrevsAgree →
    BlocksSimulate structs units entry machine activities (λ n. is_return_node n ≡ true)
