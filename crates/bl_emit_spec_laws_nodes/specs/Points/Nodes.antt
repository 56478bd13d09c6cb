-- What is asked of nodes and of stores, so that the C of what is done at nodes does it; and where something is tested.
use Rattle.std.specs.Prelude.{◌≡◌, ℕ, Bool, true, ◌&&◌, ◌||◌, List, Some, nat_eq, slice_get, take, ⊤}
use Rattle.std.specs.List.{list_any}
use Rattle.bl_tree.specs.declared.tree.Expr.{Expr}
use Rattle.bl_tree.specs.declared.tree.Stmt.{Stmt, out-Stmt}
use Rattle.bl_tree.specs.declared.tree.StmtKind.{out-StmtKind}
use Rattle.bl_tree.specs.declared.tree.StmtKind.TheOpen.{StmtKind-F}
use Rattle.bl_tree.specs.declared.tree.StructDef.{StructDef}
use Rattle.bl_tree.specs.declared.tree.Unit.{Unit as UnitDef}
use Rattle.bl_tree.specs.declared.value.Value.{Value}
use Rattle.bl_tree.specs.Program.{IsWellTyped}
use Rattle.bl_tree.specs.Returns.{is_return_kind}
use Rattle.bl_tree.specs.Typing.{TypingContext, fits, is_truth, site_of, type_of}
use Rattle.bl_graph_nodes.specs.Nodes.{ActAt, CheckAt, Node, TestAt, nodes_in}
use Rattle.bl_graph_nodes.specs.Plain.{plain_body}
use Rattle.bl_machine_prevs.specs.Prevs.{prevs_in, prevs_in_expr}
use Rattle.bl_eval.specs.Meaning.{Scope as Sees, meaning_of}
use Rattle.bl_eval.specs.Standing.{outcome_of}
use Rattle.bl_eval.specs.Values.{values_fit}
use Rattle.bl_ctree.specs.Instances.{setting_of, unit_at}
use Rattle.bl_ctree.specs.Store.{Store, view_at}
use Rattle.bl_ctree_laws_typing.specs.Fits.{StoreFits}
use Rattle.bl_emit_acts.specs.Acts.{is_copied}
use Rattle.bl_emit_acts_laws_simulation.specs.Acts.{copied_in_layer, is_act}
use Rattle.bl_emit_acts_laws_simulation.specs.Encodes.{copied_in}
use Rattle.bl_emit_spec.specs.Activities.{copies_of}
use Rattle.bl_machine.specs.declared.machine.Activity.{Activity as InMachine}
use Rattle.bl_emit_spec_laws.specs.Calls.Built.{Activities}
use Rattle.bl_emit_spec_laws.specs.Calls.Laws.{BlocksSimulate}
use Rattle.bl_emit_spec_laws_nodes.specs.Points.Laws.{Remembering, ReturnsEnd, RulesOwn}

-- ---- nodes

-- whether what is done at a node fits where it stands: an act or a `return`, and a condition of type bool
abbrev pub fits_there : TypingContext → Node → Bool
fits_there site (ActAt l s) = fits site s && (is_act (out-StmtKind (out-Stmt s).what) || is_return_kind (out-StmtKind (out-Stmt s).what))
fits_there site (TestAt l at e) = is_truth (type_of site e)
fits_there site (CheckAt l at e) = is_truth (type_of site e)
fits_there site n = true

-- whether all that an act or a `return` names under a `prev` is copied
abbrev pub act_copied : {A B C D : Type 0} → (ℕ → Bool) → StmtKind-F A B C D → Bool
act_copied copied (StmtKind-F.Return (Some e)) = copied_in copied e
act_copied copied layer = copied_in_layer copied layer

-- whether all that is named under a `prev` at a node is copied
abbrev pub copied_there : (ℕ → Bool) → Node → Bool
copied_there copied (ActAt l s) = act_copied copied (out-StmtKind (out-Stmt s).what)
copied_there copied (TestAt l at e) = copied_in copied e
copied_there copied (CheckAt l at e) = copied_in copied e
copied_there copied n = true

-- what is done at the nodes of each unit's body fits, and what they name under a `prev` is copied
pub record NodesStand (structs : List StructDef) (units : List UnitDef) : Type 0 where
  pub fitting : (k position : ℕ) (unit : UnitDef) (n : Node) → slice_get units k ≡ Some unit →
      slice_get (nodes_in (plain_body unit.body)) position ≡ Some n →
      fits_there (site_of structs (take k units) unit) n ≡ true
  pub copied : (k position : ℕ) (unit : UnitDef) (n : Node) → slice_get units k ≡ Some unit →
      slice_get (nodes_in (plain_body unit.body)) position ≡ Some n →
      copied_there (is_copied (copies_of unit)) n ≡ true

-- ---- views

-- an instance sees values of its variables' types in a typed store
abbrev pub ViewsFit : List StructDef → List UnitDef → ℕ → Type 0
ViewsFit structs units entry =
    let w = setting_of structs units entry in
    (i : ℕ) (unit : UnitDef) (store : Store) → unit_at w i ≡ Some unit → StoreFits w store →
    values_fit structs unit.vars (view_at w store i).now ≡ true

-- the two lists have the same elements at these positions
abbrev pub AgreeAt : List ℕ → List Value → List Value → Type 0
AgreeAt ks before other = (x : ℕ) → list_any (nat_eq x) ks ≡ true → slice_get before x ≡ slice_get other x

-- what an expression means, and what an act leaves, depends on no value before but those that it names under a `prev`
pub record PrevsAgree : Type 0 where
  pub values : (sees : Sees) (e : Expr) (now before other : List Value) → AgreeAt (prevs_in_expr e) before other →
      meaning_of sees e (record { now = now; before = before }) ≡ meaning_of sees e (record { now = now; before = other })
  pub outcomes : (site : TypingContext) (s : Stmt) (now before other : List Value) → is_act (out-StmtKind (out-Stmt s).what) ≡ true →
      AgreeAt (prevs_in s) before other →
      outcome_of site s (record { now = now; before = before }) ≡ outcome_of site s (record { now = now; before = other })

-- ---- tests

-- a condition is tested at the node
abbrev pub IsTest : Node → Type 0
IsTest (TestAt l at e) = ⊤
IsTest (CheckAt l at e) = ⊤
IsTest _ = ⊥

-- the blocks of nodes with a condition simulate them
abbrev pub TestNodesSimulate : List StructDef → List UnitDef → ℕ → Type 0
TestNodesSimulate structs units entry =
    (machine : List InMachine) (activities : Activities) → IsWellTyped structs units entry → RulesOwn (setting_of structs units entry) activities →
    ReturnsEnd units activities →
    Remembering (setting_of structs units entry) activities → NodesStand structs units → ViewsFit structs units entry → PrevsAgree →
    BlocksSimulate structs units entry machine activities IsTest
