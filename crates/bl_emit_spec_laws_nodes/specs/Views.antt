-- What an act leaves of what isn't its instance's.
use Rattle.std.specs.Prelude.{◌≡◌, ℕ, true, List, Contains, Some}
use Rattle.bl_tree.specs.declared.place.Place.{Place}
use Rattle.bl_tree.specs.declared.tree.Stmt.{Stmt}
use Rattle.bl_tree.specs.declared.tree.StructDef.{StructDef}
use Rattle.bl_tree.specs.declared.tree.Unit.{Unit as UnitDef}
use Rattle.bl_tree.specs.declared.value.Value.{Value}
use Rattle.bl_graph_nodes.specs.Nodes.{Arguments, EnterAt, nodes_in}
use Rattle.bl_graph_nodes.specs.Plain.{Label, plain_body}
use Rattle.bl_ctree.specs.Instances.{Setting, callee_of, setting_of, unit_at}
use Rattle.bl_ctree.specs.Store.{Store, view_at}
use Rattle.bl_emit_spec.specs.Activities.{remembers_any}
use Rattle.bl_machine.specs.declared.machine.Activity.{Activity as InMachine}
use Rattle.bl_emit_spec_laws.specs.Calls.Built.{Activities, activity_at}
use Rattle.bl_emit_spec_laws.specs.Calls.Laws.{CompilationContext}
use Rattle.bl_emit_spec_laws_nodes.specs.Points.Acts.{Acted, ActsSeen}
use Rattle.bl_emit_spec_laws_nodes.specs.Points.Laws.{Remembering}

-- an instance sees the values that its act leaves
abbrev pub OwnSeen : Setting → Type 0
OwnSeen w =
    (i : ℕ) (unit : UnitDef) (l : Label) (s : Stmt) (store left : Store) (values : List Value) → Acted w i unit l s store left values →
    (view_at w left i).now ≡ values

-- an act leaves the variables of what its instance calls and the result unchanged, where its instance sees what it leaves
abbrev pub ActsLeave : Type 0
ActsLeave =
    (structs : List StructDef) (units : List UnitDef) (entry : ℕ) (machine : List InMachine) (activities : Activities) →
    CompilationContext structs units entry machine activities → OwnSeen (setting_of structs units entry) → ActsSeen (setting_of structs units entry)
    activities

-- an activity that runs one which remembers something remembers that
abbrev pub CalleesRemember : Setting → Activities → Type 0
CalleesRemember w activities =
    (i j : ℕ) (unit : UnitDef) (l : Label) (at : Place) (arguments : Arguments) → unit_at w i ≡ Some unit →
    Contains (nodes_in (plain_body unit.body)) (EnterAt l at arguments) → callee_of w i at ≡ Some j →
    remembers_any (activity_at w activities j) ≡ true → remembers_any (activity_at w activities i) ≡ true

-- an activity is marked as remembering if it, or what it calls at any depth, remembers a variable
abbrev pub RememberingStands : Type 0
RememberingStands = (w : Setting) (activities : Activities) → CalleesRemember w activities → Remembering w activities
