-- What an activity remembers for those that it runs.
use Rattle.std.specs.Prelude.{◌≡◌, ℕ, true, List, Contains, Some}
use Rattle.bl_tree.specs.declared.place.Place.{Place}
use Rattle.bl_tree.specs.declared.tree.StructDef.{StructDef}
use Rattle.bl_tree.specs.declared.tree.Unit.{Unit as UnitDef}
use Rattle.bl_graph_nodes.specs.Nodes.{Arguments, EnterAt, nodes_in}
use Rattle.bl_graph_nodes.specs.Plain.{Label, plain_body}
use Rattle.bl_ctree.specs.Instances.{callee_of, setting_of, unit_at}
use Rattle.bl_emit_spec.specs.Activities.{remembers_any}
use Rattle.bl_machine.specs.declared.machine.Activity.{Activity as InMachine}
use Rattle.bl_emit_spec_laws.specs.Calls.Built.{Activities, activity_at}
use Rattle.bl_emit_spec_laws.specs.Calls.Laws.{CompilationContext}

-- an activity that runs one which remembers something remembers that
abbrev pub CallersRemember : Type 0
CallersRemember =
    (structs : List StructDef) (units : List UnitDef) (entry : ℕ) (machine : List InMachine) (activities : Activities) →
    let w = setting_of structs units entry in
    (i j : ℕ) (unit : UnitDef) (l : Label) (at : Place) (arguments : Arguments) → CompilationContext structs units entry machine activities →
    unit_at w i ≡ Some unit → Contains (nodes_in (plain_body unit.body)) (EnterAt l at arguments) → callee_of w i at ≡ Some j →
    remembers_any (activity_at w activities j) ≡ true → remembers_any (activity_at w activities i) ≡ true
