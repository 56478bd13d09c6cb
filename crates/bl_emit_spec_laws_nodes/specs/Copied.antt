-- What a program names under a `prev` is copied.
use Rattle.std.specs.Prelude.{◌≡◌, ℕ, true, List, Some, slice_get}
use Rattle.bl_tree.specs.declared.tree.StructDef.{StructDef}
use Rattle.bl_tree.specs.declared.tree.Unit.{Unit as UnitDef}
use Rattle.bl_tree.specs.Program.{IsWellTyped}
use Rattle.bl_graph_nodes.specs.Nodes.{Node, nodes_in}
use Rattle.bl_graph_nodes.specs.Plain.{plain_body}
use Rattle.bl_emit_acts.specs.Acts.{is_copied}
use Rattle.bl_emit_spec.specs.Activities.{copies_of}
use Rattle.bl_emit_spec_laws_nodes.specs.Calling.{RunsStand}
use Rattle.bl_emit_spec_laws_nodes.specs.Points.Nodes.{copied_there}

-- all that is named under a `prev` where something is done at a node of a unit's body has a copy
abbrev pub NodesCopied : Type 0
NodesCopied =
    (structs : List StructDef) (units : List UnitDef) (entry k position : ℕ) (unit : UnitDef) (n : Node) → IsWellTyped structs units entry →
    slice_get units k ≡ Some unit → slice_get (nodes_in (plain_body unit.body)) position ≡ Some n →
    copied_there (is_copied (copies_of unit)) n ≡ true

-- all that the inputs and outputs of a `run` name under a `prev` has a copy
abbrev pub RunsCopied : Type 0
RunsCopied = (structs : List StructDef) (units : List UnitDef) (entry : ℕ) → IsWellTyped structs units entry → RunsStand units
