-- What is done at the nodes of a program that is accepted fits where it stands, and nothing overlaps in the arguments of a call there.
use Rattle.std.specs.Prelude.{◌≡◌, ℕ, true, List, Some, slice_get, take}
use Rattle.bl_tree.specs.declared.tree.StructDef.{StructDef}
use Rattle.bl_tree.specs.declared.tree.Unit.{Unit as UnitDef}
use Rattle.bl_tree.specs.Program.{IsWellTyped}
use Rattle.bl_tree.specs.Typing.{site_of}
use Rattle.bl_effects.specs.Rules.{Passes}
use Rattle.bl_graph_nodes.specs.Nodes.{Node, nodes_in}
use Rattle.bl_graph_nodes.specs.Plain.{plain_body}
use Rattle.bl_emit_spec_laws_nodes.specs.Points.Acts.{NodesApart}
use Rattle.bl_emit_spec_laws_nodes.specs.Points.Nodes.{fits_there}

-- the act, `return` or condition at each node fits
abbrev pub NodesFit : List StructDef → List UnitDef → ℕ → Type 0
NodesFit structs units entry =
    (k position : ℕ) (unit : UnitDef) (n : Node) → IsWellTyped structs units entry → Passes units → slice_get units k ≡ Some unit →
    slice_get (nodes_in (plain_body unit.body)) position ≡ Some n → fits_there (site_of structs (take k units) unit) n ≡ true

-- no output of a call overlaps another output or an aggregate input
abbrev pub CallsApart : List StructDef → List UnitDef → ℕ → Type 0
CallsApart structs units entry = IsWellTyped structs units entry → Passes units → NodesApart units
