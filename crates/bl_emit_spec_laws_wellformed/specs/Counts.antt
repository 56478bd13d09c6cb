-- How many nodes and resting places the units of a typed program have.
use Rattle.std.specs.Prelude.{◌≡◌, ℕ, ◌*◌, ◌≤◌, List, Some, length, slice_get}
use Rattle.bl_tree.specs.declared.tree.StructDef.{StructDef}
use Rattle.bl_tree.specs.declared.tree.Unit.{Unit as UnitDef}
use Rattle.bl_tree.specs.Program.{IsWellTyped}
use Rattle.bl_limits_measures.specs.Statements.{cell_statements_of}
use Rattle.bl_graph_nodes.specs.Nodes.{nodes_in}
use Rattle.bl_graph_nodes.specs.Plain.{plain_body}
use Rattle.bl_machine.specs.Layout.{places_in}

-- the unit has at most four nodes for each statement, and no more resting places than statements
pub record IsFew (unit : UnitDef) : Type 0 where
  pub nodes : length (nodes_in (plain_body unit.body)) ≤ 4 * cell_statements_of unit
  pub places : places_in (plain_body unit.body) ≤ cell_statements_of unit

-- each unit of a typed program has at most four nodes for each statement, and no more resting places than statements
abbrev pub NodesCounted : List StructDef → List UnitDef → ℕ → Type 0
NodesCounted structs units entry = (k : ℕ) (unit : UnitDef) → IsWellTyped structs units entry → slice_get units k ≡ Some unit → IsFew unit
