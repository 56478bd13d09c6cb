-- What holds of trees that stand in the tick graph of a body.
use Rattle.std.specs.Prelude.{◌≡◌, ℕ, Bool, true, false, Some}
use Rattle.std.specs.List.{list_any}
use Rattle.bl_tree.specs.declared.static_path.Static.{Static}
use Rattle.bl_tree.specs.declared.tree.Unit.{Unit as UnitDef}
use Rattle.bl_graph_nodes.specs.Nodes.{Node, node_writes}
use Rattle.bl_graph_nodes.specs.Plain.{Block, plain_body}
use Rattle.bl_graph_nodes.specs.Steps.{StepLabel, head_of}
use Rattle.bl_graph.specs.Edges.{In}
use Rattle.bl_graph.specs.Walks.{Walk}
use Rattle.bl_ctree.specs.Instances.{Setting, unit_at}
use Rattle.bl_ctree_laws.specs.Pending.{Deed}
use Rattle.bl_ctree_laws.specs.Shrinks.{Paces}
use Rattle.bl_ctree_laws.specs.Steps.{Anyway, Moves}
use Rattle.bl_ctree_laws.specs.Trees.{Tree, do_block, is_settled, woken}
use Rattle.bl_ctree_laws_traces.specs.Progress.FitsGraph.{FitsGraph}
use Rattle.bl_ctree_laws_traces.specs.Progress.Places.{AllCallable, whole}

-- a step that could be taken in a fitting tree is in the body's depth if the tree stood, else in its surface
abbrev pub NodesAreInPart : Type 0
NodesAreInPart =
    (w : Setting) (i : ℕ) (stood : Bool) (body : Block) (c : Tree) (d : Bool) (a : Deed) (n : StepLabel) (c' : Tree) →
    FitsGraph w i c (whole stood body) → Moves Anyway w i c d a n c' → In stood body (head_of n)

-- a step that could be taken
pub record Could (w : Setting) (i : ℕ) (c : Tree) : Type 0 where
  pub answer : Bool
  pub deed : Deed
  pub label : StepLabel
  pub after : Tree
  pub moves : Moves Anyway w i c answer deed label after

-- where something is left to do something could act
abbrev pub UnsettledCould : Type 0
UnsettledCould = (w : Setting) (i : ℕ) (stood : Bool) (body : Block) (c : Tree) → FitsGraph w i c (whole stood body) → is_settled c ≡ false → Could w i c

-- a step that could be taken, from whose node edges lead to a node with the property
pub record StepLeadsTo (w : Setting) (i : ℕ) (c : Tree) (E : Node → Node → Type 0) (F : Node → Type 0) : Type 0 where
  pub could : Could w i c
  pub end : Node
  pub walk : Walk E (head_of could.label) end
  pub leads : F end

-- a node writes a static path that passes the test
abbrev pub NodeWrites : (Static → Bool) → Node → Type 0
NodeWrites test n = list_any test (node_writes n) ≡ true

-- a body begins at its place: in the surface of its graph
abbrev pub BodiesFitGraph : Type 0
BodiesFitGraph =
    (w : Setting) (i : ℕ) (unit : UnitDef) → AllCallable w → unit_at w i ≡ Some unit →
    FitsGraph w i (do_block (plain_body unit.body)) (whole false (plain_body unit.body))

-- what could act leaves a tree that stands at its place; no premise says what may act
abbrev pub StepsKeepFitsGraph : Type 0
StepsKeepFitsGraph =
    (w : Setting) (i : ℕ) (stood : Bool) (body : Block) (c : Tree) (d : Bool) (a : Deed) (n : StepLabel) (c' : Tree) → Paces w → AllCallable w →
    FitsGraph w i c (whole stood body) → Moves Anyway w i c d a n c' → FitsGraph w i c' (whole stood body)

-- a settled tree that fits the graph still fits it when woken, as one that stood
abbrev pub WakingKeepsFitsGraph : Type 0
WakingKeepsFitsGraph =
    (w : Setting) (i : ℕ) (stood : Bool) (body : Block) (c : Tree) → is_settled c ≡ true → FitsGraph w i c (whole stood body) →
    FitsGraph w i (woken c) (whole true body)
