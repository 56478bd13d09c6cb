-- The labels of the steps of one tick.
use Rattle.std.specs.Prelude.{◌≡◌, ℕ, Bool, List, [], ◌∷◌, Some, ⊤}
use Rattle.bl_tree.specs.declared.tree.Unit.{Unit as UnitDef}
use Rattle.bl_graph_nodes.specs.Nodes.{Node}
use Rattle.bl_graph_nodes.specs.Plain.{Block, plain_body}
use Rattle.bl_graph_nodes.specs.Steps.{StepLabel}
use Rattle.bl_graph.specs.Edges.{EdgeAll}
use Rattle.bl_graph.specs.Walks.{Rises}
use Rattle.bl_ctree.specs.Instances.{Setting, unit_at}
use Rattle.bl_ctree.specs.Store.{Store}
use Rattle.bl_ctree_laws.specs.Ends.{PlainTreeEnd, PlainTreeSteps}
use Rattle.bl_ctree_laws.specs.Shrinks.{Paces}
use Rattle.bl_ctree_laws.specs.Trees.{Tree}
use Rattle.bl_ctree_laws_traces.specs.Progress.FitsGraph.{FitsGraph}
use Rattle.bl_ctree_laws_traces.specs.Progress.Places.{AllCallable, whole}

-- numbers of a body's nodes that rise along its control edges
pub record Numbered (body : Block) : Type 0 where
  pub number : Node → ℕ
  pub rises : Rises number (EdgeAll body)

-- the body of each unit that has an instance has node numbers that rise along its control edges
abbrev pub AllNumbered : Setting → Type 0
AllNumbered w = (i : ℕ) (unit : UnitDef) → unit_at w i ≡ Some unit → Numbered (plain_body unit.body)

-- the label is none of the list
abbrev pub Unlisted : StepLabel → List StepLabel → Type 0
Unlisted n [] = ⊤
Unlisted n (m ∷ rest) = (m ≡ n → ⊥) × Unlisted n rest

-- no label stands twice in the list
abbrev pub LabelsDiffer : List StepLabel → Type 0
LabelsDiffer [] = ⊤
LabelsDiffer (n ∷ rest) = Unlisted n rest × LabelsDiffer rest

-- where activities pause and numbers rise, the labels of a list of steps in one tick differ
abbrev pub TicksDiffer : Type 0
TicksDiffer =
    (w : Setting) (unit : UnitDef) (stood : Bool) (c : Tree) (store : Store) (labels : List StepLabel) (end : PlainTreeEnd) → Paces w → AllCallable w →
    AllNumbered w → unit_at w 0 ≡ Some unit → FitsGraph w 0 c (whole stood (plain_body unit.body)) → PlainTreeSteps w c store labels end → LabelsDiffer labels
