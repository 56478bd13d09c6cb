-- Numbers for the nodes of each instance, and the order of steps by them.
use Rattle.std.specs.Prelude.{◌≡◌, ◌⊎◌, ◌<◌, ℕ, Bool, List, [], ◌∷◌, Some, unwrap_or}
use Rattle.bl_tree.specs.declared.tree.StructDef.{StructDef}
use Rattle.bl_tree.specs.declared.tree.Unit.{Unit as UnitDef}
use Rattle.bl_graph_nodes.specs.Nodes.{Node, place_of_node}
use Rattle.bl_graph_nodes.specs.Plain.{plain_body}
use Rattle.bl_graph_nodes.specs.Steps.{Gives, Here, Inside, StepLabel}
use Rattle.bl_graph.specs.DataEdges.{DataEdge}
use Rattle.bl_graph.specs.Edges.{EdgeAll}
use Rattle.bl_graph.specs.Walks.{Rises}
use Rattle.bl_ctree.specs.Instances.{Setting, callee_of, setting_of, unit_at}
use Rattle.bl_ctree_laws.specs.Pending.{Deed}
use Rattle.bl_ctree_laws.specs.Steps.{Anyway, Moves, Unmet}
use Rattle.bl_ctree_laws.specs.Trees.{Tree}
use Rattle.bl_ctree_laws_confluence.specs.Deeds.Homes.{OutputsAreApart}
use Rattle.bl_ctree_laws_confluence.specs.Apart.Seen.{CallsMatchCallees}
use Rattle.bl_ctree_laws_traces.specs.Progress.Laws.{Could}
use Rattle.bl_ctree_laws_traces.specs.Progress.FitsGraph.{FitsGraph}
use Rattle.bl_ctree_laws_traces.specs.Progress.Places.{whole}

-- numbers for nodes, instance by instance, that rise along each control edge and each data edge of the body of the instance's unit
pub record Rising (w : Setting) (rank : ℕ → Node → ℕ) : Type 0 where
  pub control : (i : ℕ) (unit : UnitDef) → unit_at w i ≡ Some unit → Rises (rank i) (EdgeAll (plain_body unit.body))
  pub by_data : (i : ℕ) (unit : UnitDef) → unit_at w i ≡ Some unit → Rises (rank i) (DataEdge (plain_body unit.body))

-- the instance that the `run` with this node begins
abbrev pub callee_there : Setting → ℕ → Node → ℕ
callee_there w i n = unwrap_or (callee_of w i (place_of_node n)) 0

-- the numbers of a step's nodes, from the outermost inwards, each in its instance
abbrev pub ranks_in : Setting → (ℕ → Node → ℕ) → ℕ → StepLabel → List ℕ
ranks_in w rank i (Here n) = rank i n ∷ []
ranks_in w rank i (Gives n) = rank i n ∷ []
ranks_in w rank i (Inside n u step) = rank i n ∷ ranks_in w rank (callee_there w i n) step

-- where the lists first differ both have a number, and the first list has the lesser one
abbrev pub Lower : List ℕ → List ℕ → Type 0
Lower [] ys = ⊥
Lower (x ∷ xs) [] = ⊥
Lower (x ∷ xs) (y ∷ ys) = (x < y) ⊎ ((x ≡ y) × Lower xs ys)

-- a step that could be taken is lower than the step with the label
pub record LowerCould (w : Setting) (rank : ℕ → Node → ℕ) (i : ℕ) (c : Tree) (n : StepLabel) : Type 0 where
  pub could : Could w i c
  pub lower : Lower (ranks_in w rank i could.label) (ranks_in w rank i n)

-- where numbers rise a step that could be taken may be taken, or another that could is lower: so the lowest may be taken
abbrev pub LowestMayAct : Type 0
LowestMayAct =
    (structs : List StructDef) (units : List UnitDef) (entry : ℕ) (rank : ℕ → Node → ℕ) (i : ℕ) (unit : UnitDef) (stood : Bool)
    (c : Tree) (d : Bool)
    (a : Deed) (n : StepLabel) (c' : Tree) →
    let w = setting_of structs units entry in
    Rising w rank → OutputsAreApart w → unit_at w i ≡ Some unit → FitsGraph w i c (whole stood (plain_body unit.body)) → CallsMatchCallees w i c →
    Moves Anyway w i c d a n c' → Moves Unmet w i c d a n c' ⊎ LowerCould w rank i c n
