-- The data edges between branches of one `cobegin`, by the numbers of nodes.
use Rattle.std.specs.Prelude.{◌≡◌, ◌≢◌, ℕ, ◌<◌, ◌≤◌, Bool, true, ◌&&◌, ◌||◌, List, [], ◌∷◌, ◌++◌, All, Contains, Some, slice_get, ◌↔◌}
use Rattle.bl_tree.specs.declared.graph.Edge.{Edge}
use Rattle.bl_tree.specs.Static.{meets}
use Rattle.bl_graph.specs.declared.flow.Flow.{Flow}
use Rattle.bl_graph.specs.declared.flow.Mark.{Mark}
use Rattle.bl_graph.specs.declared.flow.Span.{Span}
use Rattle.bl_graph.specs.Graph.{edge_between}

-- the spans stand one after another, from the first number on, and end by the last
abbrev pub InOrder : ℕ → List Span → ℕ → Type 0
InOrder from [] last = from ≤ last
InOrder from (span ∷ rest) last = (from ≤ span.first) × (span.first ≤ span.end) × InOrder span.end rest last

-- the node with the number is in the branch at the position
pub record InBranch (branches : List Span) (at i : ℕ) : Type 0 where
  pub span : Span
  pub is_there : slice_get branches at ≡ Some span
  pub begins : span.first ≤ i
  pub ends : i < span.end

-- whether two nodes are in both surfaces or in both depths of their branches
abbrev pub are_together : Mark → Mark → Bool
are_together a b = (a.surface && b.surface) || (a.depth && b.depth)

-- the numbered nodes are in different branches, both in surfaces or both in depths, and the first writes what the second reads
pub record FlowBetween (nodes : List Flow) (branches : List Span) (i j : ℕ) : Type 0 where
  pub from : Flow
  pub to : Flow
  pub is_from : slice_get nodes i ≡ Some from
  pub is_to : slice_get nodes j ≡ Some to
  pub branch : ℕ
  pub other : ℕ
  pub differ : branch ≢ other
  pub in_branch : InBranch branches branch i
  pub in_other : InBranch branches other j
  pub together : are_together from.mark to.mark ≡ true
  pub touches : meets from.writes to.reads ≡ true

-- edges were appended: by data, and exactly those between the branches
pub record FlowsAdded (nodes : List Flow) (branches : List Span) (before after : List Edge) : Type 0 where
  pub added : List Edge
  pub grows : after ≡ before ++ added
  pub kind : All (λ edge. edge.by_data ≡ true) added
  pub exact : (i j : ℕ) → Contains added (edge_between i j true) ↔ FlowBetween nodes branches i j
