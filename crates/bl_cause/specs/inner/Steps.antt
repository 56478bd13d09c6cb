-- What a breadth-first search from an edge finds.
use Rattle.std.specs.Prelude.{◌≡◌, ◌<◌, ◌⊎◌, ℕ, Bool, true, false, Contains, List, [], ◌∷◌, ◌++◌, length, slice_index_or, slice_set}
use Rattle.bl_tree.specs.declared.graph.Edge.{Edge}
use Rattle.bl_cause.specs.declared.way_back.Reached.{Reached}
use Rattle.bl_cause.specs.declared.way_back.Step.{Step}
use Rattle.bl_cause.specs.Walks.{EdgeWalk}

-- a step ends at the node
abbrev pub Ends : ℕ → List Step → Type 0
Ends node [] = ⊥
Ends node (step ∷ rest) = (step.edge.to ≡ node) ⊎ Ends node rest

-- each step but the first names an earlier one before it
abbrev pub Earlier : List Step → Type 0
Earlier steps = (k : ℕ) (d : Step) → 0 < k → k < length steps → (slice_index_or steps k d).before < k

-- the first step goes along the first edge, and each other goes along an edge that begins where the step before it ends
pub record Tree (edges : List Edge) (first : Edge) (steps : List Step) : Type 0 where
  pub begins : (d : Step) → (slice_index_or steps 0 d).edge ≡ first
  pub some : 0 < length steps
  pub there : (k : ℕ) (d : Step) → 0 < k → k < length steps → Contains edges (slice_index_or steps k d).edge
  pub follows : (k : ℕ) (d : Step) → 0 < k → k < length steps →
      (slice_index_or steps k d).edge.from ≡ (slice_index_or steps (slice_index_or steps k d).before d).edge.to

-- the nodes seen are those at which a step ends
pub record Sees (seen : List Bool) (steps : List Step) : Type 0 where
  pub ends : (node : ℕ) → slice_index_or seen node false ≡ true → Ends node steps
  pub met : (node : ℕ) → Ends node steps → slice_index_or seen node false ≡ true

-- each edge from a seen node leads to a seen node, starts where a listed step ends, or is listed itself
abbrev pub Leaves : List Edge → List Bool → List Step → List Edge → Type 0
Leaves edges seen steps row =
    (edge : Edge) → Contains edges edge → slice_index_or seen edge.from false ≡ true →
    (slice_index_or seen edge.to false ≡ true) ⊎ (Ends edge.from steps ⊎ Contains row edge)

-- where an edge begins at which a step ends, a step ends at its end too
abbrev pub Closed : List Edge → List Step → Type 0
Closed edges steps = (edge : Edge) → Contains edges edge → Ends edge.from steps → Ends edge.to steps

-- the edge is gone along, unless it leads to a node seen before
abbrev pub gone_unless : Bool → ℕ → Edge → Reached → Reached
gone_unless true before edge reached = reached
gone_unless false before edge reached =
    record { seen = slice_set reached.seen edge.to true; steps = reached.steps ++ record { edge = edge; before = before } ∷ [] }

-- the nodes reached after an edge, which is followed unless its target was seen
abbrev pub gone : ℕ → Edge → Reached → Reached
gone before edge reached = gone_unless (slice_index_or reached.seen edge.to false) before edge reached

-- the nodes reached after several edges, one after another
abbrev pub gone_along : ℕ → List Edge → Reached → Reached
gone_along before [] reached = reached
gone_along before (edge ∷ row) reached = gone_along before row (gone before edge reached)

-- the walk leads from the end of the first step to that of the step at the position
abbrev pub LeadsTo : List Step → ℕ → List Edge → Type 0
LeadsTo steps last walk =
    (edges : List Edge) (first : Edge) (d : Step) → Tree edges first steps → EdgeWalk edges first.to walk (slice_index_or steps last d).edge.to
