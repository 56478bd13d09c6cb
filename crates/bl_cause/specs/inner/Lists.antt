-- Nodes in lists, and the edges of a graph by the nodes at which they begin or end.
use Rattle.std.specs.Prelude.{Contains, ◌&&◌, slice_index, ◌≡◌, ℕ, ◌<◌, ◌⊎◌, nat_eq, not, Bool, if◌then◌else◌, List, [], ◌∷◌, All, filter, length}
use Rattle.std.specs.Prelude.{slice_index_or, sum_by}
use Rattle.bl_tree.specs.declared.graph.Edge.{Edge}
use Rattle.bl_cause.specs.Walks.{ClosedWalk}

-- the number is in the list
abbrev pub In : ℕ → List ℕ → Type 0
In x [] = ⊥
In x (y ∷ ys) = (y ≡ x) ⊎ In x ys

-- both ends of each edge are below the number of nodes
abbrev pub Within : ℕ → List Edge → Type 0
Within count edges = All (λ edge. (edge.from < count) × (edge.to < count)) edges

-- the edges that begin at the node, in their order
abbrev pub edges_from : List Edge → ℕ → List Edge
edges_from edges node = filter (λ edge. nat_eq edge.from node) edges

-- the edges that end at the node, in their order
abbrev pub edges_into : List Edge → ℕ → List Edge
edges_into edges node = filter (λ edge. nat_eq edge.to node) edges

-- there is a row for each node below the count, with the edges that the function gives it
pub record Rows (row_of : ℕ → List Edge) (count : ℕ) (rows : List (List Edge)) : Type 0 where
  pub one_each : length rows ≡ count
  pub row : (node : ℕ) → node < count → slice_index_or rows node [] ≡ row_of node

-- there are as many rows as nodes, and both ends of their edges are below that count
abbrev pub RowsWithin : ℕ → List (List Edge) → Type 0
RowsWithin count rows = (length rows ≡ count) × All (Within count) rows

-- how many nodes are still to be seen
abbrev pub unseen : List Bool → ℕ
unseen seen = sum_by (λ one. if one then 0 else 1) seen

-- two edges are of the same kind: both by data, or neither
abbrev pub same_kind : Bool → Bool → Bool
same_kind one other = if one then other else not other

-- the edges of a kind whose ends have equal numbers
abbrev pub level_edges : List ℕ → Bool → List Edge → List Edge
level_edges numbers by_data edges =
    filter (λ edge. same_kind edge.by_data by_data && nat_eq (slice_index numbers edge.from) (slice_index numbers edge.to)) edges

-- the listed edges are of a kind, and include all of that kind that begin a closed walk
pub record Candidates (edges : List Edge) (by_data : Bool) (left : List Edge) : Type 0 where
  pub there : (edge : Edge) → Contains left edge → Contains edges edge × (edge.by_data ≡ by_data)
  pub all : (edge : Edge) (rest : List Edge) → edge.by_data ≡ by_data → ClosedWalk edges (edge ∷ rest) → Contains left edge
