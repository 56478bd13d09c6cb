-- Data edges by the accesses that make them: which writers each write stands for, and the edges to what reads them.
use Rattle.std.specs.Prelude.{ℕ, List, [], ◌∷◌, ◌++◌, Option, None, Some, flat_map, slice_get, unwrap_or, true}
use Rattle.bl_tree.specs.declared.graph.Edge.{Edge}
use Rattle.bl_graph.specs.declared.accesses.Access.{Access}
use Rattle.bl_graph.specs.declared.accesses.Access.TheVariants.{Read, Write}
use Rattle.bl_graph.specs.Graph.{edge_between}

-- the data edges from each node of a list to a node
abbrev pub links : ℕ → List ℕ → List Edge
links to nodes = flat_map (λ from. edge_between from to true ∷ []) nodes

-- the writers of each access so far, and the edges so far
pub record WritersAndEdges : Type 0 where
  pub writers : List (List ℕ)
  pub edges : List Edge

-- the writers of the access at a position, where there is one
abbrev pub writers_at : List (List ℕ) → Option ℕ → List ℕ
writers_at writers None = []
writers_at writers (Some k) = unwrap_or (slice_get writers k) []

-- one access more: a write has its node and the writers of the write before it, and a read has none
abbrev pub told_with : WritersAndEdges → Access → WritersAndEdges
told_with told (Write node before) = record { writers = told.writers ++ (writers_at told.writers before ++ node ∷ []) ∷ []; edges = told.edges }
told_with told (Read node from) = record { writers = told.writers ++ [] ∷ []; edges = told.edges ++ links node (writers_at told.writers (Some from)) }

-- more accesses, one after another
abbrev pub told_by : WritersAndEdges → List Access → WritersAndEdges
told_by told [] = told
told_by told (access ∷ rest) = told_by (told_with told access) rest

-- what all accesses tell
abbrev pub told : List Access → WritersAndEdges
told accesses = told_by (record { writers = []; edges = [] }) accesses

-- for each access the writers that it stands for
abbrev pub writers_of : List Access → List (List ℕ)
writers_of accesses = (told accesses).writers

-- the data edges that accesses make
abbrev pub flows : List Access → List Edge
flows accesses = (told accesses).edges
