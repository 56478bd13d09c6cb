-- What one access more tells, in parts.
use Rattle.std.specs.Prelude.{ℕ, List, [], ◌∷◌, ◌++◌, Some}
use Rattle.bl_tree.specs.declared.graph.Edge.{Edge}
use Rattle.bl_graph.specs.declared.accesses.Access.{Access}
use Rattle.bl_graph.specs.declared.accesses.Access.TheVariants.{Read, Write}
use Rattle.bl_graph.specs.Accesses.{links, writers_at}

-- the writers of an access, by those of the accesses before it
abbrev pub writers_with : List (List ℕ) → Access → List ℕ
writers_with writers (Write node before) = writers_at writers before ++ node ∷ []
writers_with writers (Read node from) = []

-- the edges before, and those that an access makes
abbrev pub edges_with : List (List ℕ) → List Edge → Access → List Edge
edges_with writers edges (Write node before) = edges
edges_with writers edges (Read node from) = edges ++ links node (writers_at writers (Some from))
