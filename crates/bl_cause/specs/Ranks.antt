-- Numbers for the nodes of a tick graph that say in which order they may act.
use Rattle.std.specs.Prelude.{ℕ, ◌<◌, List, Contains, slice_index}
use Rattle.bl_tree.specs.declared.graph.Edge.{Edge}

-- the numbers of the nodes rise along every edge
abbrev pub Ranks : List Edge → List ℕ → Type 0
Ranks edges ranks = (edge : Edge) → Contains edges edge → slice_index ranks edge.from < slice_index ranks edge.to
