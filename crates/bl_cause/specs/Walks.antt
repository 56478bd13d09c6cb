-- Walks along the edges of a tick graph.
use Rattle.std.specs.Prelude.{◌≡◌, ℕ, not, List, [], ◌∷◌, Contains, filter}
use Rattle.bl_tree.specs.declared.graph.Edge.{Edge}

-- a walk along listed edges from the first node to the last: each edge begins where the one before it ends
abbrev pub EdgeWalk : List Edge → ℕ → List Edge → ℕ → Type 0
EdgeWalk edges first [] last = first ≡ last
EdgeWalk edges first (edge ∷ rest) last = Contains edges edge × (edge.from ≡ first) × EdgeWalk edges edge.to rest last

-- a walk of one or more edges that ends where it begins
abbrev pub ClosedWalk : List Edge → List Edge → Type 0
ClosedWalk edges [] = ⊥
ClosedWalk edges (edge ∷ rest) = Contains edges edge × EdgeWalk edges edge.to rest edge.from

-- the control edges of a list
abbrev pub controls : List Edge → List Edge
controls edges = filter (λ edge. not edge.by_data) edges
