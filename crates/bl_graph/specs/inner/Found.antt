-- Data edges as they are found, branch after branch.
use Rattle.std.specs.Prelude.{ℕ, ◌+◌, ◌-◌, ◌≤◌, Bool, List, [], ◌∷◌, Contains, flat_map, if◌then◌else◌, Option, None, Some, slice_get}
use Rattle.bl_tree.specs.declared.graph.Edge.{Edge}
use Rattle.bl_tree.specs.declared.static_path.Static.{Static}
use Rattle.bl_graph.specs.declared.flow.Flow.{Flow}
use Rattle.bl_graph.specs.declared.flow.Mark.{Mark}
use Rattle.bl_graph.specs.declared.flow.Span.{Span}
use Rattle.bl_graph.specs.Accesses.{links}
use Rattle.bl_graph.specs.inner.Noted.{Note, note, numbers_met, upto}

-- ---- edges

-- the data edges to a node from each one noted with a path that overlaps one of the paths
abbrev pub links_met : List Note → ℕ → List Static → List Edge
links_met ns to paths = flat_map (λ path. links to (numbers_met ns path)) paths

-- ---- nodes of branches

-- the branches begin before they end, and end by the number
abbrev pub EndBy : List Span → ℕ → Type 0
EndBy branches last = (span : Span) → Contains branches span → (span.first ≤ span.end) × (span.end ≤ last)

-- whether a node is in the depth, or in the surface
abbrev pub is_reached : Bool → Mark → Bool
is_reached deep mark = if deep then mark.depth else mark.surface

-- the notes of a node with each path of a list
abbrev pub notes_of : ℕ → List Static → List Note
notes_of node paths = flat_map (λ path. note node path ∷ []) paths

-- a node with what it writes, where it is in the part that is looked at
abbrev pub writes_at : Bool → ℕ → Option Flow → List Note
writes_at deep i None = []
writes_at deep i (Some flow) = if is_reached deep flow.mark then notes_of i flow.writes else []

-- what so many nodes write, from the first number on
abbrev pub writes_to : List Flow → Bool → ℕ → ℕ → List Note
writes_to nodes deep from count = upto (λ k. writes_at deep (from + k) (slice_get nodes (from + k))) count

-- what the nodes of a branch write
abbrev pub writes_in : List Flow → Bool → Option Span → List Note
writes_in nodes deep None = []
writes_in nodes deep (Some span) = writes_to nodes deep span.first (span.end - span.first)

-- what the nodes of so many branches write
abbrev pub writes_before : List Flow → Bool → List Span → ℕ → List Note
writes_before nodes deep branches count = upto (λ k. writes_in nodes deep (slice_get branches k)) count

-- edges to a node, where it is in the part that is looked at
abbrev pub links_at : List Note → Bool → ℕ → Option Flow → List Edge
links_at ns deep i None = []
links_at ns deep i (Some flow) = if is_reached deep flow.mark then links_met ns i flow.reads else []

-- edges to so many nodes, from the first number on
abbrev pub links_to : List Note → List Flow → Bool → ℕ → ℕ → List Edge
links_to ns nodes deep from count = upto (λ k. links_at ns deep (from + k) (slice_get nodes (from + k))) count

-- edges to the nodes of a branch
abbrev pub links_in : List Note → List Flow → Bool → Option Span → List Edge
links_in ns nodes deep None = []
links_in ns nodes deep (Some span) = links_to ns nodes deep span.first (span.end - span.first)

-- edges to the nodes of so many branches, from those of earlier ones
abbrev pub swept : List Flow → Bool → List Span → ℕ → List Edge
swept nodes deep branches count = upto (λ k. links_in (writes_before nodes deep branches k) nodes deep (slice_get branches k)) count
