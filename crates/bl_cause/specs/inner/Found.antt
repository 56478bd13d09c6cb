-- What a search over rows of edges finds, in every graph whose edges stand in these rows by the nodes at which they begin.
use Rattle.std.specs.Prelude.{◌≡◌, ◌<◌, ℕ, Bool, false, Contains, List, ◌∷◌, length, slice_index_or}
use Rattle.bl_tree.specs.declared.graph.Edge.{Edge}
use Rattle.bl_tree.specs.declared.graph.Node.{Node}
use Rattle.bl_tree.specs.declared.place.Place.{Place}
use Rattle.bl_tree.specs.Rules.{is_before}
use Rattle.bl_cause.specs.Fails.{BeginsWalk, IsFirst, Never, place_at}
use Rattle.bl_cause.specs.Walks.{ClosedWalk}
use Rattle.bl_cause.specs.inner.Lists.{Candidates, Rows, edges_from}

-- the fact holds of the edges of every such graph
abbrev pub InGraphs : List (List Edge) → (List Edge → Type 0) → Type 0
InGraphs rows Fact = (edges : List Edge) → Rows (edges_from edges) (length rows) rows → Fact edges

-- no closed walk begins with the edge
abbrev pub NoWalkFrom : List (List Edge) → Edge → Type 0
NoWalkFrom rows edge = InGraphs rows (λ edges. Contains edges edge → (rest : List Edge) → ¬ ClosedWalk edges (edge ∷ rest))

-- a closed walk begins with the edge and goes on by the rest
abbrev pub WalkFrom : List (List Edge) → Edge → List Edge → Type 0
WalkFrom rows edge rest = InGraphs rows (λ edges. Contains edges edge → ClosedWalk edges (edge ∷ rest))

-- a closed walk begins with the edge at the place, and has the further places
abbrev pub BeginsFrom : List Node → List (List Edge) → Edge → Place → List Place → Type 0
BeginsFrom nodes rows edge at also = InGraphs rows (λ edges. Contains edges edge → BeginsWalk nodes edges edge.by_data at also)

-- no candidate edge begins a closed walk
abbrev pub NoneBegins : List Node → List (List Edge) → List Edge → Type 0
NoneBegins nodes rows left = InGraphs rows (λ edges. (by_data : Bool) → Candidates edges by_data left → Never (BeginsWalk nodes edges by_data))

-- the first closed walk that a candidate edge begins is at the place, with the further places
abbrev pub FirstBegins : List Node → List (List Edge) → List Edge → Place → List Place → Type 0
FirstBegins nodes rows left at also =
    InGraphs rows (λ edges. (by_data : Bool) → Candidates edges by_data left → IsFirst (BeginsWalk nodes edges by_data) at also)

-- no edge begins at an earlier place than the one at the position
abbrev pub IsLeast : List Node → List Edge → ℕ → Type 0
IsLeast nodes edges k =
    (j : ℕ) (d : Edge) → j < length edges →
    is_before (place_at nodes (slice_index_or edges j d).from) (place_at nodes (slice_index_or edges k d).from) ≡ false
