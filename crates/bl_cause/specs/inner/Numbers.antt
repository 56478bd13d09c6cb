-- Numbers that never fall along an edge.
use Rattle.std.specs.Prelude.{ℕ, ◌≤◌, ◌⊎◌, nat_lt, Bool, true, false, List, [], ◌∷◌, ◌++◌, Contains, length, slice_index, slice_set}
use Rattle.bl_tree.specs.declared.graph.Edge.{Edge}
use Rattle.bl_cause.specs.inner.Lists.{In, Rows, edges_into}

-- the numbers of the nodes never fall along an edge
abbrev pub NeverFall : List Edge → List ℕ → Type 0
NeverFall edges numbers = (edge : Edge) → Contains edges edge → slice_index numbers edge.from ≤ slice_index numbers edge.to

-- the numbers never fall along an edge, except along edges to the listed nodes and the edges left
abbrev pub FallBefore : List Edge → List ℕ → List ℕ → List Edge → Type 0
FallBefore edges numbers nodes left =
    (edge : Edge) → Contains edges edge → (slice_index numbers edge.from ≤ slice_index numbers edge.to) ⊎ (In edge.to nodes ⊎ Contains left edge)

-- the numbers, and the nodes at which they fell
pub record Lowered : Type 0 where
  pub numbers : List ℕ
  pub nodes : List ℕ

-- the state of numbers and of nodes at which they fell
abbrev pub lowered_to : List ℕ → List ℕ → Lowered
lowered_to numbers nodes = record { numbers = numbers; nodes = nodes }

-- where the test is true, the number where the edge begins becomes the one where it ends
abbrev pub lowered_if : Bool → Edge → Lowered → Lowered
lowered_if true edge s = record { numbers = slice_set s.numbers edge.from (slice_index s.numbers edge.to); nodes = s.nodes ++ edge.from ∷ [] }
lowered_if false edge s = s

-- the number where the edge begins is lowered to the one where it ends
abbrev pub lowered : Edge → Lowered → Lowered
lowered edge s = lowered_if (nat_lt (slice_index s.numbers edge.to) (slice_index s.numbers edge.from)) edge s

-- the numbers lowered along several edges, one after another
abbrev pub lowered_along : List Edge → Lowered → Lowered
lowered_along [] s = s
lowered_along (edge ∷ row) s = lowered_along row (lowered edge s)

-- if the numbers before never fall along the edges of the rows, neither do the numbers after
abbrev pub StayUp : List (List Edge) → List ℕ → List ℕ → Type 0
StayUp rows before after =
    (edges : List Edge) → Rows (edges_into edges) (length before) rows → NeverFall edges before → NeverFall edges after
