-- The order in which a depth-first search is done with the nodes.
use Rattle.std.specs.Prelude.{◌≡◌, ◌+◌, ◌<◌, ◌⊎◌, ℕ, true, false, Option, Some, None, slice_get, Bool, Contains, List, [], ◌∷◌, ◌++◌, length, reverse}
use Rattle.std.specs.Prelude.{slice_index_or, slice_set, ⊤}
use Rattle.bl_tree.specs.declared.graph.Edge.{Edge}
use Rattle.bl_cause.specs.declared.finishing.Frame.{Frame}
use Rattle.bl_cause.specs.declared.finishing.Search.{Search}
use Rattle.bl_cause.specs.Walks.{EdgeWalk}
use Rattle.bl_cause.specs.inner.Lists.{In, Rows, edges_from, unseen}

-- a walk leads from the first node to the second
abbrev pub Reaches : List Edge → ℕ → ℕ → Type 0
Reaches edges first last = (walk : List Edge) × EdgeWalk edges first walk last

-- what a node leads to stands behind it, but where that leads back to it
abbrev pub Sorted : List Edge → List ℕ → Type 0
Sorted edges [] = ⊤
Sorted edges (node ∷ rest) =
    ((edge : Edge) → Contains edges edge → edge.from ≡ node → In edge.to rest ⊎ Reaches edges edge.to node) × Sorted edges rest

-- the node is that of a frame of the stack
abbrev pub Open : ℕ → List Frame → Type 0
Open node [] = ⊥
Open node (frame ∷ rest) = (frame.node ≡ node) ⊎ Open node rest

-- the edges of the frame's node that were looked at end at nodes that were seen
abbrev pub Looked : List (List Edge) → List Bool → Frame → Type 0
Looked rows seen frame =
    (k : ℕ) (d : Edge) → k < frame.next → k < length (slice_index_or rows frame.node []) →
    slice_index_or seen (slice_index_or (slice_index_or rows frame.node []) k d).to false ≡ true

-- the nodes of the stack's frames lead to those further in, innermost first
abbrev pub Nested : List Edge → List (List Edge) → List Bool → List Frame → Type 0
Nested edges rows seen [] = ⊤
Nested edges rows seen (frame ∷ rest) =
    ((node : ℕ) → Open node rest → Reaches edges node frame.node) × Looked rows seen frame × Nested edges rows seen rest

-- a search: the nodes that were seen, the frames and the nodes that are done
pub record SearchState : Type 0 where
  pub seen : List Bool
  pub stack : List Frame
  pub order : List ℕ

-- the state of a search as the code keeps it
abbrev pub state_of : Search → SearchState
state_of search = record { seen = search.seen; stack = search.stack.items; order = search.order }

-- the node is entered, unless it was seen before
abbrev pub entered_unless : Bool → ℕ → SearchState → SearchState
entered_unless true node s = s
entered_unless false node s =
    record { seen = slice_set s.seen node true; stack = s.stack ++ record { node = node; next = 0 } ∷ []; order = s.order }

-- the search state after a node is entered, unless it was seen before
abbrev pub after_entering : ℕ → SearchState → SearchState
after_entering node s = entered_unless (slice_index_or s.seen node false) node s

-- the frame is put back with its next edge looked at, or, without one, its node is done
abbrev pub at_edge : Frame → Option Edge → SearchState → SearchState
at_edge frame None s = record { seen = s.seen; stack = s.stack; order = s.order ++ frame.node ∷ [] }
at_edge frame (Some edge) s =
    after_entering edge.to (record { seen = s.seen; stack = s.stack ++ record { node = frame.node; next = frame.next + 1 } ∷ []; order = s.order })

-- the search state after the frame's next edge of the row
abbrev pub advanced : Frame → List Edge → SearchState → SearchState
advanced frame row s = at_edge frame (slice_get row frame.next) s

-- what a search keeps
pub record SearchInvariant (edges : List Edge) (rows : List (List Edge)) (s : SearchState) : Type 0 where
  pub nested : Nested edges rows s.seen (reverse s.stack)
  pub sorted : Sorted edges (reverse s.order)
  pub held : (node : ℕ) → slice_index_or s.seen node false ≡ true → In node (reverse s.order) ⊎ Open node (reverse s.stack)
  pub counted : unseen s.seen + (length s.order + length s.stack) ≡ length s.seen

-- a search over the rows keeps its invariant, in every graph with that number of nodes
abbrev pub SearchKeepsInvariant : ℕ → List (List Edge) → SearchState → SearchState → Type 0
SearchKeepsInvariant count rows before after = (edges : List Edge) → Rows (edges_from edges) count rows → SearchInvariant edges rows before → SearchInvariant edges rows after

-- each node of the order gets its position there, counted from this number on
abbrev pub ranked : List ℕ → ℕ → List ℕ → List ℕ
ranked [] from ranks = ranks
ranked (node ∷ order) from ranks = ranked order (from + 1) (slice_set ranks node from)
