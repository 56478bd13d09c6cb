-- What the control edges of a tick graph tell of each node.
use Rattle.std.specs.Prelude.{ℕ, nat_eq, Bool, true, false, not, ◌&&◌, List, [], ◌∷◌, Option, Some, None, if◌then◌else◌, length, replicate, slice_get}
use Rattle.std.specs.Prelude.{slice_index_or, slice_set}
use Rattle.bl_tree.specs.declared.graph.Edge.{Edge}
use Rattle.bl_tree.specs.declared.graph.Node.{Node}
use Rattle.bl_tree.specs.declared.graph.NodeKind.{NodeKind}
use Rattle.bl_tree.specs.declared.graph.NodeKind.TheVariants as kind
use Rattle.bl_block.specs.declared.ways.Way.{Way}
use Rattle.bl_block.specs.declared.ways.Way.TheVariants as way
use Rattle.bl_block.specs.declared.ways.Ways.{Ways}

-- ---- kinds

-- an act, or the head of a loop
abbrev pub straight_kind : NodeKind → Bool
straight_kind kind.Act = true
straight_kind kind.Head = true
straight_kind _ = false

-- a join of a `cobegin`
abbrev pub join_kind : NodeKind → Bool
join_kind kind.SurfaceJoin = true
join_kind kind.DepthJoin = true
join_kind _ = false

-- whether an optional node is of such a kind
abbrev pub some_kind : (NodeKind → Bool) → Option Node → Bool
some_kind test None = false
some_kind test (Some node) = test node.kind

-- whether the node at the position is an act or the head of a loop
abbrev pub goes_straight : List Node → ℕ → Bool
goes_straight nodes at = some_kind straight_kind (slice_get nodes at)

-- whether the node at the position is a join
abbrev pub is_join : List Node → ℕ → Bool
is_join nodes at = some_kind join_kind (slice_get nodes at)

-- ---- ways

-- one node more; the same twice is one
abbrev pub met : Way → ℕ → Way
met way.Nowhere node = way.One node
met (way.One other) node = if nat_eq other node then way.One other else way.Several
met way.Several node = way.Several

-- one node more on the way of the node at the position
abbrev pub noted : List Way → ℕ → ℕ → List Way
noted ways at node = slice_set ways at (met (slice_index_or ways at way.Nowhere) node)

-- the ways after each edge that passes the test is noted: the node at its one end gets the node at the other
abbrev pub noted_all : (Edge → Bool) → (Edge → ℕ) → (Edge → ℕ) → List Edge → List Way → List Way
noted_all test at other [] ways = ways
noted_all test at other (edge ∷ rest) ways =
    noted_all test at other rest (if test edge then noted ways (at edge) (other edge) else ways)

-- a control edge from an act or a head of a loop, and not to a join
abbrev pub leads_on : List Node → Edge → Bool
leads_on nodes edge = not edge.by_data && goes_straight nodes edge.from && not (is_join nodes edge.to)

-- the ways on from nodes: where control edges lead from acts and heads of loops, joins aside
abbrev pub noted_on : List Node → List Edge → List Way → List Way
noted_on nodes edges ways = noted_all (leads_on nodes) (λ edge. edge.from) (λ edge. edge.to) edges ways

-- the ways back from nodes: from where control edges lead to them
abbrev pub noted_back : List Edge → List Way → List Way
noted_back edges ways = noted_all (λ edge. not edge.by_data) (λ edge. edge.to) (λ edge. edge.from) edges ways

-- the ways of all nodes of a graph
abbrev pub ways_of : List Node → List Edge → Ways
ways_of nodes edges = record {
  on = noted_on nodes edges (replicate (length nodes) way.Nowhere);
  from = noted_back edges (replicate (length nodes) way.Nowhere);
}

-- the way is to this node alone
abbrev pub is_one : Way → ℕ → Bool
is_one (way.One other) node = nat_eq other node
is_one _ node = false

-- the way of the node at the position leads to the other node alone
abbrev pub one_at : List Way → ℕ → ℕ → Bool
one_at ways at node = is_one (slice_index_or ways at way.Nowhere) node

-- the second node isn't the body's entry, the first leads to it alone, and no other leads to it
abbrev pub follows : Ways → ℕ → ℕ → Bool
follows ways first second = not (nat_eq second 0) && one_at ways.on first second && one_at ways.from second first
