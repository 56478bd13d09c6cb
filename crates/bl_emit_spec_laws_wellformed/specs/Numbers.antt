-- The numbers in the names of an activity's C differ where those of its nodes do.
use Rattle.std.specs.Prelude.{◌≡◌, ℕ, ◌<◌, ◌^◌, ◌≤◌, true, List, IsPermutation, length, map}
use Rattle.bl_tree.specs.declared.tree.Stmt.{Stmt}
use Rattle.bl_tree.specs.Reduce.{joined}
use Rattle.bl_machine.specs.Blocks.{up_to}
use Rattle.bl_graph_nodes.specs.Nodes.{Node, nodes_in}
use Rattle.bl_graph_nodes.specs.Plain.{plain_body}
use Rattle.bl_emit_spec.specs.Activities.{Activity, activity_view, body_of, node_number}
use Rattle.bl_emit_spec_laws_wellformed.specs.Names.{NumbersDiffer, are_numbers}

-- each node of an activity stands in one of its blocks, once
abbrev pub EachStandsOnce : Activity → Type 0
EachStandsOnce a = IsPermutation (up_to (length (nodes_in (body_of a)))) (joined a.blocks)

-- a flag, a mark and a `run` have the number of a node each, and no two of a kind that of one node
abbrev pub NumbersFollow : Type 0
NumbersFollow =
    (a : Activity) → length a.unit.vars ≤ 2 ^ 64 → length a.sizes ≤ 2 ^ 64 → EachStandsOnce a →
    are_numbers (map (activity_view a).number (nodes_in (body_of a))) ≡ true → NumbersDiffer a

-- the numbers of a body's nodes by an order of them: 64 bits hold each, and no two of the body's nodes have one
pub record AreNumbered (body : List Stmt) (order : List ℕ) : Type 0 where
  pub differ : are_numbers (map (node_number order (plain_body body)) (nodes_in (plain_body body))) ≡ true
  pub few : (n : Node) → node_number order (plain_body body) n < 2 ^ 64

-- the nodes of a body are numbered by any order that has each position of a node once, where 64 bits count them
abbrev pub NodesNumbered : Type 0
NodesNumbered =
    (body : List Stmt) (order : List ℕ) → IsPermutation (up_to (length (nodes_in (plain_body body)))) order →
    length (nodes_in (plain_body body)) < 2 ^ 64 → AreNumbered body order
