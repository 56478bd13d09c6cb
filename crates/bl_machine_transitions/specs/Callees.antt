-- What the blocks of nodes are told by: for each node the activity that it calls, and its number.
use Rattle.std.specs.Prelude.{ℕ, Bool, true, false, List, [], ◌∷◌, ◌++◌, nat_eq}
use Rattle.bl_graph_nodes.specs.Nodes.{Node, are_instant, is_instant, nodes_in}
use Rattle.bl_graph_nodes.specs.Plain.{Act, Again, Await, Block, Bodies, Body as BodyOf, Cobegin, Done, If, Last, Plain, Repeat, Run as RunOf, Then, Until}
use Rattle.bl_graph_nodes.specs.Plain.{When, While}
use Rattle.bl_machine_pass.specs.Numbered.{position_where, same_node}

-- ---- the activities that nodes call

-- no activity, for a node that is there where the test is true
abbrev pub zero_where : Bool → List ℕ
zero_where true = 0 ∷ []
zero_where false = []

abbrev mutual
  -- for each node of a statement, in their order, the activity that it calls; 0 for nodes that call none
  pub callees_of : Plain → List ℕ
  callees_of (Act l s) = 0 ∷ []
  callees_of (Await l at e) = 0 ∷ 0 ∷ []
  callees_of (RunOf l at target a inputs outputs) = a ∷ a ∷ []
  callees_of (If l at e body other) = 0 ∷ (callees_in body ++ callees_in other)
  callees_of (Cobegin l at bodies) = 0 ∷ (zero_where (is_instant (Cobegin l at bodies)) ++ 0 ∷ callees_in_each bodies)
  callees_of (When l at guard e body) = 0 ∷ (zero_where (are_instant body) ++ 0 ∷ 0 ∷ callees_in body)
  callees_of (Repeat l at body) = 0 ∷ callees_in body
  callees_of (Until l at body e) = 0 ∷ 0 ∷ callees_in body
  callees_of (While l at e body) = 0 ∷ callees_in body
  callees_of (Again l at body e) = 0 ∷ 0 ∷ callees_in body

  -- for each node of a block, in their order, the activity that it calls; 0 for nodes that call none
  pub callees_in : Block → List ℕ
  callees_in Done = []
  callees_in (Then s rest) = callees_of s ++ callees_in rest

  -- for each node in branches, in their order, the activity that it calls; 0 for nodes that call none
  pub callees_in_each : Bodies → List ℕ
  callees_in_each Last = []
  callees_in_each (BodyOf weak body rest) = callees_in body ++ callees_in_each rest

-- ---- numbers of nodes

-- the number of a node in C names: where it stands in the order of the blocks, which has the positions of nodes in the body
abbrev pub node_number : List ℕ → Block → Node → ℕ
node_number order body n = position_where (nat_eq (position_where (same_node n) (nodes_in body))) order
