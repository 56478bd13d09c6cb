-- No two nodes of a body have one number, and `run`s with different numbers have different names.
use Rattle.std.proofs.Common.{◌≡◌, ℕ, ◌+◌, ◌<◌, ◌^◌, false}
use Rattle.std.proofs.Common.{List, [], ◌∷◌, Contains}
use Rattle.std.proofs.Common.{Some, nat_eq, length, sym, ap, ◌∙◌, arith}
use Rattle.std.specs.Prelude.{IsPermutation, bytes_eq, slice_get}
use Rattle.bl_tree.proofs.Basics.{contains_at, get_of_map, index_of, same_some, within_at}
use Rattle.bl_tree.specs.declared.tree.Stmt.{Stmt}
use Rattle.bl_graph_nodes.specs.Nodes.{Node, nodes_in}
use Rattle.bl_graph_nodes.specs.Plain.{Block, plain_body}
use Rattle.bl_emit_spec.specs.Names.{NumberedWord, callee_name}
use Rattle.bl_machine.specs.Blocks.{up_to}
use Rattle.bl_machine.specs.Uses.{Slots}
use Rattle.bl_machine_pass.specs.Numbered.{position_where}
use Rattle.bl_machine_pass.specs.Transitions.{Transition, rules}
use Rattle.bl_machine_pass_laws.specs.Turns.Laws.{StaysPlaced}
use Rattle.bl_machine_pass_laws.specs.Keys.{NodesHaveKeys}
use Rattle.bl_machine_transitions.specs.Callees.{node_number}
use Rattle.bl_machine_transitions.specs.Listed.{layout_of}
use Rattle.bl_machine_transitions_laws.proofs.Standing.{nodes_stand}
use Rattle.bl_emit_spec_laws.proofs.OnPlaced.Lists.{found_at, number_once, number_there}
use Rattle.bl_emit_acts_laws_simulation.proofs.NumberedNames.{words_differ}
use Rattle.bl_emit_spec_laws.proofs.OnPlaced.Placing.{agrees_at}

-- ---- numbers

module _ (keys : NodesHaveKeys) (body : List Stmt) (order : List ℕ)
    (permutes : IsPermutation (up_to (length (nodes_in (plain_body body)))) order) where
  abbrev nodes : List Node
  nodes = nodes_in (plain_body body)

  -- the number of the node at a position is where that position stands in the order
  number_at : (i : ℕ) (x : Node) → slice_get nodes i ≡ Some x →
      (k : ℕ) × (slice_get order k ≡ Some i) × (node_number order (plain_body body) x ≡ k)
  number_at i x at =
      let k = number_there (length nodes) order permutes i (within_at nodes i x at) in
      let none : 0 + i ≡ i = omega arith in (
        k.0,
        k.1,
        agrees_at (node_number order (plain_body body)) (layout_of order []).number nodes 0 i x (nodes_stand keys body order []) at
            ∙ ap (λ q. position_where (nat_eq q) order) none
            ∙ found_at i order k.0 k.1 (λ j there. number_once (length nodes) order permutes i j k.0 there k.1),
      )

  -- nodes with one number are one
  pub one_number : (x y : Node) → Contains nodes x → Contains nodes y →
      node_number order (plain_body body) x ≡ node_number order (plain_body body) y → x ≡ y
  one_number x y first second same =
      let a = index_of nodes x first in
      let b = index_of nodes y second in
      let m = number_at a.0 x a.1 in
      let l = number_at b.0 y b.1 in
      let numbers : m.0 ≡ l.0 = sym m.2 ∙ (same ∙ l.2) in
      let positions : a.0 ≡ b.0 = same_some a.0 b.0 (sym m.1 ∙ (ap (slice_get order) numbers ∙ l.1)) in
      same_some x y (sym a.1 ∙ (ap (slice_get nodes) positions ∙ b.1))

-- ---- rules of nodes

-- a rule of a node
pub record RuleOf (slots : Slots) (body : Block) (n : Node) : Type 0 where
  pub rule : Transition
  pub position : ℕ
  pub at : slice_get (rules slots body) position ≡ Some rule
  pub there : Contains (rules slots body) rule
  pub of_node : rule.node ≡ n

pub rule_of : StaysPlaced → (slots : Slots) (body : Block) (n : Node) → Contains (nodes_in body) n → RuleOf slots body n
rule_of placed slots body n there =
    let at = index_of (nodes_in body) n there in
    let found = get_of_map (λ (rule : Transition). rule.node) (rules slots body) at.0 n (ap (λ ns. slice_get ns at.0) (placed.nodes slots body) ∙ at.1) in
    record {
      rule = found.0;
      position = at.0;
      at = found.1;
      there = contains_at (rules slots body) at.0 found.0 found.1;
      of_node = found.2;
    }

-- ---- names

-- the members of `run`s with different numbers have different names
pub callees_differ : (j k : NumberedWord) → j.number < 2 ^ 64 → k.number < 2 ^ 64 → (j.number ≡ k.number → ⊥) →
    bytes_eq (callee_name j) (callee_name k) ≡ false
callees_differ j k less most differ = words_differ 120 j.number k.number j.word k.word less most differ
