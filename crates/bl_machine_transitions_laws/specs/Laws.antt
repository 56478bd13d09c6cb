-- The rules of a body by numbers are those of its nodes.
use Rattle.std.specs.Prelude.{◌≡◌, ℕ, List, [], ◌∷◌, length, map}
use Rattle.bl_tree.specs.declared.tree.Stmt.{Stmt}
use Rattle.bl_graph_nodes.specs.Nodes.{Node, entry}
use Rattle.bl_graph_nodes.specs.Plain.{Block, Done, Then, plain_body}
use Rattle.bl_machine.specs.declared.slots.Slot.{Slot}
use Rattle.bl_machine_pass.specs.Numbered.{slots_of}
use Rattle.bl_machine_pass.specs.Transitions.{rules}
use Rattle.bl_machine_transitions.specs.Callees.{callees_in, node_number}
use Rattle.bl_machine_transitions.specs.Listed.{layout_of, listed}
use Rattle.bl_machine_transitions.specs.Told.{NumberedTransition, all_told}

-- the node at which a block begins, where something stands in it
abbrev pub entries : Block → List Node
entries Done = []
entries (Then s rest) = entry s ∷ []

-- the number of the first rule, where there is one
abbrev pub first_number : List NumberedTransition → List ℕ
first_number [] = []
first_number (rule ∷ rest) = rule.number ∷ []

-- the numbered rules of a body are the rules of its nodes, whatever the order of blocks and the numbers of places are
pub record RulesAreListed : Type 0 where
  -- the rules of nodes, by numbers, are the list of numbered rules
  pub told : (body : List Stmt) (order : List ℕ) (list : List Slot) →
      all_told (node_number order (plain_body body)) (callees_in (plain_body body)) (rules (slots_of (plain_body body) list) (plain_body body))
      ≡ listed (layout_of order list) (plain_body body)
  -- the list of callees has the activity that each rule's node calls
  pub each : (body : List Stmt) (list : List Slot) →
      length (callees_in (plain_body body)) ≡ length (rules (slots_of (plain_body body) list) (plain_body body))
  -- the first rule is that of the entry
  pub begins : (body : List Stmt) (order : List ℕ) (list : List Slot) →
      map (node_number order (plain_body body)) (entries (plain_body body)) ≡ first_number (listed (layout_of order list) (plain_body body))
