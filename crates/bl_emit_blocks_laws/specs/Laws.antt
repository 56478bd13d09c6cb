-- The turns of rules by numbers are those of the nodes that have these numbers.
use Rattle.std.specs.Prelude.{◌≡◌, ℕ, List, map}
use Rattle.bl_tree.specs.declared.tree.Stmt.{Stmt}
use Rattle.bl_graph_nodes.specs.Plain.{plain_body}
use Rattle.bl_machine.specs.declared.slots.Slot.{Slot}
use Rattle.bl_machine_pass.specs.Numbered.{slots_of}
use Rattle.bl_machine_pass.specs.Transitions as nodes
use Rattle.bl_machine_transitions.specs.Callees.{callees_in, node_number}
use Rattle.bl_machine_transitions.specs.Listed.{layout_of, listed}
use Rattle.bl_machine_transitions.specs.Told.{all_told, told_rule}
use Rattle.bl_emit_spec.specs.Blocks.{ActivityView, node_turn, turns_of}
use Rattle.bl_emit_blocks.specs.Numbered.{numbered_turn}

pub record BlocksAreNumbered : Type 0 where
  -- one turn, of a node that calls the activity
  pub one : (view : ActivityView) (unit : ℕ) (rule : nodes.Transition) → node_turn view unit rule ≡ numbered_turn view (told_rule view.number unit rule)
  -- the turns of nodes that have these rules, each with the activity that it calls
  pub all : (view : ActivityView) (units : List ℕ) (rules : List nodes.Transition) →
      turns_of view units rules ≡ map (numbered_turn view) (all_told view.number units rules)

-- the turns of a body are those of its list of numbered rules
abbrev pub BodiesAreNumbered : Type 0
BodiesAreNumbered =
    (view : ActivityView) (body : List Stmt) (order : List ℕ) (list : List Slot) → view.number ≡ node_number order (plain_body body) →
    turns_of view (callees_in (plain_body body)) (nodes.rules (slots_of (plain_body body) list) (plain_body body))
    ≡ map (numbered_turn view) (listed (layout_of order list) (plain_body body))
