-- Each `run` calls the unit that its node names.
use Rattle.std.proofs.Common.{◌≡◌, false, ℕ, List, [], Some, length, sym, ap, ◌∙◌, arith}
use Rattle.std.specs.Prelude.{slice_get}
use Rattle.bl_tree.proofs.Basics.{index_of, map_length, some_within, within_at}
use Rattle.bl_graph_nodes.specs.Nodes.{EnterAt, Node, nodes_in}
use Rattle.bl_graph_nodes.specs.Plain.{plain_body}
use Rattle.bl_ctree.specs.Instances.{setting_of}
use Rattle.bl_ctree_laws_confluence.specs.Deeds.Orderly.{AcceptedIsOrderly}
use Rattle.bl_ctree_laws_confluence.specs.Deeds.Origins.{InstancesHaveCallers}
use Rattle.bl_machine_pass.specs.Numbered.{slots_of}
use Rattle.bl_machine_pass.specs.Transitions.{Transition, rules}
use Rattle.bl_machine_pass_laws.specs.Turns.Laws.{StaysPlaced}
use Rattle.bl_machine_transitions.specs.Callees.{callees_in}
use Rattle.bl_machine_transitions_laws.specs.Laws.{RulesAreListed}
use Rattle.bl_emit_spec_laws_simulation.proofs.OnRuns.Running.{CallsUnit, node_calls}
use Rattle.bl_emit_laws.specs.Kept.{RunsAreFound}

pub runs_are_found : AcceptedIsOrderly → InstancesHaveCallers → StaysPlaced → RulesAreListed → RunsAreFound
runs_are_found orderly callers placed listed structs units entry machine activities compiled i j unit l at arguments is there begins = record {
  other = calls.other;
  is_there = calls.run.is_there;
  earlier = calls.run.earlier;
  called = record { position = node.0; node = node.1; unit = callee.1 ∙ ap Some (sym calls.number) };
}
  where
    node : (k : ℕ) × (slice_get (nodes_in (plain_body unit.body)) k ≡ Some (EnterAt l at arguments))
    node = index_of (nodes_in (plain_body unit.body)) (EnterAt l at arguments) there

    many : length (callees_in (plain_body unit.body)) ≡ length (nodes_in (plain_body unit.body))
    many =
        listed.each unit.body []
        ∙ (sym (map_length (λ (rule : Transition). rule.node) (rules (slots_of (plain_body unit.body) []) (plain_body unit.body)))
        ∙ ap (λ (nodes : List Node). length nodes) (placed.nodes (slots_of (plain_body unit.body) []) (plain_body unit.body)))

    callee : (u : ℕ) × (slice_get (callees_in (plain_body unit.body)) node.0 ≡ Some u)
    callee =
        let below = within_at (nodes_in (plain_body unit.body)) node.0 (EnterAt l at arguments) node.1 in
        let same = many in some_within (callees_in (plain_body unit.body)) node.0 (omega (arith, below, same))

    calls : CallsUnit (setting_of structs units entry) activities i unit (record { label = l; place = at; unit = callee.0; arguments = arguments }) j
    calls =
        node_calls orderly callers structs units entry machine activities compiled i unit is false
        (record { label = l; place = at; unit = callee.0; arguments = arguments }) node.0 j node.1 callee.1 begins
