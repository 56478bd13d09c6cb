-- The numbers that are in C are those of the machine.
use Rattle.std.proofs.Common.{◌≡◌, ℕ, ◌+◌, List, [], ◌∷◌, length, nat_eq, Some, sym, ap, subst, ◌∙◌, arith}
use Rattle.std.specs.Prelude.{IsPermutation, option_and_then, option_map, slice_get, unwrap_or}
use Rattle.bl_tree.proofs.Basics.{same_some, within_at}
use Rattle.bl_tree.specs.declared.tree.StructDef.{StructDef}
use Rattle.bl_tree.specs.declared.tree.Unit.{Unit as UnitDef}
use Rattle.bl_tree.specs.Reduce.{joined}
use Rattle.bl_tree.specs.Typing.{is_activity}
use Rattle.bl_cause.specs.Activities.{activities as activities_among, graph_position}
use Rattle.bl_cause.proofs.PairLemmas.{each_at, filtered_at}
use Rattle.bl_graph_nodes.specs.Nodes.{Node, nodes_in}
use Rattle.bl_graph_nodes.specs.Plain.{plain_body}
use Rattle.bl_ctree.specs.declared.instance.Instance.{Instance}
use Rattle.bl_ctree.specs.Instances.{Setting, setting_of, unit_at, unit_of}
use Rattle.bl_ctree_laws_confluence.specs.Deeds.Orderly.{AcceptedIsOrderly}
use Rattle.bl_machine.specs.declared.machine.Activity.{Activity as InMachine}
use Rattle.bl_machine.specs.Blocks.{up_to}
use Rattle.bl_machine.specs.Machines.{IsActivityOf}
use Rattle.bl_machine_laws.specs.Traces.Positions.{GoBy}
use Rattle.bl_machine_pass.specs.Numbered.{position_where, slots_of}
use Rattle.bl_machine_pass_laws.specs.Keys.{NodesHaveKeys}
use Rattle.bl_machine_pass_laws_execution.specs.Machines.{MachinesGiveContexts}
use Rattle.bl_machine_pass_laws_execution.specs.Runs.{RunsGoByRules}
use Rattle.bl_machine_pass_laws_turns.specs.Turns.{TurnContext}
use Rattle.bl_machine_transitions.specs.Callees.{node_number}
use Rattle.bl_machine_transitions.specs.Listed.{layout_of}
use Rattle.bl_machine_transitions_laws.proofs.Standing.{nodes_stand}
use Rattle.bl_emit_spec.specs.Activities.{activity_view}
use Rattle.bl_emit_spec_laws.specs.Calls.Built.{Activities, MadeOf, rank_by, slots_by, unit_number}
use Rattle.bl_emit_spec_laws.specs.Calls.Laws.{CompilationContext}
use Rattle.bl_emit_spec_laws.specs.Cleared.{ClearingIsInside}
use Rattle.bl_emit_spec_laws.proofs.OnPlaced.Lists.{found_at, number_once, number_there}
use Rattle.bl_emit_spec_laws_files.specs.Entry.{EntryRuns}
use Rattle.bl_emit_spec_laws.proofs.OnPlaced.Placing.{agrees_at}

module _ (orderly : AcceptedIsOrderly) (clearing : ClearingIsInside) (keys : NodesHaveKeys) (machines : MachinesGiveContexts) (runs : RunsGoByRules)
    (structs : List StructDef) (units : List UnitDef) (entry : ℕ) (machine : List InMachine) (activities : Activities)
    (compiled : CompilationContext structs units entry machine activities)
  where
    abbrev W : Setting
    W = setting_of structs units entry

    unit_is : (i : ℕ) (instance : Instance) (unit : UnitDef) → slice_get W.instances i ≡ Some instance → slice_get units instance.unit ≡ Some unit →
        unit_at W i ≡ Some unit
    unit_is i instance unit there is = ap (option_and_then (unit_of W)) there ∙ is

    number_is : (i : ℕ) (instance : Instance) → slice_get W.instances i ≡ Some instance → unit_number W i ≡ instance.unit
    number_is i instance there = ap (λ found. unwrap_or (option_map (λ (it : Instance). it.unit) found) 0) there

    made : (i : ℕ) (instance : Instance) (unit : UnitDef) → slice_get W.instances i ≡ Some instance → slice_get units instance.unit ≡ Some unit →
        MadeOf unit (activities instance.unit) (slice_get machine (graph_position units instance.unit))
    made i instance unit there is =
        compiled.built.made instance.unit unit is
        ((orderly structs units entry compiled.well_typed compiled.passes).each i unit (unit_is i instance unit there is)).activity

    -- the number of a node stands where its position does in the order
    stands : (order : List ℕ) (one : InMachine) (unit : UnitDef) (n : Node) (k : ℕ) →
        IsPermutation (up_to (length (nodes_in (plain_body unit.body)))) order → slice_get (nodes_in (plain_body unit.body)) k ≡ Some n →
        slice_get order (node_number order (plain_body unit.body) n) ≡ Some k
    stands order one unit n k permutes at =
        let nodes = nodes_in (plain_body unit.body) in
        let below = within_at nodes k n at in
        let found = number_there (length nodes) order permutes k below in
        let number = agrees_at (node_number order (plain_body unit.body)) (layout_of order one.slots).number nodes 0 k n
        (nodes_stand keys unit.body order one.slots) at in
        let none : 0 + k ≡ k = omega arith in
        let is : node_number order (plain_body unit.body) n ≡ found.0 =
        number ∙ ap (λ q. position_where (nat_eq q) order) none
        ∙ found_at k order found.0 found.1 (λ j there. number_once (length nodes) order permutes k j found.0 there found.1) in
        ap (slice_get order) is ∙ found.1

    go_by : GoBy W machine (rank_by W activities)
    go_by i instance unit activity n k there is part at =
        let parts = made i instance unit there is in
        let same : parts.one ≡ activity = same_some parts.one activity (sym parts.is ∙ part) in
        let own = each_at IsActivityOf (activities_among units) machine (graph_position units instance.unit) unit compiled.agrees
        (filtered_at (λ it. is_activity it.kind) units instance.unit unit is
        ((orderly structs units entry compiled.well_typed compiled.passes).each i unit (unit_is i instance unit there is)).activity) in
        let own_is : own.0 ≡ activity = same_some own.0 activity (sym own.1 ∙ part) in
        let permutes : IsPermutation (up_to (length (nodes_in (plain_body unit.body)))) (joined activity.blocks) =
        subst (λ (one : InMachine). IsPermutation (up_to (length (nodes_in (plain_body unit.body)))) (joined one.blocks)) own_is own.2.order.all in
        let order : (activities instance.unit).order ≡ joined activity.blocks = parts.order ∙ ap (λ (one : InMachine). joined one.blocks) same in
        let rank : rank_by W activities i n ≡ node_number (joined activity.blocks) (plain_body unit.body) n =
        ap (λ (u : ℕ). (activity_view (activities u)).number n) (number_is i instance there)
        ∙ ap (λ (o : List ℕ). node_number o (plain_body (activities instance.unit).unit.body) n) order
        ∙ ap (λ (u : UnitDef). node_number (joined activity.blocks) (plain_body u.body) n) (compiled.built.unit instance.unit unit is) in
        ap (slice_get (joined activity.blocks)) rank ∙ stands (joined activity.blocks) activity unit n k permutes at

    given : (i : ℕ) (unit : UnitDef) → unit_at W i ≡ Some unit → TurnContext W (rank_by W activities) i (slots_by W activities i) unit
    given i unit is =
        let has = machines.has structs units entry machine i unit compiled.well_typed compiled.passes compiled.agrees is in
        let parts = made i has.instance unit has.there has.is_unit in
        let same : parts.one ≡ has.activity = same_some parts.one has.activity (sym parts.is ∙ has.is_activity) in
        let slots : slots_by W activities i ≡ slots_of (plain_body unit.body) has.activity.slots =
        ap (λ (u : ℕ). (activities u).slots) (number_is i has.instance has.there) ∙ parts.slots
        ∙ ap (λ (one : InMachine). slots_of (plain_body unit.body) one.slots) same in
        subst (λ slots. TurnContext W (rank_by W activities) i slots unit) (sym slots)
        (machines.given structs units entry machine (rank_by W activities) i has.instance unit has.activity compiled.well_typed compiled.passes
        compiled.agrees go_by has.there has.is_unit has.is_activity)

pub entry_runs : AcceptedIsOrderly → ClearingIsInside → NodesHaveKeys → MachinesGiveContexts → RunsGoByRules → EntryRuns
entry_runs orderly clearing keys machines runs structs units entry machine activities unit rows frames compiled is fit first =
    runs.runs structs units entry (rank_by W activities) (slots_by W activities) _ unit rows frames compiled.well_typed compiled.passes compiled.text
    (given orderly clearing keys machines runs structs units entry machine activities compiled) (clearing.inside structs units entry) is fit first
  where
    W : Setting
    W = setting_of structs units entry
