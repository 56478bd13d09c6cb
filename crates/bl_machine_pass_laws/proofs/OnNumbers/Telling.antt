-- Counters follow the turns of a pass: the rule of the node is the one that acts.
use Rattle.std.proofs.Common.{◌≡◌, true, List, [], Some, Contains, map, option_map, slice_get}
use Rattle.std.proofs.Common.{unwrap_or, sym, ap, subst, ◌∙◌}
use Rattle.std.proofs.lemmas.Option.{slice_get-map}
use Rattle.bl_tree.specs.declared.tree.Unit.{Unit as UnitDef}
use Rattle.bl_graph_nodes.specs.Laws.{EachOnce, NodesDiffer}
use Rattle.bl_graph_nodes.specs.Nodes.{Node, nodes_in}
use Rattle.bl_graph_nodes.specs.Plain.{plain_body}
use Rattle.bl_ctree_laws.specs.Trees.{is_nil}
use Rattle.bl_ctree_laws_traces.specs.Progress.Places.{whole}
use Rattle.bl_machine.specs.Uses.{Slots, uses_in}
use Rattle.bl_machine_laws.specs.Numbers.Numbers.{Over}
use Rattle.bl_machine_laws.specs.Numbers.Turns as turns
use Rattle.bl_machine_pass.specs.Registers.{all_changed}
use Rattle.bl_machine_pass.specs.Transitions.{Finishes, Transition, rules}
use Rattle.bl_machine_pass_laws.specs.Turns.Holds.{MayHold}
use Rattle.bl_machine_pass_laws.specs.Turns.Laws.{TurnsChangeNumbers, answer_of}
use Rattle.bl_machine_pass_laws.proofs.OnNumbers.Acting.{Acts, changes_of, turn_acts}
use Rattle.bl_machine_pass_laws.proofs.OnNumbers.Bools.{if_itself}
use Rattle.bl_machine_pass_laws.proofs.OnNumbers.Changing.{finishes_go}
use Rattle.bl_machine_laws.proofs.OnWaiting.Fresh.{unended}
use Rattle.bl_machine_pass_laws.proofs.OnSlots.Finding.{member_at}

-- ---- rules of one node are one

rules_once : (all : List Transition) (nodes : List Node) → map (λ (rule : Transition). rule.node) all ≡ nodes → EachOnce nodes → (x y : Transition) →
    Contains all x →
    Contains all y → x.node ≡ y.node → x ≡ y
rules_once all nodes are once x y hx hy same =
    ap (λ found. unwrap_or found x)
    (sym (member_at all x hx) ∙ ap (λ k. slice_get all k) (once hx.0 hy.0 y.node (node_at x hx ∙ ap Some same) (node_at y hy)) ∙ member_at all y hy)
  where
    node_at : (z : Transition) (h : Contains all z) → slice_get nodes h.0 ≡ Some z.node
    node_at z h =
        ap (λ xs. slice_get xs h.0) (sym are) ∙ slice_get-map (λ (rule : Transition). rule.node) all h.0
        ∙ ap (λ found. option_map (λ (rule : Transition). rule.node) found) (member_at all z h)

-- ---- the law

pub turns_change_numbers : ((slots : Slots) (unit : UnitDef) →
    map (λ (rule : Transition). rule.node) (rules slots (plain_body unit.body)) ≡ nodes_in (plain_body unit.body)) → NodesDiffer → TurnsChangeNumbers
turns_change_numbers nodes differ w rank i slots unit stood c done n c' rule r turn turning counters over = (
  λ j. subst (λ (x : Transition). MayHold slots (rules slots (plain_body unit.body)) 0 c' Over j
      ((all_changed (rank i) (changes_of x (answer_of turn)) r).counters j)) is
      (acts.leads.numbers r j (counters j)),
  subst (λ (x : Transition). (all_changed (rank i) (changes_of x (answer_of turn)) r).over ≡ is_nil c') is
      (acts.leads.ends r (over ∙ unended turn) ∙ if_itself (is_nil c')),
)
  where
    acts : Acts slots (rules slots (plain_body unit.body)) 0 (rank i) (uses_in slots (plain_body unit.body)) c Over true n (answer_of turn) c'
    acts =
        turn_acts slots (rules slots (plain_body unit.body)) (rank i) (uses_in slots (plain_body unit.body)) 0 Finishes Over true
        (finishes_go (rules slots (plain_body unit.body)) 0 (rank i) (uses_in slots (plain_body unit.body))) (whole stood (plain_body unit.body)) turn
        turning.live
        turning.placed.sits turning.placed.lies turning.placed.uses

    is : acts.rule ≡ rule
    is =
        rules_once (rules slots (plain_body unit.body)) (nodes_in (plain_body unit.body)) (nodes slots unit) (differ.blocks unit.body [])
        acts.rule rule acts.there turning.there (acts.of_node ∙ sym turning.of_node)
