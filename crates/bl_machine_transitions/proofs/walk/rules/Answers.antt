use Rattle.std.proofs.Common.{◌++◌, ap, get_or, length, map, ◌∙◌}
use Rattle.bl_machine_transitions.specs.declared.transition.Change.TheVariants.{Finish}
use Rattle.bl_machine_transitions.specs.Told.{rule_in}
use Rattle.bl_machine_transitions.specs.inner.Parts.{part, part_of_block}
use Rattle.bl_machine_transitions.proofs.Whole.{table, whole}
use Rattle.bl_machine_transitions.proofs.walk.rules.Goals as goal

pub returns : goal.returns
returns c =
    c.in_ok-in_block.ensures
    ∙ ap (λ into. map rule_in into ++ (part_of_block (map part c.args.body.now)).rules
    (table c.as_slice-numbers.result.now c.in_ok-count.count c.args.slots.now) 0 0 Finish) c.new-into.ensures
    ∙ whole c.plain_statements.ensures c.args.body.now c.args.order.now c.as_slice-numbers.result.now c.in_ok-count.count c.args.slots.now
    c.in_ok-count.ensures
    (λ k. ap (λ ranks. get_or ranks k (length c.args.order.now)) c.as_slice-numbers.ensures.value ∙ c.in_ok-ranks.ensures k)
