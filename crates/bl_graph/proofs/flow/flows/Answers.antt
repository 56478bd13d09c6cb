use Rattle.std.proofs.Common.{◌∙◌, length}
use Rattle.bl_graph.proofs.Adding.{ends_in_order, ends_turned, flows_added}
use Rattle.bl_graph.proofs.flow.flows.Goals as goal

pub sweep-requires : goal.sweep-requires
sweep-requires c = ends_in_order c.args.branches.now (length c.args.nodes.now) c.requires

pub sweep-requires-2 : goal.sweep-requires-2
sweep-requires-2 c =
    ends_turned c.args.branches.now c.deref.result.now (length c.args.nodes.now) (c.deref.ensures ∙ c.in_ok-back.ensures)
    (ends_in_order c.args.branches.now (length c.args.nodes.now) c.requires)

pub sweep-requires-3 : goal.sweep-requires-3
sweep-requires-3 c = ends_in_order c.args.branches.now (length c.args.nodes.now) c.requires

pub sweep-requires-4 : goal.sweep-requires-4
sweep-requires-4 c =
    ends_turned c.args.branches.now c.deref-2.result.now (length c.args.nodes.now) (c.deref-2.ensures ∙ c.in_ok-back.ensures)
    (ends_in_order c.args.branches.now (length c.args.nodes.now) c.requires)

pub returns : goal.returns
returns c =
    flows_added c.args.nodes.now c.args.branches.now c.new-accesses.result c.sweep.new.accesses c.sweep-2.new.accesses c.sweep-3.new.accesses
    c.sweep-4.new.accesses c.deref.result.now c.deref-2.result.now (c.deref.ensures ∙ c.in_ok-back.ensures) (c.deref-2.ensures ∙ c.in_ok-back.ensures)
    c.new-accesses.ensures c.in_ok-sweep.ensures c.in_ok-sweep-2.ensures c.in_ok-sweep-3.ensures c.in_ok-sweep-4.ensures
