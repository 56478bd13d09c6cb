use Rattle.std.proofs.Common.{◌≡◌, ap, ◌∙◌}
use Rattle.bl_block.specs.inner.Groups.{grouped}
use Rattle.bl_block.specs.inner.Ways.{follows, ways_of}
use Rattle.bl_tree.specs.Reduce.{joined}
use Rattle.bl_block.proofs.Merging.{activity_merges}
use Rattle.bl_block.proofs.machines.merged.Goals as goal

pub returns : goal.returns
returns c =
    let nodes : c.in_ok-nodes.nodes ≡ joined c.args.activity.now.blocks = c.in_ok-nodes.ensures ∙ ap joined c.deref.ensures in
    activity_merges c.nodes_differ.ensures c.statements_are_made_of_parts.ensures (λ body. c.graphs_stay_within.ensures body)
    c.args.activity.now c.args.graph.now (record { blocks = c.in_ok-blocks.blocks; slots = c.in_ok-slots.slots })
    (c.in_ok-blocks.ensures
    ∙ ap (λ ways. grouped (follows ways) c.deref-2.result.now) c.in_ok-ways.ensures
    ∙ ap (grouped (follows (ways_of c.args.graph.now.nodes c.args.graph.now.edges))) (c.deref-2.ensures ∙ nodes))
    (c.in_ok-slots.ensures ∙ c.deref-3.ensures)
