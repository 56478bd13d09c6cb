use Rattle.std.proofs.Common.{◌∙◌, ap, length, refl}
use Rattle.std.specs.Prelude.{replicate}
use Rattle.bl_block.specs.declared.ways.Way.TheVariants.{Nowhere}
use Rattle.bl_block.specs.inner.Ways.{noted_back, noted_on}
use Rattle.bl_block.proofs.WayLemmas.{control_joins, control_ways}
use Rattle.bl_block.proofs.ways.Ways.of.Goals as goal

pub onward-requires : goal.onward-requires
onward-requires c =
    control_joins c.args.graph.now.nodes c.deref.result.now c.kept.result.control.now c.args.graph.now.edges c.kept.result.accesses.now c.kept.ensures
    c.deref.ensures c.args.graph.now.joins_nodes

pub back-requires : goal.back-requires
back-requires c =
    control_joins c.args.graph.now.nodes c.deref-2.result.now c.kept.result.control.now c.args.graph.now.edges c.kept.result.accesses.now c.kept.ensures
    c.deref-2.ensures c.args.graph.now.joins_nodes

pub returns : goal.returns
returns c =
    let control = c.kept.result.control.now in
    control_ways c.args.graph.now.nodes control c.args.graph.now.edges c.kept.result.accesses.now c.kept.ensures c.in_ok-on.on c.in_ok-from.from
    (c.in_ok-on.ensures ∙ ap (λ nodes. noted_on nodes control (replicate (length nodes) Nowhere)) c.deref.ensures)
    (c.in_ok-from.ensures ∙ ap (λ nodes. noted_back control (replicate (length nodes) Nowhere)) c.deref-2.ensures)
    (record { on = c.in_ok-on.on; from = c.in_ok-from.from }) refl
