use Rattle.std.proofs.Common.{subst, sym, ◌∙◌}
use Rattle.std.proofs.lemmas.Option.{get_or_from_slice_get}
use Rattle.bl_cause.specs.Activities.{IsGraphOf, IsOrderOf}
use Rattle.bl_machine.proofs.activities.activity_at.Goals as goal

pub activity-requires : goal.activity-requires
activity-requires c =
    let found = c.requires.found in record {
      graph = subst (IsGraphOf c.args.unit.now)
          (sym (c.index-graphs-at.is ∙ get_or_from_slice_get c.args.graphs.now c.args.at found.graph _ found.has_graph)) found.of_unit;
      order = subst (λ order. IsOrderOf c.index-graphs-at.result order)
          (sym (c.index-orders-at.is ∙ get_or_from_slice_get c.args.orders.now c.args.at found.order _ found.has_order))
          (subst (λ graph. IsOrderOf graph found.order)
          (sym (c.index-graphs-at.is ∙ get_or_from_slice_get c.args.graphs.now c.args.at found.graph _ found.has_graph)) found.of_graph);
    }
