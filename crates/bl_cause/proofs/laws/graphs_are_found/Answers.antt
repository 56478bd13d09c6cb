use Rattle.bl_tree.specs.Typing.{is_activity}
use Rattle.bl_cause.specs.Activities.{IsGraphOf, IsOrderOf, activities, graph_position}
use Rattle.bl_cause.proofs.PairLemmas.{each_at, filtered_at}
use Rattle.bl_cause.proofs.laws.graphs_are_found.Goals as goal

pub returns-clause-graphs : goal.returns-clause-graphs
returns-clause-graphs c = λ units graphs are at unit is activity.
    let own = each_at IsGraphOf (activities units) graphs (graph_position units at) unit are
    (filtered_at (λ it. is_activity it.kind) units at unit is activity) in
    record { graph = own.0; stands = own.1; of_unit = own.2 }

pub returns-clause-orders : goal.returns-clause-orders
returns-clause-orders c = λ graphs orders are at graph is.
    let own = each_at IsOrderOf graphs orders at graph are is in record { order = own.0; stands = own.1; of_graph = own.2 }
