use Rattle.bl_machine_laws.proofs.OnPasses.Ordering.{graphs_give_orders}
use Rattle.bl_machine_laws.proofs.passes.graphs_give_orders.Goals as goal

pub returns : goal.returns
returns c = graphs_give_orders (λ body. c.graphs_stay_within.ensures body) c.orders_give_ranks.ensures
