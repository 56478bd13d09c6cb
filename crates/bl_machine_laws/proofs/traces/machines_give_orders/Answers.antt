use Rattle.bl_machine_laws.proofs.OnTraces.Positions.{machines_give_orders}
use Rattle.bl_machine_laws.proofs.traces.machines_give_orders.Goals as goal

pub returns : goal.returns
returns c = machines_give_orders (λ body. c.graphs_stay_within.ensures body) c.graphs_give_orders.ensures c.accepted_programs_are_orderly.ensures
