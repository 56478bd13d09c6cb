use Rattle.std.specs.Prelude.{[]}
use Rattle.bl_machine_pass_laws_turns.proofs.OnWaiting.Beginning.{bodies_begin}
use Rattle.bl_machine_pass_laws_turns.proofs.waiting.bodies_begin.Goals as goal

pub returns : goal.returns
returns c = bodies_begin c.counters_linger.ensures (λ body. c.graphs_stay_within.ensures body) (λ unit. c.nodes_differ.ensures.blocks unit.body [])
