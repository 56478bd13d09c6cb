use Rattle.std.specs.Prelude.{[], None}
use Rattle.bl_graph_nodes.specs.Plain.{plain_body}
use Rattle.bl_ctree_laws_traces.specs.Progress.Places.{whole}
use Rattle.bl_machine_laws.proofs.OnWaiting.Fresh.{fresh}
use Rattle.bl_machine_laws.proofs.waiting.turns_lead_on.Goals as goal

pub returns : goal.returns
returns c w rank i stood unit tree done n after y paces live t h =
    fresh rank paces c.steps_shrink.ensures.ends c.turns_are_walks.ensures c.turns_wait.ensures (whole stood (plain_body unit.body)) None y live
    (λ n m link. c.branches_part.ensures unit.body [] n m link) (λ may m out k is. absurd is) t h
