use Rattle.std.specs.Prelude.{[]}
use Rattle.bl_machine_pass_laws_turns.proofs.OnWaiting.Keeping.{turns_keep_resumes}
use Rattle.bl_machine_pass_laws_turns.proofs.waiting.turns_keep_resumes.Goals as goal

pub returns : goal.returns
returns c =
    turns_keep_resumes c.steps_shrink.ensures.ends c.turns_are_walks.ensures c.turns_wait.ensures c.waits_in_part.ensures
    (λ body. c.graphs_stay_within.ensures body) c.turns_lead_on.ensures (λ unit. c.nodes_differ.ensures.blocks unit.body [])
    c.sleepers_wait.ensures c.turns_only_wake.ensures
