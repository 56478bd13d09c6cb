use Rattle.bl_machine_pass_laws_execution.proofs.OnPasses.Executing.{passes_execute}
use Rattle.bl_machine_pass_laws_execution.proofs.passes.passes_execute.Goals as goal

pub returns : goal.returns
returns c =
    passes_execute (λ body. c.graphs_stay_within.ensures body) c.turns_wait.ensures c.settled_is_quiet.ensures c.waits_in_part.ensures
    c.trees_stay_placed.ensures c.due_waits.ensures c.numbers_pass.ensures c.trees_stand.ensures c.turns_keep.ensures
    c.trees_ask.ensures c.counters_linger.ensures
