use Rattle.bl_ctree_laws_traces.proofs.OnReady.Never.{typed_calls_stand}
use Rattle.bl_ctree_laws_traces.proofs.ready.typed_calls_stand.Goals as goal

pub returns : goal.returns
returns c = typed_calls_stand c.reached_trees_are_residual.ensures.inside c.statements_are_plain.ensures c.typed_runs_have_outputs.ensures
    c.residual_calls_match.ensures
