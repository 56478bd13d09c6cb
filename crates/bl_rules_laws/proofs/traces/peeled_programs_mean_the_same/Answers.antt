use Rattle.bl_rules_laws.proofs.OnTraces.OneTrace.{peeled_mean}
use Rattle.bl_rules_laws.proofs.traces.peeled_programs_mean_the_same.Goals as goal

pub returns : goal.returns
returns c =
    peeled_mean c.accepted_trees_keep.ensures (record {
      orderly = c.accepted_programs_are_orderly.ensures;
      meanings = c.bounded_programs_have_meanings.ensures.meanings;
      numbered = c.ordered_programs_are_numbered.ensures;
      ordered = c.ordered_programs_have_one_trace.ensures;
      bounded = c.peeled_programs_are_bounded.ensures;
      means = c.peeled_programs_run_alike.ensures.means;
      stuck = c.peeled_programs_run_alike.ensures.stuck;
    })
