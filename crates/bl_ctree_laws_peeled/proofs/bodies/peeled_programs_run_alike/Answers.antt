use Rattle.bl_ctree_laws_peeled.proofs.Whole.{peeled_is_never_stuck, peeled_means}
use Rattle.bl_ctree_laws_peeled.proofs.bodies.peeled_programs_run_alike.Goals as goal

pub returns : goal.returns
returns c =
    let runs = c.unrolled_programs_run_alike.ensures in record { means = peeled_means runs.means; stuck = peeled_is_never_stuck runs.stuck }
