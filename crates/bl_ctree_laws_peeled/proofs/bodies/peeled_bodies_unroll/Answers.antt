use Rattle.bl_ctree_laws_peeled.proofs.Peeling.{peeled_unrolls}
use Rattle.bl_ctree_laws_peeled.proofs.Programs.{peeled_unit_runs}
use Rattle.bl_ctree_laws_peeled.proofs.bodies.peeled_bodies_unroll.Goals as goal

pub returns : goal.returns
returns c = record { unrolls = peeled_unrolls; runs = peeled_unit_runs }
