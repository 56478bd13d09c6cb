-- Runs of programs whose activities are peeled.
use Rattle.bl_ctree_laws_peeled.specs.Bodies.{PeeledIsNeverStuck, PeeledMeans}
use Rattle.bl_ctree_laws_peeled.specs.Runs.{UnrolledIsNeverStuck, UnrolledMeans}
use Rattle.bl_ctree_laws_peeled.proofs.Programs.{first_same, row_same, same_program}

pub peeled_means : UnrolledMeans → PeeledMeans
peeled_means means structs units peeled_units entry rows shows peels typed typed' shown =
    means structs units peeled_units entry rows shows
    (record {
      program = same_program structs units peeled_units peels entry;
      first = first_same structs units peeled_units peels entry;
      rows = row_same structs units peeled_units peels entry;
      source_typed = typed;
      typed = typed';
    }) shown

pub peeled_is_never_stuck : UnrolledIsNeverStuck → PeeledIsNeverStuck
peeled_is_never_stuck stuck structs units peeled_units entry peels typed typed' never =
    stuck structs units peeled_units entry
    (record {
      program = same_program structs units peeled_units peels entry;
      first = first_same structs units peeled_units peels entry;
      rows = row_same structs units peeled_units peels entry;
      source_typed = typed;
      typed = typed';
    }) never
