use Rattle.bl_emit_spec_laws_files.proofs.OnStates.Keeping.{states_are_kept}
use Rattle.bl_emit_spec_laws_files.proofs.states.states_are_kept.Goals as goal

pub returns : goal.returns
returns c =
    states_are_kept c.accepted_programs_are_orderly.ensures c.trees_stay_placed.ensures c.views_are_typed.ensures c.cells_are_kept.ensures
