use Rattle.bl_machine_pass_laws_turns.proofs.OnTurns.{turns_keep}
use Rattle.bl_machine_pass_laws_turns.proofs.turns.turns_keep.Goals as goal

pub returns : goal.returns
returns c = turns_keep c.trees_stay_placed.ensures c.turns_change_numbers.ensures c.turns_leave_more.ensures
    c.turns_keep_flags.ensures c.turns_keep_resumes.ensures c.turns_keep_marks.ensures
