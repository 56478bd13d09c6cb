use Rattle.bl_machine_pass_laws_turns.proofs.OnJoins.Marking.{turns_keep_marks}
use Rattle.bl_machine_pass_laws_turns.proofs.joins.turns_keep_marks.Goals as goal

pub returns : goal.returns
returns c = turns_keep_marks
