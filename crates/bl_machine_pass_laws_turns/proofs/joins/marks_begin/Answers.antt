use Rattle.bl_machine_pass_laws_turns.proofs.OnJoins.Marking.{marks_begin}
use Rattle.bl_machine_pass_laws_turns.proofs.joins.marks_begin.Goals as goal

pub returns : goal.returns
returns c = marks_begin
