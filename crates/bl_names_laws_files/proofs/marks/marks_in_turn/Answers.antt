use Rattle.bl_names_laws_files.proofs.InTurn.{failures_in_turn, marks_in_turn as in_turn, passing_in_turn, scopes_in_turn}
use Rattle.bl_names_laws_files.proofs.marks.marks_in_turn.Goals as goal

pub returns-clause-marks : goal.returns-clause-marks
returns-clause-marks c = in_turn

pub returns-clause-scopes : goal.returns-clause-scopes
returns-clause-scopes c = scopes_in_turn

pub returns-clause-failures : goal.returns-clause-failures
returns-clause-failures c = failures_in_turn

pub returns-clause-passing : goal.returns-clause-passing
returns-clause-passing c = passing_in_turn
