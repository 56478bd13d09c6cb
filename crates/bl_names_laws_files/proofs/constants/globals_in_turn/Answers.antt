use Rattle.bl_names_laws_files.proofs.Positions.{globals_are_counted, globals_in_turn as in_turn, globals_move, globals_placed, renumber_in_turn}
use Rattle.bl_names_laws_files.proofs.constants.globals_in_turn.Goals as goal

pub returns-clause-positions : goal.returns-clause-positions
returns-clause-positions c = in_turn

pub returns-clause-renumbered : goal.returns-clause-renumbered
returns-clause-renumbered c = renumber_in_turn

pub returns-clause-moved : goal.returns-clause-moved
returns-clause-moved c = globals_move

pub returns-clause-placed : goal.returns-clause-placed
returns-clause-placed c = globals_placed

pub returns-clause-counted : goal.returns-clause-counted
returns-clause-counted c = globals_are_counted
