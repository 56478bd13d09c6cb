use Rattle.bl_names_laws_files.proofs.Opening.{blanks_are_counted, declared_in_turn, declared_placed, headings_open as opening}
use Rattle.bl_names_laws_files.proofs.headings.headings_open.Goals as goal

pub returns-clause-open : goal.returns-clause-open
returns-clause-open c = opening

pub returns-clause-in_turn : goal.returns-clause-in_turn
returns-clause-in_turn c = declared_in_turn

pub returns-clause-placed : goal.returns-clause-placed
returns-clause-placed c = declared_placed

pub returns-clause-blanks : goal.returns-clause-blanks
returns-clause-blanks c = blanks_are_counted
