use Rattle.bl_names_laws_files.proofs.Counting.{items_are_counted}
use Rattle.bl_names_laws_files.proofs.InTurn.{given_in_turn}
use Rattle.bl_names_laws_files.proofs.items.items_in_turn.Goals as goal

pub returns-clause-given : goal.returns-clause-given
returns-clause-given c = given_in_turn

pub returns-clause-counted : goal.returns-clause-counted
returns-clause-counted c = items_are_counted
