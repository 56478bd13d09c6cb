use Rattle.bl_ctree_laws_examples.proofs.OnTrees.Waiting.{left_pauses, o_third, right_pauses, x_alone, x_first, y_second}
use Rattle.bl_ctree_laws_examples.proofs.trees.branches_take_turns.Goals as goal

pub returns-clause-first : goal.returns-clause-first
returns-clause-first c = x_first

pub returns-clause-second : goal.returns-clause-second
returns-clause-second c = y_second

pub returns-clause-third : goal.returns-clause-third
returns-clause-third c = o_third

pub returns-clause-alone : goal.returns-clause-alone
returns-clause-alone c = x_alone

pub returns-clause-fourth : goal.returns-clause-fourth
returns-clause-fourth c = left_pauses

pub returns-clause-fifth : goal.returns-clause-fifth
returns-clause-fifth c = right_pauses
