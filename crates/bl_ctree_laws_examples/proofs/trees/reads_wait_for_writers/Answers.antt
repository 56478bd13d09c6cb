use Rattle.bl_ctree_laws_examples.proofs.OnTrees.Waiting.{o_waits, y_goes_on, y_waits}
use Rattle.bl_ctree_laws_examples.proofs.trees.reads_wait_for_writers.Goals as goal

pub returns-clause-y_waits : goal.returns-clause-y_waits
returns-clause-y_waits c = y_waits

pub returns-clause-y_goes_on : goal.returns-clause-y_goes_on
returns-clause-y_goes_on c = y_goes_on

pub returns-clause-o_waits : goal.returns-clause-o_waits
returns-clause-o_waits c = o_waits
