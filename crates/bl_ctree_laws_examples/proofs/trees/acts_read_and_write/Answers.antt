use Rattle.bl_ctree_laws_examples.proofs.OnTrees.Sets.{always_reads, o_reads, o_writes, x_reads, x_writes, y_reads, y_writes}
use Rattle.bl_ctree_laws_examples.proofs.trees.acts_read_and_write.Goals as goal

pub returns-clause-x_reads : goal.returns-clause-x_reads
returns-clause-x_reads c = x_reads

pub returns-clause-x_writes : goal.returns-clause-x_writes
returns-clause-x_writes c = x_writes

pub returns-clause-o_reads : goal.returns-clause-o_reads
returns-clause-o_reads c = o_reads

pub returns-clause-o_writes : goal.returns-clause-o_writes
returns-clause-o_writes c = o_writes

pub returns-clause-y_reads : goal.returns-clause-y_reads
returns-clause-y_reads c = y_reads

pub returns-clause-y_writes : goal.returns-clause-y_writes
returns-clause-y_writes c = y_writes

pub returns-clause-pauses : goal.returns-clause-pauses
returns-clause-pauses c = always_reads
