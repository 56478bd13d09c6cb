use Rattle.bl_emit_blocks.proofs.tests.+in_tree.Given as goal

abbrev pub decreases-in_tree : goal.decreases-in_tree
decreases-in_tree l = l.turns
