use Rattle.bl_rules_walk.proofs.run.walk_bounded.Given as goal

abbrev pub ghost-walk : goal.ghost-walk
ghost-walk g a = g.most
