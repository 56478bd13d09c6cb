use Rattle.bl_walk.proofs.tick.tick.Given as goal

abbrev pub ghost-react : goal.ghost-react
ghost-react g a = g.most
