use Rattle.bl_crun.proofs.call.call.Given as goal

abbrev pub ghost-run : goal.ghost-run
ghost-run g a = g.steps
