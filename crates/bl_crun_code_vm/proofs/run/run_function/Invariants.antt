-- The steps of the run are those of the call.
use Rattle.bl_crun_code_vm.proofs.run.run_function.Given as goal

abbrev pub ghost-run : goal.ghost-run
ghost-run g a = g.steps
