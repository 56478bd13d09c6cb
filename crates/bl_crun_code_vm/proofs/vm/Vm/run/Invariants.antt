-- The steps of the run are those of the call.
use Rattle.bl_crun_code_vm.proofs.vm.Vm.run.Given as goal

abbrev pub ghost-run_function : goal.ghost-run_function
ghost-run_function g a = g.steps
