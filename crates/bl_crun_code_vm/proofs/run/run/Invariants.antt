-- The machine is on its way, and fewer steps are left.
use Rattle.bl_crun_code_vm.specs.inner.State.{IsReady, run_start, state_of}
use Rattle.bl_crun_code_vm.proofs.Running.{Going, left}
use Rattle.bl_crun_code_vm.proofs.run.run.Given as goal

abbrev pub invariant-loop-answer : goal.invariant-loop-answer
invariant-loop-answer g l = record {
  going : Going l.code g.steps (run_start l.entry l.base l.fn.cells l.fn.temps l.fn.waiting) (run_start l.entry l.base l.fn.cells l.fn.temps l.fn.waiting)
      (state_of l.registers l.cells l.temps l.waiting);
  ready : IsReady l.registers l.cells;
}

abbrev pub decreases-loop-answer : goal.decreases-loop-answer
decreases-loop-answer g l = left l.code g.steps (state_of l.registers l.cells l.temps l.waiting)
