use Rattle.std.proofs.Common.{◌-◌, ◌∙◌, ℕ, ap}
use Rattle.bl_crun_code_vm.specs.inner.State.{RegisterState, state_of}
use Rattle.bl_crun_code_vm.proofs.Steps.{ready_moved}
use Rattle.bl_crun_code_vm.proofs.acts.again.Goals as goal

pub returns : goal.returns
returns c = record {
  did = λ cells temps w. ap (λ (x : RegisterState). state_of x cells temps w)
      (c.go_to.ensures ∙ ap (λ (k : ℕ). record c.args.registers.now { at = k }) (c.saturating_sub.ensures ∙ ap (λ (k : ℕ). k - c.args.n) c.at.ensures));
  ready = λ cells ready. ready_moved c.args.registers.now c.go_to.new.self c.saturating_sub.result cells c.go_to.ensures ready;
}
