use Rattle.std.proofs.Common.{◌∙◌, ap, rules, subst, sym, Option, Some, ℤ}
use Rattle.std.proofs.lemmas.Int.{to_z-of_z}
use Rattle.std.specs.Int.{w128}
use Rattle.bl_crun_code.specs.Vm.{VmState, written_if}
use Rattle.bl_crun_code_vm.specs.inner.State.{Queue, state_of}
use Rattle.bl_crun_code_vm.specs.inner.Stepping.{Came}
use Rattle.bl_crun_code_vm.proofs.acts.give_if.Goals as goal

pub returns-in-Some-clause-did : goal.returns-in-Some-clause-did
returns-in-Some-clause-did c = λ (w : Queue).
    let s : VmState = state_of c.args.registers.now c.args.cells.now c.args.temps.now w in
    subst (λ (x : Option ℤ). Came s (written_if s c.args.into.now x) c.give.result (state_of c.give.new.registers c.give.new.cells c.give.new.temps w))
    (ap Some (to_z-of_z w128 c.in-Some.n (search rules)) ∙ sym c.in-Some.is) (c.give.ensures.did w)
