use Rattle.std.proofs.Common.{◌∙◌, ap, rules, subst, sym, ℤ}
use Rattle.std.proofs.lemmas.Int.{to_z-of_z}
use Rattle.std.specs.Int.{w128}
use Rattle.bl_crun_code.specs.declared.instruction.Act.{Act}
use Rattle.bl_crun_code.specs.declared.instruction.Act.TheVariants as act
use Rattle.bl_crun_code.specs.Vm.{VmState}
use Rattle.bl_crun_code_vm.specs.inner.State.{state_of}
use Rattle.bl_crun_code_vm.specs.inner.Stepping.{ActDone}
use Rattle.bl_crun_code_vm.proofs.run.take.Goals as goal

pub returns-in-Constant-clause-did : goal.returns-in-Constant-clause-did
returns-in-Constant-clause-did c =
    let s : VmState = state_of c.args.registers.now c.args.cells.now c.args.temps.now c.args.waiting.now in
    subst (λ (x : Act). ActDone x s c.write_constant.result
    (state_of c.write_constant.new.registers c.write_constant.new.cells c.write_constant.new.temps c.args.waiting.now))
    (ap (λ (x : ℤ). act.Constant c.in-Constant.into x) (to_z-of_z w128 c.in-Constant.n (search rules)) ∙ sym c.in-Constant.is)
    (c.write_constant.ensures.did c.args.waiting.now)
