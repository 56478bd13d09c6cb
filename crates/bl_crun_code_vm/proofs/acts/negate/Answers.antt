use Rattle.std.proofs.Common.{◌∙◌, ap, rules, subst, not, ℤ}
use Rattle.std.proofs.lemmas.Int.{to_z-of_z}
use Rattle.std.specs.Int.{w128}
use Rattle.bl_tree.specs.Numbers.{is_one, number_of}
use Rattle.bl_crun_code.specs.Vm.{VmState, ahead, goes, with_number}
use Rattle.bl_crun_code_vm.specs.inner.State.{Queue, state_of}
use Rattle.bl_crun_code_vm.specs.inner.Stepping.{Came}
use Rattle.bl_crun_code_vm.proofs.acts.negate.Goals as goal

pub returns-clause-did : goal.returns-clause-did
returns-clause-did c = λ (w : Queue).
    let s : VmState = state_of c.args.registers.now c.args.cells.now c.args.temps.now w in
    subst (λ (x : ℤ). Came s (goes (with_number (ahead s) c.args.into.now x)) c.give.result
    (state_of c.give.new.registers c.give.new.cells c.give.new.temps w))
    (to_z-of_z w128 c.negated.result (search rules) ∙ c.negated.ensures
    ∙ ap (λ (x : ℤ). number_of (not (is_one x))) (to_z-of_z w128 c.number-n.result (search rules) ∙ c.number-n.ensures))
    (c.give.ensures.did w)
