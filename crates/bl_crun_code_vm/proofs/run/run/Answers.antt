use Rattle.std.proofs.Common.{◌∙◌, Some, None, ap, refl, rules, sym, subst}
use Rattle.std.proofs.lemmas.Int.{to_z-of_z}
use Rattle.std.specs.Int.{w128}
use Rattle.bl_crun_code.specs.Vm.{VmState}
use Rattle.bl_crun_code_vm.specs.declared.flow.Flow.TheVariants as flow
use Rattle.bl_crun_code_vm.specs.inner.State.{IsReady, RegisterState, run_start, state_of}
use Rattle.bl_crun_code_vm.proofs.Running.{begins, ended-rests, ends, goes-less, goes-on}
use Rattle.bl_crun_code_vm.proofs.run.run.Goals as goal

pub loop-answer-init : goal.loop-answer-init
loop-answer-init g c =
    let first : VmState = run_start c.args.entry c.args.base c.args.cells.now c.args.temps.now c.args.waiting.now in
    record {
      going = begins c.args.code.now g.steps first first
          (state_of c.new-registers.result c.args.cells.now c.args.temps.now c.args.waiting.now) c.requires.halts refl refl refl
          (ap (λ (r : RegisterState). state_of r c.args.cells.now c.args.temps.now c.args.waiting.now) c.new-registers.ensures);
      ready = subst (λ (r : RegisterState). IsReady r c.args.cells.now) (sym c.new-registers.ensures)
          (record { few = c.requires.few; first_is = c.first-first.ensures });
    }

pub loop-answer-smaller : goal.loop-answer-smaller
loop-answer-smaller g c =
    let first : VmState = run_start c.args.entry c.args.base c.args.cells.now c.args.temps.now c.args.waiting.now in
    goes-less c.args.code.now g.steps first first
    (state_of c.loop-answer.registers c.loop-answer.cells c.loop-answer.temps c.loop-answer.waiting)
    (state_of c.step.new.registers c.step.new.cells c.step.new.temps c.step.new.waiting)
    c.loop-answer.invariant.going c.in-Goes.ensures.did

pub loop-answer-preserved : goal.loop-answer-preserved
loop-answer-preserved g c =
    let first : VmState = run_start c.args.entry c.args.base c.args.cells.now c.args.temps.now c.args.waiting.now in
    record {
      going = goes-on c.args.code.now g.steps first first
          (state_of c.loop-answer.registers c.loop-answer.cells c.loop-answer.temps c.loop-answer.waiting)
          (state_of c.step.new.registers c.step.new.cells c.step.new.temps c.step.new.waiting)
          c.loop-answer.invariant.going c.in-Goes.ensures.did;
      ready = c.in-Goes.ensures.ready;
    }

pub returns-in-Done : goal.returns-in-Done
returns-in-Done g c = λ end arrives over.
    let first : VmState = run_start c.args.entry c.args.base c.args.cells.now c.args.temps.now c.args.waiting.now in
    ended-rests first end (Some c.in-Done.answer) c.ended.result.answer c.step.new.registers c.ended.result.count
    c.step.new.cells c.step.new.temps c.step.new.waiting
    (ends c.args.code.now g.steps first first
    (state_of c.loop-answer.registers c.loop-answer.cells c.loop-answer.temps c.loop-answer.waiting)
    (state_of c.step.new.registers c.step.new.cells c.step.new.temps c.step.new.waiting)
    (flow.Done c.in-Done.answer) (Some c.in-Done.answer) c.loop-answer.invariant.going refl c.in-Done.ensures.did end arrives over)
    (c.ended.ensures.answer ∙ ap Some (to_z-of_z w128 c.in-Done.answer (search rules))) c.ended.ensures.count

pub returns-in-Trapped : goal.returns-in-Trapped
returns-in-Trapped g c = λ end arrives over.
    let first : VmState = run_start c.args.entry c.args.base c.args.cells.now c.args.temps.now c.args.waiting.now in
    ended-rests first end None c.ended-in-Trapped.result.answer c.step.new.registers c.ended-in-Trapped.result.count
    c.step.new.cells c.step.new.temps c.step.new.waiting
    (ends c.args.code.now g.steps first first
    (state_of c.loop-answer.registers c.loop-answer.cells c.loop-answer.temps c.loop-answer.waiting)
    (state_of c.step.new.registers c.step.new.cells c.step.new.temps c.step.new.waiting)
    flow.Trapped None c.loop-answer.invariant.going refl c.in-Trapped.ensures.did end arrives over)
    c.ended-in-Trapped.ensures.answer c.ended-in-Trapped.ensures.count
