use Rattle.std.proofs.Common.{ap, refl, subst, sym}
use Rattle.bl_crun_code.specs.Laws.{Arrives}
use Rattle.bl_crun_code.specs.Vm.{VmState}
use Rattle.bl_crun_code_vm.specs.inner.Running.{CanRun}
use Rattle.bl_crun_code_vm.specs.inner.State.{Queue, run_start, rested}
use Rattle.bl_crun_code_vm.proofs.Running.{begun-is, ended-from}
use Rattle.bl_crun_code_vm.proofs.run.run_function.Goals as goal

pub run-requires : goal.run-requires
run-requires g c =
    subst (λ (s : VmState). CanRun c.args.code.now g.steps s)
    (sym (begun-is c.args.entry c.args.frame c.args.base c.args.args.now c.args.cells.now c.begin.new.cells c.args.temps.now c.args.waiting.now
    c.clear.new.self c.begin.ensures c.clear.ensures)) c.requires

pub returns : goal.returns
returns g c = λ end arrives over.
    ended-from (run_start c.args.entry c.args.base c.begin.new.cells c.args.temps.now c.clear.new.self)
    (rested 0 c.args.cells.now c.args.temps.now c.args.waiting.now) end c.run.result.answer
    (rested c.run.result.count c.run.new.cells c.run.new.temps c.run.new.waiting) refl (ap (λ (w : Queue). w.room) c.clear.ensures)
    (c.run.ensures end (subst (λ (s : VmState). Arrives c.args.code.now s end)
    (sym (begun-is c.args.entry c.args.frame c.args.base c.args.args.now c.args.cells.now c.begin.new.cells c.args.temps.now c.args.waiting.now
    c.clear.new.self c.begin.ensures c.clear.ensures)) arrives) over)
