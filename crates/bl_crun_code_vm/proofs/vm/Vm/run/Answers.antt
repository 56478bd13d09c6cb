use Rattle.std.proofs.Common.{◌∙◌, ◌≤◌, ap, length, subst, sym}
use Rattle.bl_ctext_semantics_laws.specs.Flat.{Cells}
use Rattle.bl_crun_code.specs.Vm.{VmState}
use Rattle.bl_crun_code_vm.proofs.Running.{can_run}
use Rattle.bl_crun_code_vm.proofs.vm.Vm.run.Goals as goal

pub run_function-end-requires : goal.run_function-end-requires
run_function-end-requires g c =
    can_run c.args.code.now g.steps c.args.entry c.args.frame c.args.base c.args.args.now c.args.self.now.cells c.deref_mut.result.now
    c.args.self.now.temps c.deref_mut-2.result.now c.args.self.now.room c.self.inside.waiting.room
    (c.deref_mut.ensures.value ∙ ap (λ (m : VmState). m.cells) c.self.view_is)
    (c.deref_mut-2.ensures.value ∙ ap (λ (m : VmState). m.temps) c.self.view_is) (ap (λ (m : VmState). m.room) c.self.view_is)
    (subst (λ (x : Cells). length x ≤ 4294967295) (sym c.deref_mut.ensures.value) c.self.invariant) c.requires
