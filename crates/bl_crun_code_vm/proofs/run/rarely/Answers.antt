use Rattle.std.proofs.Common.{◌≡◌, ◌∙◌, ap, subst, sym, ℕ}
use Rattle.bl_crun_code.specs.Vm.{VmState, does}
use Rattle.bl_crun_code_vm.specs.inner.State.{RegisterState, MovesOn}
use Rattle.bl_ctext_semantics_laws.specs.Flat.{cell_at, cell_number}
use Rattle.bl_crun_code_vm.proofs.Steps.{came_by, ready_at, ready_moved}
use Rattle.bl_crun_code_vm.proofs.run.rarely.Goals as goal

pub write_rare-requires-clause-ready : goal.write_rare-requires-clause-ready
write_rare-requires-clause-ready c =
    ready_at c.args.registers.now c.base-base.result c.first.result c.args.cells.now c.base-base.ensures c.first.ensures c.requires.ready

pub returns : goal.returns
returns c =
    let e : c.lead_to.new.self ≡ record c.args.registers.now { first = c.lead_to.new.self.first } =
    c.lead_to.ensures ∙ ap (λ (k : ℕ). record c.args.registers.now { first = k }) (sym (ap (λ (x : RegisterState). x.first) c.lead_to.ensures)) in
    record {
      did = came_by (λ (s : VmState). does s c.args.act.now) c.args.registers.now c.lead_to.new.self c.go_on.new.registers
          c.args.cells.now c.write_rare.new.cells c.args.temps.now c.args.temps.now c.go_on.result
          (subst (λ (base : ℕ). MovesOn (λ (s : VmState). does s c.args.act.now) base c.args.cells.now c.args.temps.now
          c.write_rare.new.cells c.args.temps.now) c.base-base.ensures c.write_rare.ensures.wrote)
          e c.go_on.ensures.flow c.go_on.ensures.moved;
      ready = ready_moved c.lead_to.new.self c.go_on.new.registers _ c.write_rare.new.cells c.go_on.ensures.moved
          (record {
            few = c.write_rare.ensures.few;
            first_is =
                ap (λ (x : RegisterState). x.first) c.lead_to.ensures ∙ c.first-first.ensures
                ∙ ap (λ (k : ℕ). cell_number (cell_at c.write_rare.new.cells k))
                (c.base-base.ensures ∙ sym (ap (λ (x : RegisterState). x.base) c.lead_to.ensures));
          });
    }
