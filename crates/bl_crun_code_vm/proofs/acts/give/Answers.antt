use Rattle.std.proofs.Common.{◌≡◌, ◌∙◌, ap, rules, Some, ℤ, to_z, of_z}
use Rattle.std.proofs.lemmas.Int.{to_z-of_z}
use Rattle.std.specs.Int.{w128}
use Rattle.bl_crun_code.specs.Vm.{VmState, written_if}
use Rattle.bl_crun_code_vm.specs.inner.State.{written_cells, written_temps}
use Rattle.bl_crun_code_vm.proofs.Steps.{came_by, ready_moved, wrote_number}
use Rattle.bl_crun_code_vm.proofs.acts.give.Goals as goal

pub returns : goal.returns
returns c =
    let same : to_z w128 (of_z w128 c.args.n) ≡ c.args.n = to_z-of_z w128 c.args.n (search rules) in
    record {
      did = came_by (λ (s : VmState). written_if s c.args.into.now (Some c.args.n)) c.args.registers.now c.write.new.registers c.go_on.new.registers
          c.args.cells.now c.write.new.cells c.args.temps.now c.write.new.temps c.go_on.result
          (wrote_number c.args.registers.now.base c.args.cells.now c.write.new.cells c.args.temps.now c.write.new.temps c.args.into.now c.args.n
          (c.write.ensures.cells ∙ ap (λ (x : ℤ). written_cells c.args.registers.now.base c.args.cells.now c.args.temps.now c.args.into.now x) same)
          (c.write.ensures.temps ∙ ap (λ (x : ℤ). written_temps c.args.temps.now c.args.into.now x) same))
          c.write.ensures.stays c.go_on.ensures.flow c.go_on.ensures.moved;
      ready = ready_moved c.write.new.registers c.go_on.new.registers _ c.write.new.cells c.go_on.ensures.moved c.write.ensures.ready;
    }
