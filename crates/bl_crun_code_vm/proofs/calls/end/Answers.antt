use Rattle.std.proofs.Common.{◌∙◌, ℤ, ap, rules, subst, sym}
use Rattle.std.proofs.lemmas.Int.{to_z-of_z}
use Rattle.std.specs.Int.{w128}
use Rattle.bl_ctext_semantics_laws.specs.Flat.{cell_at, cell_number}
use Rattle.bl_crun_code.specs.Vm.{VmState, caller_resumed, operand_in}
use Rattle.bl_crun_code_vm.specs.declared.flow.Flow.TheVariants as flow
use Rattle.bl_crun_code_vm.specs.inner.State.{state_of, written_cells, written_temps}
use Rattle.bl_crun_code_vm.specs.inner.Stepping.{Came}
use Rattle.bl_crun_code_vm.proofs.Steps.{came_back, came_over}
use Rattle.bl_crun_code_vm.proofs.calls.end.Goals as goal

pub returns-in-None : goal.returns-in-None
returns-in-None c =
    let s : VmState = state_of c.args.registers.now c.args.cells.now c.args.temps.now c.args.waiting.now in
    let m : VmState = state_of c.args.registers.now c.args.cells.now c.args.temps.now c.pop.new.self in
    record {
      did = subst (λ (x : ℤ). Came s (caller_resumed s (operand_in s c.args.a.now) c.args.waiting.now.callers) (flow.Done x) m)
          (sym (to_z-of_z w128 c.number-answer.result (search rules)))
          (subst (λ (n : ℤ). Came s (caller_resumed s n c.args.waiting.now.callers) (flow.Done c.number-answer.result) m) c.number-answer.ensures
          (came_over c.args.registers.now c.args.cells.now c.args.temps.now c.args.waiting.now c.pop.new.self c.number-answer.result c.in-None.ensures));
      ready = c.requires;
    }

pub returns-in-Some : goal.returns-in-Some
returns-in-Some c =
    let s : VmState = state_of c.args.registers.now c.args.cells.now c.args.temps.now c.args.waiting.now in
    record {
      did = subst (λ (n : ℤ). Came s (caller_resumed s n c.args.waiting.now.callers) flow.Goes
          (state_of c.write.new.registers c.write.new.cells c.write.new.temps c.pop.new.self)) c.number-answer.ensures
          (came_back c.args.registers.now c.go_back.new.registers c.write.new.registers c.args.cells.now c.write.new.cells c.args.temps.now c.write.new.temps
          c.args.waiting.now c.pop.new.self c.number-answer.result (cell_number (cell_at c.args.cells.now c.in-Some.caller.base)) c.in-Some.caller
          c.args.waiting.now.callers c.in-Some.ensures c.go_back.ensures.at c.write.ensures.stays
          (c.write.ensures.cells
          ∙ ap (λ (n : ℤ). written_cells c.go_back.new.registers.base c.args.cells.now c.args.temps.now c.in-Some.caller.into n)
          (to_z-of_z w128 c.number-answer.result (search rules)))
          (c.write.ensures.temps
          ∙ ap (λ (n : ℤ). written_temps c.args.temps.now c.in-Some.caller.into n) (to_z-of_z w128 c.number-answer.result (search rules))));
      ready = c.write.ensures.ready;
    }
