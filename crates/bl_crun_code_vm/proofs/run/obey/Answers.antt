use Rattle.std.proofs.Common.{◌+◌}
use Rattle.bl_crun_code_vm.specs.Steps.{shown_count}
use Rattle.bl_crun_code_vm.specs.inner.State.{state_of}
use Rattle.bl_crun_code_vm.proofs.Steps.{came_counted}
use Rattle.bl_crun_code_vm.proofs.run.obey.Goals as goal

pub returns : goal.returns
returns c = record {
  did = came_counted c.args.registers.now c.add_statements.new.self (shown_count (c.args.registers.now.count + c.args.instruction.now.statements))
      c.args.cells.now c.args.temps.now c.args.waiting.now c.args.instruction.now.act c.take.result
      (state_of c.take.new.registers c.take.new.cells c.take.new.temps c.take.new.waiting) c.add_statements.ensures c.take.ensures.did;
  ready = c.take.ensures.ready;
}
