use Rattle.std.proofs.Common.{ℤ, rules}
use Rattle.std.proofs.lemmas.Int.{to_z-of_z}
use Rattle.std.specs.Int.{w128}
use Rattle.bl_ctext_semantics_laws.specs.Flat.{compared}
use Rattle.bl_crun_code.specs.Vm.{operand_number}
use Rattle.bl_crun_code_vm.proofs.Steps.{came_passing, passed_as, ready_passing}
use Rattle.bl_crun_code_vm.proofs.acts.compare.Goals as goal

pub returns : goal.returns
returns c =
    let a : ℤ = operand_number c.args.registers.now.base c.args.cells.now c.args.temps.now c.args.a.now in
    let b : ℤ = operand_number c.args.registers.now.base c.args.cells.now c.args.temps.now c.args.b.now in
    record {
      did = came_passing c.args.registers.now c.pass_if.new.registers c.args.cells.now c.args.temps.now (compared c.args.op a b)
          c.passed-passed.result c.args.yes c.args.no c.pass_if.result
          (passed_as c.args.op c.passed-passed.result c.number-left.result c.number-right.result _ _ a b c.args.yes c.args.no
          (to_z-of_z w128 c.number-left.result (search rules)) (to_z-of_z w128 c.number-right.result (search rules))
          c.number-left.ensures c.number-right.ensures c.passed-passed.ensures)
          c.pass_if.ensures;
      ready =
          ready_passing c.args.registers.now c.pass_if.new.registers c.args.cells.now c.passed-passed.result
          c.pass_if.result c.requires.ready c.pass_if.ensures;
    }
