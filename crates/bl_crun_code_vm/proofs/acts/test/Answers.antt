use Rattle.std.proofs.Common.{Some, ℤ, ap, rules, ◌∙◌}
use Rattle.std.proofs.lemmas.Int.{to_z-of_z}
use Rattle.std.specs.Int.{w128}
use Rattle.std.specs.Prelude.{if◌then◌else◌}
use Rattle.bl_tree.specs.Numbers.{is_one}
use Rattle.bl_crun_code.specs.Vm.{operand_number}
use Rattle.bl_crun_code_vm.proofs.Steps.{came_passing, ready_passing}
use Rattle.bl_crun_code_vm.proofs.acts.test.Goals as goal

pub returns : goal.returns
returns c = record {
  did = came_passing c.args.registers.now c.pass_if.new.registers c.args.cells.now c.args.temps.now
      (Some (operand_number c.args.registers.now.base c.args.cells.now c.args.temps.now c.args.a.now)) (Some c.chosen-passed.result) c.args.yes c.args.no
      c.pass_if.result
      (ap Some (
      c.chosen-passed.ensures
      ∙ ap (λ (n : ℤ). if is_one n then c.args.yes else c.args.no) (to_z-of_z w128 c.number-n.result (search rules) ∙ c.number-n.ensures)
      ))
      c.pass_if.ensures;
  ready =
      ready_passing c.args.registers.now c.pass_if.new.registers c.args.cells.now (Some c.chosen-passed.result)
      c.pass_if.result c.requires.ready c.pass_if.ensures;
}
