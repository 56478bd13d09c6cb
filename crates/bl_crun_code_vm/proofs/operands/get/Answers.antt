use Rattle.std.proofs.Common.{◌+◌, ◌∙◌, rules, sym}
use Rattle.std.proofs.lemmas.Int.{to_z-of_z}
use Rattle.std.specs.Int.{w128}
use Rattle.bl_crun_code_vm.proofs.Steps.{cell_uncapped}
use Rattle.bl_crun_code_vm.proofs.operands.get.Goals as goal

pub returns : goal.returns
returns c =
    to_z-of_z w128 c.get.result (search rules) ∙ c.get.ensures ∙ sym (cell_uncapped c.args.cells.now (c.args.cell + c.args.k) c.requires.few)
