use Rattle.std.proofs.Common.{ap}
use Rattle.bl_crun_code_vm.specs.inner.State.{RegisterState}
use Rattle.bl_crun_code_vm.proofs.Steps.{steps_as}
use Rattle.bl_crun_code_vm.proofs.rare.write_rare.Goals as goal

pub returns-in-Copy-clause-wrote : goal.returns-in-Copy-clause-wrote
returns-in-Copy-clause-wrote c =
    steps_as c.args.act.now _ c.args.base c.new-registers.result.base c.args.cells.now c.copy.new.cells c.args.temps.now c.args.temps.now c.in-Copy.is
    (ap (λ (r : RegisterState). r.base) c.new-registers.ensures) c.copy.ensures.wrote

pub returns-in-Zero-clause-wrote : goal.returns-in-Zero-clause-wrote
returns-in-Zero-clause-wrote c =
    steps_as c.args.act.now _ c.args.base c.new-registers.result.base c.args.cells.now c.zero.new.cells c.args.temps.now c.args.temps.now c.in-Zero.is
    (ap (λ (r : RegisterState). r.base) c.new-registers.ensures) c.zero.ensures.wrote
