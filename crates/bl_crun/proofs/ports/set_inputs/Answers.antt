use Rattle.std.proofs.Common.{◌+◌, ap, ◌∙◌, rules}
use Rattle.std.specs.Prelude.{slice_set}
use Rattle.std.proofs.lemmas.Int.{to_z-of_z}
use Rattle.std.specs.Int.{w128}
use Rattle.bl_ctext_semantics_laws.specs.Flat.{with_args}
use Rattle.bl_crun_code_vm.specs.Steps.{with_cells}
use Rattle.bl_crun.proofs.Loops.{set-step}
use Rattle.bl_crun.proofs.ports.set_inputs.Goals as goal

pub loop-k-preserved : goal.loop-k-preserved
loop-k-preserved c =
    set-step c.args.machine.now c.loop-k.machine c.set.new.self c.args.at c.loop-k.k c.args.ins.now
    (with_args c.args.at c.args.ins.now c.args.machine.now.cells) c.at.result c.loop-k.invariant.0
    (c.set.ensures ∙ ap (λ x. with_cells c.loop-k.machine (slice_set c.loop-k.machine.cells (c.args.at + c.loop-k.k) x))
    (to_z-of_z w128 c.at.result (search rules))) c.at.ensures c.loop-k.invariant.1
