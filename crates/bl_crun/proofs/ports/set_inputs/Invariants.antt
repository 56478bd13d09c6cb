use Rattle.std.specs.Prelude.{◌≡◌, ◌+◌, drop}
use Rattle.bl_ctext_semantics_laws.specs.Flat.{with_args}
use Rattle.bl_crun_code_vm.specs.Steps.{with_cells}
use Rattle.bl_crun.proofs.ports.set_inputs.Given as goal

abbrev pub invariant-loop-k : goal.invariant-loop-k
invariant-loop-k l =
    (l.machine ≡ with_cells l.initial.machine l.machine.cells)
    × (with_args (l.at + l.k) (drop l.k l.ins) l.machine.cells ≡ with_args l.at l.ins l.initial.machine.cells)
