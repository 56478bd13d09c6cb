-- Which arguments are still to be put.
use Rattle.std.proofs.Common.{◌≡◌, ◌-◌, drop}
use Rattle.bl_ctext_semantics_laws.specs.Flat.{with_args}
use Rattle.bl_crun_code_vm.proofs.frame.put.Given as goal

abbrev pub invariant-loop-k : goal.invariant-loop-k
invariant-loop-k l = with_args l.k (drop (l.k - l.at) l.args) l.cells ≡ with_args l.at l.args l.fn.cells
