-- What is still to be set to 0.
use Rattle.std.proofs.Common.{◌≡◌, ◌+◌, ◌-◌}
use Rattle.bl_ctext_semantics_laws.specs.Flat.{zeroed}
use Rattle.bl_crun_code_vm.proofs.frame.zero.Given as goal

abbrev pub invariant-loop-k : goal.invariant-loop-k
invariant-loop-k l = zeroed (l.at + l.size - l.k) l.k l.cells ≡ zeroed l.size l.at l.fn.cells
