-- When a machine can run.
use Rattle.std.specs.Prelude.{ℕ, ◌≤◌, length}
use Rattle.bl_crun_code.specs.Code.{Code}
use Rattle.bl_crun_code.specs.Vm.{VmState}
use Rattle.bl_crun_code_vm.specs.Ends.{Halts}

-- the machine comes to its end in so many steps, and every cell has a number below the greatest
pub record CanRun (code : Code) (steps : ℕ) (s : VmState) : Type 0 where
  pub halts : Halts code steps s
  pub few : length s.cells ≤ 4294967295
