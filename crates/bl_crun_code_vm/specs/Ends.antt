-- What a machine shows after a run.
use Rattle.std.specs.Prelude.{◌≡◌, ℕ, ℤ, length, Option, Some, None}
use Rattle.bl_crun_code.specs.Code.{Code}
use Rattle.bl_crun_code.specs.Vm.{StepResult, RunsTo, VmState, done, goes, trapped}
use Rattle.bl_crun_code_vm.specs.Steps.{Over}

-- the first function has returned, or has trapped
abbrev pub IsEnd : StepResult → Type 0
IsEnd (goes s) = ⊥
IsEnd (done cells count result) = Unit {0}
IsEnd (trapped cells count) = Unit {0}

-- the machine comes from a state to its end in so many steps
pub record Halts (code : Code) (steps : ℕ) (s : VmState) : Type 0 where
  pub end : StepResult
  pub over : IsEnd end
  pub runs : RunsTo code steps s end

-- a machine has run up to this end, with this answer, none where it trapped
abbrev pub Ended : VmState → StepResult → Option ℤ → VmState → Type 0
Ended from (done cells count result) (Some answer) m = Over cells count (length from.temps) from.room m × (answer ≡ result)
Ended from (trapped cells count) None m = Over cells count (length from.temps) from.room m
Ended from _ _ m = ⊥
