-- What a machine shows after a step.
use Rattle.std.specs.Prelude.{List, None, Option, Some, slice_get, ℕ, ◌+◌, ◌≡◌, ⊤}
use Rattle.bl_ctext_semantics_laws.specs.Flat.{Cells}
use Rattle.bl_crun_code.specs.declared.instruction.Act.{Act}
use Rattle.bl_crun_code.specs.declared.instruction.Act.TheVariants as act
use Rattle.bl_crun_code.specs.declared.instruction.Instruction.{Instruction}
use Rattle.bl_crun_code.specs.Vm.{StepResult, VmState, does, done, goes, stops, trapped}
use Rattle.bl_crun_code_vm.specs.declared.flow.Flow.{Flow}
use Rattle.bl_crun_code_vm.specs.declared.flow.Flow.TheVariants as flow
use Rattle.bl_crun_code_vm.specs.Steps.{shown_count}
use Rattle.bl_crun_code_vm.specs.inner.State.{RegisterState}

-- a machine has come to an end with these cells and this count, and with its temporaries and its room
pub record Rests (from : VmState) (cells : Cells) (count : ℕ) (m : VmState) : Type 0 where
  pub cells_are : m.cells ≡ cells
  pub count_is : m.count ≡ count
  pub temps_are : m.temps ≡ from.temps
  pub room_is : m.room ≡ from.room

-- a machine has come to this from a state
abbrev pub Came : VmState → StepResult → Flow → VmState → Type 0
Came from (goes to) flow.Goes m = m ≡ to
Came from (done cells count result) (flow.Done answer) m = Rests from cells count m × (answer ≡ result)
Came from (trapped cells count) flow.Trapped m = Rests from cells count m
Came from _ _ m = ⊥

-- a machine has done what an instruction does
abbrev pub ActDone : Act → VmState → Flow → VmState → Type 0
ActDone act from answer m = Came from (does from act) answer m

-- the step of an instruction, where the count is shown
abbrev pub shown_step : VmState → Option Instruction → StepResult
shown_step s None = stops s
shown_step s (Some i) = does (record s { count = shown_count (s.count + i.statements) }) i.act

-- a machine has taken a step
abbrev pub StepDone : List Instruction → VmState → Flow → VmState → Type 0
StepDone code from answer m = Came from (shown_step from (slice_get code from.at)) answer m

-- a machine passes so many instructions, or traps without a number
abbrev pub PassesIf : RegisterState → Option ℕ → Flow → RegisterState → Type 0
PassesIf r (Some n) flow.Goes after = after ≡ record r { at = r.at + 1 + n }
PassesIf r None flow.Trapped after = after ≡ r
PassesIf r _ _ after = ⊥

-- the instruction is one of those that are rare, and change many cells
abbrev pub IsRare : Act → Type 0
IsRare (act.Copy at from size) = ⊤
IsRare (act.Zero at size) = ⊤
IsRare _ = ⊥

-- the instruction computes a number and writes it
abbrev pub IsComputed : Act → Type 0
IsComputed (act.Element j at i length size) = ⊤
IsComputed (act.Negate into a) = ⊤
IsComputed (act.Two op into a b) = ⊤
IsComputed (act.One builtin into a) = ⊤
IsComputed (act.Both builtin into a b) = ⊤
IsComputed _ = ⊥

-- the instruction is one of those that change many cells, compare, count a turn, call, return or trap
abbrev pub IsOther : Act → Type 0
IsOther (act.Copy at from size) = ⊤
IsOther (act.Zero at size) = ⊤
IsOther (act.Compare op a b hold fail) = ⊤
IsOther (act.Turn j) = ⊤
IsOther (act.Call callee) = ⊤
IsOther (act.Return a) = ⊤
IsOther act.Stop = ⊤
IsOther _ = ⊥
