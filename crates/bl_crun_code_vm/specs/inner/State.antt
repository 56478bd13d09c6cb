-- What a machine that runs consists of.
use Rattle.std.specs.Prelude.{◌≡◌, ℕ, ◌≤◌, ◌<◌, ◌^◌, ℤ, List, [], ◌∷◌, length, slice_set, Option, Some, None}
use Rattle.bl_ctext_semantics_laws.specs.Flat.{Cells, cell_at, cell_number}
use Rattle.bl_crun_code.specs.declared.instruction.Caller.{Caller}
use Rattle.bl_crun_code.specs.declared.instruction.Operand.{Operand}
use Rattle.bl_crun_code.specs.declared.instruction.Operand.TheVariants as op
use Rattle.bl_crun_code.specs.Vm.{StepResult, VmState, ahead, goes, near_cell, through_cell}

-- what the machine keeps of the running function: the position of the next instruction, the base of its frame, the cell that the
-- frame's first cell tells, and how many statements have begun
pub record RegisterState : Type 0 where
  pub at : ℕ
  pub base : ℕ
  pub first : ℕ
  pub count : ℕ

-- the functions that wait, the last first, and for how many there is room
pub record Queue : Type 0 where
  pub callers : List Caller
  pub room : ℕ

-- the state of a machine that consists of these parts
abbrev pub state_of : RegisterState → Cells → List ℤ → Queue → VmState
state_of r cells temps w =
    record { at = r.at; base = r.base; cells = cells; temps = temps; callers = w.callers; room = w.room; count = r.count }

-- the state in which a run begins, at a position and with a frame at a cell
abbrev pub run_start : ℕ → ℕ → Cells → List ℤ → Queue → VmState
run_start at base cells temps w = state_of (record { at = at; base = base; first = 0; count = 0 }) cells temps w

-- the state of a machine that doesn't run, with this count
abbrev pub rested : ℕ → Cells → List ℤ → Queue → VmState
rested count cells temps w = state_of (record { at = 0; base = 0; first = 0; count = count }) cells temps w

-- a position behind which code can go on
abbrev pub IsNear : RegisterState → Type 0
IsNear r = r.at < 2 ^ 63

-- a frame's first cell tells the cell that the machine keeps, and every cell has a number below the greatest
pub record IsReady (r : RegisterState) (cells : Cells) : Type 0 where
  pub few : length cells ≤ 4294967295
  pub first_is : r.first ≡ cell_number (cell_at cells r.base)

-- the cells after a number is written to an operand
abbrev pub written_cells : ℕ → Cells → List ℤ → Operand → ℤ → Cells
written_cells base cells temps (op.Near k) n = slice_set cells (near_cell base k) n
written_cells base cells temps (op.Through p k) n = slice_set cells (through_cell base cells p k) n
written_cells base cells temps (op.Indirect j) n = slice_set cells (cell_number (cell_at temps j)) n
written_cells base cells temps _ n = cells

-- the temporaries after a number is written to an operand
abbrev pub written_temps : List ℤ → Operand → ℤ → List ℤ
written_temps temps (op.Temporary j) n = slice_set temps j n
written_temps temps _ n = temps

-- a state with other cells and temporaries, in a frame at this base
abbrev pub state_over : VmState → ℕ → Cells → List ℤ → VmState
state_over s base cells temps = record s { base = base; cells = cells; temps = temps }

-- a step from these cells and temporaries goes on with the next instruction, with those cells and temporaries
abbrev pub MovesOn : (VmState → StepResult) → ℕ → Cells → List ℤ → Cells → List ℤ → Type 0
MovesOn step base cells temps after left = (s : VmState) → step (state_over s base cells temps) ≡ goes (state_over (ahead s) base after left)

-- the first of these functions has been taken out
abbrev pub PoppedAt : Queue → List Caller → Caller → Queue → Type 0
PoppedAt w [] it left = ⊥
PoppedAt w (caller ∷ rest) it left = (it ≡ caller) × (left ≡ record w { callers = rest })

-- the last function that waits has been taken out; without one, nothing has changed
abbrev pub Popped : Queue → Option Caller → Queue → Type 0
Popped w None left = (w.callers ≡ []) × (left ≡ w)
Popped w (Some it) left = PoppedAt w w.callers it left
