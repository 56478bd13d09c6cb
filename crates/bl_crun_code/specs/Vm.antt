-- The machine that runs the code of C texts.
use Rattle.std.specs.Prelude.{◌≡◌, ℕ, suc, ◌+◌, ◌-◌, ◌*◌, ℤ, pos, ◌+ℤ◌, not, int_lt, nat_lt, List, [], ◌∷◌, length, take, drop, slice_get}
use Rattle.std.specs.Prelude.{slice_set, Option, Some, None, option_map, if◌then◌else◌}
use Rattle.bl_tree.specs.Numbers.{is_one, number_of}
use Rattle.bl_ctext_semantics.specs.Builtin.{index_within}
use Rattle.bl_ctext_semantics_laws.specs.Flat.{Cells, cell_at, cell_number, compared, copied, frame_begun, prelude_value, zeroed}
use Rattle.bl_ctext_semantics_laws.specs.Layout.{capped}
use Rattle.bl_crun_code.specs.declared.instruction.Callee.{Callee}
use Rattle.bl_crun_code.specs.declared.instruction.Caller.{Caller}
use Rattle.bl_crun_code.specs.declared.instruction.Operand.{Operand}
use Rattle.bl_crun_code.specs.declared.instruction.Operand.TheVariants as op
use Rattle.bl_crun_code.specs.declared.instruction.Act.{Act}
use Rattle.bl_crun_code.specs.declared.instruction.Act.TheVariants as act
use Rattle.bl_crun_code.specs.declared.instruction.Instruction.{Instruction}

-- the state of the machine, with the next instruction's position and the base of the running function's frame. Functions that wait stand last first, and there is
-- room for `room` of them; `count` is how many statements have begun
pub record VmState : Type 0 where
  pub at : ℕ
  pub base : ℕ
  pub cells : Cells
  pub temps : List ℤ
  pub callers : List Caller
  pub room : ℕ
  pub count : ℕ

-- the result of a step
pub data StepResult : Type 0 where
  goes : VmState → StepResult
  -- the first function has returned a number
  done : Cells → ℕ → ℤ → StepResult
  trapped : Cells → ℕ → StepResult

-- ---- operands

-- the number of the cell so far behind a base
abbrev pub near_cell : ℕ → ℕ → ℕ
near_cell base k = capped (base + k)

-- the number of the cell so many cells behind the one whose number stands so far behind a base
abbrev pub through_cell : ℕ → Cells → ℕ → ℕ → ℕ
through_cell base cells p k = capped (cell_number (cell_at cells (base + p)) + k)

-- the number of an operand, by the base of the frame, the cells, and the temporaries
abbrev pub operand_number : ℕ → Cells → List ℤ → Operand → ℤ
operand_number base cells temps (op.Literal n) = n
operand_number base cells temps (op.Temporary j) = cell_at temps j
operand_number base cells temps (op.Near k) = cell_at cells (near_cell base k)
operand_number base cells temps (op.Through p k) = cell_at cells (through_cell base cells p k)
operand_number base cells temps (op.Indirect j) = cell_at cells (cell_number (cell_at temps j))
operand_number base cells temps (op.NearAddress k) = pos (near_cell base k)
operand_number base cells temps (op.ThroughAddress p k) = pos (through_cell base cells p k)

-- the number of an operand in a state
abbrev pub operand_in : VmState → Operand → ℤ
operand_in s o = operand_number s.base s.cells s.temps o

-- a state with another number in a cell
abbrev pub with_cell : VmState → ℕ → ℤ → VmState
with_cell s k n = record s { cells = slice_set s.cells k n }

-- a state in which a number is written to an operand; where nothing can be written, the same state
abbrev pub with_number : VmState → Operand → ℤ → VmState
with_number s (op.Temporary j) n = record s { temps = slice_set s.temps j n }
with_number s (op.Near k) n = with_cell s (near_cell s.base k) n
with_number s (op.Through p k) n = with_cell s (through_cell s.base s.cells p k) n
with_number s (op.Indirect j) n = with_cell s (cell_number (cell_at s.temps j)) n
with_number s _ n = s

-- ---- what instructions do

-- a state at the next instruction
abbrev pub ahead : VmState → VmState
ahead s = record s { at = s.at + 1 }

-- a state so many instructions behind the next one
abbrev pub passing : VmState → ℕ → StepResult
passing s n = goes (record s { at = s.at + 1 + n })

-- the machine traps, with its cells and its count as they stand
abbrev pub stops : VmState → StepResult
stops s = trapped s.cells s.count

-- a number is written, where there is one, and else the machine traps
abbrev pub written_if : VmState → Operand → Option ℤ → StepResult
written_if s into None = stops s
written_if s into (Some n) = goes (with_number (ahead s) into n)

-- a condition decides how many instructions are passed; without one the machine traps
abbrev pub passing_by : VmState → Option ℤ → ℕ → ℕ → StepResult
passing_by s None hold fail = stops s
passing_by s (Some c) hold fail = passing s (if is_one c then hold else fail)

-- the cell where an element begins, none where the index isn't below the length
abbrev pub element : ℕ → ℕ → ℤ → ℤ → Option ℤ
element length size at i = option_map (λ k. pos (capped (cell_number at + cell_number k * size))) (index_within i (pos length))

-- the next turn, none where 65536 have begun
abbrev pub next_turn : ℤ → Option ℤ
next_turn n = if int_lt n (pos 65536) then Some (n +ℤ pos 1) else None

-- the numbers of so many temporaries, from one on
abbrev pub args_in : List ℤ → ℕ → ℕ → List ℤ
args_in temps first n = take n (drop first temps)

-- a function begins, where there is room for its caller, and else the machine traps
abbrev pub entering : VmState → Callee → StepResult
entering s callee =
    let base : ℕ = capped (s.base + callee.passed) in
    if nat_lt (length s.callers) s.room then
    goes (record {
      at = callee.entry;
      base = base;
      cells = frame_begun callee.frame base (args_in s.temps callee.first callee.args) s.cells;
      temps = s.temps;
      callers = record { back = s.at + 1; base = s.base; into = callee.into } ∷ s.callers;
      room = s.room;
      count = s.count;
    })
    else stops s

-- the waiting function goes on with a result
abbrev pub caller_resumed : VmState → ℤ → List Caller → StepResult
caller_resumed s result [] = done s.cells s.count result
caller_resumed s result (w ∷ rest) = goes (with_number (record s { at = w.back; base = w.base; callers = rest }) w.into result)

-- what an instruction does in a state whose statements are counted
abbrev pub does : VmState → Act → StepResult
does s (act.Move into a) = goes (with_number (ahead s) into (operand_in s a))
does s (act.Constant into n) = goes (with_number (ahead s) into n)
does s (act.Element j at i length size) = written_if s (op.Temporary j) (element length size (operand_in s at) (operand_in s i))
does s (act.Copy at from size) =
    goes (record s { at = s.at + 1; cells = copied size (cell_number (operand_in s from)) (cell_number (operand_in s at)) s.cells })
does s (act.Zero at size) = goes (record s { at = s.at + 1; cells = zeroed size (cell_number (operand_in s at)) s.cells })
does s (act.Negate into a) = goes (with_number (ahead s) into (number_of (not (is_one (operand_in s a)))))
does s (act.Two op into a b) = written_if s into (compared op (operand_in s a) (operand_in s b))
does s (act.One builtin into a) = written_if s into (prelude_value builtin (operand_in s a ∷ []))
does s (act.Both builtin into a b) = written_if s into (prelude_value builtin (operand_in s a ∷ operand_in s b ∷ []))
does s (act.Skip n) = passing s n
does s (act.Again n) = goes (record s { at = s.at - n })
does s (act.Test a hold fail) = passing_by s (Some (operand_in s a)) hold fail
does s (act.Compare op a b hold fail) = passing_by s (compared op (operand_in s a) (operand_in s b)) hold fail
does s (act.Turn j) = written_if s (op.Temporary j) (next_turn (cell_at s.temps j))
does s (act.Call callee) = entering s callee
does s (act.Return a) = caller_resumed s (operand_in s a) s.callers
does s act.Stop = stops s

-- the step of an instruction, which counts its statements first; without an instruction the machine traps
abbrev pub step_at : VmState → Option Instruction → StepResult
step_at s None = stops s
step_at s (Some i) = does (record s { count = s.count + i.statements }) i.act

-- one step of the machine on some code
abbrev pub vm_step : List Instruction → VmState → StepResult
vm_step code s = step_at s (slice_get code s.at)

-- ---- runs

-- the machine comes from the state to the result in n steps
pub data RunsTo (code : List Instruction) : ℕ → VmState → StepResult → Type 0 where
  last : (s : VmState) (end : StepResult) → vm_step code s ≡ end → RunsTo code 1 s end
  more : (n : ℕ) (s t : VmState) (end : StepResult) → vm_step code s ≡ goes t → RunsTo code n t end → RunsTo code (suc n) s end
