-- What calls of a file's functions come to in the machine.
use Rattle.std.specs.Prelude.{List, [], None, Option, Some, drop, is_some, length, min, take, true, ℕ, ℤ, ◌+◌, ◌-◌, ◌^◌, ◌≡◌}
use Rattle.bl_crun_code.specs.Code.{Code}
use Rattle.bl_crun_code.specs.Laws.{entry_state, vm_ended}
use Rattle.bl_crun_code.specs.Vm.{RunsTo, VmState}
use Rattle.bl_crun_code_layout.specs.Views.{entry_for}
use Rattle.bl_crun_code_layout.specs.declared.here.Entry.{Entry as CodeEntry}
use Rattle.bl_tree.specs.Ports.{row_fits}
use Rattle.bl_ctext_semantics_laws.specs.Flat.{FlatAnswer, flat_answer}
use Rattle.bl_ctext_semantics.specs.Cells.{outputs_of}
use Rattle.bl_ctext_semantics.specs.Parts.{Parts}
use Rattle.bl_ctext_semantics.specs.Trace.{reply_of, start_cells, start_succeeds, tick_c}
use Rattle.bl_crun_ports.specs.Ports.{outputs_start}
use Rattle.bl_crun.specs.declared.call.Called.{Called}
use Rattle.bl_crun.specs.Done.{CellsKeep, first_cells}

-- a call of an optional entry of the code gives this answer in so many steps of the machine; without an entry it traps
abbrev pub Comes : ℕ → Code → Option CodeEntry → ℕ → List ℤ → VmState → FlatAnswer ℤ → Type 0
Comes steps code None base args m l = l ≡ flat_answer m.cells None
Comes steps code (Some entry) base args m l =
    RunsTo code steps (entry_state (entry_for entry) base args m.cells m.temps [] m.room 0) (vm_ended l.cells l.count l.answer)

-- a call by the machine has this answer
pub record CallDone (l : FlatAnswer ℤ) (before : VmState) (called : Called) (after : VmState) : Type 0 where
  pub answer : called.answer ≡ l.answer
  pub count : called.count ≡ min l.count (2 ^ 128 - 1)
  pub cells : after.cells ≡ l.cells
  pub temps : length after.temps ≡ length before.temps
  pub room : after.room ≡ before.room

-- the routine simulates the start of a file
pub record IsStart (file : Parts) (flat_answer : FlatAnswer ℤ) : Type 0 where
  pub ready : is_some flat_answer.answer ≡ start_succeeds file
  pub cells : first_cells file flat_answer.cells ≡ start_cells file
  pub cells_kept : CellsKeep file flat_answer.cells

-- the routine simulates a tick of a file
pub record IsTick (file : Parts) (cells ins : List ℤ) (flat_answer : FlatAnswer ℤ) : Type 0 where
  pub reply : reply_of flat_answer.answer ≡ (tick_c file cells ins).reply
  pub outputs : take (length (outputs_of file)) (drop (outputs_start file.structs + 1) flat_answer.cells) ≡ (tick_c file cells ins).outputs
  pub ranges : row_fits (outputs_of file) (tick_c file cells ins).outputs ≡ true
  pub after : first_cells file flat_answer.cells ≡ (tick_c file cells ins).cells
  pub count : flat_answer.count ≡ (tick_c file cells ins).count
  pub cells_kept : CellsKeep file flat_answer.cells
