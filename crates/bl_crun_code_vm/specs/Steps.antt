-- What a machine shows after a step.
use Rattle.std.specs.Prelude.{◌≡◌, ◌-◌, ◌^◌, ℕ, length, min}
use Rattle.bl_ctext_semantics_laws.specs.Flat.{Cells}
use Rattle.bl_crun_code.specs.Vm.{VmState}

-- a machine with other cells
abbrev pub with_cells : VmState → Cells → VmState
with_cells m cells = record m { cells = cells }

-- what a machine shows of a count of statements
abbrev pub shown_count : ℕ → ℕ
shown_count n = min n (2 ^ 128 - 1)

-- a machine with so many temporaries and so much room has come to its end, with these cells and this count
pub record Over (cells : Cells) (count temps room : ℕ) (m : VmState) : Type 0 where
  pub cells_are : m.cells ≡ cells
  pub count_is : shown_count m.count ≡ shown_count count
  pub temps_stay : length m.temps ≡ temps
  pub room_stays : m.room ≡ room
