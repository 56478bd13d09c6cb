-- What a runner keeps of its file.
use Rattle.std.specs.Prelude.{◌≡◌, ◌≤◌, ℤ, Bool, List, length, take, option_map, codes}
use Rattle.bl_crun_code.specs.Laws.{code_of_file, entry_in_file}
use Rattle.bl_crun_code_layout.specs.Views.{entry_for}
use Rattle.bl_ctext_semantics_laws.specs.Laws.{behind_objects}
use Rattle.bl_ctext_semantics.specs.Cells.{inputs_of, outputs_of}
use Rattle.bl_ctext_semantics.specs.Parts.{Parts}
use Rattle.bl_ctext_semantics.specs.Trace.{start_succeeds}
use Rattle.bl_crun_ports.specs.Layout.{kinds_of}
use Rattle.bl_crun_ports.specs.Ports.{inputs_start, outputs_start}
use Rattle.bl_crun.specs.Cause.{IsRunnable}
use Rattle.bl_crun.specs.Done.{CellsKeep}
use Rattle.bl_crun.specs.declared.prepared.Prepared.{Prepared}

-- the prepared code is the file's, and the machine has enough cells, temporaries and room for functions that wait
pub record PreparedInvariant (file : Parts) (p : Prepared) : Type 0 where
  pub runs : IsRunnable file
  pub code : p.code.items ≡ code_of_file file.structs file.funcs
  pub init : option_map entry_for p.init ≡ entry_in_file file.structs file.funcs (codes "bl_init")
  pub tick : option_map entry_for p.tick ≡ entry_in_file file.structs file.funcs (codes "bl_tick")
  pub inputs : p.inputs ≡ inputs_of file
  pub outputs : p.outputs ≡ outputs_of file
  pub kinds : p.kinds.items ≡ kinds_of file
  pub input_at : p.input_at ≡ inputs_start file.structs
  pub output_at : p.output_at ≡ outputs_start file.structs
  pub base : p.base ≡ behind_objects file
  pub temps : length p.code.items ≤ length p.machine.temps
  pub room : length file.funcs ≤ p.machine.room
  pub cells : CellsKeep file p.machine.cells

-- what a runner of the file keeps, where it says whether the start hasn't trapped
pub record RunnerInvariant (file : Parts) (p : Prepared) (ready : Bool) : Type 0 where
  pub prepared : PreparedInvariant file p
  pub start : ready ≡ start_succeeds file

-- the numbers of the cells
abbrev pub cell_numbers : Prepared → List ℤ
cell_numbers p = take (length p.kinds.items) p.machine.cells
