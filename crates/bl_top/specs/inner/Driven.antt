-- A drive before anything of it is written, and then what was written of it.
use Rattle.std.specs.Prelude.{◌≡◌, ◌⊎◌, ℕ, [], List, Result}
use Rattle.bl_ctext_semantics.specs.Cells.{outputs_of}
use Rattle.bl_ctext_semantics.specs.Parts.{Parts}
use Rattle.bl_ctext_semantics_laws_places.specs.Behaviour.{behaviour_of}
use Rattle.bl_top_commands.specs.Calls.{HasRisen, Output}
use Rattle.bl_top_commands.specs.declared.answer.Answer.{Answer}
use Rattle.bl_top_commands.specs.declared.status.Status.TheVariants as status
use Rattle.bl_top_commands.specs.Traces.{OneTrace}
use Rattle.bl_plant_drive.specs.declared.driven.Driven.{Driven}
use Rattle.bl_plant_drive.specs.declared.fault.DriveFault.{DriveFault}
use Rattle.bl_plant_drive_report.specs.Reports.{IsDriven, IsReportOf}
use Rattle.bl_plant_drive_report.specs.declared.report.Report.{Report}
use Rattle.bl_io.specs.Held.{Appends, AppendsPart}
use Rattle.bl_top.specs.Drive.{Plants, drive_setting, drive_status}
use Rattle.bl_tree.specs.declared.tree.StructDef.{StructDef}
use Rattle.bl_tree.specs.declared.tree.Unit.{Unit as UnitDef}

-- a C file with the one trace of a program was driven against the plants
pub record Drives (structs : List StructDef) (units : List UnitDef) (entry : ℕ) (plants : Plants) (ticks : ℕ) (names : List ℕ)
    (parts : Parts) (driven : Driven) (how : Result (Unit {0}) DriveFault) : Type 0 where
  pub one_trace : OneTrace structs units entry (behaviour_of parts)
  pub is_driven : IsDriven (drive_setting parts plants.before ticks names) plants.after driven how

-- the report tells of a C file with the one trace of a program that was driven against the plants
pub record TellsReport (structs : List StructDef) (units : List UnitDef) (entry : ℕ) (plants : Plants) (ticks : ℕ) (names : List ℕ)
    (report : Report) : Type 0 where
  pub parts : Parts
  pub driven : Driven
  pub how : Result (Unit {0}) DriveFault
  pub drives : Drives structs units entry plants ticks names parts driven how
  pub tells : IsReportOf (outputs_of parts) driven how report

-- a C file of the program was driven against the plants, or the plants are unchanged
abbrev pub MayHaveDriven : List StructDef → List UnitDef → ℕ → Plants → ℕ → List ℕ → Type 0
MayHaveDriven structs units entry plants ticks names = (plants.after ≡ plants.before)
    ⊎ ((parts : Parts) × ((driven : Driven) × ((how : Result (Unit {0}) DriveFault) × Drives structs units entry plants ticks names parts driven how)))

-- the text of a report was written, or a prefix where a write failed or memory was refused, with the answer for that
pub data WritesReport (report : Report) (out : Output) (answer : Answer) : Type 0 where
  wrote : Appends out.before report.text.items out.after → answer.told.items ≡ report.told.items →
      answer.outcome.status ≡ drive_status report.end → answer.outcome.line.items ≡ report.line.items → WritesReport report out answer
  failed : AppendsPart out.before report.text.items out.after → HasRisen out.faults → answer.told.items ≡ [] →
      answer.outcome.status ≡ status.WriteFault → WritesReport report out answer
  refused : AppendsPart out.before report.text.items out.after → answer.told.items ≡ [] → answer.outcome.status ≡ status.NoMemory →
      WritesReport report out answer
