-- What is told of a drive.
use Rattle.std.specs.Prelude.{◌≡◌, ◌⊎◌, ℕ, Bool, true, false, if◌then◌else◌, List, [], Result, Ok, Err}
use Rattle.bl_ctext_semantics.specs.Cells.{outputs_of}
use Rattle.bl_crun.specs.Running.{Running}
use Rattle.bl_plant_drive.specs.Drives.{DriveEnds, DriveSetting, columns_in, trace_over}
use Rattle.bl_plant_drive.specs.declared.driven.Driven.{Driven}
use Rattle.bl_plant_drive.specs.declared.fault.DriveFault.{DriveFault}
use Rattle.bl_plant_drive.specs.declared.fault.DriveFault.TheVariants as fault
use Rattle.bl_plant_drive_report.specs.Lines.{gone_lines, line_after}
use Rattle.bl_plant_drive_report.specs.declared.report.End.{End}
use Rattle.bl_plant_drive_report.specs.declared.report.End.TheVariants as end
use Rattle.bl_plant_drive_report.specs.declared.report.Report.{Report}
use Rattle.bl_plant.specs.Plants.{PlantView}
use Rattle.bl_rows.specs.Text.{text_of}
use Rattle.bl_tree.specs.Ports.{RowsFit}
use Rattle.bl_tree.specs.declared.row.Column.{Column}
use Rattle.bl_tree.specs.declared.row.Last.{Last}
use Rattle.bl_tree.specs.declared.row.Last.TheVariants as last
use Rattle.bl_tree.specs.declared.row.Trace.{Trace}

-- ---- how a drive ended

-- a drive that no fault has stopped, by how its trace stands
abbrev pub end_after : Last → End
end_after last.Open = end.Done
end_after last.Ended = end.Done
end_after last.Trap = end.Trapped

-- the end of a drive that a fault has stopped
abbrev pub fault_end : DriveFault → End
fault_end (fault.Failed name) = end.PlantFault
fault_end (fault.Absent name) = end.PlantShape
fault_end (fault.Twice name) = end.PlantShape
fault_end (fault.Width given wanted) = end.PlantShape
fault_end (fault.Range column number) = end.PlantShape
fault_end fault.NoMemory = end.NoMemory

-- how a drive has ended, by its last tick or its fault
abbrev pub end_at : Last → Result (Unit {0}) DriveFault → End
end_at l (Ok done) = end_after l
end_at l (Err fault) = fault_end fault

-- ---- what is shown

-- whether a drive with this end has begun: its names and their widths fit, and memory wasn't refused
abbrev pub has_begun : Result (Unit {0}) DriveFault → Bool
has_begun (Ok done) = true
has_begun (Err (fault.Failed name)) = true
has_begun (Err (fault.Absent name)) = false
has_begun (Err (fault.Twice name)) = false
has_begun (Err (fault.Width given wanted)) = false
has_begun (Err (fault.Range column number)) = true
has_begun (Err fault.NoMemory) = false

-- the text of a drive's trace, if the drive has begun
abbrev pub text_shown : List Column → Trace → Result (Unit {0}) DriveFault → List ℕ
text_shown outs trace how = if has_begun how then text_of trace outs else []

-- the report of a drive with this record and end, for these outputs
pub record IsReportOf (outs : List Column) (driven : Driven) (how : Result (Unit {0}) DriveFault) (report : Report) : Type 0 where
  pub text : report.text.items ≡ text_shown outs driven.trace how
  pub told : report.told.items ≡ gone_lines driven.gone
  pub line : report.line.items ≡ line_after how
  pub end : report.end ≡ end_at driven.trace.last how

-- ---- the drive

-- a drive recorded this, left these plants and ended so. The recorded rows of inputs fit, and the trace is that of the runner over them
pub record IsDriven (s : DriveSetting) (plants : List PlantView) (driven : Driven) (how : Result (Unit {0}) DriveFault) : Type 0 where
  pub runner : Running
  pub ends : DriveEnds s (record { runner = runner; plants = plants; driven = driven }) how
  pub fit : RowsFit (columns_in s) driven.ins
  pub trace : driven.trace ≡ trace_over s.runner driven.ins

-- the report of a drive of this setting, which left these plants
pub record IsReport (s : DriveSetting) (plants : List PlantView) (report : Report) : Type 0 where
  pub driven : Driven
  pub how : Result (Unit {0}) DriveFault
  pub is_driven : IsDriven s plants driven how
  pub tells : IsReportOf (outputs_of s.runner.parts) driven how report

-- a drive left these plants, or nothing was done
abbrev pub LeavesPlants : DriveSetting → List PlantView → Type 0
LeavesPlants s plants = (plants ≡ s.plants) ⊎ ((driven : Driven) × ((how : Result (Unit {0}) DriveFault) × IsDriven s plants driven how))
