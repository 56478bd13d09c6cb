-- How `drive` ends.
use Rattle.std.specs.Prelude.{◌≡◌, ◌↔◌, ◌⊎◌, ℕ, List, [], ◌++◌, Option, Result, Ok, Err}
use Rattle.bl_ctext_semantics.specs.Parts.{Parts}
use Rattle.bl_ctext_semantics_laws_places.specs.Behaviour.{behaviour_of}
use Rattle.bl_top_commands.specs.Calls.{Call, HasRisen, Output}
use Rattle.bl_top_commands.specs.Notes.{line_of}
use Rattle.bl_top_commands.specs.Refusals.{IsNotAccepted}
use Rattle.bl_top_commands.specs.Sources.{IsRawTreeOf}
use Rattle.bl_top_commands.specs.declared.status.Status.{Status}
use Rattle.bl_top_commands.specs.declared.status.Status.TheVariants as status
use Rattle.bl_top_commands.specs.Traces.{OneTrace}
use Rattle.bl_crun.specs.Running.{loaded}
use Rattle.bl_ctree.specs.Means.{Means, ShownTrace as Shows, shown_trace}
use Rattle.bl_plant_drive.specs.Drives.{DriveSetting}
use Rattle.bl_plant_drive.specs.declared.driven.Driven.{Driven}
use Rattle.bl_plant_drive.specs.declared.fault.DriveFault.{DriveFault}
use Rattle.bl_plant_drive.specs.declared.fault.DriveFault.TheVariants as fault
use Rattle.bl_plant_drive_report.specs.Lines.{gone_lines, line_after}
use Rattle.bl_plant_drive_report.specs.Reports.{IsDriven, end_at, text_shown}
use Rattle.bl_plant_drive_report.specs.declared.report.End.{End}
use Rattle.bl_plant_drive_report.specs.declared.report.End.TheVariants as end
use Rattle.bl_io.specs.Held.{Appends, AppendsPart}
use Rattle.bl_io.specs.Left.{IsKept}
use Rattle.bl_plant.specs.Plants.{PlantView}
use Rattle.bl_types_program.specs.Programs.{typed_of}
use Rattle.bl_parse_tree.specs.declared.raw.Raw.{Raw}
use Rattle.bl_tree.specs.Ports.{output_columns}
use Rattle.bl_top_args.specs.Jobs.{Word}

-- the plants that a call finds and those that it leaves
pub record Plants : Type 0 where
  pub before : List PlantView
  pub after : List PlantView

-- a C file from its start, plants, the names of those that are asked, and for how many ticks
abbrev pub drive_setting : Parts → List PlantView → ℕ → List ℕ → DriveSetting
drive_setting parts plants ticks names = record { runner = loaded parts; plants = plants; names = names; ticks = ticks }

-- a C file with the one trace of a source's program was driven against the plants, with this record and end
pub record HasDrivenSource (left : Option (List ℕ)) (plants : Plants) (ticks : ℕ) (names : List ℕ) (driven : Driven)
    (how : Result (Unit {0}) DriveFault) (text : List ℕ) : Type 0 where
  pub raw : Raw
  pub tree : IsRawTreeOf left raw
  pub parts : Parts
  pub one_trace : OneTrace (typed_of raw).structs (typed_of raw).units (typed_of raw).entry (behaviour_of parts)
  pub is_driven : IsDriven (drive_setting parts plants.before ticks names) plants.after driven how
  -- the semantics allows the trace over the rows that the plants gave, and no other
  pub means : (shows : Shows) → Means (typed_of raw).structs (typed_of raw).units (typed_of raw).entry driven.ins shows
      ↔ (shows ≡ shown_trace driven.trace)
  -- the drive shows the text of the trace, or nothing where the names and widths don't fit
  pub shows : text ≡ text_shown (output_columns one_trace.unit) driven.trace how

-- the status of a drive with this end
abbrev pub drive_status : End → Status
drive_status end.Done = status.Ok
drive_status end.Trapped = status.Trapped
drive_status end.PlantFault = status.PlantFault
drive_status end.PlantShape = status.PlantShape
drive_status end.NoMemory = status.NoMemory

-- the line of what stopped it
abbrev pub drive_line : Result (Unit {0}) DriveFault → List ℕ
drive_line (Err fault.NoMemory) = line_of status.NoMemory
drive_line how = line_after how

-- what a drive shows was to be written: all of it was, and the lines for `notes` tell which plants have finished, and what stopped it
pub data DriveNotes (out : Output) (driven : Driven) (how : Result (Unit {0}) DriveFault) (text : List ℕ) : Status → List ℕ → Type 0 where
  whole : Appends out.before text out.after →
      DriveNotes out driven how text (drive_status (end_at driven.trace.last how)) (gone_lines driven.gone ++ drive_line how)
  unwritten : AppendsPart out.before text out.after → HasRisen out.faults → DriveNotes out driven how text status.WriteFault (line_of status.WriteFault)
  want : AppendsPart out.before text out.after → DriveNotes out driven how text status.NoMemory (line_of status.NoMemory)

-- a drive of the source left these plants, or they were kept
pub data LeavesDrivenPlants (left : Option (List ℕ)) (plants : Plants) (ticks : ℕ) (names : List ℕ) : Type 0 where
  kept : plants.after ≡ plants.before → LeavesDrivenPlants left plants ticks names
  was_driven : (recorded : Driven) (how : Result (Unit {0}) DriveFault) (text : List ℕ) → HasDrivenSource left plants ticks names recorded how text →
      LeavesDrivenPlants left plants ticks names

-- the status with which a source is driven against plants, and the lines for `notes`
pub data DriveEnds (c : Call) (plants : Plants) (source : Word) (ticks : ℕ) (names : List ℕ) : Status → List ℕ → Type 0 where
  drove : {ended : Status} {lines : List ℕ} (driven : Driven) (how : Result (Unit {0}) DriveFault) (text : List ℕ) →
      HasDrivenSource (c.left source) plants ticks names driven how text → DriveNotes c.out driven how text ended lines →
      DriveEnds c plants source ticks names ended lines
  -- memory was refused before anything was written
  short : LeavesDrivenPlants (c.left source) plants ticks names → IsKept c.out.before c.out.after →
      DriveEnds c plants source ticks names status.NoMemory (line_of status.NoMemory)
  stopped : {ended : Status} {line : List ℕ} → IsNotAccepted (c.left source) (c.file source) ended line → IsKept c.out.before c.out.after →
      plants.after ≡ plants.before → DriveEnds c plants source ticks names ended line
