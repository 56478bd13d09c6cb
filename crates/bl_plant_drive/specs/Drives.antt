-- How a drive ends.
use Rattle.std.specs.Prelude.{◌≡◌, ◌≢◌, ◌⊎◌, ℕ, ◌+◌, suc, ◌<◌, ◌≤◌, ℤ, true, false, List}
use Rattle.std.specs.Prelude.{[], ◌∷◌, ◌++◌, length, take, drop, fold}
use Rattle.std.specs.Prelude.{Option, Some, None, Result, Ok, Err, is_some, nat_eq, slice_get}
use Rattle.std.specs.List.{AllByRecursion, IsDistinct, list_any}
use Rattle.bl_ctext_semantics.specs.Cells.{inputs_of}
use Rattle.bl_ctext_semantics.specs.Saturated.{saturated}
use Rattle.bl_ctext_semantics.specs.Trace.{trace_after}
use Rattle.bl_crun.specs.Running.{Running, after_tick, state_in}
use Rattle.bl_plant_drive.specs.Driven.{nothing_driven}
use Rattle.bl_plant_drive.specs.Roles.{IsCast, Plays, Role, first_named, gone_at, gone_before, inputs_at, inputs_before, left_in, numbers_at}
use Rattle.bl_plant_drive.specs.declared.driven.Driven.{Driven}
use Rattle.bl_plant_drive.specs.declared.fault.DriveFault.{DriveFault}
use Rattle.bl_plant_drive.specs.declared.fault.DriveFault.TheVariants as fault
use Rattle.bl_io.specs.Count.{Rose}
use Rattle.bl_plant.specs.Plants.{PlantView}
use Rattle.bl_tree.specs.Ports.{RowsFit, in_ranges, types_of}
use Rattle.bl_tree.specs.Scalar.{in_range}
use Rattle.bl_tree.specs.declared.row.Column.{Column}
use Rattle.bl_tree.specs.declared.row.Last.{Last}
use Rattle.bl_tree.specs.declared.row.Last.TheVariants as last
use Rattle.bl_tree.specs.declared.row.Trace.{Trace}

-- what is driven: a live runner, the list of plants, the names of those that are asked, and for how many ticks
pub record DriveSetting : Type 0 where
  pub runner : Running
  pub plants : List PlantView
  pub names : List ℕ
  pub ticks : ℕ

-- what a drive leaves: the runner, the list of plants, and its record
pub record Outcome : Type 0 where
  pub runner : Running
  pub plants : List PlantView
  pub driven : Driven

-- the inputs of what is driven
abbrev pub columns_in : DriveSetting → List Column
columns_in s = inputs_of s.runner.parts

-- ---- the run

-- the trace of a runner over rows of inputs that come next
abbrev pub trace_over : Running → List (List ℤ) → Trace
trace_over r rows = trace_after r.parts (state_in r) rows

-- a runner after the ticks of rows
abbrev pub runner_after : Running → List (List ℤ) → Running
runner_after r rows = fold after_tick r rows

-- how many ticks have begun that have no row of outputs
abbrev pub rowless : Last → ℕ
rowless last.Open = 0
rowless last.Ended = 0
rowless last.Trap = 1

-- how many ticks of a trace have begun
abbrev pub ticks_begun : Trace → ℕ
ticks_begun trace = length trace.rows + rowless trace.last

-- the record of a drive: the rows of inputs are those that the named plants gave, they fit, and the trace is the runner's over them
pub record HasDriven (s : DriveSetting) (cast : List Role) (d : Driven) : Type 0 where
  pub is_cast : IsCast s.plants s.names cast
  pub ins : d.ins ≡ inputs_before cast (length d.ins)
  pub fit : RowsFit (columns_in s) d.ins
  pub trace : d.trace ≡ trace_over s.runner d.ins
  pub begun : length d.ins ≡ ticks_begun d.trace

-- ---- names and widths

-- the width of a plant that a name means; 0 where it means none
abbrev pub plant_width : Option PlantView → ℕ
plant_width None = 0
plant_width (Some p) = p.width

-- how many columns the plants have that the names mean
abbrev pub widths_of : List PlantView → List ℕ → ℕ
widths_of plants [] = 0
widths_of plants (name ∷ names) = plant_width (first_named name plants) + widths_of plants names

-- each name means a plant
abbrev pub AreThere : List PlantView → List ℕ → Type 0
AreThere plants names = AllByRecursion (λ name. is_some (first_named name plants) ≡ true) names

-- the first name that means no plant
pub record IsFirstAbsent (s : DriveSetting) (name : ℕ) : Type 0 where
  pub earlier : List ℕ
  pub later : List ℕ
  pub names : s.names ≡ earlier ++ name ∷ later
  pub there : AreThere s.plants earlier
  pub none : first_named name s.plants ≡ None

-- the first name that was named before; each name means a plant
pub record IsFirstTwice (s : DriveSetting) (name : ℕ) : Type 0 where
  pub earlier : List ℕ
  pub later : List ℕ
  pub names : s.names ≡ earlier ++ name ∷ later
  pub there : AreThere s.plants s.names
  pub distinct : IsDistinct nat_eq earlier
  pub again : list_any (nat_eq name) earlier ≡ true

-- the plants have more or fewer columns than there are inputs; each name means a plant, and none is named twice
pub record IsOtherWidth (s : DriveSetting) (given wanted : ℕ) : Type 0 where
  pub there : AreThere s.plants s.names
  pub distinct : IsDistinct nat_eq s.names
  pub given_is : given ≡ saturated (widths_of s.plants s.names)
  pub wanted_is : wanted ≡ length (columns_in s)
  pub differ : widths_of s.plants s.names ≢ length (columns_in s)

-- nothing was done
pub record IsUntouched (s : DriveSetting) (o : Outcome) : Type 0 where
  pub runner : o.runner ≡ s.runner
  pub plants : o.plants ≡ s.plants
  pub driven : o.driven ≡ nothing_driven

-- ---- ends

-- all ticks were done, or the run has ended or trapped in the last one that was begun
pub record DriveIsOver (s : DriveSetting) (o : Outcome) : Type 0 where
  pub cast : List Role
  pub driven : HasDriven s cast o.driven
  pub wide : widths_of s.plants s.names ≡ length (columns_in s)
  pub within : length o.driven.ins ≤ s.ticks
  pub whole : o.driven.trace.last ≡ last.Open → length o.driven.ins ≡ s.ticks
  pub runner : o.runner ≡ runner_after s.runner o.driven.ins
  pub plants : o.plants ≡ left_in cast [] s.plants
  pub parts : AllByRecursion (Plays o.driven.trace.rows o.driven.trace.rows (length o.driven.ins)) cast
  pub gone : o.driven.gone ≡ gone_before cast (length o.driven.ins)

-- the drive has stopped in the tick after the recorded ones: some plants were asked in it, the others weren't
pub record HasStopped (s : DriveSetting) (o : Outcome) (asked others : List Role) : Type 0 where
  pub driven : HasDriven s (asked ++ others) o.driven
  pub wide : widths_of s.plants s.names ≡ length (columns_in s)
  pub running : o.driven.trace.last ≡ last.Open
  pub within : length o.driven.ins < s.ticks
  pub runner : o.runner ≡ runner_after s.runner o.driven.ins
  pub plants : o.plants ≡ left_in (asked ++ others) [] s.plants
  pub earlier : AllByRecursion (Plays o.driven.trace.rows o.driven.trace.rows (suc (length o.driven.ins))) asked
  pub later : AllByRecursion (Plays o.driven.trace.rows o.driven.trace.rows (length o.driven.ins)) others
  pub gone : o.driven.gone ≡ gone_before (asked ++ others) (length o.driven.ins) ++ gone_at (length o.driven.ins) asked

-- the numbers of the plants, the first of the cast, are in the ranges of their inputs in the tick after so many complete ones
abbrev pub FirstFit : DriveSetting → ℕ → List Role → Type 0
FirstFit s k first = in_ranges (types_of (take (length (inputs_at k first)) (columns_in s))) (inputs_at k first) ≡ true

-- the plant that the name means has failed and counted it; the numbers of those before it fit
pub record HasFailed (s : DriveSetting) (o : Outcome) (name : ℕ) : Type 0 where
  pub asked : List Role
  pub role : Role
  pub others : List Role
  pub stopped : HasStopped s o asked (role ∷ others)
  pub there : role.part.gone ≡ false
  pub name_is : role.plant.name ≡ name
  pub rose : Rose role.plant.faults role.part.faults
  pub fit : FirstFit s (length o.driven.ins) asked

-- a number is the first that isn't in the range of its input, from this input on
pub record IsFirstOutside (inputs : List Column) (first : ℕ) (numbers : List ℤ) (column : ℕ) (number : ℤ) : Type 0 where
  pub at : ℕ
  pub is : slice_get numbers at ≡ Some number
  pub column_is : column ≡ first + at + 1
  pub input : Column
  pub input_is : slice_get inputs (first + at) ≡ Some input
  pub outside : in_range input.ty number ≡ false
  pub front : in_ranges (types_of (take at (drop first inputs))) (take at numbers) ≡ true

-- the last plant that was asked gave the first number that isn't in the range of its input
pub record HasGivenOutside (s : DriveSetting) (o : Outcome) (column : ℕ) (number : ℤ) : Type 0 where
  pub asked : List Role
  pub role : Role
  pub others : List Role
  pub stopped : HasStopped s o (asked ++ role ∷ []) others
  pub there : role.part.gone ≡ false
  pub fit : FirstFit s (length o.driven.ins) asked
  pub outside : IsFirstOutside (columns_in s) (length (inputs_at (length o.driven.ins) asked)) (numbers_at (length o.driven.ins) role) column number

-- a plant may have gone on with the tick after these rows: it was asked in it or not. One that was asked may have been told the rows up to that tick
pub record MayGoOn (outs now : List (List ℤ)) (r : Role) : Type 0 where
  pub asked : ℕ
  pub told : List (List ℤ)
  pub asked_is : (asked ≡ length outs) ⊎ (asked ≡ suc (length outs))
  pub told_is : (told ≡ outs) ⊎ ((asked ≡ suc (length outs)) × (told ≡ now))
  pub plays : Plays outs told asked r

-- memory was refused: the plants and the runner may have gone on with the tick after the recorded ones
pub record IsShort (s : DriveSetting) (o : Outcome) : Type 0 where
  pub cast : List Role
  pub driven : HasDriven s cast o.driven
  pub running : o.driven.trace.last ≡ last.Open
  pub within : length o.driven.ins ≤ s.ticks
  -- the row of that tick, which the plants gave, where the runner has gone on
  pub further : List (List ℤ)
  pub further_is : (further ≡ []) ⊎ (further ≡ inputs_at (length o.driven.ins) cast ∷ [])
  pub runner : o.runner ≡ runner_after s.runner (o.driven.ins ++ further)
  pub plants : o.plants ≡ left_in cast [] s.plants
  -- what is told is rows of the runner's trace
  pub parts : AllByRecursion (MayGoOn o.driven.trace.rows (trace_over s.runner (o.driven.ins ++ further)).rows) cast
  pub gone : o.driven.gone ≡ gone_before cast (suc (length o.driven.ins))

-- how a drive ends
abbrev pub DriveEnds : DriveSetting → Outcome → Result (Unit {0}) DriveFault → Type 0
DriveEnds s o (Ok done) = DriveIsOver s o
DriveEnds s o (Err (fault.Failed name)) = HasFailed s o name.number
DriveEnds s o (Err (fault.Absent name)) = IsFirstAbsent s name.number × IsUntouched s o
DriveEnds s o (Err (fault.Twice name)) = IsFirstTwice s name.number × IsUntouched s o
DriveEnds s o (Err (fault.Width given wanted)) = IsOtherWidth s given wanted × IsUntouched s o
DriveEnds s o (Err (fault.Range column number)) = HasGivenOutside s o column number
DriveEnds s o (Err fault.NoMemory) = IsShort s o
