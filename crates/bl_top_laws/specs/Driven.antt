-- How a call of `drive` ends in which no count of faults rises: by its plants.
use Rattle.std.specs.Prelude.{◌≡◌, ◌⊎◌, ℕ, ◌+◌, ℤ, false, if◌then◌else◌, List, [], ◌∷◌, ◌++◌, length, nat_eq, Option, Some, Ok, slice_get}
use Rattle.std.specs.List.{IsDistinct}
use Rattle.bl_io.specs.Count.{Rose}
use Rattle.bl_parse_tree.specs.declared.raw.Raw.{Raw}
use Rattle.bl_plant.specs.Plants.{PlantView}
use Rattle.bl_plant_drive.specs.Drives.{AreThere, widths_of}
use Rattle.bl_plant_drive.specs.Roles.{first_named}
use Rattle.bl_plant_drive.specs.declared.driven.Driven.{Driven}
use Rattle.bl_plant_drive_report.specs.Reports.{end_after}
use Rattle.bl_rules.specs.Accepted.{HasTree}
use Rattle.bl_top.specs.Answers.{Answered}
use Rattle.bl_top.specs.Drive.{HasDrivenSource, Plants, drive_status}
use Rattle.bl_top_args.specs.Jobs.{Word, drive, job_of}
use Rattle.bl_top_commands.specs.Calls.{Call}
use Rattle.bl_top_commands.specs.declared.status.Status.{Status}
use Rattle.bl_top_commands.specs.declared.status.Status.TheVariants as status
use Rattle.bl_top_laws.specs.Complete.{NothingRose}
use Rattle.bl_tree.specs.Ports.{input_columns}
use Rattle.bl_tree.specs.Scalar.{in_range}
use Rattle.bl_tree.specs.declared.row.Column.{Column}
use Rattle.bl_tree.specs.declared.tree.Unit.{Unit as UnitDef}
use Rattle.bl_types_program.specs.Programs.{typed_of}

-- ---- plants

-- each name means a plant, none is named twice, and the plants have as many columns as there are inputs
pub record AreAgreed (inputs : List Column) (plants : List PlantView) (names : List ℕ) : Type 0 where
  pub there : AreThere plants names
  pub distinct : IsDistinct nat_eq names
  pub wide : widths_of plants names ≡ length inputs

-- how many plants have a name
abbrev pub count_named : ℕ → List PlantView → ℕ
count_named name [] = 0
count_named name (p ∷ plants) = (if nat_eq p.name name then 1 else 0) + count_named name plants

-- a name means one plant before the call and the same plant after it: none of its name was dropped
pub record IsKeptPlant (plants : Plants) (name : ℕ) (found left : PlantView) : Type 0 where
  pub found_is : first_named name plants.before ≡ Some found
  pub left_is : first_named name plants.after ≡ Some left
  pub as_many : count_named name plants.after ≡ count_named name plants.before

-- a named plant was kept, and its count of faults rose
pub record HasRisenPlant (plants : Plants) (names : List ℕ) : Type 0 where
  pub earlier : List ℕ
  pub name : ℕ
  pub later : List ℕ
  pub names_are : names ≡ earlier ++ name ∷ later
  pub found : PlantView
  pub left : PlantView
  pub kept : IsKeptPlant plants name found left
  pub rose : Rose found.faults left.faults

-- a named plant was kept, and the last row that it gave in the call has a number outside the range of its input
pub record HasOutsideRow (inputs : List Column) (plants : Plants) (names : List ℕ) : Type 0 where
  pub earlier : List ℕ
  pub name : ℕ
  pub later : List ℕ
  pub names_are : names ≡ earlier ++ name ∷ later
  pub found : PlantView
  pub left : PlantView
  pub kept : IsKeptPlant plants name found left
  -- the rows that the plant gave in the call
  pub rows : List (List ℤ)
  pub last : List ℤ
  pub gave : left.log.given ≡ found.log.given ++ (rows ++ last ∷ [])
  -- a number of the last row, and its input
  pub at : ℕ
  pub number : ℤ
  pub number_is : slice_get last at ≡ Some number
  pub input : Column
  pub input_is : slice_get inputs (widths_of plants.before earlier + at) ≡ Some input
  pub outside : in_range input.ty number ≡ false

-- ---- calls

-- the words drive a source that passes and has these inputs, no count of faults of files or sinks rises, and the call ends so
pub record DrivesAndEnds (words : List Word) (c : Call) (plants : Plants) (name : Word) (ticks : ℕ) (names : List ℕ) (inputs : List Column) (ended : Status)
    : Type 0 where
  pub asks : job_of words ≡ Some (drive name ticks names)
  pub none : NothingRose c (drive name ticks names)
  pub source : List ℕ
  pub holds : c.left name ≡ Some source
  pub tree : Raw
  pub has : HasTree source tree
  pub entry : UnitDef
  pub is_entry : slice_get (typed_of tree).units (typed_of tree).entry ≡ Some entry
  pub inputs_are : inputs ≡ input_columns entry
  pub answered : Answered words c plants ended

-- a drive of a source was stopped by nothing, and the call ends Ok, or Trapped where its trace ends in a trap
pub record EndsAsDriven (left : Option (List ℕ)) (plants : Plants) (ticks : ℕ) (names : List ℕ) (ended : Status) : Type 0 where
  pub driven : Driven
  pub text : List ℕ
  pub done : Unit {0}
  pub drove : HasDrivenSource left plants ticks names driven (Ok done) text
  pub ended_is : ended ≡ drive_status (end_after driven.trace.last)

-- a drive whose plants agree, count no fault and give no number outside its range ends as its trace says, want of memory aside
abbrev pub DrivesEndAsDue : Type 0
DrivesEndAsDue = (words : List Word) (c : Call) (plants : Plants) (name : Word) (ticks : ℕ) (names : List ℕ) (inputs : List Column) (ended : Status) →
    DrivesAndEnds words c plants name ticks names inputs ended → AreAgreed inputs plants.before names → ¬ HasRisenPlant plants names →
    ¬ HasOutsideRow inputs plants names → (ended ≡ status.NoMemory) ⊎ EndsAsDriven (c.left name) plants ticks names ended

-- a call of `drive` whose plants don't agree ends with PlantShape, want of memory aside
abbrev pub OthersHaveOtherShapes : Type 0
OthersHaveOtherShapes = (words : List Word) (c : Call) (plants : Plants) (name : Word) (ticks : ℕ) (names : List ℕ) (inputs : List Column) (ended : Status) →
    DrivesAndEnds words c plants name ticks names inputs ended → ¬ AreAgreed inputs plants.before names →
    (ended ≡ status.NoMemory) ⊎ (ended ≡ status.PlantShape)
