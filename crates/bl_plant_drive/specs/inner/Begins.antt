-- What is known before the first tick.
use Rattle.std.specs.Prelude.{◌≡◌, ℕ, ◌<◌, ◌^◌, List, length, map, nat_eq}
use Rattle.std.specs.List.{IsDistinct}
use Rattle.bl_ctext_semantics.specs.Cells.{inputs_of}
use Rattle.bl_crun.specs.Running.{Running}
use Rattle.bl_plant_drive.specs.Drives.{AreThere, widths_of}
use Rattle.bl_plant_drive.specs.declared.fault.DriveFault.{DriveFault}
use Rattle.bl_plant_drive.specs.declared.fault.DriveFault.TheVariants as fault
use Rattle.bl_plant_drive.specs.declared.seat.Seat.{Seat}
use Rattle.bl_plant_drive.specs.inner.Names.{HasAbsent, HasOtherWidth, HasTwice}
use Rattle.bl_plant_drive.specs.inner.Ticks.{new_seat}
use Rattle.bl_plant.specs.Plants.{PlantView}

-- the names and widths of the plants fit, and there is a seat for each name
pub record HasBegun (runner : Running) (plants : List PlantView) (names : List ℕ) (seats : List Seat) : Type 0 where
  pub there : AreThere plants names
  pub distinct : IsDistinct nat_eq names
  pub wide : widths_of plants names ≡ length (inputs_of runner.parts)
  pub few : length (inputs_of runner.parts) < 2 ^ 32
  pub seats_are : seats ≡ map (new_seat plants) names

-- a test has failed, or memory was refused once the names had passed
abbrev pub HasNotBegun : Running → List PlantView → List ℕ → DriveFault → Type 0
HasNotBegun runner plants names (fault.Absent name) = HasAbsent plants names name.number
HasNotBegun runner plants names (fault.Twice name) = AreThere plants names × HasTwice names name.number
HasNotBegun runner plants names (fault.Width given wanted) =
    AreThere plants names × IsDistinct nat_eq names × HasOtherWidth plants names (length (inputs_of runner.parts)) given wanted
HasNotBegun runner plants names (fault.Failed name) = ⊥
HasNotBegun runner plants names (fault.Range column number) = ⊥
HasNotBegun runner plants names fault.NoMemory = AreThere plants names × IsDistinct nat_eq names
