-- How a tick goes on while the plants that are named are asked.
use Rattle.std.specs.Prelude.{◌≡◌, ℕ, suc, ℤ, true, false, List, ◌∷◌, length, take, drop, Some, Result, Ok, Err, slice_get}
use Rattle.std.specs.List.{flat_map}
use Rattle.bl_io.specs.Count.{Rose}
use Rattle.bl_plant.specs.Plants.{PlantView}
use Rattle.bl_plant_drive.specs.Drives.{IsFirstOutside}
use Rattle.bl_plant_drive.specs.Roles.{Role}
use Rattle.bl_plant_drive.specs.declared.driven.Gone.{Gone}
use Rattle.bl_plant_drive.specs.declared.fault.DriveFault.{DriveFault}
use Rattle.bl_plant_drive.specs.declared.fault.DriveFault.TheVariants as fault
use Rattle.bl_plant_drive.specs.declared.seat.Seat.{Seat}
use Rattle.bl_plant_drive.specs.inner.Stands.{AskedSoFar, Scene}
use Rattle.bl_tree.specs.declared.row.Column.{Column}
use Rattle.bl_tree.specs.Ports.{in_ranges, types_of}

-- the next plant has failed, and counted it
pub record HasFailedNext (s : Scene) (k : ℕ) (plants : List PlantView) (seats : List Seat) (gone : List Gone) (name : ℕ) : Type 0 where
  pub stands : AskedSoFar s k plants seats gone
  pub role : Role
  pub later : List Role
  pub next : stands.rest ≡ role ∷ later
  pub there : role.part.gone ≡ false
  pub name_is : role.plant.name ≡ name
  pub rose : Rose role.plant.faults role.part.faults

-- the next plant was asked
abbrev pub IsAsked : Scene → ℕ → List PlantView → List Seat → List Gone → Result (Unit {0}) DriveFault → Type 0
IsAsked s k plants seats gone (Ok done) = AskedSoFar s (suc k) plants seats gone
IsAsked s k plants seats gone (Err (fault.Failed name)) = HasFailedNext s k plants seats gone name.number
IsAsked s k plants seats gone (Err (fault.Absent name)) = ⊥
IsAsked s k plants seats gone (Err (fault.Twice name)) = ⊥
IsAsked s k plants seats gone (Err (fault.Width given wanted)) = ⊥
IsAsked s k plants seats gone (Err (fault.Range column number)) = ⊥
IsAsked s k plants seats gone (Err fault.NoMemory) = AskedSoFar s k plants seats gone

-- ---- ranges

-- whether numbers are in the ranges of the inputs from one on
abbrev pub IsTested : List Column → ℕ → List ℤ → Result (Unit {0}) DriveFault → Type 0
IsTested inputs first numbers (Ok done) = in_ranges (types_of (take (length numbers) (drop first inputs))) numbers ≡ true
IsTested inputs first numbers (Err (fault.Range column number)) = IsFirstOutside inputs first numbers column number
IsTested inputs first numbers (Err (fault.Failed name)) = ⊥
IsTested inputs first numbers (Err (fault.Absent name)) = ⊥
IsTested inputs first numbers (Err (fault.Twice name)) = ⊥
IsTested inputs first numbers (Err (fault.Width given wanted)) = ⊥
IsTested inputs first numbers (Err fault.NoMemory) = ⊥

-- ---- all plants

-- the numbers of seats, one after the other
abbrev pub seat_numbers : List Seat → List ℤ
seat_numbers seats = flat_map (λ seat. seat.columns) seats

-- the numbers of the first k seats are in the ranges of their inputs
abbrev pub FrontFits : List Column → ℕ → List Seat → Type 0
FrontFits inputs k seats = in_ranges (types_of (take (length (seat_numbers (take k seats))) inputs)) (seat_numbers (take k seats)) ≡ true

-- a plant has failed; the numbers of those before it are in the ranges of their inputs
pub record HasFailedIn (s : Scene) (inputs : List Column) (plants : List PlantView) (seats : List Seat) (gone : List Gone) (name : ℕ) : Type 0 where
  pub k : ℕ
  pub failed : HasFailedNext s k plants seats gone name
  pub front : FrontFits inputs k seats

-- a number of the last plant that was asked isn't in the range of its input; all numbers before it are
pub record IsOutsideIn (s : Scene) (inputs : List Column) (plants : List PlantView) (seats : List Seat) (gone : List Gone) (column : ℕ) (number : ℤ)
    : Type 0 where
  pub k : ℕ
  pub stands : AskedSoFar s (suc k) plants seats gone
  pub front : FrontFits inputs k seats
  pub seat : Seat
  pub seat_is : slice_get seats k ≡ Some seat
  pub outside : IsFirstOutside inputs (length (seat_numbers (take k seats))) seat.columns column number

-- memory was refused while plants were asked
pub record IsShortIn (s : Scene) (plants : List PlantView) (seats : List Seat) (gone : List Gone) : Type 0 where
  pub k : ℕ
  pub stands : AskedSoFar s k plants seats gone

-- all plants were asked, and their numbers are in the ranges of the inputs
pub record AreAsked (s : Scene) (inputs : List Column) (plants : List PlantView) (seats : List Seat) (gone : List Gone) : Type 0 where
  pub stands : AskedSoFar s (length seats) plants seats gone
  pub fit : in_ranges (types_of inputs) (seat_numbers seats) ≡ true

-- how a round of asking ends
abbrev pub RoundEnds : Scene → List Column → List PlantView → List Seat → List Gone → Result (Unit {0}) DriveFault → Type 0
RoundEnds s inputs plants seats gone (Ok done) = AreAsked s inputs plants seats gone
RoundEnds s inputs plants seats gone (Err (fault.Failed name)) = HasFailedIn s inputs plants seats gone name.number
RoundEnds s inputs plants seats gone (Err (fault.Range column number)) = IsOutsideIn s inputs plants seats gone column number
RoundEnds s inputs plants seats gone (Err (fault.Absent name)) = ⊥
RoundEnds s inputs plants seats gone (Err (fault.Twice name)) = ⊥
RoundEnds s inputs plants seats gone (Err (fault.Width given wanted)) = ⊥
RoundEnds s inputs plants seats gone (Err fault.NoMemory) = IsShortIn s plants seats gone
