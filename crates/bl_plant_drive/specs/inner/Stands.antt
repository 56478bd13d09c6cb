-- Where a drive stands in a tick.
use Rattle.std.specs.Prelude.{◌≡◌, ℕ, suc, ℤ, pos, true, false, List, [], ◌∷◌, ◌++◌, length, map, replicate}
use Rattle.std.specs.Prelude.{Result, Ok, Err, nat_eq}
use Rattle.std.specs.List.{AllByRecursion, list_any}
use Rattle.bl_plant.specs.Plants.{Gives, IsSame, PlantView}
use Rattle.bl_plant_drive.specs.Roles.{IsCast, Plays, Role, gone_at, gone_before, inputs_before, last_row, left_in}
use Rattle.bl_plant_drive.specs.declared.driven.Gone.{Gone}
use Rattle.bl_plant_drive.specs.declared.fault.DriveFault.{DriveFault}
use Rattle.bl_plant_drive.specs.declared.fault.DriveFault.TheVariants as fault
use Rattle.bl_plant.specs.declared.plant.Give.TheVariants as give
use Rattle.bl_plant_drive.specs.declared.seat.Seat.{Seat}

-- the columns of a plant that has done its part
abbrev pub seat_of : Role → Seat
seat_of r = record {
  name = record { number = r.plant.name };
  columns = last_row (replicate r.plant.width (pos 0)) r.part.given;
  finished = r.part.gone;
}

-- what stays in a tick: the list as it was handed in, the names, and the rows of the ticks before
pub record Scene : Type 0 where
  pub plants : List PlantView
  pub names : List ℕ
  pub ins : List (List ℤ)
  pub outs : List (List ℤ)

-- k of the named plants have been asked in this tick, and the lists are those that this leaves
pub record AskedSoFar (s : Scene) (k : ℕ) (plants : List PlantView) (seats : List Seat) (dropped : List Gone) : Type 0 where
  pub done : List Role
  pub rest : List Role
  pub asked : length done ≡ k
  pub cast : IsCast s.plants s.names (done ++ rest)
  pub left : plants ≡ left_in (done ++ rest) [] s.plants
  pub seats_are : seats ≡ map seat_of (done ++ rest)
  pub earlier : AllByRecursion (Plays s.outs s.outs (suc (length s.ins))) done
  pub later : AllByRecursion (Plays s.outs s.outs (length s.ins)) rest
  pub ins : s.ins ≡ inputs_before (done ++ rest) (length s.ins)
  pub gone : dropped ≡ gone_before (done ++ rest) (length s.ins) ++ gone_at (length s.ins) done
  pub long : length s.outs ≡ length s.ins

-- ---- one plant

-- a plant, the first of a list with this name, and those around it
pub record IsAround (plants : List PlantView) (named : ℕ) (before : List PlantView) (p : PlantView) (after : List PlantView) : Type 0 where
  pub list : plants ≡ before ++ p ∷ after
  pub none : list_any (λ q. nat_eq q.name named) before ≡ false
  pub name : p.name ≡ named

-- the seat with other columns
abbrev pub with_columns : Seat → List ℤ → Seat
with_columns seat row = record { name = seat.name; columns = row; finished = seat.finished }

-- the seat of a plant that has finished
abbrev pub over : Seat → Seat
over seat = record { name = seat.name; columns = seat.columns; finished = true }

-- what is recorded of the plant of a seat that is dropped
abbrev pub gone_from : Seat → ℕ → Gone
gone_from seat ticks = record { name = seat.name; rows = ticks }

-- the plant of a seat, with those before and after it, was asked for a row
pub data Asked (before : List PlantView) (p : PlantView) (after : List PlantView) (seat : Seat) (ticks : ℕ) (gone : List Gone)
    (plants' : List PlantView) (seat' : Seat) (gone' : List Gone) (result : Result (Unit {0}) DriveFault) : Type 0 where
  gave : (q : PlantView) (row : List ℤ) → result ≡ Ok tt → Gives p give.Gave row q → length row ≡ p.width → plants' ≡ before ++ q ∷ after →
      seat' ≡ with_columns seat row → gone' ≡ gone → Asked before p after seat ticks gone plants' seat' gone' result
  finished : (q : PlantView) (row : List ℤ) → result ≡ Ok tt → Gives p give.Finished row q → plants' ≡ before ++ after → seat' ≡ over seat →
      gone' ≡ gone ++ gone_from seat ticks ∷ [] → Asked before p after seat ticks gone plants' seat' gone' result
  failed : (q : PlantView) (row : List ℤ) → result ≡ Err (fault.Failed seat.name) → Gives p give.Failed row q → plants' ≡ before ++ q ∷ after →
      seat' ≡ seat → gone' ≡ gone → Asked before p after seat ticks gone plants' seat' gone' result
  short : (q : PlantView) → result ≡ Err fault.NoMemory → IsSame p q → q.log ≡ p.log → plants' ≡ before ++ q ∷ after →
      seat' ≡ seat → gone' ≡ gone → Asked before p after seat ticks gone plants' seat' gone' result

-- the plant of a seat is in the list
pub record IsThere (plants : List PlantView) (name : ℕ) : Type 0 where
  pub before : List PlantView
  pub plant : PlantView
  pub after : List PlantView
  pub around : IsAround plants name before plant after
