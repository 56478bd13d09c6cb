-- How a round of asking ends.
use Rattle.std.proofs.Common.{◌≡◌, ℕ, suc, ◌<◌, List, length, get_or, take, Some, Result, Ok, Err, ap, sym, subst, ◌∙◌}
use Rattle.std.specs.Result.{IsErrAnd}
use Rattle.std.proofs.lemmas.Option.{slice_get-get_or}
use Rattle.bl_plant.specs.Plants.{PlantView}
use Rattle.bl_plant_drive.specs.declared.driven.Gone.{Gone}
use Rattle.bl_plant_drive.specs.declared.fault.DriveFault.{DriveFault}
use Rattle.bl_plant_drive.specs.declared.fault.DriveFault.TheVariants as fault
use Rattle.bl_plant_drive.specs.declared.seat.Seat.{Seat}
use Rattle.bl_plant_drive.specs.inner.Round.{FrontFits, IsAsked, IsTested, RoundEnds, seat_numbers}
use Rattle.bl_plant_drive.specs.inner.Stands.{AskedSoFar, Scene}
use Rattle.bl_tree.specs.declared.row.Column.{Column}

-- a plant's fault ends the round
pub asked-ends : (s : Scene) (inputs : List Column) (k : ℕ) (plants : List PlantView) (seats : List Seat) (gone : List Gone) (e : DriveFault) →
    IsAsked s k plants seats gone (Err e) → FrontFits inputs k seats → RoundEnds s inputs plants seats gone (Err e)
asked-ends s inputs k plants seats gone (fault.Failed name) asked front = record { k = k; failed = asked; front = front }
asked-ends s inputs k plants seats gone (fault.Absent name) asked front = absurd asked
asked-ends s inputs k plants seats gone (fault.Twice name) asked front = absurd asked
asked-ends s inputs k plants seats gone (fault.Width given wanted) asked front = absurd asked
asked-ends s inputs k plants seats gone (fault.Range column number) asked front = absurd asked
asked-ends s inputs k plants seats gone fault.NoMemory asked front = record { k = k; stands = asked }

-- a number outside its range ends the round
pub tested-ends : (s : Scene) (inputs : List Column) (k first : ℕ) (plants : List PlantView) (seats : List Seat) (gone : List Gone) (seat : Seat)
    (e : DriveFault) → AskedSoFar s (suc k) plants seats gone → FrontFits inputs k seats → k < length seats → seat ≡ get_or seats k seat →
    first ≡ length (seat_numbers (take k seats)) → IsTested inputs first seat.columns (Err e) → RoundEnds s inputs plants seats gone (Err e)
tested-ends s inputs k first plants seats gone seat (fault.Failed name) st front low is at tested = absurd tested
tested-ends s inputs k first plants seats gone seat (fault.Absent name) st front low is at tested = absurd tested
tested-ends s inputs k first plants seats gone seat (fault.Twice name) st front low is at tested = absurd tested
tested-ends s inputs k first plants seats gone seat (fault.Width given wanted) st front low is at tested = absurd tested
tested-ends s inputs k first plants seats gone seat (fault.Range column number) st front low is at tested = record {
  k = k;
  stands = st;
  front = front;
  seat = seat;
  seat_is = slice_get-get_or seats k seat low ∙ ap Some (sym is);
  outside = subst (λ n. IsTested inputs n seat.columns (Err (fault.Range column number))) at tested;
}
tested-ends s inputs k first plants seats gone seat fault.NoMemory st front low is at tested = absurd tested

-- a plant's fault that is passed on ends the round
pub asked-passed : (s : Scene) (inputs : List Column) (k : ℕ) (plants : List PlantView) (seats : List Seat) (gone : List Gone) (e : DriveFault)
    (r : Result (Unit {0}) DriveFault) → IsErrAnd r (λ x. x ≡ e) → IsAsked s k plants seats gone (Err e) → FrontFits inputs k seats →
    RoundEnds s inputs plants seats gone r
asked-passed s inputs k plants seats gone e (Ok u) is asked front = absurd is
asked-passed s inputs k plants seats gone e (Err x) is asked front =
    asked-ends s inputs k plants seats gone x (subst (λ y. IsAsked s k plants seats gone (Err y)) (sym is) asked) front

-- a number outside its range does
pub tested-passed : (s : Scene) (inputs : List Column) (k first : ℕ) (plants : List PlantView) (seats : List Seat) (gone : List Gone) (seat : Seat)
    (e : DriveFault) (r : Result (Unit {0}) DriveFault) → IsErrAnd r (λ x. x ≡ e) → AskedSoFar s (suc k) plants seats gone → FrontFits inputs k seats →
    k < length seats → seat ≡ get_or seats k seat → first ≡ length (seat_numbers (take k seats)) → IsTested inputs first seat.columns (Err e) →
    RoundEnds s inputs plants seats gone r
tested-passed s inputs k first plants seats gone seat e (Ok u) is_err st front low is at tested = absurd is_err
tested-passed s inputs k first plants seats gone seat e (Err x) is_err st front low is at tested =
    tested-ends s inputs k first plants seats gone seat x st front low is at
    (subst (λ y. IsTested inputs first seat.columns (Err y)) (sym is_err) tested)
