-- A round of asking goes on with the next seat.
use Rattle.std.proofs.Common.{◌≡◌, ℕ, suc, ◌+◌, ◌<◌, ◌≤◌, true, List, Some, length, get_or, take}
use Rattle.std.proofs.Common.{drop, ap, sym, subst, ◌∙◌, add-one, length-append}
use Rattle.std.proofs.lemmas.List.Folds.{length-flat_map-take}
use Rattle.std.proofs.lemmas.Option.{slice_get-get_or}
use Rattle.bl_tree.proofs.Basics.{same_some}
use Rattle.bl_plant.specs.Plants.{PlantView}
use Rattle.bl_plant_drive.specs.declared.driven.Gone.{Gone}
use Rattle.bl_plant_drive.specs.declared.seat.Seat.{Seat}
use Rattle.bl_plant_drive.specs.inner.Round.{FrontFits, seat_numbers}
use Rattle.bl_plant_drive.specs.inner.Stands.{AskedSoFar, Scene}
use Rattle.bl_plant_drive.proofs.Ranges.{front-kept, front-more, numbers-more}
use Rattle.bl_tree.specs.declared.row.Column.{Column}
use Rattle.bl_tree.specs.Ports.{in_ranges, types_of}

-- the numbers of one more seat are in their ranges
pub round-on : (inputs : List Column) (k first : ℕ) (seats now : List Seat) (seat : Seat) → take k now ≡ take k seats → FrontFits inputs k seats →
    first ≡ length (seat_numbers (take k seats)) → k < length now → seat ≡ get_or now k seat →
    in_ranges (types_of (take (length seat.columns) (drop first inputs))) seat.columns ≡ true →
    (FrontFits inputs (k + 1) now) × (first + length seat.columns ≡ length (seat_numbers (take (k + 1) now)))
round-on inputs k first seats now seat same front at low is tested =
    let here : first ≡ length (seat_numbers (take k now)) = at ∙ ap (λ z. length (seat_numbers z)) (sym same) in (
      subst (λ m. FrontFits inputs m now) (sym (add-one k))
          (front-more inputs now k seat low is (front-kept inputs k seats now same front)
          (subst (λ n. in_ranges (types_of (take (length seat.columns) (drop n inputs))) seat.columns ≡ true) here tested)),
      ap (λ n. n + length seat.columns) here ∙ sym (length-append (seat_numbers (take k now)) seat.columns)
          ∙ sym (ap length (numbers-more now k seat low is)) ∙ ap (λ m. length (seat_numbers (take m now))) (sym (add-one k)),
    )

-- they are for inputs that are there
pub round-within : (inputs : List Column) (k first : ℕ) (seats now : List Seat) (seat : Seat) → take k now ≡ take k seats →
    first ≡ length (seat_numbers (take k seats)) → k < length now → seat ≡ get_or now k seat → length (seat_numbers now) ≡ length inputs →
    first + length seat.columns ≤ length inputs
round-within inputs k first seats now seat same at low is wide =
    let here : first ≡ length (seat_numbers (take k now)) = at ∙ ap (λ z. length (seat_numbers z)) (sym same) in
    let there : length seat.columns ≡ length (get_or now k seat).columns = ap (λ (x : Seat). length x.columns) is in
    let most = length-flat_map-take (λ (x : Seat). x.columns) now k seat low in
    subst (λ n. n + length seat.columns ≤ length inputs) (sym here)
    (subst (λ n. length (seat_numbers (take k now)) + n ≤ length inputs) (sym there)
    (subst (λ n. length (seat_numbers (take k now)) + length (get_or now k seat).columns ≤ n) wide most))

-- a seat that is read twice is the same
pub same-seat : (seats : List Seat) (k : ℕ) (seat again : Seat) → k < length seats → seat ≡ get_or seats k seat → again ≡ get_or seats k again →
    again ≡ seat
same-seat seats k seat again low is is_too =
    same_some again seat (ap Some is_too ∙ sym (slice_get-get_or seats k again low) ∙ slice_get-get_or seats k seat low ∙ ap Some (sym is))

-- so many plants and one more were asked
pub one-more : (s : Scene) (k : ℕ) (plants : List PlantView) (seats : List Seat) (gone : List Gone) → AskedSoFar s (suc k) plants seats gone →
    AskedSoFar s (k + 1) plants seats gone
one-more s k plants seats gone st = subst (λ m. AskedSoFar s m plants seats gone) (sym (add-one k)) st
