-- How a drive stops in the middle of a tick.
use Rattle.std.proofs.Common.{◌≡◌, ℕ, zero, suc, ◌<◌, ◌+◌, ℤ, true, List, [], ◌∷◌, ◌++◌, length, map, take, Some}
use Rattle.std.proofs.Common.{Err, refl, ap, sym, subst, ◌∙◌, append_assoc, arith}
use Rattle.std.specs.List.{AllByRecursion, slice_get}
use Rattle.std.proofs.Math.Seq.{take-append_seam}
use Rattle.std.proofs.lemmas.List.{map-append}
use Rattle.bl_crun.specs.Running.{Running}
use Rattle.bl_plant_drive.specs.Drives.{DriveEnds, DriveSetting, FirstFit, HasFailed, HasGivenOutside, HasStopped, IsFirstOutside, Outcome, columns_in}
use Rattle.bl_plant_drive.specs.Roles.{Plays, Role, inputs_at, numbers_at}
use Rattle.bl_plant_drive.specs.declared.driven.Driven.{Driven}
use Rattle.bl_plant_drive.specs.declared.driven.Gone.{Gone}
use Rattle.bl_plant_drive.specs.declared.fault.DriveFault.{DriveFault}
use Rattle.bl_plant_drive.specs.declared.fault.DriveFault.TheVariants as fault
use Rattle.bl_plant_drive.specs.declared.seat.Seat.{Seat}
use Rattle.bl_plant_drive.specs.inner.Round.{FrontFits, HasFailedIn, IsOutsideIn, RoundEnds, seat_numbers}
use Rattle.bl_plant_drive.specs.inner.Stands.{AskedSoFar, seat_of}
use Rattle.bl_plant_drive.specs.inner.Ticks.{RunsOn, scene_of}
use Rattle.bl_plant_drive.proofs.Closing.{driven-by, numbers-at, short-asking}
use Rattle.bl_plant_drive.proofs.Casts.{split}
use Rattle.bl_plant_drive.proofs.Outside.{none-outside}
use Rattle.bl_plant.specs.Plants.{PlantView}
use Rattle.bl_tree.specs.Ports.{in_ranges, types_of}

-- what a drive has left that stops with this record, but for the plants that were dropped
abbrev pub left_with : Running → List PlantView → Driven → List Gone → Outcome
left_with runner plants d gone = record { runner = runner; plants = plants; driven = record { ins = d.ins; trace = d.trace; gone = gone } }

-- the run is the same whatever plants were dropped
pub runs-same : (s : DriveSetting) (runner : Running) (d : Driven) (gone : List Gone) → RunsOn s runner d →
    RunsOn s runner (record { ins = d.ins; trace = d.trace; gone = gone })
runs-same s runner d gone runs = record {
  fit = runs.fit;
  trace = runs.trace;
  running = runs.running;
  runner_is = runs.runner_is;
  live = runs.live;
  wide = runs.wide;
  few = runs.few;
}

stopped : (s : DriveSetting) (runner : Running) (plants : List PlantView) (seats : List Seat) (d : Driven) (gone : List Gone) (k : ℕ) → RunsOn s runner d →
    length d.ins < s.ticks → (st : AskedSoFar (scene_of s d) k plants seats gone) → HasStopped s (left_with runner plants d gone) st.done st.rest
stopped s runner plants seats d gone k runs within st = record {
  driven = driven-by s (st.done ++ st.rest) runner (record { ins = d.ins; trace = d.trace; gone = gone }) st.cast st.ins (runs-same s runner d gone runs)
      st.long;
  wide = runs.wide;
  running = runs.running;
  within = within;
  runner = runs.runner_is;
  plants = st.left;
  earlier = st.earlier;
  later = st.later;
  gone = st.gone;
}

-- ---- numbers

first-numbers : (done rest : List Role) (outs : List (List ℤ)) (n k : ℕ) (seats : List Seat) → length done ≡ k →
    seats ≡ map seat_of (done ++ rest) → AllByRecursion (Plays outs outs (suc n)) done → seat_numbers (take k seats) ≡ inputs_at n done
first-numbers done rest outs n k seats long are plays =
    ap (λ z. seat_numbers (take k z)) (are ∙ map-append seat_of done rest)
    ∙ ap (λ m. seat_numbers (take m (map seat_of done ++ map seat_of rest))) (sym long ∙ sym (long-map done))
    ∙ ap seat_numbers (take-append_seam (map seat_of done) (map seat_of rest))
    ∙ numbers-at done outs outs n plays
  where
    long-map : (xs : List Role) → length (map seat_of xs) ≡ length xs
    long-map [] = refl
    long-map (x ∷ xs) = ap suc (long-map xs)

first-fit : (s : DriveSetting) (d : Driven) (k : ℕ) (plants : List PlantView) (seats : List Seat) (gone : List Gone) (done rest : List Role) →
    length done ≡ k → seats ≡ map seat_of (done ++ rest) → AllByRecursion (Plays d.trace.rows d.trace.rows (suc (length d.ins))) done →
    FrontFits (columns_in s) k seats → FirstFit s (length d.ins) done
first-fit s d k plants seats gone done rest long are plays front =
    subst (λ z. in_ranges (types_of (take (length z) (columns_in s))) z ≡ true) (first-numbers done rest d.trace.rows (length d.ins) k seats long are plays)
    front

-- ---- ends

has-failed : (s : DriveSetting) (runner : Running) (plants : List PlantView) (seats : List Seat) (d : Driven) (gone : List Gone) (name : ℕ) →
    RunsOn s runner d → length d.ins < s.ticks → HasFailedIn (scene_of s d) (columns_in s) plants seats gone name →
    HasFailed s (left_with runner plants d gone) name
has-failed s runner plants seats d gone name runs within failed =
    let st = failed.failed.stands in
    record {
      asked = st.done;
      role = failed.failed.role;
      others = failed.failed.later;
      stopped =
          subst (HasStopped s (left_with runner plants d gone) st.done) failed.failed.next (stopped s runner plants seats d gone failed.k runs within st);
      there = failed.failed.there;
      name_is = failed.failed.name_is;
      rose = failed.failed.rose;
      fit = first-fit s d failed.k plants seats gone st.done st.rest st.asked st.seats_are st.earlier failed.front;
    }

-- the last of those that were asked
record LastOf (done : List Role) (k : ℕ) : Type 0 where
  asked : List Role
  role : Role
  is : done ≡ asked ++ role ∷ []
  long : length asked ≡ k

last-of : (done : List Role) (k : ℕ) → length done ≡ suc k → LastOf done k
last-of [] k long = absurd (none k long)
  where
    none : (k : ℕ) → 0 ≡ suc k → ⊥
    none k e = omega (arith, e)
last-of (r ∷ []) k long = record { asked = []; role = r; is = refl; long = let e : 1 ≡ suc k = long in omega (arith, e) }
last-of (r ∷ q ∷ done) zero long = let e : suc (suc (length done)) ≡ 1 = long in absurd (omega (arith, e))
last-of (r ∷ q ∷ done) (suc k) long =
    let e : suc (suc (length done)) ≡ suc (suc k) = long in
    let further = last-of (q ∷ done) k (let f : suc (length done) ≡ suc k = omega (arith, e) in f) in
    record { asked = r ∷ further.asked; role = further.role; is = ap (λ z. r ∷ z) further.is; long = ap suc further.long }

all-front : {A : Type 0} (P : A → Type 0) (xs : List A) (y : A) → AllByRecursion P (xs ++ y ∷ []) → AllByRecursion P xs × P y
all-front P [] y all = (tt, all.0)
all-front P (x ∷ xs) y all = let both = all-front P xs y all.1 in ((all.0, both.0), both.1)

get-mid : (asked : List Role) (role : Role) (rest : List Role) → slice_get (map seat_of ((asked ++ role ∷ []) ++ rest)) (length asked)
    ≡ Some (seat_of role)
get-mid [] role rest = refl
get-mid (d ∷ asked) role rest = get-mid asked role rest

same-seat : (a b : Seat) → Some a ≡ Some b → a ≡ b
same-seat a b e = cc

outside-by : (s : DriveSetting) (runner : Running) (plants : List PlantView) (seats : List Seat) (d : Driven) (gone : List Gone) (k column : ℕ) (number : ℤ)
    (done rest : List Role) (seat : Seat) → LastOf done k → HasStopped s (left_with runner plants d gone) done rest →
    seats ≡ map seat_of (done ++ rest) → slice_get seats k ≡ Some seat → FrontFits (columns_in s) k seats →
    IsFirstOutside (columns_in s) (length (seat_numbers (take k seats))) seat.columns column number →
    HasGivenOutside s (left_with runner plants d gone) column number
outside-by s runner plants seats d gone k column number done rest seat l stops are seat_is front outside =
    let n : ℕ = length d.ins in
    let outs : List (List ℤ) = d.trace.rows in
    let parts = all-front (Plays outs outs (suc n)) l.asked l.role (subst (AllByRecursion (Plays outs outs (suc n))) l.is stops.earlier) in
    let regroup : seats ≡ map seat_of (l.asked ++ l.role ∷ rest) =
    are ∙ ap (λ z. map seat_of (z ++ rest)) l.is ∙ ap (map seat_of) (append_assoc l.asked (l.role ∷ []) rest) in
    let seat_same : seat ≡ seat_of l.role =
    same-seat seat (seat_of l.role)
    (sym seat_is ∙ ap (slice_get seats) (sym l.long) ∙ ap (λ z. slice_get z (length l.asked)) (are ∙ ap (λ z. map seat_of (z ++ rest)) l.is)
    ∙ get-mid l.asked l.role rest) in
    let numbers : seat_numbers (take k seats) ≡ inputs_at n l.asked = first-numbers l.asked (l.role ∷ rest) outs n k seats l.long regroup parts.0 in
    let own : (seat_of l.role).columns ≡ numbers_at n l.role =
    sym (append-none (seat_of l.role).columns) ∙ numbers-at (l.role ∷ []) outs outs n (parts.1, tt) ∙ append-none (numbers_at n l.role) in
    let stops-so : HasStopped s (left_with runner plants d gone) (l.asked ++ l.role ∷ []) rest =
    subst (λ z. HasStopped s (left_with runner plants d gone) z rest) l.is stops in
    let first-outside : IsFirstOutside (columns_in s) (length (inputs_at n l.asked)) (numbers_at n l.role) column number =
    subst (λ z. IsFirstOutside (columns_in s) (length (inputs_at n l.asked)) z column number) (ap (λ (x : Seat). x.columns) seat_same ∙ own)
    (subst (λ z. IsFirstOutside (columns_in s) (length z) seat.columns column number) numbers outside) in
    record {
      asked = l.asked;
      role = l.role;
      others = rest;
      stopped = stops-so;
      there =
          split l.role.part.gone
          (λ over.
          absurd (none-outside (columns_in s) d.ins outs l.asked l.role rest column number n refl stops-so.driven.fit stops-so.driven.ins parts.0 parts.1
          over first-outside))
          (λ stays. stays);
      fit = subst (λ z. in_ranges (types_of (take (length z) (columns_in s))) z ≡ true) numbers front;
      outside = first-outside;
    }
  where
    append-none : (xs : List ℤ) → xs ++ [] ≡ xs
    append-none [] = refl
    append-none (x ∷ xs) = ap (λ z. x ∷ z) (append-none xs)

is-outside : (s : DriveSetting) (runner : Running) (plants : List PlantView) (seats : List Seat) (d : Driven) (gone : List Gone) (column : ℕ) (number : ℤ) →
    RunsOn s runner d → length d.ins < s.ticks → IsOutsideIn (scene_of s d) (columns_in s) plants seats gone column number →
    HasGivenOutside s (left_with runner plants d gone) column number
is-outside s runner plants seats d gone column number runs within o =
    let st = o.stands in
    outside-by s runner plants seats d gone o.k column number st.done st.rest o.seat (last-of st.done o.k st.asked)
    (stopped s runner plants seats d gone (suc o.k) runs within st) st.seats_are o.seat_is o.front o.outside

-- a round that ends with a fault ends the drive
pub round-stops : (s : DriveSetting) (runner : Running) (plants : List PlantView) (seats : List Seat) (d : Driven) (gone : List Gone) (e : DriveFault) →
    RunsOn s runner d → length d.ins < s.ticks → RoundEnds (scene_of s d) (columns_in s) plants seats gone (Err e) →
    DriveEnds s (left_with runner plants d gone) (Err e)
round-stops s runner plants seats d gone (fault.Failed name) runs within ends = has-failed s runner plants seats d gone name.number runs within ends
round-stops s runner plants seats d gone (fault.Range column number) runs within ends =
    is-outside s runner plants seats d gone column number runs within ends
round-stops s runner plants seats d gone (fault.Absent name) runs within ends = absurd ends
round-stops s runner plants seats d gone (fault.Twice name) runs within ends = absurd ends
round-stops s runner plants seats d gone (fault.Width given wanted) runs within ends = absurd ends
round-stops s runner plants seats d gone fault.NoMemory runs within ends =
    short-asking s ends.k runner plants seats d gone runs (let low = within in omega (arith, low)) ends.stands
