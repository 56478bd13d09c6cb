-- Numbers in the ranges of their inputs, and how many numbers the seats have.
use Rattle.std.proofs.Common.{◌≡◌, ℕ, zero, suc, ◌+◌, ◌<◌, ◌≤◌, ℤ, pos, true, ◌&&◌, List, [], ◌∷◌, ◌++◌}
use Rattle.std.proofs.Common.{length, map, get_or, take, drop, replicate, Some, refl, ap, sym, ◌∙◌, arith, length-append, take-suc}
use Rattle.std.specs.List.{AllByRecursion, slice_get}
use Rattle.std.proofs.lemmas.Grind.{flat_map-append}
use Rattle.std.proofs.lemmas.List.{append-nil, length-replicate}
use Rattle.std.proofs.lemmas.Bool.{and_from}
use Rattle.bl_tree.proofs.Basics.{and_first, and_second, same_some}
use Rattle.bl_plant.specs.Plants.{PlantView}
use Rattle.bl_plant_drive.specs.Drives.{plant_width, widths_of}
use Rattle.bl_plant_drive.specs.Roles.{Plays, Role, first_named}
use Rattle.bl_plant_drive.specs.declared.driven.Gone.{Gone}
use Rattle.bl_plant_drive.specs.declared.seat.Seat.{Seat}
use Rattle.bl_plant_drive.specs.inner.Round.{FrontFits, seat_numbers}
use Rattle.bl_plant_drive.specs.inner.Stands.{AskedSoFar, Scene, seat_of}
use Rattle.bl_tree.specs.declared.row.Column.{Column}
use Rattle.bl_tree.specs.Ports.{in_ranges, types_of}
use Rattle.bl_tree.specs.Scalar.{in_range}
use Rattle.bl_plant_drive.proofs.Outside.{last-wide}

-- one more number is in its range
pub ranges-more : (k : ℕ) (inputs : List Column) (numbers : List ℤ) (c : Column) (n : ℤ) → slice_get inputs k ≡ Some c →
    slice_get numbers k ≡ Some n → in_range c.ty n ≡ true → in_ranges (types_of (take k inputs)) (take k numbers) ≡ true →
    in_ranges (types_of (take (suc k) inputs)) (take (suc k) numbers) ≡ true
ranges-more k [] numbers c n input number holds before = cc
ranges-more k (d ∷ inputs) [] c n input number holds before = cc
ranges-more zero (d ∷ inputs) (m ∷ numbers) c n input number holds before =
    and_from (in_range d.ty m) true
    (ap (λ (x : Column). in_range x.ty m) (same_some d c input) ∙ ap (in_range c.ty) (same_some m n number) ∙ holds) refl
ranges-more (suc k) (d ∷ inputs) (m ∷ numbers) c n input number holds before =
    and_from (in_range d.ty m) (in_ranges (types_of (take (suc k) inputs)) (take (suc k) numbers))
    (and_first (in_range d.ty m) (in_ranges (types_of (take k inputs)) (take k numbers)) before)
    (ranges-more k inputs numbers c n input number holds
    (and_second (in_range d.ty m) (in_ranges (types_of (take k inputs)) (take k numbers)) before))

pub get-drop : {A : Type 0} (first k : ℕ) (xs : List A) → slice_get (drop first xs) k ≡ slice_get xs (first + k)
get-drop zero k xs = ap (slice_get xs) (omega arith)
get-drop (suc first) k [] = refl
get-drop (suc first) k (x ∷ xs) =
    get-drop first k xs ∙ sym (ap (slice_get (x ∷ xs)) (let e : suc first + k ≡ suc (first + k) = omega arith in e))

-- numbers in the ranges of the first inputs, and further ones in those of the next
pub ranges-both : (inputs : List Column) (xs ys : List ℤ) (b : ℕ) → in_ranges (types_of (take (length xs) inputs)) xs ≡ true →
    in_ranges (types_of (take b (drop (length xs) inputs))) ys ≡ true → in_ranges (types_of (take (length xs + b) inputs)) (xs ++ ys) ≡ true
ranges-both inputs [] ys b first then = let e : 0 + b ≡ b = omega arith in ap (λ n. in_ranges (types_of (take n inputs)) ys) e ∙ then
ranges-both [] (x ∷ xs) ys b first then = cc
ranges-both (c ∷ inputs) (x ∷ xs) ys b first then =
    let e : suc (length xs) + b ≡ suc (length xs + b) = omega arith in
    ap (λ n. in_ranges (types_of (take n (c ∷ inputs))) (x ∷ (xs ++ ys))) e
    ∙ and_from (in_range c.ty x) (in_ranges (types_of (take (length xs + b) inputs)) (xs ++ ys))
    (and_first (in_range c.ty x) (in_ranges (types_of (take (length xs) inputs)) xs) first)
    (ranges-both inputs xs ys b (and_second (in_range c.ty x) (in_ranges (types_of (take (length xs) inputs)) xs) first) then)

-- ---- the numbers of seats

pub numbers-more : (seats : List Seat) (k : ℕ) (seat : Seat) → k < length seats → seat ≡ get_or seats k seat →
    seat_numbers (take (suc k) seats) ≡ seat_numbers (take k seats) ++ seat.columns
numbers-more seats k seat low is =
    ap seat_numbers (take-suc seats k seat low ∙ ap (λ x. take k seats ++ x ∷ []) (sym is))
    ∙ flat_map-append (λ (x : Seat). x.columns) (take k seats) (seat ∷ [])
    ∙ ap (λ z. seat_numbers (take k seats) ++ z) (append-nil seat.columns)

-- one more seat's numbers are in the ranges of their inputs
pub front-more : (inputs : List Column) (seats : List Seat) (k : ℕ) (seat : Seat) → k < length seats → seat ≡ get_or seats k seat →
    FrontFits inputs k seats →
    in_ranges (types_of (take (length seat.columns) (drop (length (seat_numbers (take k seats))) inputs))) seat.columns ≡ true →
    FrontFits inputs (suc k) seats
front-more inputs seats k seat low is before now =
    let e = numbers-more seats k seat low is in
    ap (λ z. in_ranges (types_of (take (length z) inputs)) z) e
    ∙ ap (λ n. in_ranges (types_of (take n inputs)) (seat_numbers (take k seats) ++ seat.columns)) (length-append (seat_numbers (take k seats)) seat.columns)
    ∙ ranges-both inputs (seat_numbers (take k seats)) seat.columns (length seat.columns) before now

-- the seats before one stay
pub front-kept : (inputs : List Column) (k : ℕ) (seats now : List Seat) → take k now ≡ take k seats → FrontFits inputs k seats →
    FrontFits inputs k now
front-kept inputs k seats now same fit = ap (λ z. in_ranges (types_of (take (length (seat_numbers z)) inputs)) (seat_numbers z)) same ∙ fit

-- ---- how many numbers seats have

abbrev IsWide : Role → Type 0
IsWide r = AllByRecursion (λ row. length row ≡ r.plant.width) r.part.given

all-wide : (outs told : List (List ℤ)) (a b : ℕ) (done rest : List Role) → AllByRecursion (Plays outs told a) done →
    AllByRecursion (Plays outs told b) rest → AllByRecursion IsWide (done ++ rest)
all-wide outs told a b [] [] earlier later = later
all-wide outs told a b [] (r ∷ rest) earlier later = (later.0.widths, all-wide outs told a b [] rest earlier later.1)
all-wide outs told a b (d ∷ done) rest earlier later = (earlier.0.widths, all-wide outs told a b done rest earlier.1 later)

cast-wide : (plants : List PlantView) (cast : List Role) → AllByRecursion (λ (r : Role). first_named r.plant.name plants ≡ Some r.plant) cast →
    AllByRecursion IsWide cast → length (seat_numbers (map seat_of cast)) ≡ widths_of plants (map (λ (r : Role). r.plant.name) cast)
cast-wide plants [] meant wide = refl
cast-wide plants (r ∷ cast) meant wide =
    length-append (seat_of r).columns (seat_numbers (map seat_of cast))
    ∙ ap (λ n. n + length (seat_numbers (map seat_of cast)))
    (last-wide r.plant.width (replicate r.plant.width (pos 0)) r.part.given (length-replicate r.plant.width (pos 0)) wide.0
    ∙ sym (ap plant_width meant.0))
    ∙ ap (λ n. plant_width (first_named r.plant.name plants) + n) (cast-wide plants cast meant.1 wide.1)

pub wide-by : (s : Scene) (k : ℕ) (plants : List PlantView) (seats : List Seat) (gone : List Gone) → AskedSoFar s k plants seats gone →
    length (seat_numbers seats) ≡ widths_of s.plants s.names
wide-by s k plants seats gone st =
    ap (λ z. length (seat_numbers z)) st.seats_are
    ∙ cast-wide s.plants (st.done ++ st.rest) st.cast.meant
    (all-wide s.outs s.outs (suc (length s.ins)) (length s.ins) st.done st.rest st.earlier st.later)
    ∙ ap (widths_of s.plants) st.cast.named

-- it stays while plants are asked
pub wide-kept : (s : Scene) (j k : ℕ) (plants now : List PlantView) (seats next : List Seat) (gone later : List Gone) →
    AskedSoFar s j plants seats gone → AskedSoFar s k now next later → length (seat_numbers next) ≡ length (seat_numbers seats)
wide-kept s j k plants now seats next gone later before st = wide-by s k now next later st ∙ sym (wide-by s j plants seats gone before)
