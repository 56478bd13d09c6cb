-- A row that is filled with the numbers of seats.
use Rattle.std.proofs.Common.{◌≡◌, ℕ, zero, suc, ◌+◌, ◌<◌, ◌≤◌, ℤ, List, [], ◌∷◌, ◌++◌, length, take, drop, set, get_or, Some}
use Rattle.std.proofs.Common.{refl, ap, sym, ◌∙◌, append_assoc, arith, add-one, length-append, take-suc, take_all, drop-cons}
use Rattle.std.specs.List.{slice_get}
use Rattle.std.proofs.Math.Seq.{drop-append-add, set-append_seam, take-append_seam}
use Rattle.std.proofs.lemmas.List.{length-take-le}
use Rattle.std.proofs.lemmas.Option.{get_or_from_slice_get}
use Rattle.std.proofs.lemmas.List.Folds.{length-flat_map-take}
use Rattle.bl_plant_drive.specs.declared.seat.Seat.{Seat}
use Rattle.bl_plant_drive.specs.inner.Round.{seat_numbers}
use Rattle.bl_plant_drive.proofs.Ranges.{numbers-more}

-- the first numbers of a row, then so many of these, and the rest of the row
abbrev pub written : ℕ → List ℤ → List ℤ → List ℤ
written first numbers row = take first row ++ (numbers ++ drop (first + length numbers) row)

-- nothing was written yet
pub written-none : (first : ℕ) (numbers row : List ℤ) → row ≡ written first (take 0 numbers) row
written-none first numbers row =
    sym (take-drop first row) ∙ ap (λ n. take first row ++ drop n row) (let e : first ≡ first + 0 = omega arith in e)
  where
    take-drop : (n : ℕ) (xs : List ℤ) → take n xs ++ drop n xs ≡ xs
    take-drop zero xs = refl
    take-drop (suc n) [] = refl
    take-drop (suc n) (x ∷ xs) = ap (λ z. x ∷ z) (take-drop n xs)

-- one more number is written
pub written-more : (first k : ℕ) (numbers row now : List ℤ) (n : ℤ) → first + length numbers ≤ length row → k < length numbers →
    slice_get numbers k ≡ Some n → now ≡ written first (take k numbers) row → set now (first + k) n ≡ written first (take (k + 1) numbers) row
written-more first k numbers row now n wide low is are =
    let long : length (take k numbers) ≡ k = length-take-le k numbers (let l = low in omega (arith, l)) in
    let front : length (take first row) ≡ first = length-take-le first row (let w = wide in omega (arith, w)) in
    let place : first + k ≡ length (take first row ++ take k numbers) = sym (length-append (take first row) (take k numbers) ∙ both front long) in
    let within : first + k < length row = omega (arith, wide, low) in
    ap (λ z. set z (first + k) n) (are ∙ ap (λ m. take first row ++ (take k numbers ++ drop (first + m) row)) long
    ∙ sym (append_assoc (take first row) (take k numbers) (drop (first + k) row))
    ∙ ap (λ z. (take first row ++ take k numbers) ++ z) (drop-cons row (first + k) n within))
    ∙ ap (λ m. set ((take first row ++ take k numbers) ++ get_or row (first + k) n ∷ drop (suc (first + k)) row) m n) place
    ∙ set-append_seam (take first row ++ take k numbers) (get_or row (first + k) n) (drop (suc (first + k)) row) n
    ∙ append_assoc (take first row) (take k numbers) (n ∷ drop (suc (first + k)) row)
    ∙ ap (λ z. take first row ++ z)
    (sym (append_assoc (take k numbers) (n ∷ []) (drop (suc (first + k)) row))
    ∙ ap (λ z. z ++ drop (suc (first + k)) row)
    (ap (λ z. take k numbers ++ z ∷ []) (sym (get_or_from_slice_get numbers k n n is)) ∙ sym (take-suc numbers k n low))
    ∙ ap (λ m. take (suc k) numbers ++ drop m row)
    (let l : length (take (suc k) numbers) ≡ suc k = length-take-le (suc k) numbers (let l = low in omega (arith, l)) in
    let e : suc (first + k) ≡ first + length (take (suc k) numbers) = omega (arith, l) in e)
    ∙ ap (λ m. take m numbers ++ drop (first + length (take m numbers)) row) (sym (add-one k)))
  where
    both : {a b : ℕ} → length (take first row) ≡ a → length (take k numbers) ≡ b → length (take first row) + length (take k numbers) ≡ a + b
    both e f = omega (arith, e, f)

-- all are written
pub written-all : (first k : ℕ) (numbers row now : List ℤ) → length numbers ≤ k → now ≡ written first (take k numbers) row →
    now ≡ written first numbers row
written-all first k numbers row now past are = are ∙ ap (λ z. written first z row) (take_all k numbers past)

-- ---- seats

-- the numbers of the first seats, and the rest of a row
abbrev pub filled : ℕ → List Seat → List ℤ → List ℤ
filled k seats row = seat_numbers (take k seats) ++ drop (length (seat_numbers (take k seats))) row

drop-none : (n : ℕ) → drop {A = ℤ} n [] ≡ []
drop-none zero = refl
drop-none (suc n) = refl

drop-twice : (a b : ℕ) (xs : List ℤ) → drop b (drop a xs) ≡ drop (a + b) xs
drop-twice zero b xs = let e : b ≡ 0 + b = omega arith in ap (λ n. drop n xs) e
drop-twice (suc a) b [] = drop-none b ∙ sym (drop-none (suc a + b))
drop-twice (suc a) b (x ∷ xs) = drop-twice a b xs ∙ sym (ap (λ n. drop n (x ∷ xs)) (let e : suc a + b ≡ suc (a + b) = omega arith in e))

-- the numbers of one more seat
pub filled-more : (k first : ℕ) (seats : List Seat) (row now : List ℤ) (seat again : Seat) → k < length seats → seat ≡ get_or seats k seat →
    again ≡ seat → first ≡ length (seat_numbers (take k seats)) → now ≡ filled k seats row →
    (written first seat.columns now ≡ filled (k + 1) seats row) × (first + length again.columns ≡ length (seat_numbers (take (k + 1) seats)))
filled-more k first seats row now seat again low is same at are =
    let front : List ℤ = seat_numbers (take k seats) in
    let more : seat_numbers (take (k + 1) seats) ≡ front ++ seat.columns =
    ap (λ m. seat_numbers (take m seats)) (add-one k) ∙ numbers-more seats k seat low is in
    let ends : length (seat_numbers (take (k + 1) seats)) ≡ length front + length seat.columns = ap length more ∙ length-append front seat.columns in (
      ap (λ z. take first z ++ (seat.columns ++ drop (first + length seat.columns) z)) are
          ∙ ap (λ m. take m (front ++ drop (length front) row) ++ (seat.columns ++ drop (m + length seat.columns) (front ++ drop (length front) row))) at
          ∙ ap (λ z. z ++ (seat.columns ++ drop (length front + length seat.columns) (front ++ drop (length front) row)))
          (take-append_seam front (drop (length front) row))
          ∙ ap (λ z. front ++ (seat.columns ++ z))
          (drop-append-add front (drop (length front) row) (length seat.columns) ∙ drop-twice (length front) (length seat.columns) row)
          ∙ sym (append_assoc front seat.columns (drop (length front + length seat.columns) row))
          ∙ ap (λ z. z ++ drop (length front + length seat.columns) row) (sym more)
          ∙ ap (λ m. seat_numbers (take (k + 1) seats) ++ drop m row) (sym ends),
      ap (λ m. m + length again.columns) at ∙ ap (λ (x : Seat). length front + length x.columns) same ∙ sym ends,
    )

rest-of : (n : ℕ) (xs : List ℤ) → n ≤ length xs → n + length (drop n xs) ≡ length xs
rest-of zero xs low = omega arith
rest-of (suc n) [] low = let l : suc n ≤ 0 = low in absurd (omega (arith, l))
rest-of (suc n) (x ∷ xs) low =
    let l : suc n ≤ suc (length xs) = low in
    let e = rest-of n xs (omega (arith, l)) in
    let f : suc n + length (drop n xs) ≡ suc (length xs) = omega (arith, e) in f

-- the row keeps its length
pub filled-long : (k : ℕ) (seats : List Seat) (row now : List ℤ) (seat : Seat) → k < length seats → length (seat_numbers seats) ≡ length row →
    now ≡ filled k seats row → length now ≡ length row
filled-long k seats row now seat low wide are =
    let front : List ℤ = seat_numbers (take k seats) in
    let most : length front + length (get_or seats k seat).columns ≤ length (seat_numbers seats) =
    length-flat_map-take (λ (x : Seat). x.columns) seats k seat low in
    let whole : length now ≡ length front + length (drop (length front) row) = ap length are ∙ length-append front (drop (length front) row) in
    let rest : length front + length (drop (length front) row) ≡ length row = rest-of (length front) row (omega (arith, most, wide)) in
    omega (arith, whole, rest)

-- they fit into the row
pub filled-within : (k first : ℕ) (seats : List Seat) (row now : List ℤ) (seat : Seat) → k < length seats → seat ≡ get_or seats k seat →
    first ≡ length (seat_numbers (take k seats)) → length (seat_numbers seats) ≡ length row → now ≡ filled k seats row →
    first + length seat.columns ≤ length now
filled-within k first seats row now seat low is at wide are =
    let front : List ℤ = seat_numbers (take k seats) in
    let most : length front + length (get_or seats k seat).columns ≤ length (seat_numbers seats) =
    length-flat_map-take (λ (x : Seat). x.columns) seats k seat low in
    let same : length seat.columns ≡ length (get_or seats k seat).columns = ap (λ (x : Seat). length x.columns) is in
    let long = filled-long k seats row now seat low wide are in
    omega (arith, most, same, long, wide, at)
