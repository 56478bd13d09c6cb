-- Lists of which one element is set, and those elements that are flagged.
use Rattle.std.proofs.Common.{◌≡◌, ◌≢◌, ℕ, zero, suc, ◌+◌, ◌<◌, ◌≤◌, Bool, true, false, cond, List, [], ◌∷◌, ◌++◌, map, filter, take, drop, length, get_or}
use Rattle.std.proofs.Common.{refl, sym, ap, ◌∙◌, arith}
use Rattle.std.specs.Prelude.{Some, None, option_map, slice_get, slice_set}
use Rattle.std.proofs.lemmas.Option.{slice_get-get_or}
use Rattle.bl_tree.proofs.Basics.{drop_at, drop_past}
use Rattle.bl_ctree_enabled.specs.Listing.{flagged, list_at, trues}

-- ---- one element is set

pub set_map : {A B : Type 0} (f : A → B) (xs : List A) (k : ℕ) (x : A) → map f (slice_set xs k x) ≡ slice_set (map f xs) k (f x)
set_map f [] k x = refl
set_map f (y ∷ xs) zero x = refl
set_map f (y ∷ xs) (suc k) x = ap (λ rest. f y ∷ rest) (set_map f xs k x)

pub set_twice : {A : Type 0} (xs : List A) (k : ℕ) (x y : A) → slice_set (slice_set xs k x) k y ≡ slice_set xs k y
set_twice [] k x y = refl
set_twice (z ∷ xs) zero x y = refl
set_twice (z ∷ xs) (suc k) x y = ap (λ rest. z ∷ rest) (set_twice xs k x y)

pub map_get : {A B : Type 0} (f : A → B) (xs : List A) (k : ℕ) → slice_get (map f xs) k ≡ option_map f (slice_get xs k)
map_get f [] k = refl
map_get f (x ∷ xs) zero = refl
map_get f (x ∷ xs) (suc k) = map_get f xs k

pub set_other : {A : Type 0} (xs : List A) (k j : ℕ) (x : A) → j ≢ k → slice_get (slice_set xs k x) j ≡ slice_get xs j
set_other [] k j x other = refl
set_other (y ∷ xs) zero zero x other = absurd (other refl)
set_other (y ∷ xs) zero (suc j) x other = refl
set_other (y ∷ xs) (suc k) zero x other = refl
set_other (y ∷ xs) (suc k) (suc j) x other = set_other xs k j x (λ same. other (ap suc same))

pub set_here : {A : Type 0} (xs : List A) (k : ℕ) (x : A) → k < length xs → slice_get (slice_set xs k x) k ≡ Some x
set_here [] k x within = absurd (omega (arith, within))
set_here (y ∷ xs) zero x within = refl
set_here (y ∷ xs) (suc k) x within = set_here xs k x (omega (arith, within))

pub get_here : {A : Type 0} (xs : List A) (k : ℕ) (x : A) → k < length xs → x ≡ get_or xs k x → slice_get xs k ≡ Some x
get_here [] k x within is = absurd (omega arith)
get_here (y ∷ xs) zero x within is = ap Some (sym is)
get_here (y ∷ xs) (suc k) x within is = get_here xs k x (omega arith) is

-- the first elements of one list and the others of another, of which one more is taken from the first list
pub mixed_more : {A : Type 0} (xs ys : List A) (k : ℕ) (x : A) → length ys ≡ length xs → slice_get xs k ≡ Some x
    → slice_set (take k xs ++ drop k ys) k x ≡ take (suc k) xs ++ drop (suc k) ys
mixed_more [] ys k x many is = absurd cc
mixed_more (y ∷ xs) [] k x many is = absurd (omega arith)
mixed_more (y ∷ xs) (z ∷ ys) zero x many is =
    let same : y ≡ x = cc in ap (λ v. v ∷ ys) (sym same) ∙ ap (λ rest. y ∷ rest) (whole ys)
  where
    whole : {A : Type 0} (ys : List A) → ys ≡ drop 0 ys
    whole [] = refl
    whole (y ∷ ys) = refl
mixed_more (y ∷ xs) (z ∷ ys) (suc k) x many is = ap (λ rest. y ∷ rest) (mixed_more xs ys k x (omega (arith, many)) is)

-- the same where both have one element there
pub mixed_same : {A : Type 0} (xs ys : List A) (k : ℕ) (x : A) → slice_get xs k ≡ Some x → slice_get ys k ≡ Some x
    → take k xs ++ drop k ys ≡ take (suc k) xs ++ drop (suc k) ys
mixed_same [] ys k x here there = absurd cc
mixed_same (y ∷ xs) [] k x here there = absurd cc
mixed_same (y ∷ xs) (z ∷ ys) zero x here there =
    let first : y ≡ x = cc in let second : z ≡ x = cc in ap (λ v. v ∷ ys) (second ∙ sym first) ∙ ap (λ rest. y ∷ rest) (whole ys)
  where
    whole : {A : Type 0} (ys : List A) → ys ≡ drop 0 ys
    whole [] = refl
    whole (y ∷ ys) = refl
mixed_same (y ∷ xs) (z ∷ ys) (suc k) x here there = ap (λ rest. y ∷ rest) (mixed_same xs ys k x here there)

pub mixed_many : {A : Type 0} (xs ys : List A) (k : ℕ) → length ys ≡ length xs → length (take k xs ++ drop k ys) ≡ length xs
mixed_many [] [] zero many = refl
mixed_many [] [] (suc k) many = refl
mixed_many [] (y ∷ ys) k many = absurd (omega (arith, many))
mixed_many (x ∷ xs) [] k many = absurd (omega (arith, many))
mixed_many (x ∷ xs) (y ∷ ys) zero many = many
mixed_many (x ∷ xs) (y ∷ ys) (suc k) many = ap suc (mixed_many xs ys k (omega (arith, many)))

pub mixed_end : {A : Type 0} (xs ys : List A) (k : ℕ) → length ys ≡ length xs → length xs ≤ k → take k xs ++ drop k ys ≡ xs
mixed_end [] [] zero many past = refl
mixed_end [] [] (suc k) many past = refl
mixed_end [] (y ∷ ys) k many past = absurd (omega (arith, many))
mixed_end (x ∷ xs) [] k many past = absurd (omega (arith, many))
mixed_end (x ∷ xs) (y ∷ ys) zero many past = absurd (omega arith)
mixed_end (x ∷ xs) (y ∷ ys) (suc k) many past = ap (λ rest. x ∷ rest) (mixed_end xs ys k (omega (arith, many)) (omega arith))

-- ---- those that are flagged

pub flagged_count : {A : Type 0} (p : A → Bool) (xs : List A) → length (flagged (map p xs) xs) ≡ trues (map p xs)
flagged_count p [] = refl
flagged_count p (x ∷ xs) = by (p x) (flagged_count p xs)
  where
    by : (b : Bool) → length (flagged (map p xs) xs) ≡ trues (map p xs) → length (flagged (b ∷ map p xs) (x ∷ xs)) ≡ trues (b ∷ map p xs)
    by true rest = ap suc rest
    by false rest = rest

pub flagged_filter : {A : Type 0} (p : A → Bool) (xs : List A) → flagged (map p xs) xs ≡ filter p xs
flagged_filter p [] = refl
flagged_filter p (x ∷ xs) = by (p x) (flagged_filter p xs)
  where
    by : (b : Bool) → flagged (map p xs) xs ≡ filter p xs → flagged (b ∷ map p xs) (x ∷ xs) ≡ cond b (x ∷ filter p xs) (filter p xs)
    by true rest = ap (λ rest. x ∷ rest) rest
    by false rest = rest

pub get_behind : {A : Type 0} (xs ys : List A) (n m : ℕ) → n ≡ length xs + m → slice_get (xs ++ ys) n ≡ slice_get ys m
get_behind [] ys n m is = let same : n ≡ m = omega (arith, is) in ap (slice_get ys) same
get_behind (x ∷ xs) ys zero m is = absurd (omega (arith, is))
get_behind (x ∷ xs) ys (suc n) m is = get_behind xs ys n m (omega (arith, is))

-- one more flag that is true or false
pub flagged_here : {A : Type 0} (bs : List Bool) (xs : List A) (k n m : ℕ) (x : A) → slice_get bs k ≡ Some true → slice_get xs k ≡ Some x →
    n ≡ suc m
    → slice_get (flagged (drop k bs) (drop k xs)) n ≡ slice_get (flagged (drop (suc k) bs) (drop (suc k) xs)) m
flagged_here bs xs k n m x flag here is =
    (λ i. slice_get (flagged (drop_at bs k true flag i) (drop_at xs k x here i)) (is i))

pub flagged_first : {A : Type 0} (bs : List Bool) (xs : List A) (k : ℕ) (x : A) → slice_get bs k ≡ Some true → slice_get xs k ≡ Some x
    → slice_get (flagged (drop k bs) (drop k xs)) 0 ≡ Some x
flagged_first bs xs k x flag here = λ i. slice_get (flagged (drop_at bs k true flag i) (drop_at xs k x here i)) 0

pub flagged_not : {A : Type 0} (bs : List Bool) (xs : List A) (k : ℕ) (x : A) → slice_get bs k ≡ Some false → slice_get xs k ≡ Some x
    → flagged (drop k bs) (drop k xs) ≡ flagged (drop (suc k) bs) (drop (suc k) xs)
flagged_not bs xs k x flag here = λ i. flagged (drop_at bs k false flag i) (drop_at xs k x here i)

-- ---- one element is read

pub flag_here : (bs : List Bool) (k : ℕ) (b d : Bool) → k < length bs → get_or bs k d ≡ b → slice_get bs k ≡ Some b
flag_here bs k b d within is = slice_get-get_or bs k d within ∙ ap Some is

pub map_here : {A B : Type 0} (f : A → B) (xs : List A) (k : ℕ) (x : A) → k < length xs → x ≡ get_or xs k x → slice_get (map f xs) k ≡ Some (f x)
map_here f xs k x within is = map_get f xs k ∙ ap (option_map f) (get_here xs k x within is)

pub set_read : {A : Type 0} (xs : List A) (k : ℕ) (x d : A) → k < length xs → get_or (slice_set xs k x) k d ≡ x
set_read [] k x d within = absurd (omega arith)
set_read (y ∷ xs) zero x d within = refl
set_read (y ∷ xs) (suc k) x d within = set_read xs k x d (omega arith)

-- ---- the flagged one that is looked for

-- it stands behind one that is flagged
pub flag_passed : {A : Type 0} (bs : List Bool) (xs : List A) (k n m : ℕ) → slice_get bs k ≡ Some true → k < length xs → n ≡ suc m
    → slice_get (flagged (drop k bs) (drop k xs)) n ≡ slice_get (flagged (drop (suc k) bs) (drop (suc k) xs)) m
flag_passed [] xs k n m is within more = absurd cc
flag_passed (b ∷ bs) [] k n m is within more = absurd (omega arith)
flag_passed (b ∷ bs) (x ∷ xs) zero n m is within more = flagged_here (b ∷ bs) (x ∷ xs) zero n m x is refl more
flag_passed (b ∷ bs) (x ∷ xs) (suc k) n m is within more = flag_passed bs xs k n m is (omega arith) more

-- it stands behind one that is not
pub flag_skipped : {A : Type 0} (bs : List Bool) (xs : List A) (k : ℕ) → slice_get bs k ≡ Some false → k < length xs
    → flagged (drop k bs) (drop k xs) ≡ flagged (drop (suc k) bs) (drop (suc k) xs)
flag_skipped [] xs k is within = absurd cc
flag_skipped (b ∷ bs) [] k is within = absurd (omega arith)
flag_skipped (b ∷ bs) (x ∷ xs) zero is within = flagged_not (b ∷ bs) (x ∷ xs) zero x is refl
flag_skipped (b ∷ bs) (x ∷ xs) (suc k) is within = flag_skipped bs xs k is (omega arith)

none_flagged : {A : Type 0} (bs : List Bool) → flagged {A = A} bs [] ≡ []
none_flagged [] = refl
none_flagged (b ∷ bs) = refl

pub flagged_past : {A : Type 0} (bs : List Bool) (xs : List A) (k : ℕ) → length xs ≤ k → flagged (drop k bs) (drop k xs) ≡ []
flagged_past bs xs k past = ap (flagged (drop k bs)) (drop_past xs k past) ∙ none_flagged (drop k bs)

-- ---- the list with a number

pub list_past : {A : Type 0} (lists : List (List A)) (k : ℕ) → length lists ≤ k → list_at lists k ≡ []
list_past [] k past = refl
list_past (xs ∷ lists) zero past = absurd (omega arith)
list_past (xs ∷ lists) (suc k) past = list_past lists k (omega arith)

pub list_here : {A : Type 0} (lists : List (List A)) (k : ℕ) (x : List A) → k < length lists → x ≡ get_or lists k x → list_at lists k ≡ x
list_here [] k x within is = absurd (omega arith)
list_here (xs ∷ lists) zero x within is = sym is
list_here (xs ∷ lists) (suc k) x within is = list_here lists k x (omega arith) is

pub list_map : {A B : Type 0} (f : A → B) (lists : List (List A)) (k : ℕ) → list_at (map (map f) lists) k ≡ map f (list_at lists k)
list_map f [] k = refl
list_map f (xs ∷ lists) zero = refl
list_map f (xs ∷ lists) (suc k) = list_map f lists k

pub list_get : {A : Type 0} (lists : List (List A)) (k : ℕ) → k < length lists → slice_get lists k ≡ Some (list_at lists k)
list_get [] k within = absurd (omega arith)
list_get (xs ∷ lists) zero within = refl
list_get (xs ∷ lists) (suc k) within = list_get lists k (omega arith)

pub none_behind_lists : {A : Type 0} (fs : List (List Bool)) (ms : List (List A)) (k n : ℕ) → length ms ≤ k →
    None ≡ slice_get (flagged (list_at fs k) (list_at ms k)) n
none_behind_lists fs ms k n past =
    sym (ap (λ m. slice_get (flagged (list_at fs k) m) n) (list_past ms k past) ∙ ap (λ spots. slice_get spots n) (none_flagged (list_at fs k)))

pub none_behind_flags : {A : Type 0} (fs : List (List Bool)) (ms : List (List A)) (k n : ℕ) → length fs ≤ k →
    None ≡ slice_get (flagged (list_at fs k) (list_at ms k)) n
none_behind_flags fs ms k n past = sym (ap (λ f. slice_get (flagged f (list_at ms k)) n) (list_past fs k past))
