-- Parts of lists.
use Rattle.std.proofs.Common.{◌≡◌, ℕ, zero, suc, ◌+◌, ◌≤◌, Bool, true, false, ◌||◌, List, [], ◌∷◌}
use Rattle.std.proofs.Common.{◌++◌, map, length, take, drop}
use Rattle.std.proofs.Common.{Some, refl, sym, ap, ap₂, ◌∙◌, arith}
use Rattle.std.specs.List.{list_any, range_with_len}
use Rattle.std.specs.Prelude.{bytes_eq, slice_get}
use Rattle.std.proofs.lemmas.Bool.{and_from}
use Rattle.bl_tree.proofs.Basics.{and_second, neither_first, neither_second}
use Rattle.bl_tree.specs.declared.tree.StructDef.{StructDef}
use Rattle.bl_tree.specs.declared.tree.Var.{Var}
use Rattle.bl_tree.specs.declared.value.Value.{Value}
use Rattle.bl_tree.specs.Ports.{columns_of, in_ranges, types_of}
use Rattle.bl_tree.specs.Program.{names_of}
use Rattle.bl_tree.specs.Words.{are_distinct, is_among}
use Rattle.bl_eval.specs.Values.{value_fits, values_fit}
use Rattle.bl_emit_spec_laws_files.proofs.OnFiles.Inputs.{Differs, first_differs, rest_distinct}

-- a list, and the first of what is behind it
pub take_past : {A : Type 0} (n m : ℕ) (xs ys : List A) → length xs ≡ n → take (n + m) (xs ++ ys) ≡ xs ++ take m ys
take_past zero m [] ys long = let sum : 0 + m ≡ m = omega arith in ap (λ k. take k ys) sum
take_past zero m (x ∷ xs) ys long = absurd (omega (arith, long))
take_past (suc n) m [] ys long = absurd (omega (arith, long))
take_past (suc n) m (x ∷ xs) ys long =
    let sum : suc n + m ≡ suc (n + m) = omega arith in
    ap (λ k. take k (x ∷ (xs ++ ys))) sum ∙ ap (λ rest. x ∷ rest) (take_past n m xs ys (omega (arith, long)))

pub mapped_take : {A B : Type 0} (f : A → B) (n : ℕ) (xs : List A) → take n (map f xs) ≡ map f (take n xs)
mapped_take f zero xs = refl
mapped_take f (suc n) [] = refl
mapped_take f (suc n) (x ∷ xs) = ap (λ rest. f x ∷ rest) (mapped_take f n xs)

pub mapped_drop : {A B : Type 0} (f : A → B) (n : ℕ) (xs : List A) → drop n (map f xs) ≡ map f (drop n xs)
mapped_drop f zero xs = refl
mapped_drop f (suc n) [] = refl
mapped_drop f (suc n) (x ∷ xs) = mapped_drop f n xs

pub taken_length : {A : Type 0} (n : ℕ) (xs : List A) → n ≤ length xs → length (take n xs) ≡ n
taken_length zero xs less = refl
taken_length (suc n) [] less = absurd (omega (arith, less))
taken_length (suc n) (x ∷ xs) less = ap suc (taken_length n xs (omega (arith, less)))

-- what gives at each position of a list what stands there gives the list
pub seen_from : (f : ℕ → Value) (a : ℕ) (xs : List Value) → ((k : ℕ) (x : Value) → slice_get xs k ≡ Some x → f (a + k) ≡ x) →
    map f (range_with_len a (length xs)) ≡ xs
seen_from f a [] each = refl
seen_from f a (x ∷ xs) each =
    let first : a ≡ a + 0 = omega arith in
    ap₂ (λ y ys. y ∷ ys) (ap f first ∙ each 0 x refl)
    (seen_from f (a + 1) xs (λ k y there. (let sum : (a + 1) + k ≡ a + suc k = omega arith in ap f sum ∙ each (suc k) y there)))

-- ---- values of variables

pub fit_many : (structs : List StructDef) (vars : List Var) (values : List Value) → values_fit structs vars values ≡ true →
    length values ≡ length vars
fit_many structs [] [] fit = refl
fit_many structs [] (value ∷ values) fit = absurd (cc)
fit_many structs (var ∷ vars) [] fit = absurd (cc)
fit_many structs (var ∷ vars) (value ∷ values) fit =
    ap suc (fit_many structs vars values (and_second (value_fits structs var.ty value) (values_fit structs vars values) fit))

pub row_many : (vars : List Var) (row : List Rattle.std.specs.Prelude.ℤ) → in_ranges (types_of (columns_of vars)) row ≡ true →
    length row ≡ length vars
row_many [] [] fit = refl
row_many [] (n ∷ row) fit = absurd (cc)
row_many (var ∷ vars) [] fit = absurd (cc)
row_many (var ∷ vars) (n ∷ row) fit = ap suc (row_many vars row (and_second _ (in_ranges (types_of (columns_of vars)) row) fit))

-- ---- names

any_take : (name : List ℕ) (n : ℕ) (vars : List Var) → Differs name vars → Differs name (take n vars)
any_take name zero vars differs = refl
any_take name (suc n) [] differs = refl
any_take name (suc n) (var ∷ vars) differs =
    ap₂ (λ a b. a || b) (neither_first (bytes_eq name var.name) (list_any (bytes_eq name) (names_of vars)) differs)
    (any_take name n vars (neither_second (bytes_eq name var.name) (list_any (bytes_eq name) (names_of vars)) differs))

not_so : (b : Bool) → b ≡ false → Rattle.std.proofs.Common.not b ≡ true
not_so false is = refl
not_so true is = absurd (cc)

pub distinct_take : (n : ℕ) (vars : List Var) → are_distinct (names_of vars) ≡ true → are_distinct (names_of (take n vars)) ≡ true
distinct_take zero vars distinct = refl
distinct_take (suc n) [] distinct = refl
distinct_take (suc n) (var ∷ vars) distinct =
    and_from (Rattle.std.proofs.Common.not (is_among var.name (names_of (take n vars)))) (are_distinct (names_of (take n vars)))
    (not_so (is_among var.name (names_of (take n vars))) (any_take var.name n vars (first_differs var vars distinct)))
    (distinct_take n vars (rest_distinct var vars distinct))

pub distinct_drop : (n : ℕ) (vars : List Var) → are_distinct (names_of vars) ≡ true → are_distinct (names_of (drop n vars)) ≡ true
distinct_drop zero vars distinct = distinct
distinct_drop (suc n) [] distinct = refl
distinct_drop (suc n) (var ∷ vars) distinct = distinct_drop n vars (rest_distinct var vars distinct)

-- the first of the first ones, and those behind them
pub take_less : {A : Type 0} (n m : ℕ) (xs : List A) → take n (take (n + m) xs) ≡ take n xs
take_less zero m xs = refl
take_less (suc n) m [] = ap (take (suc n)) (none (suc n + m))
  where
    none : {A : Type 0} (k : ℕ) → take {A = A} k [] ≡ []
    none zero = refl
    none (suc k) = refl
take_less (suc n) m (x ∷ xs) =
    let sum : suc n + m ≡ suc (n + m) = omega arith in
    ap (λ k. take (suc n) (take k (x ∷ xs))) sum ∙ ap (λ rest. x ∷ rest) (take_less n m xs)

pub drop_take : {A : Type 0} (n m : ℕ) (xs : List A) → drop n (take (n + m) xs) ≡ take m (drop n xs)
drop_take zero m xs = let sum : 0 + m ≡ m = omega arith in ap (λ k. drop 0 (take k xs)) sum ∙ none (take m xs) ∙ sym (ap (take m) (none xs))
  where
    none : {A : Type 0} (ys : List A) → drop 0 ys ≡ ys
    none [] = refl
    none (y ∷ ys) = refl
drop_take (suc n) m [] = ap (drop (suc n)) (none (suc n + m)) ∙ sym (none m)
  where
    none : {A : Type 0} (k : ℕ) → take {A = A} k [] ≡ []
    none zero = refl
    none (suc k) = refl
drop_take (suc n) m (x ∷ xs) =
    let sum : suc n + m ≡ suc (n + m) = omega arith in ap (λ k. drop (suc n) (take k (x ∷ xs))) sum ∙ drop_take n m xs
