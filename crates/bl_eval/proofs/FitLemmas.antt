-- Which values a type has: types that are one, the tests of structs, and zeros.
use Rattle.std.proofs.Common.{◌≡◌, ℕ, suc, zero, ◌+◌, ◌<◌, ◌≤◌, Bool, true, ◌&&◌, List, [], ◌∷◌, ◌++◌, length, get_or, take, replicate, arith, Option, Some}
use Rattle.std.proofs.Common.{refl, sym, ap, ◌∙◌, subst, length-append}
use Rattle.std.proofs.lemmas.Bool.{eqb-true, eq-eqb, ltb-true}
use Rattle.std.proofs.lemmas.List.{length-replicate}
use Rattle.std.proofs.lemmas.Option.{same_Some}
use Rattle.std.specs.Prelude.{nat_eq, nat_lt, nat_le, pos, slice_get}
use Rattle.std.specs.List.{list_all}
use Rattle.std.proofs.lemmas.Bool.{and_from}
use Rattle.bl_tree.proofs.Basics.{and_first, and_second, get_in_front, get_taken, some_within}
use Rattle.bl_tree.specs.declared.scalar.Scalar.{Scalar as ScalarType}
use Rattle.bl_tree.specs.declared.scalar.Scalar.TheVariants.{Bool as OfBool, Int, Nat, Bits}
use Rattle.bl_tree.specs.declared.scalar.Width.{Width}
use Rattle.bl_tree.specs.declared.scalar.Width.TheVariants.{W8, W16, W32, W64}
use Rattle.bl_tree.specs.declared.tree.Field.{Field}
use Rattle.bl_tree.specs.declared.tree.StructDef.{StructDef}
use Rattle.bl_tree.specs.declared.tree.Ty.{Ty, fold-roll-Ty, ind-Ty, out-Ty, roll-Ty, roll-out-Ty}
use Rattle.bl_tree.specs.declared.tree.Ty.TheOpen.{Ty-F}
use Rattle.bl_tree.specs.declared.tree.Ty.TheFolds.{map-Ty}
use Rattle.bl_tree.specs.declared.value.Value.{Value, out-Value}
use Rattle.bl_tree.specs.declared.value.Value.TheVariants.{Parts, outs-Number, outs-Parts}
use Rattle.bl_tree.specs.Program.{struct_stands, structs_stand_from}
use Rattle.bl_tree.specs.Scalar.{bits_of, in_range}
use Rattle.bl_tree.specs.Types.{same_as_array, same_as_scalar, same_as_struct, same_scalar, same_type, scalar, scalar_at, scalar_in, type_stands}
use Rattle.bl_eval.specs.Values.{are_elements, by_test, fits_by, is_number_of, pass, struct_test, struct_zero, tests_after, value_fits, zero_by, zero_of}
use Rattle.bl_eval.specs.Values.{zeros_after}
use Rattle.bl_eval.proofs.PassLemmas.{get_seam, take_less, all_replicate, pass_each}

-- ---- types

pub rolled : (ty : Ty) (layer : Ty-F Ty) → out-Ty ty ≡ layer → ty ≡ roll-Ty layer
rolled ty layer is = sym (roll-out-Ty ty) ∙ ap roll-Ty is

scalar_layer : (layer : Ty-F Ty) (s : ScalarType) → scalar_at layer ≡ Some s → layer ≡ Ty-F.Scalar s
scalar_layer (Ty-F.Scalar t) s is = ap Ty-F.Scalar (same_Some t s is)
scalar_layer (Ty-F.Struct k) s is = absurd (cc)
scalar_layer (Ty-F.Array n element) s is = absurd (cc)

pub scalar_is : (ty : Ty) (s : ScalarType) → scalar_in ty ≡ Some s → ty ≡ scalar s
scalar_is ty s is = rolled ty (Ty-F.Scalar s) (scalar_layer (out-Ty ty) s is)

same_width : (v w : Width) → nat_eq (bits_of v) (bits_of w) ≡ true → v ≡ w
same_width W8 W8 is = refl
same_width W16 W16 is = refl
same_width W32 W32 is = refl
same_width W64 W64 is = refl
same_width _ _ is = absurd (cc)

pub same_scalar_is : (s t : ScalarType) → same_scalar s t ≡ true → s ≡ t
same_scalar_is OfBool OfBool is = refl
same_scalar_is (Int v) (Int w) is = ap Int (same_width v w is)
same_scalar_is (Nat v) (Nat w) is = ap Nat (same_width v w is)
same_scalar_is (Bits v) (Bits w) is = ap Bits (same_width v w is)
same_scalar_is _ _ is = absurd (cc)

abbrev IsSame : Ty → Type 0
IsSame a = (b : Ty) → same_type a b ≡ true → a ≡ b

same_scalar_layer : (s : ScalarType) (layer : Ty-F Ty) → same_as_scalar s layer ≡ true → Ty-F.Scalar s ≡ layer
same_scalar_layer s (Ty-F.Scalar t) is = ap Ty-F.Scalar (same_scalar_is s t is)
same_scalar_layer s (Ty-F.Struct k) is = absurd (cc)
same_scalar_layer s (Ty-F.Array n element) is = absurd (cc)

same_struct_layer : (k : ℕ) (layer : Ty-F Ty) → same_as_struct k layer ≡ true → Ty-F.Struct k ≡ layer
same_struct_layer k (Ty-F.Scalar t) is = absurd (cc)
same_struct_layer k (Ty-F.Struct m) is = ap Ty-F.Struct (eqb-true k m is)
same_struct_layer k (Ty-F.Array n element) is = absurd (cc)

same_array_layer : (n : ℕ) (a : Ty) → IsSame a → (layer : Ty-F Ty) → same_as_array n (same_type a) layer ≡ true → Ty-F.Array n a ≡ layer
same_array_layer n a same (Ty-F.Scalar t) is = absurd (cc)
same_array_layer n a same (Ty-F.Struct k) is = absurd (cc)
same_array_layer n a same (Ty-F.Array m b) is =
    ap (λ n. Ty-F.Array n a) (eqb-true n m (and_first (nat_eq n m) (same_type a b) is))
    ∙ ap (Ty-F.Array m) (same b (and_second (nat_eq n m) (same_type a b) is))

abbrev With : (Ty → Type 0) → Type 0
With P = Ty-F ((ty : Ty) × P ty)

abbrev bare : (P : Ty → Type 0) → With P → Ty-F Ty
bare P = map-Ty ((ty : Ty) × P ty) Ty (λ e. e.0)

same_by : (layer : With IsSame) → IsSame (roll-Ty (bare IsSame layer))
same_by (Ty-F.Scalar s) b is = ap roll-Ty (same_scalar_layer s (out-Ty b) (rw fold-roll-Ty at is)) ∙ roll-out-Ty b
same_by (Ty-F.Struct k) b is = ap roll-Ty (same_struct_layer k (out-Ty b) (rw fold-roll-Ty at is)) ∙ roll-out-Ty b
same_by (Ty-F.Array n element) b is = ap roll-Ty (same_array_layer n element.0 element.1 (out-Ty b) (rw fold-roll-Ty at is)) ∙ roll-out-Ty b

pub same_type_is : (a b : Ty) → same_type a b ≡ true → a ≡ b
same_type_is = ind-Ty IsSame (λ x y is. subst (λ layer. IsSame (roll-Ty layer)) is (same_by y))

-- ---- tests

abbrev pub Test : Type 0
Test = Value → Bool

pub fits_scalar : (tests : List Test) (s : ScalarType) (value : Value) → fits_by tests (scalar s) value ≡ is_number_of s (out-Value value)
fits_scalar tests s value = rw fold-roll-Ty refl

pub fits_struct : (tests : List Test) (ty : Ty) (k : ℕ) (value : Value) → out-Ty ty ≡ Ty-F.Struct k →
    fits_by tests ty value ≡ by_test (slice_get tests k) value
fits_struct tests ty k value is = rw (rolled ty (Ty-F.Struct k) is, fold-roll-Ty) refl

pub fits_array : (tests : List Test) (ty : Ty) (n : ℕ) (element : Ty) (value : Value) → out-Ty ty ≡ Ty-F.Array n element
    → fits_by tests ty value ≡ are_elements n (fits_by tests element) (out-Value value)
fits_array tests ty n element value is = rw (rolled ty (Ty-F.Array n element) is, fold-roll-Ty) refl

tests_start : (structs : List StructDef) (tests : List Test) (k : ℕ) (test : Test) → slice_get tests k ≡ Some test →
    slice_get (tests_after tests structs) k ≡ Some test
tests_start [] tests k test there = there
tests_start (def ∷ rest) tests k test there = tests_start rest (tests ++ struct_test tests def ∷ []) k test
    (get_in_front tests (struct_test tests def ∷ []) k test there)

tests_at : (structs : List StructDef) (tests : List Test) (j k : ℕ) (def : StructDef) → slice_get structs k ≡ Some def → j ≡ length tests + k
    → slice_get (tests_after tests structs) j ≡ Some (struct_test (tests_after tests (take k structs)) def)
tests_at [] tests j k def there is = absurd (cc)
tests_at (first ∷ rest) tests j zero def there is =
    let here : j ≡ length tests = omega arith in
    tests_start rest (tests ++ struct_test tests first ∷ []) j (struct_test tests first) (get_seam tests (struct_test tests first) j here)
    ∙ ap (λ def. Some (struct_test tests def)) (same_Some first def there)
tests_at (first ∷ rest) tests j (suc k) def there is =
    let later : j ≡ length (tests ++ struct_test tests first ∷ []) + k = omega (arith, length-append tests (struct_test tests first ∷ [])) in
    tests_at rest (tests ++ struct_test tests first ∷ []) j k def there later

-- the test of a struct
pub test_is : (structs : List StructDef) (k : ℕ) (def : StructDef) → slice_get structs k ≡ Some def
    → slice_get (tests_after [] structs) k ≡ Some (struct_test (tests_after [] (take k structs)) def)
test_is structs k def there = tests_at structs [] k k def there (omega arith)

-- it is the same for the structs before another one
abbrev Agree : List Test → List Test → ℕ → Type 0
Agree tests others n = (k : ℕ) → nat_lt k n ≡ true → slice_get tests k ≡ slice_get others k

module _ (tests others : List Test) (n : ℕ) (agree : Agree tests others n) where
  abbrev Agreed : Ty → Type 0
  Agreed ty = type_stands n ty ≡ true → fits_by tests ty ≡ fits_by others ty

  agreed_by : (layer : With Agreed) → Agreed (roll-Ty (bare Agreed layer))
  agreed_by (Ty-F.Scalar s) stands = rw (fold-roll-Ty, fold-roll-Ty) refl
  agreed_by (Ty-F.Struct k) stands =
      let at : Option Test → Test = λ test value. by_test test value in
      rw (fold-roll-Ty, fold-roll-Ty) (ap at (agree k (rw fold-roll-Ty at stands)))
  agreed_by (Ty-F.Array m element) stands =
      let all : Test → Test = λ test value. are_elements m test (out-Value value) in
      rw (fold-roll-Ty, fold-roll-Ty)
      (ap all
      (element.1 (and_second (nat_le 1 m && nat_le m 65536) (type_stands n element.0) (rw fold-roll-Ty at stands))))

  fits_agreed : (ty : Ty) → Agreed ty
  fits_agreed = ind-Ty Agreed (λ x y is. subst (λ layer. Agreed (roll-Ty layer)) is (agreed_by y))

agree_before : (structs : List StructDef) (s : ℕ) → s ≤ length structs → Agree (tests_after [] (take s structs)) (tests_after [] structs) s
agree_before structs s most k less =
    let before : k < s = ltb-true k s less in
    let within : k < length structs = omega arith in
    let found = some_within structs k within in
    test_is (take s structs) k found.0 (get_taken structs s k before ∙ found.1)
    ∙ ap (λ structs. Some (struct_test (tests_after [] structs) found.0)) (take_less structs s k before)
    ∙ sym (test_is structs k found.0 found.1)

-- a type that names the first structs alone has the same values, if only these are known
pub fits_before : (structs : List StructDef) (s : ℕ) (ty : Ty) → s ≤ length structs → type_stands s ty ≡ true →
    fits_by (tests_after [] (take s structs)) ty ≡ value_fits structs ty
fits_before structs s ty most stands = fits_agreed (tests_after [] (take s structs)) (tests_after [] structs) s (agree_before structs s most) ty stands

-- ---- structs that stand

abbrev pub fields_stand : ℕ → StructDef → Bool
fields_stand before def = list_all (λ field. type_stands before field.ty) def.fields

struct_fields : (before : ℕ) (def : StructDef) → struct_stands before def ≡ true → fields_stand before def ≡ true
struct_fields before def stands = and_second _ (fields_stand before def) (and_second _ _ stands)

pub structs_at : (structs : List StructDef) (before j k : ℕ) (def : StructDef) → structs_stand_from before structs ≡ true →
    slice_get structs k ≡ Some def → j ≡ before + k
    → fields_stand j def ≡ true
structs_at [] before j k def stand there is = absurd (cc)
structs_at (first ∷ rest) before j zero def stand there is =
    let here : before ≡ j = omega arith in
    subst (λ before. fields_stand before def ≡ true) here
    (subst (λ def. fields_stand before def ≡ true) (same_Some first def there)
    (struct_fields before first (and_first (struct_stands before first) (structs_stand_from (before + 1) rest) stand)))
structs_at (first ∷ rest) before j (suc k) def stand there is =
    let later : j ≡ (before + 1) + k = omega arith in
    structs_at rest (before + 1) j k def (and_second (struct_stands before first) (structs_stand_from (before + 1) rest) stand) there later

-- ---- zeros

pub zero_scalar : (s : ScalarType) → in_range s (pos 0) ≡ true
zero_scalar OfBool = refl
zero_scalar (Int W8) = refl
zero_scalar (Int W16) = refl
zero_scalar (Int W32) = refl
zero_scalar (Int W64) = refl
zero_scalar (Nat W8) = refl
zero_scalar (Nat W16) = refl
zero_scalar (Nat W32) = refl
zero_scalar (Nat W64) = refl
zero_scalar (Bits W8) = refl
zero_scalar (Bits W16) = refl
zero_scalar (Bits W32) = refl
zero_scalar (Bits W64) = refl

-- each of the first n zeros passes its test
abbrev Zeros : List Value → List Test → ℕ → Type 0
Zeros zeros tests n = (k : ℕ) → k < n → by_test (slice_get tests k) (get_or zeros k (Parts [])) ≡ true

module _ (zeros : List Value) (tests : List Test) (n : ℕ) (all : Zeros zeros tests n) where
  abbrev ZeroFits : Ty → Type 0
  ZeroFits ty = type_stands n ty ≡ true → fits_by tests ty (zero_by zeros ty) ≡ true

  zero_fits_by : (layer : With ZeroFits) → ZeroFits (roll-Ty (bare ZeroFits layer))
  zero_fits_by (Ty-F.Scalar s) stands = rw (fold-roll-Ty, fold-roll-Ty, outs-Number) (zero_scalar s)
  zero_fits_by (Ty-F.Struct k) stands = rw (fold-roll-Ty, fold-roll-Ty) (all k (ltb-true k n (rw fold-roll-Ty at stands)))
  zero_fits_by (Ty-F.Array m element) stands =
      let inner : fits_by tests element.0 (zero_by zeros element.0) ≡ true =
      element.1 (and_second (nat_le 1 m && nat_le m 65536) (type_stands n element.0) (rw fold-roll-Ty at stands)) in
      rw (fold-roll-Ty, fold-roll-Ty, outs-Parts)
      (and_from (nat_eq (length (replicate m (zero_by zeros element.0))) m) (list_all (fits_by tests element.0) (replicate m (zero_by zeros element.0)))
      (eq-eqb _ m (length-replicate m (zero_by zeros element.0))) (all_replicate (fits_by tests element.0) m (zero_by zeros element.0) inner))

  zero_by_fits : (ty : Ty) → ZeroFits ty
  zero_by_fits = ind-Ty ZeroFits (λ x y is. subst (λ layer. ZeroFits (roll-Ty layer)) is (zero_fits_by y))

  struct_zero_fits : (def : StructDef) → fields_stand n def ≡ true → struct_test tests def (struct_zero zeros def) ≡ true
  struct_zero_fits def stand =
      rw outs-Parts
      (pass_each (λ (field : Field). fits_by tests field.ty) (λ (field : Field). zero_by zeros field.ty) (λ (field : Field). type_stands n field.ty)
      (λ (field : Field) stands. zero_by_fits field.ty stands) def.fields stand)

pass_zeros : (tests : List Test) (zeros : List Value) (k : ℕ) → pass tests zeros ≡ true → k < length tests →
    by_test (slice_get tests k) (get_or zeros k (Parts [])) ≡ true
pass_zeros [] zeros k all within = absurd (omega arith)
pass_zeros (test ∷ tests) [] k all within = absurd (cc)
pass_zeros (test ∷ tests) (v ∷ zeros) zero all within = and_first (test v) (pass tests zeros) all
pass_zeros (test ∷ tests) (v ∷ zeros) (suc k) all within = let less : k < length tests = omega arith in
    pass_zeros tests zeros k (and_second (test v) (pass tests zeros) all) less

pass_push : (tests : List Test) (zeros : List Value) (test : Test) (v : Value) → pass tests zeros ≡ true → test v ≡ true →
    pass (tests ++ test ∷ []) (zeros ++ v ∷ []) ≡ true
pass_push [] [] test v all one = and_from (test v) true one refl
pass_push [] (w ∷ zeros) test v all one = absurd (cc)
pass_push (t ∷ tests) [] test v all one = absurd (cc)
pass_push (t ∷ tests) (w ∷ zeros) test v all one =
    and_from (t w) (pass (tests ++ test ∷ []) (zeros ++ v ∷ [])) (and_first (t w) (pass tests zeros) all)
    (pass_push tests zeros test v (and_second (t w) (pass tests zeros) all) one)

zeros_pass : (structs : List StructDef) (zeros : List Value) (tests : List Test) (n : ℕ) → length tests ≡ n → pass tests zeros ≡ true →
    structs_stand_from n structs ≡ true
    → pass (tests_after tests structs) (zeros_after zeros structs) ≡ true
zeros_pass [] zeros tests n is all stand = all
zeros_pass (def ∷ rest) zeros tests n is all stand =
    let found : Zeros zeros tests n = λ k within. pass_zeros tests zeros k all (omega arith) in
    let one : struct_test tests def (struct_zero zeros def) ≡ true =
    struct_zero_fits zeros tests n found def (struct_fields n def (and_first (struct_stands n def) (structs_stand_from (n + 1) rest) stand)) in
    let longer : length (tests ++ struct_test tests def ∷ []) ≡ n + 1 = omega (arith, length-append tests (struct_test tests def ∷ [])) in
    zeros_pass rest (zeros ++ struct_zero zeros def ∷ []) (tests ++ struct_test tests def ∷ []) (n + 1) longer
    (pass_push tests zeros (struct_test tests def) (struct_zero zeros def) all one) (and_second (struct_stands n def) (structs_stand_from (n + 1) rest) stand)

tests_length : (structs : List StructDef) (tests : List Test) → length (tests_after tests structs) ≡ length tests + length structs
tests_length [] tests = omega arith
tests_length (def ∷ rest) tests =
    omega (arith, tests_length rest (tests ++ struct_test tests def ∷ []), length-append tests (struct_test tests def ∷ []))

-- the zero of a type is one of its values
pub zero_fits : (structs : List StructDef) (ty : Ty) → structs_stand_from 0 structs ≡ true → type_stands (length structs) ty ≡ true →
    value_fits structs ty (zero_of structs ty) ≡ true
zero_fits structs ty stand stands =
    let all : pass (tests_after [] structs) (zeros_after [] structs) ≡ true = zeros_pass structs [] [] 0 refl refl stand in
    let known : length (tests_after [] structs) ≡ length structs = omega (arith, tests_length structs []) in
    let found : Zeros (zeros_after [] structs) (tests_after [] structs) (length structs) =
    λ k within. pass_zeros (tests_after [] structs) (zeros_after [] structs) k all (omega arith) in
    zero_by_fits (zeros_after [] structs) (tests_after [] structs) (length structs) found ty stands
