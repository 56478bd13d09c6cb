-- What expressions of a type give, and what operators make of it.
use Rattle.std.proofs.Common.{◌≡◌, ℤ, Bool, true, false, ◌&&◌, List, [], Option, Some, None, refl, sym, ap, ◌∙◌, subst, IfSome}
use Rattle.std.proofs.lemmas.Option.{same_Some, IfSome_then}
use Rattle.std.specs.Prelude.{option_and_then, if◌then◌else◌}
use Rattle.bl_tree.proofs.Basics.{and_first, and_second}
use Rattle.bl_tree.specs.declared.scalar.Op.{Op}
use Rattle.bl_tree.specs.declared.scalar.Op.TheVariants.{And, Or}
use Rattle.bl_tree.specs.declared.scalar.Scalar.{Scalar as ScalarType}
use Rattle.bl_tree.specs.declared.scalar.Scalar.TheVariants.{Bool as OfBool}
use Rattle.bl_tree.specs.declared.tree.StructDef.{StructDef}
use Rattle.bl_tree.specs.declared.tree.Ty.{Ty, out-roll-Ty}
use Rattle.bl_tree.specs.declared.value.Value.{Value, out-Value}
use Rattle.bl_tree.specs.declared.value.Value.TheOpen.{Value-F}
use Rattle.bl_tree.specs.declared.value.Value.TheVariants.{Number, outs-Number}
use Rattle.bl_tree.specs.Numbers.{checked_of, checked_one_of, takes_one, takes_two, type_of_result}
use Rattle.bl_tree.specs.Scalar.{in_range, is_bool, is_whole}
use Rattle.bl_tree.specs.Types.{same_scalar, scalar, scalar_in}
use Rattle.bl_tree.specs.Typing.{cast_type, one_type, two_type}
use Rattle.bl_tree.proofs.NumberLemmas.{checked_of-in_range, checked_one_of-in_range, in_range_holds, in_range_passes}
use Rattle.bl_eval.specs.declared.datum.Datum.{Datum}
use Rattle.bl_eval.specs.declared.datum.Datum.TheVariants.{Scalar as OfScalar, Whole}
use Rattle.bl_eval.specs.declared.datum.Operand.{Operand}
use Rattle.bl_eval.specs.Meaning.{applied_one, applied_two, cast_datum, datum_of, decides, level_datum, one_datum, operand_in, plain, two_data, two_datum}
use Rattle.bl_eval.specs.Values.{is_number_of, tests_after, value_fits}
use Rattle.bl_eval.proofs.FitLemmas.{fits_scalar, scalar_is}
use Rattle.bl_eval.proofs.PartFits.{Fits, if_map}

-- ---- what there is

pub some_found : {A B : Type 0} (f : A → Option B) (o : Option A) (y : B) → option_and_then f o ≡ Some y → (x : A) × (o ≡ Some x) × (f x ≡ Some y)
some_found f None y is = absurd (cc)
some_found f (Some x) y is = (x, refl, is)

pub where_holds : {A : Type 0} (holds : Bool) (o : Option A) (x : A) → (if holds then o else None) ≡ Some x → (holds ≡ true) × (o ≡ Some x)
where_holds true o x is = (refl, is)
where_holds false o x is = absurd (cc)

-- ---- data of a type

-- what an expression of the type may give
abbrev pub DatumFits : List StructDef → Ty → Datum → Type 0
DatumFits structs ty (OfScalar s n) = (ty ≡ scalar s) × (in_range s n ≡ true)
DatumFits structs ty (Whole value) = (scalar_in ty ≡ None) × Fits structs ty value

number_fits : (structs : List StructDef) (ty : Ty) (s : ScalarType) (value : Value) → ty ≡ scalar s →
    value_fits structs ty value ≡ is_number_of s (out-Value value)
number_fits structs ty s value is = ap (λ ty. value_fits structs ty value) is ∙ fits_scalar (tests_after [] structs) s value

pub plain_fits : (structs : List StructDef) (ty : Ty) (datum : Datum) → DatumFits structs ty datum → Fits structs ty (plain datum)
plain_fits structs ty (OfScalar s n) fit = number_fits structs ty s (Number n) fit.0 ∙ ap (is_number_of s) (outs-Number n) ∙ fit.1
plain_fits structs ty (Whole value) fit = fit.1

level_fits : (structs : List StructDef) (ty : Ty) (s : ScalarType) (value : Value) (level : Value-F Value) → ty ≡ scalar s → is_number_of s level ≡ true
    → DatumFits structs ty (level_datum s value level)
level_fits structs ty s value (Value-F.Number n) is fit = (is, fit)
level_fits structs ty s value (Value-F.Parts all) is fit = absurd (cc)

found_fits : (structs : List StructDef) (ty : Ty) (value : Value) (s : Option ScalarType) → scalar_in ty ≡ s → Fits structs ty value →
    DatumFits structs ty (datum_of s value)
found_fits structs ty value None is fit = (is, fit)
found_fits structs ty value (Some s) is fit =
    level_fits structs ty s value (out-Value value) (scalar_is ty s is) (sym (number_fits structs ty s value (scalar_is ty s is)) ∙ fit)

pub datum_fits : (structs : List StructDef) (ty : Ty) (value : Value) → Fits structs ty value → DatumFits structs ty (datum_of (scalar_in ty) value)
datum_fits structs ty value fit = found_fits structs ty value (scalar_in ty) refl fit

-- ---- operands

pub scalar_alone : (s : ScalarType) → scalar_in (scalar s) ≡ Some s
scalar_alone s = rw out-roll-Ty refl

abbrev pub OperandFits : ScalarType → Operand → Type 0
OperandFits s a = (a.ty ≡ s) × (in_range s a.n ≡ true)

pub operand_fits : (structs : List StructDef) (ty : Ty) (s : ScalarType) (datum : Option Datum) → scalar_in ty ≡ Some s
    → IfSome datum (DatumFits structs ty)
    → IfSome (option_and_then operand_in datum) (OperandFits s)
operand_fits structs ty s None is fit = tt
operand_fits structs ty s (Some (OfScalar t n)) is fit =
    let same : t ≡ s = same_Some t s (sym (scalar_alone t) ∙ ap scalar_in (sym fit.0) ∙ is) in
    (same, subst (λ s. in_range s n ≡ true) same fit.1)
operand_fits structs ty s (Some (Whole value)) is fit = tt

-- ---- operators

one_by : (op : Op) (a : Operand) (holds : Bool) → (takes_one op a.ty && in_range a.ty a.n) ≡ holds
    → IfSome (if holds then checked_one_of op a.ty a.n else None) (λ n. in_range (type_of_result op a.ty) n ≡ true)
one_by op a false is = tt
one_by op a true is =
    let takes = and_first (takes_one op a.ty) (in_range a.ty a.n) is in
    let within = and_second (takes_one op a.ty) (in_range a.ty a.n) is in
    IfSome_then (checked_one_of op a.ty a.n) (checked_one_of-in_range op a.ty a.n takes (in_range_holds a.ty a.n within))
    (λ n h. in_range_passes (type_of_result op a.ty) n h)

one_applied : (op : Op) (a : Operand) → IfSome (applied_one op a) (λ n. in_range (type_of_result op a.ty) n ≡ true)
one_applied op a = one_by op a (takes_one op a.ty && in_range a.ty a.n) refl

pub one_fits : (structs : List StructDef) (ty : Ty) (op : Op) (s : ScalarType) (a : Operand) → a.ty ≡ s → one_type op s ≡ Some ty →
    IfSome (one_datum op a) (DatumFits structs ty)
one_fits structs ty op s a is typed =
    let found = where_holds (takes_one op s) (Some (scalar (type_of_result op s))) ty typed in
    let same : ty ≡ scalar (type_of_result op a.ty) = sym (same_Some (scalar (type_of_result op s)) ty found.1)
    ∙ ap (λ s. scalar (type_of_result op s)) (sym is) in
    if_map (λ n. in_range (type_of_result op a.ty) n ≡ true) (DatumFits structs ty) (OfScalar (type_of_result op a.ty)) (applied_one op a)
    (one_applied op a) (λ n within. (same, within))

two_by : (op : Op) (a : Operand) (n : ℤ) (holds : Bool) → (takes_two op a.ty && (in_range a.ty a.n && in_range a.ty n)) ≡ holds
    → IfSome (if holds then checked_of op a.ty a.n n else None) (λ n. in_range (type_of_result op a.ty) n ≡ true)
two_by op a n false is = tt
two_by op a n true is =
    let takes = and_first (takes_two op a.ty) (in_range a.ty a.n && in_range a.ty n) is in
    let within = and_second (takes_two op a.ty) (in_range a.ty a.n && in_range a.ty n) is in
    let left = in_range_holds a.ty a.n (and_first (in_range a.ty a.n) (in_range a.ty n) within) in
    let right = in_range_holds a.ty n (and_second (in_range a.ty a.n) (in_range a.ty n) within) in
    IfSome_then (checked_of op a.ty a.n n) (checked_of-in_range op a.ty a.n n takes left right) (λ n h. in_range_passes (type_of_result op a.ty) n h)

two_applied : (op : Op) (a : Operand) (n : ℤ) → IfSome (applied_two op a n) (λ n. in_range (type_of_result op a.ty) n ≡ true)
two_applied op a n = two_by op a n (takes_two op a.ty && (in_range a.ty a.n && in_range a.ty n)) refl

-- where the left operand decides, it is of the result's type
pub bool_is : (s : ScalarType) → is_bool s ≡ true → OfBool ≡ s
bool_is OfBool is = refl
bool_is _ is = absurd (cc)

decided : (op : Op) (s : ScalarType) (n : ℤ) → decides op n ≡ true → takes_two op s ≡ true → type_of_result op s ≡ s
decided And s n holds takes = bool_is s takes
decided Or s n holds takes = bool_is s takes
decided _ s n holds takes = absurd (cc)

module _ (structs : List StructDef) (ty : Ty) (op : Op) (s t : ScalarType) (a : Operand) (fit : OperandFits s a) (typed : two_type op s t ≡ Some ty) where
  abbrev found : ((same_scalar s t && takes_two op s) ≡ true) × (Some (scalar (type_of_result op s)) ≡ Some ty)
  found = where_holds (same_scalar s t && takes_two op s) (Some (scalar (type_of_result op s))) ty typed

  result_is : ty ≡ scalar (type_of_result op s)
  result_is = sym (same_Some (scalar (type_of_result op s)) ty found.1)

  by_right : (b : Operand) → IfSome (two_data op a b) (DatumFits structs ty)
  by_right b =
      let same : ty ≡ scalar (type_of_result op a.ty) = result_is ∙ ap (λ s. scalar (type_of_result op s)) (sym fit.0) in
      if_map (λ n. in_range (type_of_result op a.ty) n ≡ true) (DatumFits structs ty) (OfScalar (type_of_result op a.ty))
      (applied_two op a b.n) (two_applied op a b.n) (λ n within. (same, within))

  by_both : (b : Option Operand) → IfSome (option_and_then (two_data op a) b) (DatumFits structs ty)
  by_both None = tt
  by_both (Some b) = by_right b

  by_left : (b : Option Operand) (holds : Bool) → decides op a.n ≡ holds
      → IfSome (if holds then Some (OfScalar a.ty a.n) else option_and_then (two_data op a) b) (DatumFits structs ty)
  by_left b false is = by_both b
  by_left b true is = (
    result_is ∙ ap scalar (decided op s a.n is (and_second (same_scalar s t) (takes_two op s) found.0) ∙ sym fit.0),
    subst (λ s. in_range s a.n ≡ true) (sym fit.0) fit.1,
  )

  pub two_fits : (b : Option Operand) → IfSome (two_datum op b a) (DatumFits structs ty)
  two_fits b = by_left b (decides op a.n) refl

cast_by : (structs : List StructDef) (ty : Ty) (target : ScalarType) (n : ℤ) (holds : Bool) → ty ≡ scalar target → in_range target n ≡ holds
    → IfSome (if holds then Some (OfScalar target n) else None) (DatumFits structs ty)
cast_by structs ty target n false is within = tt
cast_by structs ty target n true is within = (is, within)

pub cast_fits : (structs : List StructDef) (ty : Ty) (target s : ScalarType) (a : Operand) → cast_type target s ≡ Some ty →
    IfSome (cast_datum target a) (DatumFits structs ty)
cast_fits structs ty target s a typed =
    let found = where_holds (is_whole target && is_whole s) (Some (scalar target)) ty typed in
    cast_by structs ty target a.n (in_range target a.n) (sym (same_Some (scalar target) ty found.1)) refl
