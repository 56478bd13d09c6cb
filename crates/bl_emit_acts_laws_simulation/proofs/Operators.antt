-- What operators make of numbers, in C and in the program.
use Rattle.std.proofs.Common.{◌≡◌, zero, suc, ℤ, pos, negsuc, Bool, true, false, ◌&&◌, ◌||◌, List, Option, Some, None, refl, sym, ap}
use Rattle.std.proofs.Common.{◌∙◌, subst, arith, IfSome}
use Rattle.std.proofs.lemmas.Int.{ints}
use Rattle.std.proofs.lemmas.Option.{same_Some}
use Rattle.std.specs.Prelude.{not, option_and_then, option_map, if◌then◌else◌}
use Rattle.std.proofs.lemmas.Bool.{and_from}
use Rattle.bl_tree.specs.declared.scalar.Op.{Op}
use Rattle.bl_tree.specs.declared.scalar.Op.TheVariants.{And, Or}
use Rattle.bl_tree.specs.declared.scalar.Scalar.{Scalar as ScalarType}
use Rattle.bl_tree.specs.declared.scalar.Scalar.TheVariants.{Bool as OfBool}
use Rattle.bl_tree.specs.declared.tree.StructDef.{StructDef}
use Rattle.bl_tree.specs.declared.tree.Ty.{Ty}
use Rattle.bl_tree.specs.Numbers.{checked_of, checked_one_of, is_one, number_of, takes_one, takes_two, type_of_result}
use Rattle.bl_tree.specs.Scalar.{in_range}
use Rattle.bl_tree.specs.Types.{scalar_in}
use Rattle.bl_eval.specs.declared.datum.Datum.{Datum}
use Rattle.bl_eval.specs.declared.datum.Datum.TheVariants.{Scalar as OfScalar, Whole}
use Rattle.bl_eval.specs.declared.datum.Operand.{Operand}
use Rattle.bl_eval.specs.Meaning.{cast_datum, decides, one_datum, operand_in, two_data, two_datum}
use Rattle.bl_eval.proofs.OperatorFits.{DatumFits, scalar_alone}
use Rattle.bl_ctext_semantics.specs.Builtin.{only_if}
use Rattle.bl_emit_acts_laws_simulation.specs.Simulation.{number_given}

-- a number, or a trap, in C and in the program, where the number is one of the type
abbrev pub Known : ScalarType → Option ℤ → Option Datum → Type 0
Known s None None = Unit {0}
Known s (Some n) (Some (OfScalar t m)) = (t ≡ s) × (n ≡ m) × (in_range s n ≡ true)
Known s _ _ = ⊥

-- ---- what is known of an expression that fits

known_some : (structs : List StructDef) (ty : Ty) (s : ScalarType) (n : ℤ) (datum : Datum) → scalar_in ty ≡ Some s → DatumFits structs ty datum →
    n ≡ number_given datum → Known s (Some n) (Some datum)
known_some structs ty s n (OfScalar t m) is fit same =
    let one : t ≡ s = same_Some t s (sym (scalar_alone t) ∙ ap scalar_in (sym fit.0) ∙ is) in
    (one, same, ap (in_range s) same ∙ ap (λ s. in_range s m) (sym one) ∙ fit.1)
known_some structs ty s n (Whole value) is fit same = absurd (let none = fit.0 in cc)

pub known_fits : (structs : List StructDef) (ty : Ty) (s : ScalarType) (x : Option ℤ) (datum : Option Datum) → scalar_in ty ≡ Some s →
    IfSome datum (DatumFits structs ty) → x ≡ option_map number_given datum → Known s x datum
known_fits structs ty s None None is fit same = tt
known_fits structs ty s None (Some datum) is fit same = absurd (cc)
known_fits structs ty s (Some n) None is fit same = absurd (cc)
known_fits structs ty s (Some n) (Some datum) is fit same = known_some structs ty s n datum is fit (same_Some n (number_given datum) same)

-- ---- tests that hold

when_true : {A : Type 0} (holds : Bool) (x y : A) → holds ≡ true → (if holds then x else y) ≡ x
when_true true x y h = refl
when_true false x y h = absurd (cc)

when_false : {A : Type 0} (holds : Bool) (x y : A) → holds ≡ false → (if holds then x else y) ≡ y
when_false true x y h = absurd (cc)
when_false false x y h = refl

given_number : (s : ScalarType) (o : Option ℤ) → o ≡ option_map number_given (option_map (OfScalar s) o)
given_number s None = refl
given_number s (Some n) = refl

-- ---- one operand

pub one_known : (op : Op) (s : ScalarType) (x : Option ℤ) (datum : Option Datum) → Known s x datum → takes_one op s ≡ true →
    option_and_then (checked_one_of op s) x ≡ option_map number_given (option_and_then (one_datum op) (option_and_then operand_in datum))
one_known op s None None known takes = refl
one_known op s None (Some datum) known takes = absurd known
one_known op s (Some n) None known takes = absurd known
one_known op s (Some n) (Some (Whole value)) known takes = absurd known
one_known op s (Some n) (Some (OfScalar t m)) known takes =
    subst (λ t. checked_one_of op s n ≡ option_map number_given (one_datum op (record { ty = t; n = m }))) (sym known.0)
    (subst (λ m. checked_one_of op s n ≡ option_map number_given (one_datum op (record { ty = s; n = m }))) known.1
    (given_number (type_of_result op s) (checked_one_of op s n)
    ∙ ap (λ o. option_map number_given (option_map (OfScalar (type_of_result op s)) o))
    (sym (when_true (takes_one op s && in_range s n) (checked_one_of op s n) None (and_from (takes_one op s) (in_range s n) takes known.2)))))

-- ---- two operands

abbrev Both : Op → ScalarType → ℤ → ℤ → Type 0
Both op s m n = checked_of op s m n ≡ option_map number_given (two_data op (record { ty = s; n = m }) (record { ty = s; n = n }))

two_same : (op : Op) (s : ScalarType) (m n : ℤ) → in_range s m ≡ true → in_range s n ≡ true → takes_two op s ≡ true → Both op s m n
two_same op s m n first second takes =
    given_number (type_of_result op s) (checked_of op s m n)
    ∙ ap (λ o. option_map number_given (option_map (OfScalar (type_of_result op s)) o))
    (sym (when_true (takes_two op s && (in_range s m && in_range s n)) (checked_of op s m n) None
    (and_from (takes_two op s) (in_range s m && in_range s n) takes (and_from (in_range s m) (in_range s n) first second))))

two_right : (op : Op) (s : ScalarType) (m : ℤ) (y : Option ℤ) (datum : Option Datum) → in_range s m ≡ true → Known s y datum → takes_two op s
    ≡ true →
    option_and_then (checked_of op s m) y
    ≡ option_map number_given (option_and_then (two_data op (record { ty = s; n = m })) (option_and_then operand_in datum))
two_right op s m None None within known takes = refl
two_right op s m None (Some datum) within known takes = absurd known
two_right op s m (Some n) None within known takes = absurd known
two_right op s m (Some n) (Some (Whole value)) within known takes = absurd known
two_right op s m (Some n) (Some (OfScalar t k)) within known takes =
    subst (λ t. checked_of op s m n ≡ option_map number_given (two_data op (record { ty = s; n = m }) (record { ty = t; n = k }))) (sym known.0)
    (subst (λ k. checked_of op s m n ≡ option_map number_given (two_data op (record { ty = s; n = m }) (record { ty = s; n = k }))) known.1
    (two_same op s m n within known.2 takes))

-- an operator that looks at and_from
pub two_known : (op : Op) (s : ScalarType) (x y : Option ℤ) (first second : Option Datum) → Known s x first → Known s y second → takes_two op s
    ≡ true →
    ((n : ℤ) → decides op n ≡ false) →
    option_and_then (λ m. option_and_then (checked_of op s m) y) x
    ≡ option_map number_given (option_and_then (two_datum op (option_and_then operand_in second)) (option_and_then operand_in first))
two_known op s None y None second known other takes looks = refl
two_known op s None y (Some datum) second known other takes looks = absurd known
two_known op s (Some m) y None second known other takes looks = absurd known
two_known op s (Some m) y (Some (Whole value)) second known other takes looks = absurd known
two_known op s (Some m) y (Some (OfScalar t k)) second known other takes looks =
    let b : Option Operand = option_and_then operand_in second in
    subst (λ t. option_and_then (checked_of op s m) y ≡ option_map number_given (two_datum op b (record { ty = t; n = k }))) (sym known.0)
    (subst (λ k. option_and_then (checked_of op s m) y ≡ option_map number_given (two_datum op b (record { ty = s; n = k }))) known.1
    (two_right op s m y second known.2 other takes
    ∙ ap (option_map number_given)
    (sym (when_false (decides op m) (Some (OfScalar s m)) (option_and_then (two_data op (record { ty = s; n = m })) b) (looks m)))))

-- ---- bools

-- a number of bool is 1 or 0
pub bool_number : (n : ℤ) → in_range OfBool n ≡ true → number_of (is_one n) ≡ n
bool_number (pos zero) h = refl
bool_number (pos (suc zero)) h = refl
bool_number (pos (suc (suc k))) h = absurd (grind (arith, ints))
bool_number (negsuc k) h = absurd (grind (arith, ints))

-- where the left side doesn't decide, the right side is the value
and_same : (m : ℤ) (y : Option ℤ) (datum : Option Datum) → Known OfBool y datum → is_one m ≡ true → y
    ≡ option_and_then (checked_of And OfBool m) y
and_same m None datum known is = refl
and_same m (Some n) None known is = absurd known
and_same m (Some n) (Some (Whole value)) known is = absurd known
and_same m (Some n) (Some (OfScalar t k)) known is = ap Some (sym (ap (λ b. number_of (b && is_one n)) is ∙ bool_number n known.2))

or_same : (m : ℤ) (y : Option ℤ) (datum : Option Datum) → Known OfBool y datum → is_one m ≡ false → y ≡ option_and_then (checked_of Or OfBool m) y
or_same m None datum known is = refl
or_same m (Some n) None known is = absurd known
or_same m (Some n) (Some (Whole value)) known is = absurd known
or_same m (Some n) (Some (OfScalar t k)) known is = ap Some (sym (ap (λ b. number_of (b || is_one n)) is ∙ bool_number n known.2))

and_right : (m : ℤ) (y : Option ℤ) (datum : Option Datum) → in_range OfBool m ≡ true → Known OfBool y datum → (holds : Bool) → is_one m
    ≡ holds →
    (if holds then y else Some (pos 0))
    ≡ option_map number_given (if not holds then Some (OfScalar OfBool m)
    else option_and_then (two_data And (record { ty = OfBool; n = m })) (option_and_then operand_in datum))
and_right m y datum within known true is = and_same m y datum known is ∙ two_right And OfBool m y datum within known refl
and_right m y datum within known false is = ap Some (ap number_of (sym is) ∙ bool_number m within)

or_right : (m : ℤ) (y : Option ℤ) (datum : Option Datum) → in_range OfBool m ≡ true → Known OfBool y datum → (holds : Bool) → is_one m
    ≡ holds →
    (if holds then Some (pos 1) else y)
    ≡ option_map number_given (if holds then Some (OfScalar OfBool m)
    else option_and_then (two_data Or (record { ty = OfBool; n = m })) (option_and_then operand_in datum))
or_right m y datum within known true is = ap Some (ap number_of (sym is) ∙ bool_number m within)
or_right m y datum within known false is = or_same m y datum known is ∙ two_right Or OfBool m y datum within known refl

-- `and` looks at its right side only where the left is true, in C and in the program
pub and_known : (x y : Option ℤ) (first second : Option Datum) → Known OfBool x first → Known OfBool y second →
    option_and_then (λ m. if is_one m then y else Some (pos 0)) x
    ≡ option_map number_given (option_and_then (two_datum And (option_and_then operand_in second)) (option_and_then operand_in first))
and_known None y None second known other = refl
and_known None y (Some datum) second known other = absurd known
and_known (Some m) y None second known other = absurd known
and_known (Some m) y (Some (Whole value)) second known other = absurd known
and_known (Some m) y (Some (OfScalar t k)) second known other =
    let b : Option Operand = option_and_then operand_in second in
    let left : Option ℤ = if is_one m then y else Some (pos 0) in
    subst (λ t. left ≡ option_map number_given (two_datum And b (record { ty = t; n = k }))) (sym known.0)
    (subst (λ k. left ≡ option_map number_given (two_datum And b (record { ty = OfBool; n = k }))) known.1
    (and_right m y second known.2 other (is_one m) refl))

-- `or` where the left is false
pub or_known : (x y : Option ℤ) (first second : Option Datum) → Known OfBool x first → Known OfBool y second →
    option_and_then (λ m. if is_one m then Some (pos 1) else y) x
    ≡ option_map number_given (option_and_then (two_datum Or (option_and_then operand_in second)) (option_and_then operand_in first))
or_known None y None second known other = refl
or_known None y (Some datum) second known other = absurd known
or_known (Some m) y None second known other = absurd known
or_known (Some m) y (Some (Whole value)) second known other = absurd known
or_known (Some m) y (Some (OfScalar t k)) second known other =
    let b : Option Operand = option_and_then operand_in second in
    let left : Option ℤ = if is_one m then Some (pos 1) else y in
    subst (λ t. left ≡ option_map number_given (two_datum Or b (record { ty = t; n = k }))) (sym known.0)
    (subst (λ k. left ≡ option_map number_given (two_datum Or b (record { ty = OfBool; n = k }))) known.1
    (or_right m y second known.2 other (is_one m) refl))

-- ---- casts and sides of comparisons

cast_same : (target : ScalarType) (n : ℤ) (holds : Bool) →
    (if holds then Some n else None) ≡ option_map number_given (if holds then Some (OfScalar target n) else None)
cast_same target n true = refl
cast_same target n false = refl

pub cast_known : (target s : ScalarType) (x : Option ℤ) (datum : Option Datum) → Known s x datum →
    option_and_then (λ n. only_if (in_range target n) n) x
    ≡ option_map number_given (option_and_then (cast_datum target) (option_and_then operand_in datum))
cast_known target s None None known = refl
cast_known target s None (Some datum) known = absurd known
cast_known target s (Some n) None known = absurd known
cast_known target s (Some n) (Some (Whole value)) known = absurd known
cast_known target s (Some n) (Some (OfScalar t m)) known =
    cast_same target n (in_range target n)
    ∙ ap (λ m. option_map number_given (if in_range target m then Some (OfScalar target m) else None)) known.1

-- a number is the same once it is cast to its own type
pub cast_itself : (s : ScalarType) (x : Option ℤ) (datum : Option Datum) → Known s x datum → option_and_then (λ n. only_if (in_range s n) n) x ≡ x
cast_itself s None datum known = refl
cast_itself s (Some n) None known = absurd known
cast_itself s (Some n) (Some (Whole value)) known = absurd known
cast_itself s (Some n) (Some (OfScalar t m)) known = when_true (in_range s n) (Some n) None known.2

-- and so is a bool with `&& true`
and_one : (n : ℤ) (holds : Bool) → is_one n ≡ holds → in_range OfBool n ≡ true → (if holds then Some (pos 1) else Some (pos 0)) ≡ Some n
and_one n true is within = ap Some (ap number_of (sym is) ∙ bool_number n within)
and_one n false is within = ap Some (ap number_of (sym is) ∙ bool_number n within)

pub and_itself : (x : Option ℤ) (datum : Option Datum) → Known OfBool x datum →
    option_and_then (λ n. if is_one n then Some (pos 1) else Some (pos 0)) x ≡ x
and_itself None datum known = refl
and_itself (Some n) None known = absurd known
and_itself (Some n) (Some (Whole value)) known = absurd known
and_itself (Some n) (Some (OfScalar t m)) known = and_one n (is_one n) refl known.2
