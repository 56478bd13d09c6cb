-- Operators on what has C types.
use Rattle.std.proofs.Common.{◌≡◌, ℕ, pos, Bool, true, false, ◌&&◌, [], ◌∷◌, Some, None, refl, ap, subst}
use Rattle.std.proofs.lemmas.Bool.{and_from}
use Rattle.bl_tree.specs.declared.text.Text.{Text}
use Rattle.bl_tree.specs.declared.c.CArg.TheVariants.{Value}
use Rattle.bl_tree.specs.declared.c.CExpr.{CExpr}
use Rattle.bl_tree.specs.declared.c.CPlace.{CPlace}
use Rattle.bl_tree.specs.declared.c.CType.TheVariants.{Scalar as OfScalar}
use Rattle.bl_tree.specs.declared.scalar.Op.{Op}
use Rattle.bl_tree.specs.declared.scalar.Op.TheVariants.{Add, Sub, Mul, Div, Rem, Minus, BitAnd, BitOr, BitXor, BitNot, Shl, Shr}
use Rattle.bl_tree.specs.declared.scalar.Op.TheVariants.{Eq, Ne, Lt, Le, Gt, Ge, And, Or, Not}
use Rattle.bl_tree.specs.declared.scalar.Scalar.{Scalar as ScalarType}
use Rattle.bl_tree.specs.declared.scalar.Scalar.TheVariants.{Bool as OfBool, Int, Nat, Bits}
use Rattle.bl_tree.specs.declared.tree.Ty.{Ty}
use Rattle.bl_tree.specs.declared.tree.Var.{Var}
use Rattle.bl_tree.specs.Numbers.{takes_one, takes_two, type_of_result}
use Rattle.bl_tree.specs.Scalar.{is_bits, is_int, is_whole}
use Rattle.bl_tree.specs.Types.{scalar, scalar_in}
use Rattle.bl_tree.specs.Typing.{TypingContext, var_at}
use Rattle.bl_eval.proofs.OperatorFits.{scalar_alone}
use Rattle.bl_ctext.specs.declared.builtin.Builtin.{Builtin}
use Rattle.bl_ctext.specs.declared.builtin.Builtin.TheVariants.{Two, One, Cast}
use Rattle.bl_ctext_semantics.specs.Builtin.{builtin_of, in_c, widest}
use Rattle.bl_ctext_semantics.specs.Faults.{Context, bool_type, builtin_signature, by_value, fits_param, is_number_type, signature_as, signature_of, takes}
use Rattle.bl_emit_acts.specs.declared.made.Made.{Made}
use Rattle.bl_emit_acts.specs.declared.made.Made.TheVariants.{Number, Whole}
use Rattle.bl_emit_acts.specs.Expressions.{c_both, c_cast, c_compare, c_one, cast_word, function_name, hidden, hides_right, is_decided, mirrored, operator_word}
use Rattle.bl_emit_acts.specs.Expressions.{side}
use Rattle.bl_emit_acts.specs.Trees.{c_called, c_literal, c_not, c_two, nowhere}
use Rattle.bl_emit_acts.specs.Types.{c_scalar, c_type}
use Rattle.bl_emit_acts_laws_wellformed.specs.Formed.Declared.{leads_through}
use Rattle.bl_emit_acts_laws_wellformed.specs.Formed.Formed.{ExprIs, PlaceIs, sound}
use Rattle.bl_emit_acts_laws_wellformed.proofs.OnFormed.Judged.{called-is, literal-is, not-is, of_value, two-is, value_arg-is}
use Rattle.bl_emit_acts_laws_wellformed.proofs.OnFormed.Prelude.{Named, add_named, and_named, cast_named, div_named, mul_named, neg_named, not_named, or_named}
use Rattle.bl_emit_acts_laws_wellformed.proofs.OnFormed.Prelude.{own_fits, rem_named, same_in_c, shl_named, shr_named, sub_named, type_same, widest_fits, xor_named}

-- a place in a variable of a unit has the C type of a type
pub record WholeIs (context : Context) (site : TypingContext) (ty : Ty) (place : CPlace) : Type 0 where
  pub root : ℕ
  pub var : Var
  pub there : var_at site root ≡ Some var
  pub is : PlaceIs context (leads_through site root) (c_type site.structs ty) place

-- What is made of an expression of a type has the C type: a number the C type of its scalar, and a place the type of what stands there
abbrev pub MadeIs : Context → TypingContext → Ty → Made → Type 0
MadeIs context site ty (Number s code) = (scalar_in ty ≡ Some s) × ExprIs context (OfScalar (c_scalar s)) code
MadeIs context site ty (Whole place) = (scalar_in ty ≡ None) × WholeIs context site ty place

module _ (context : Context) where
  -- code of a scalar type
  abbrev pub NumberIs : ScalarType → CExpr → Type 0
  NumberIs s code = ExprIs context (OfScalar (c_scalar s)) code

  -- ---- functions of the prelude

  builtin_known : (name : Text) (b : Builtin) → builtin_of name ≡ Some b → signature_of context name ≡ builtin_signature b
  builtin_known name b is = ap (λ o. signature_as o (context.functions name)) is

  one_called : (op : Op) (s : ScalarType) (a : CExpr) → is_whole s ≡ true → Named (operator_word op) (One op) s → NumberIs s a →
      NumberIs s (c_called (function_name (operator_word op) s) (Value a ∷ []))
  one_called op s a whole named one =
      subst (λ t. ExprIs context (OfScalar t) (c_called (function_name (operator_word op) s) (Value a ∷ []))) (same_in_c s)
      (called-is context (function_name (operator_word op) s) (Value a ∷ [])
      (record { widens = true; params = by_value (in_c s) ∷ []; result = Some (in_c s) }) (in_c s) (of_value (sound (OfScalar (c_scalar s))) ∷ [])
      (builtin_known (function_name (operator_word op) s) (One op s) named) refl
      (ap (λ j. j ∷ []) (value_arg-is context (OfScalar (c_scalar s)) a nowhere one))
      (and_from (fits_param true (OfScalar (in_c s)) (OfScalar (c_scalar s))) true (own_fits s whole) refl) refl)

  two_called : (op : Op) (s : ScalarType) (a b : CExpr) → is_whole s ≡ true → Named (operator_word op) (Two op) s → NumberIs s a → NumberIs s b →
      NumberIs s (c_called (function_name (operator_word op) s) (Value a ∷ Value b ∷ []))
  two_called op s a b whole named one other =
      let fits = fits_param true (OfScalar (in_c s)) (OfScalar (c_scalar s)) in
      let fit : fits ≡ true = own_fits s whole in
      subst (λ t. ExprIs context (OfScalar t) (c_called (function_name (operator_word op) s) (Value a ∷ Value b ∷ []))) (same_in_c s)
      (called-is context (function_name (operator_word op) s) (Value a ∷ Value b ∷ [])
      (record { widens = true; params = by_value (in_c s) ∷ by_value (in_c s) ∷ []; result = Some (in_c s) }) (in_c s)
      (of_value (sound (OfScalar (c_scalar s))) ∷ of_value (sound (OfScalar (c_scalar s))) ∷ [])
      (builtin_known (function_name (operator_word op) s) (Two op s) named) refl
      (λ i. value_arg-is context (OfScalar (c_scalar s)) a nowhere one i ∷ value_arg-is context (OfScalar (c_scalar s)) b nowhere other i ∷ [])
      (and_from fits (fits && true) fit (and_from fits true fit refl)) refl)

  pub cast_is : (from to : ScalarType) (a : CExpr) → is_whole from ≡ true → is_whole to ≡ true → NumberIs from a → NumberIs to (c_cast from to a)
  cast_is from to a whole target one =
      subst (λ t. ExprIs context (OfScalar t) (c_cast from to a)) (same_in_c to)
      (called-is context (function_name (cast_word (is_int from)) to) (Value a ∷ [])
      (record { widens = true; params = by_value (widest (is_int from)) ∷ []; result = Some (in_c to) }) (in_c to)
      (of_value (sound (OfScalar (c_scalar from))) ∷ [])
      (builtin_known (function_name (cast_word (is_int from)) to) (Cast (is_int from) to) (cast_named (is_int from) to target)) refl
      (ap (λ j. j ∷ []) (value_arg-is context (OfScalar (c_scalar from)) a nowhere one))
      (and_from (fits_param true (OfScalar (widest (is_int from))) (OfScalar (c_scalar from))) true (widest_fits from whole) refl) refl)

  -- ---- comparisons

  pub hidden_is : (s : ScalarType) (a : CExpr) → NumberIs s a → NumberIs s (hidden s a)
  hidden_is OfBool a one = two-is context And bool_type a (c_literal OfBool (pos 1)) refl refl one (literal-is context OfBool (pos 1))
  hidden_is (Int w) a one = cast_is (Int w) (Int w) a refl refl one
  hidden_is (Nat w) a one = cast_is (Nat w) (Nat w) a refl refl one
  hidden_is (Bits w) a one = cast_is (Bits w) (Bits w) a refl refl one

  side_is : (hides : Bool) (s : ScalarType) (a : CExpr) → NumberIs s a → NumberIs s (side hides s a)
  side_is true s a one = hidden_is s a one
  side_is false s a one = one

  compare_is : (op : Op) (s : ScalarType) (a b : CExpr) → takes op (OfScalar (c_scalar s)) ≡ true → NumberIs s a → NumberIs s b →
      NumberIs OfBool (c_compare op s a b)
  compare_is op s a b taken one other =
      two-is context op (OfScalar (c_scalar s)) (side (is_decided (mirrored op) a) s a) (side (hides_right op a b) s b) taken
      (type_same (OfScalar (c_scalar s)))
      (side_is (is_decided (mirrored op) a) s a one) (side_is (hides_right op a b) s b other)

  -- a comparison by size takes numbers
  number_taken : (s : ScalarType) → is_whole s ≡ true → is_number_type (OfScalar (c_scalar s)) ≡ true
  number_taken (Int w) h = refl
  number_taken (Nat w) h = refl
  number_taken (Bits w) h = refl
  number_taken OfBool h = absurd (cc)

  -- an operator on bits has one on whole numbers
  bits_whole : (s : ScalarType) → is_bits s ≡ true → is_whole s ≡ true
  bits_whole (Bits w) h = refl
  bits_whole (Int w) h = absurd (cc)
  bits_whole (Nat w) h = absurd (cc)
  bits_whole OfBool h = absurd (cc)

  minus_whole : (s : ScalarType) → takes_one Minus s ≡ true → is_whole s ≡ true
  minus_whole (Bits w) h = refl
  minus_whole (Int w) h = refl
  minus_whole (Nat w) h = absurd (cc)
  minus_whole OfBool h = absurd (cc)

  module _ (site : TypingContext) where
    -- what is made of a type without parts
    pub number_is : (s : ScalarType) (code : CExpr) → NumberIs s code → MadeIs context site (scalar s) (Number s code)
    number_is s code is = (scalar_alone s, is)

    bits_one : (op : Op) (s : ScalarType) (a : CExpr) → is_bits s ≡ true → Named (operator_word op) (One op) s → NumberIs s a →
        MadeIs context site (scalar s) (Number s (c_called (function_name (operator_word op) s) (Value a ∷ [])))
    bits_one op s a bits named one =
        number_is s (c_called (function_name (operator_word op) s) (Value a ∷ [])) (one_called op s a (bits_whole s bits) named one)

    -- an operator with one operand
    pub one_is : (op : Op) (s : ScalarType) (a : CExpr) → takes_one op s ≡ true → NumberIs s a →
        MadeIs context site (scalar (type_of_result op s)) (c_one op s a)
    one_is Minus s a taken one =
        number_is s (c_called (function_name (operator_word Minus) s) (Value a ∷ [])) (one_called Minus s a (minus_whole s taken) (neg_named s taken) one)
    one_is BitNot s a taken one = bits_one BitNot s a taken (not_named s taken) one
    one_is Not OfBool a taken one = number_is OfBool (c_not a) (not-is context a one)
    one_is Not (Int w) a taken one = absurd (cc)
    one_is Not (Nat w) a taken one = absurd (cc)
    one_is Not (Bits w) a taken one = absurd (cc)
    one_is Add s a taken one = absurd (cc)
    one_is Sub s a taken one = absurd (cc)
    one_is Mul s a taken one = absurd (cc)
    one_is Div s a taken one = absurd (cc)
    one_is Rem s a taken one = absurd (cc)
    one_is BitAnd s a taken one = absurd (cc)
    one_is BitOr s a taken one = absurd (cc)
    one_is BitXor s a taken one = absurd (cc)
    one_is Shl s a taken one = absurd (cc)
    one_is Shr s a taken one = absurd (cc)
    one_is Eq s a taken one = absurd (cc)
    one_is Ne s a taken one = absurd (cc)
    one_is Lt s a taken one = absurd (cc)
    one_is Le s a taken one = absurd (cc)
    one_is Gt s a taken one = absurd (cc)
    one_is Ge s a taken one = absurd (cc)
    one_is And s a taken one = absurd (cc)
    one_is Or s a taken one = absurd (cc)

    arithmetic : (op : Op) (s : ScalarType) (a b : CExpr) → is_whole s ≡ true → Named (operator_word op) (Two op) s → NumberIs s a → NumberIs s b →
        MadeIs context site (scalar s) (Number s (c_called (function_name (operator_word op) s) (Value a ∷ Value b ∷ [])))
    arithmetic op s a b whole named one other =
        number_is s (c_called (function_name (operator_word op) s) (Value a ∷ Value b ∷ [])) (two_called op s a b whole named one other)

    compared : (op : Op) (s : ScalarType) (a b : CExpr) → takes op (OfScalar (c_scalar s)) ≡ true → NumberIs s a → NumberIs s b →
        MadeIs context site (scalar OfBool) (Number OfBool (c_compare op s a b))
    compared op s a b taken one other = number_is OfBool (c_compare op s a b) (compare_is op s a b taken one other)

    -- an operator with two operands
    pub both_is : (op : Op) (s : ScalarType) (a b : CExpr) → takes_two op s ≡ true → NumberIs s a → NumberIs s b →
        MadeIs context site (scalar (type_of_result op s)) (c_both op s a b)
    both_is Add s a b taken one other = arithmetic Add s a b taken (add_named s taken) one other
    both_is Sub s a b taken one other = arithmetic Sub s a b taken (sub_named s taken) one other
    both_is Mul s a b taken one other = arithmetic Mul s a b taken (mul_named s taken) one other
    both_is Div s a b taken one other = arithmetic Div s a b taken (div_named s taken) one other
    both_is Rem s a b taken one other = arithmetic Rem s a b taken (rem_named s taken) one other
    both_is BitAnd s a b taken one other = arithmetic BitAnd s a b (bits_whole s taken) (and_named s taken) one other
    both_is BitOr s a b taken one other = arithmetic BitOr s a b (bits_whole s taken) (or_named s taken) one other
    both_is BitXor s a b taken one other = arithmetic BitXor s a b (bits_whole s taken) (xor_named s taken) one other
    both_is Shl s a b taken one other = arithmetic Shl s a b (bits_whole s taken) (shl_named s taken) one other
    both_is Shr s a b taken one other = arithmetic Shr s a b (bits_whole s taken) (shr_named s taken) one other
    both_is Eq s a b taken one other = compared Eq s a b refl one other
    both_is Ne s a b taken one other = compared Ne s a b refl one other
    both_is Lt s a b taken one other = compared Lt s a b (number_taken s taken) one other
    both_is Le s a b taken one other = compared Le s a b (number_taken s taken) one other
    both_is Gt s a b taken one other = compared Gt s a b (number_taken s taken) one other
    both_is Ge s a b taken one other = compared Ge s a b (number_taken s taken) one other
    both_is And OfBool a b taken one other = number_is OfBool (c_two And a b) (two-is context And bool_type a b refl refl one other)
    both_is And (Int w) a b taken one other = absurd (cc)
    both_is And (Nat w) a b taken one other = absurd (cc)
    both_is And (Bits w) a b taken one other = absurd (cc)
    both_is Or OfBool a b taken one other = number_is OfBool (c_two Or a b) (two-is context Or bool_type a b refl refl one other)
    both_is Or (Int w) a b taken one other = absurd (cc)
    both_is Or (Nat w) a b taken one other = absurd (cc)
    both_is Or (Bits w) a b taken one other = absurd (cc)
    both_is Minus s a b taken one other = absurd (cc)
    both_is BitNot s a b taken one other = absurd (cc)
    both_is Not s a b taken one other = absurd (cc)
