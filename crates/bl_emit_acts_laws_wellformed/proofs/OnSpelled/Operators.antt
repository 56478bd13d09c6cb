-- Operators on what fits a depth.
use Rattle.std.proofs.Common.{◌≡◌, ℕ, ◌+◌, ◌≤◌, pos, Bool, true, false, ◌&&◌, List, [], ◌∷◌, Some, None, refl, arith}
use Rattle.std.specs.List.{list_all}
use Rattle.std.proofs.lemmas.Bool.{and_from}
use Rattle.bl_tree.specs.declared.text.Text.{Text}
use Rattle.bl_tree.specs.declared.c.CArg.{CArg}
use Rattle.bl_tree.specs.declared.c.CArg.TheVariants.{Value}
use Rattle.bl_tree.specs.declared.c.CExpr.{CExpr}
use Rattle.bl_tree.specs.declared.scalar.Op.{Op}
use Rattle.bl_tree.specs.declared.scalar.Op.TheVariants.{Add, Sub, Mul, Div, Rem, Minus, BitAnd, BitOr, BitXor, BitNot, Shl, Shr}
use Rattle.bl_tree.specs.declared.scalar.Op.TheVariants.{Eq, Ne, Lt, Le, Gt, Ge, And, Or, Not}
use Rattle.bl_tree.specs.declared.scalar.Scalar.{Scalar as ScalarType}
use Rattle.bl_tree.specs.declared.scalar.Scalar.TheVariants.{Bool as OfBool, Int, Nat, Bits}
use Rattle.bl_tree.specs.declared.tree.Ty.{Ty}
use Rattle.bl_tree.specs.Numbers.{takes_one, takes_two, type_of_result}
use Rattle.bl_tree.specs.Scalar.{is_int, is_whole}
use Rattle.bl_tree.specs.Types.{scalar, scalar_in}
use Rattle.bl_eval.proofs.OperatorFits.{scalar_alone}
use Rattle.bl_ctext.specs.declared.builtin.Builtin.TheVariants.{Two, One, Cast}
use Rattle.bl_ctext.specs.Names.{is_callee}
use Rattle.bl_ctext.specs.Spellable.{is_c_operator}
use Rattle.bl_ctext.specs.inner.Fits.{arg_fits, expr_fits, place_fits}
use Rattle.bl_ctext.proofs.Fitting.{address-fits, call-fits, called-fits, expr_fits-more, literal-fits, read-fits, two-fits, value-fits}
use Rattle.bl_emit_acts.specs.declared.made.Made.{Made}
use Rattle.bl_emit_acts.specs.declared.made.Made.TheVariants.{Number, Whole}
use Rattle.bl_emit_acts.specs.Expressions.{arg_of, c_both, c_cast, c_compare, c_one, cast_word, code_of, function_name, hidden, hides_right, is_decided}
use Rattle.bl_emit_acts.specs.Expressions.{mirrored, operator_word, side}
use Rattle.bl_emit_acts.specs.Trees.{c_call, c_called, c_literal, nowhere}
use Rattle.bl_emit_acts_laws_wellformed.proofs.OnFormed.Prelude.{Named, add_named, and_named, cast_named, div_named, mul_named, neg_named, not_named, or_named}
use Rattle.bl_emit_acts_laws_wellformed.proofs.OnFormed.Prelude.{rem_named, shl_named, shr_named, sub_named, xor_named}
use Rattle.bl_emit_acts_laws_wellformed.proofs.OnSpelled.Names.{builtin-callee}
use Rattle.bl_emit_acts_laws_wellformed.proofs.OnSpelled.Shapes.{not-fits}

-- What is made of an expression of a type fits a depth: a number by its code, and a place as it is
abbrev pub MadeFits : ℕ → Ty → Made → Type 0
MadeFits d ty (Number s code) = (scalar_in ty ≡ Some s) × (expr_fits d code ≡ true)
MadeFits d ty (Whole place) = (scalar_in ty ≡ None) × (place_fits d place ≡ true)

-- a call whose arguments fit
pub calling-fits : (d e : ℕ) (name : Text) (args : List CArg) → d + 1 ≤ e → is_callee name ≡ true → list_all (arg_fits d) args ≡ true →
    expr_fits e (c_called name args) ≡ true
calling-fits d e name args le named all = called-fits e nowhere (c_call name args) (call-fits d e name args le named all)

-- the code that is made, and the argument
pub code-fits : (d : ℕ) (ty : Ty) (made : Made) → MadeFits d ty made → expr_fits d (code_of made) ≡ true
code-fits d ty (Number s code) fit = fit.1
code-fits d ty (Whole place) fit = read-fits d nowhere place fit.1

pub argument-fits : (d : ℕ) (ty : Ty) (made : Made) → MadeFits d ty made → arg_fits d (arg_of made) ≡ true
argument-fits d ty (Number s code) fit = value-fits d code fit.1
argument-fits d ty (Whole place) fit = address-fits d place fit.1

module _ (d e : ℕ) (low : 2 ≤ d) (room : d + 2 ≤ e) where
  same : d + 1 ≤ d + 1
  same = omega arith

  room_next : (d + 1) + 1 ≤ e
  room_next = omega (arith, room)

  room_one : d + 1 ≤ e
  room_one = omega (arith, room)

  longer : d ≤ d + 1
  longer = omega arith

  -- ---- functions of the prelude

  one_called : (op : Op) (s : ScalarType) (a : CExpr) → Named (operator_word op) (One op) s → expr_fits d a ≡ true →
      MadeFits e (scalar s) (Number s (c_called (function_name (operator_word op) s) (Value a ∷ [])))
  one_called op s a named one = (
    scalar_alone s,
    calling-fits d e (function_name (operator_word op) s) (Value a ∷ []) room_one (builtin-callee (function_name (operator_word op) s) (One op s) named)
        (and_from (arg_fits d (Value a)) true (value-fits d a one) refl),
  )

  two_called : (op : Op) (s : ScalarType) (a b : CExpr) → Named (operator_word op) (Two op) s → expr_fits d a ≡ true → expr_fits d b ≡ true →
      MadeFits e (scalar s) (Number s (c_called (function_name (operator_word op) s) (Value a ∷ Value b ∷ [])))
  two_called op s a b named one other = (
    scalar_alone s,
    calling-fits d e (function_name (operator_word op) s) (Value a ∷ Value b ∷ []) room_one
        (builtin-callee (function_name (operator_word op) s) (Two op s) named)
        (and_from (arg_fits d (Value a)) (arg_fits d (Value b) && true) (value-fits d a one) (and_from (arg_fits d (Value b)) true (value-fits d b other) refl)),
  )

  cast_next : (f : ℕ) → d + 1 ≤ f → (from to : ScalarType) (a : CExpr) → is_whole to ≡ true
      → expr_fits d a ≡ true → expr_fits f (c_cast from to a) ≡ true
  cast_next f le from to a whole one =
      calling-fits d f (function_name (cast_word (is_int from)) to) (Value a ∷ []) le
      (builtin-callee (function_name (cast_word (is_int from)) to) (Cast (is_int from) to) (cast_named (is_int from) to whole))
      (and_from (arg_fits d (Value a)) true (value-fits d a one) refl)

  pub cast-fits : (from to : ScalarType) (a : CExpr) → is_whole to ≡ true → expr_fits d a ≡ true → expr_fits e (c_cast from to a) ≡ true
  cast-fits = cast_next e room_one

  -- ---- comparisons

  pub hidden-fits : (s : ScalarType) (a : CExpr) → expr_fits d a ≡ true → expr_fits (d + 1) (hidden s a) ≡ true
  hidden-fits OfBool a one = two-fits d (d + 1) nowhere And a (c_literal OfBool (pos 1)) same refl one (literal-fits d nowhere OfBool (pos 1) low refl)
  hidden-fits (Int w) a one = cast_next (d + 1) same (Int w) (Int w) a refl one
  hidden-fits (Nat w) a one = cast_next (d + 1) same (Nat w) (Nat w) a refl one
  hidden-fits (Bits w) a one = cast_next (d + 1) same (Bits w) (Bits w) a refl one

  side-fits : (hides : Bool) (s : ScalarType) (a : CExpr) → expr_fits d a ≡ true → expr_fits (d + 1) (side hides s a) ≡ true
  side-fits true s a one = hidden-fits s a one
  side-fits false s a one = expr_fits-more d (d + 1) a longer one

  compared : (op : Op) (s : ScalarType) (a b : CExpr) → is_c_operator op ≡ true → expr_fits d a ≡ true → expr_fits d b ≡ true →
      MadeFits e (scalar OfBool) (Number OfBool (c_compare op s a b))
  compared op s a b sign one other = (
    scalar_alone OfBool,
    two-fits (d + 1) e nowhere op (side (is_decided (mirrored op) a) s a) (side (hides_right op a b) s b) room_next sign
        (side-fits (is_decided (mirrored op) a) s a one) (side-fits (hides_right op a b) s b other),
  )

  -- ---- all operators

  pub one-fits : (op : Op) (s : ScalarType) (a : CExpr) → takes_one op s ≡ true → expr_fits d a ≡ true →
      MadeFits e (scalar (type_of_result op s)) (c_one op s a)
  one-fits Minus s a taken one = one_called Minus s a (neg_named s taken) one
  one-fits BitNot s a taken one = one_called BitNot s a (not_named s taken) one
  one-fits Not s a taken one = (scalar_alone OfBool, not-fits d e a room_one one)
  one-fits Add s a taken one = absurd (cc)
  one-fits Sub s a taken one = absurd (cc)
  one-fits Mul s a taken one = absurd (cc)
  one-fits Div s a taken one = absurd (cc)
  one-fits Rem s a taken one = absurd (cc)
  one-fits BitAnd s a taken one = absurd (cc)
  one-fits BitOr s a taken one = absurd (cc)
  one-fits BitXor s a taken one = absurd (cc)
  one-fits Shl s a taken one = absurd (cc)
  one-fits Shr s a taken one = absurd (cc)
  one-fits Eq s a taken one = absurd (cc)
  one-fits Ne s a taken one = absurd (cc)
  one-fits Lt s a taken one = absurd (cc)
  one-fits Le s a taken one = absurd (cc)
  one-fits Gt s a taken one = absurd (cc)
  one-fits Ge s a taken one = absurd (cc)
  one-fits And s a taken one = absurd (cc)
  one-fits Or s a taken one = absurd (cc)

  pub both-fits : (op : Op) (s : ScalarType) (a b : CExpr) → takes_two op s ≡ true → expr_fits d a ≡ true → expr_fits d b ≡ true →
      MadeFits e (scalar (type_of_result op s)) (c_both op s a b)
  both-fits Add s a b taken one other = two_called Add s a b (add_named s taken) one other
  both-fits Sub s a b taken one other = two_called Sub s a b (sub_named s taken) one other
  both-fits Mul s a b taken one other = two_called Mul s a b (mul_named s taken) one other
  both-fits Div s a b taken one other = two_called Div s a b (div_named s taken) one other
  both-fits Rem s a b taken one other = two_called Rem s a b (rem_named s taken) one other
  both-fits BitAnd s a b taken one other = two_called BitAnd s a b (and_named s taken) one other
  both-fits BitOr s a b taken one other = two_called BitOr s a b (or_named s taken) one other
  both-fits BitXor s a b taken one other = two_called BitXor s a b (xor_named s taken) one other
  both-fits Shl s a b taken one other = two_called Shl s a b (shl_named s taken) one other
  both-fits Shr s a b taken one other = two_called Shr s a b (shr_named s taken) one other
  both-fits Eq s a b taken one other = compared Eq s a b refl one other
  both-fits Ne s a b taken one other = compared Ne s a b refl one other
  both-fits Lt s a b taken one other = compared Lt s a b refl one other
  both-fits Le s a b taken one other = compared Le s a b refl one other
  both-fits Gt s a b taken one other = compared Gt s a b refl one other
  both-fits Ge s a b taken one other = compared Ge s a b refl one other
  both-fits And s a b taken one other = (scalar_alone OfBool, two-fits d e nowhere And a b room_one refl one other)
  both-fits Or s a b taken one other = (scalar_alone OfBool, two-fits d e nowhere Or a b room_one refl one other)
  both-fits Minus s a b taken one other = absurd (cc)
  both-fits BitNot s a b taken one other = absurd (cc)
  both-fits Not s a b taken one other = absurd (cc)
