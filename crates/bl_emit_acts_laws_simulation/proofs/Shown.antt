-- What is made of operators shows what they give.
use Rattle.std.proofs.Common.{◌≡◌, ℤ, pos, Bool, true, false, List, [], ◌∷◌, Option, Some, refl, sym, ap, ap₂}
use Rattle.std.proofs.Common.{◌∙◌, subst, IfSome}
use Rattle.std.proofs.lemmas.Option.{same_Some}
use Rattle.std.specs.Prelude.{option_and_then, if◌then◌else◌}
use Rattle.bl_tree.specs.declared.c.CArg.TheVariants.{Value}
use Rattle.bl_tree.specs.declared.c.CExpr.{CExpr}
use Rattle.bl_tree.specs.declared.scalar.Op.{Op}
use Rattle.bl_tree.specs.declared.scalar.Op.TheVariants.{Add, Sub, Mul, Div, Rem, Minus, BitAnd, BitOr, BitXor, BitNot, Shl, Shr, Eq, Ne, Lt, Le, Gt, Ge, And}
use Rattle.bl_tree.specs.declared.scalar.Op.TheVariants.{Or, Not}
use Rattle.bl_tree.specs.declared.scalar.Scalar.{Scalar as ScalarType}
use Rattle.bl_tree.specs.declared.scalar.Scalar.TheVariants.{Bool as OfBool, Int, Nat, Bits}
use Rattle.bl_tree.specs.declared.tree.StructDef.{StructDef}
use Rattle.bl_tree.specs.declared.tree.Ty.{Ty}
use Rattle.bl_tree.specs.Numbers.{checked_of, is_one, takes_one, takes_two, type_of_result}
use Rattle.bl_tree.specs.Scalar.{in_range, is_bool, is_int, is_whole}
use Rattle.bl_tree.specs.Types.{scalar, scalar_in}
use Rattle.bl_eval.specs.declared.datum.Datum.{Datum}
use Rattle.bl_eval.specs.Meaning.{cast_datum, decides, one_datum, operand_in, two_datum}
use Rattle.bl_eval.proofs.OperatorFits.{DatumFits, scalar_alone}
use Rattle.bl_ctext.specs.declared.builtin.Builtin.TheVariants.{Two, One, Cast}
use Rattle.bl_ctext_semantics.specs.Builtin.{builtin_of, only_if}
use Rattle.bl_ctext_semantics.specs.Memory.{CValue, Memory}
use Rattle.bl_ctext_semantics.specs.Meaning.{Counted, Scope}
use Rattle.bl_emit_acts.specs.declared.made.Made.{Made}
use Rattle.bl_emit_acts.specs.declared.made.Made.TheVariants.{Number, Whole}
use Rattle.bl_emit_acts.specs.Expressions.{c_both, c_cast, c_compare, c_function, c_one, cast_word, code_of, function_name, hidden, hides_right, is_decided}
use Rattle.bl_emit_acts.specs.Expressions.{mirrored, operator_word, side, type_made}
use Rattle.bl_emit_acts.specs.Trees.{c_literal, c_two}
use Rattle.bl_emit_acts_laws_simulation.specs.Simulation.{ExpressionSimulates}
use Rattle.bl_emit_acts_laws_simulation.proofs.Evaluated.{literal-value}
use Rattle.bl_emit_acts_laws_simulation.proofs.Names.{add_function, and_function, cast_function, div_function, mul_function, neg_function, not_function}
use Rattle.bl_emit_acts_laws_simulation.proofs.Names.{or_function, rem_function, shl_function, shr_function, sub_function, xor_function}
use Rattle.bl_emit_acts_laws_simulation.proofs.Numbers.{and-number, compare-number, gives, not-number, num, one-number, or-number, two-number}
use Rattle.bl_emit_acts_laws_simulation.proofs.Operators.{Known, and_itself, and_known, cast_itself, cast_known, known_fits, one_known, or_known, two_known}
use Rattle.bl_eval.proofs.OperatorFits.{bool_is}

-- the type of a scalar type
pub scalar_type : (ty : Ty) (s : ScalarType) → ty ≡ scalar s → scalar_in ty ≡ Some s
scalar_type ty s is = ap scalar_in is ∙ scalar_alone s

module _ (structs : List StructDef) (scope : Scope) (here : Memory) where
  abbrev shows : Ty → Made → Option Datum → Type 0
  shows ty made datum = ExpressionSimulates structs ty scope here made datum

  abbrev gives_of : CExpr → Option ℤ
  gives_of = gives scope here

  -- ---- operands

  -- an operand of a scalar type, in C and in the program
  pub record Operands (s : ScalarType) (made : Made) (datum : Option Datum) : Type 0 where
    pub type_is : type_made made ≡ s
    pub known : Known s (gives_of (code_of made)) datum

  pub operand_shown : (t : Ty) (s : ScalarType) (made : Made) (datum : Option Datum) → ExpressionSimulates structs t scope here made datum → scalar_in t ≡ Some s →
      IfSome datum (DatumFits structs t) → Operands s made datum
  operand_shown t s (Number r code) datum shown is fit = record {
    type_is = same_Some r s (sym shown.0 ∙ is);
    known = known_fits structs t s (gives_of code) datum is fit shown.1;
  }
  operand_shown t s (Whole place) datum shown is fit = absurd (let none = shown.0 in cc)

  -- ---- one operand

  by_function : (op : Op) (s : ScalarType) (ty : Ty) (code : CExpr) (datum : Option Datum) → takes_one op s ≡ true → type_of_result op s ≡ s →
      builtin_of (function_name (operator_word op) s) ≡ Some (One op s) → ty ≡ scalar (type_of_result op s) → Known s (gives_of code) datum →
      shows ty (c_function op s (Value code ∷ [])) (option_and_then (one_datum op) (option_and_then operand_in datum))
  by_function op s ty code datum takes result named is known = (
    scalar_type ty s (is ∙ ap scalar result),
    one-number scope here (function_name (operator_word op) s) (One op s) named code ∙ one_known op s (gives_of code) datum known takes,
  )

  pub one_shows : (op : Op) (s : ScalarType) (ty : Ty) (code : CExpr) (datum : Option Datum) → takes_one op s ≡ true → ty
      ≡ scalar (type_of_result op s) →
      Known s (gives_of code) datum → shows ty (c_one op s code) (option_and_then (one_datum op) (option_and_then operand_in datum))
  one_shows Not s ty code datum takes is known =
      (scalar_type ty OfBool is, not-number scope here code ∙ one_known Not s (gives_of code) datum known takes)
  one_shows Minus s ty code datum takes is known = by_function Minus s ty code datum takes refl (neg_function s takes) is known
  one_shows BitNot s ty code datum takes is known = by_function BitNot s ty code datum takes refl (not_function s takes) is known
  one_shows _ s ty code datum takes is known = absurd (cc)

  -- ---- casts

  pub cast_gives : (from to : ScalarType) (code : CExpr) → is_whole to ≡ true →
      gives_of (c_cast from to code) ≡ option_and_then (λ n. only_if (in_range to n) n) (gives_of code)
  cast_gives from to code whole =
      one-number scope here (function_name (cast_word (is_int from)) to) (Cast (is_int from) to) (cast_function (is_int from) to whole) code

  pub cast_shows : (s to : ScalarType) (ty : Ty) (code : CExpr) (datum : Option Datum) → is_whole to ≡ true → ty ≡ scalar to →
      Known s (gives_of code) datum →
      shows ty (Number to (c_cast s to code)) (option_and_then (cast_datum to) (option_and_then operand_in datum))
  cast_shows s to ty code datum whole is known = (scalar_type ty to is, cast_gives s to code whole ∙ cast_known to s (gives_of code) datum known)

  -- ---- sides of comparisons

  whole_hidden : (s : ScalarType) (code : CExpr) (datum : Option Datum) → is_whole s ≡ true → Known s (gives_of code) datum →
      gives_of (c_cast s s code) ≡ gives_of code
  whole_hidden s code datum whole known = cast_gives s s code whole ∙ cast_itself s (gives_of code) datum known

  literal_one : gives_of (c_literal OfBool (pos 1)) ≡ Some (pos 1)
  literal_one = ap (λ (c : Counted CValue). num c.answer) (literal-value scope here OfBool (pos 1))

  pub hidden_same : (s : ScalarType) (code : CExpr) (datum : Option Datum) → Known s (gives_of code) datum → gives_of (hidden s code) ≡ gives_of code
  hidden_same OfBool code datum known =
      and-number scope here code (c_literal OfBool (pos 1))
      ∙ (ap (λ y. option_and_then (λ x. if is_one x then y else Some (pos 0)) (gives_of code)) literal_one
      ∙ and_itself (gives_of code) datum known)
  hidden_same (Int w) code datum known = whole_hidden (Int w) code datum refl known
  hidden_same (Nat w) code datum known = whole_hidden (Nat w) code datum refl known
  hidden_same (Bits w) code datum known = whole_hidden (Bits w) code datum refl known

  side_same : (hides : Bool) (s : ScalarType) (code : CExpr) (datum : Option Datum) → Known s (gives_of code) datum → gives_of (side hides s code)
      ≡ gives_of code
  side_same true s code datum known = hidden_same s code datum known
  side_same false s code datum known = refl

  -- ---- two operands

  module _ (s : ScalarType) (a b : CExpr) (first second : Option Datum) (known : Known s (gives_of a) first) (other : Known s (gives_of b) second) where
    -- what the program's operator gives
    abbrev means : Op → Option Datum
    means op = option_and_then (two_datum op (option_and_then operand_in second)) (option_and_then operand_in first)

    function_shows : (op : Op) (ty : Ty) → takes_two op s ≡ true → ((n : ℤ) → decides op n ≡ false) →
        builtin_of (function_name (operator_word op) s) ≡ Some (Two op s) → ty ≡ scalar s →
        shows ty (c_function op s (Value a ∷ Value b ∷ [])) (means op)
    function_shows op ty takes looks named is = (
      scalar_type ty s is,
      two-number scope here (function_name (operator_word op) s) (Two op s) named a b
          ∙ two_known op s (gives_of a) (gives_of b) first second known other takes
          looks,
    )

    compare_shows : (op : Op) (ty : Ty) → takes_two op s ≡ true → ((n : ℤ) → decides op n ≡ false) →
        ((e f : CExpr) → gives_of (c_two op e f) ≡ option_and_then (λ x. option_and_then (checked_of op s x) (gives_of f)) (gives_of e)) →
        ty ≡ scalar OfBool → shows ty (Number OfBool (c_compare op s a b)) (means op)
    compare_shows op ty takes looks compares is = (
      scalar_type ty OfBool is,
      compares (side left s a) (side right s b)
          ∙ (ap₂ (λ x y. option_and_then (λ x. option_and_then (checked_of op s x) y) x) (side_same left s a first known)
          (side_same right s b second other)
          ∙ two_known op s (gives_of a) (gives_of b) first second known other takes looks),
    )
      where
        left : Bool
        left = is_decided (mirrored op) a

        right : Bool
        right = hides_right op a b

    pub both_shows : (op : Op) (ty : Ty) → takes_two op s ≡ true → ty ≡ scalar (type_of_result op s) → shows ty (c_both op s a b) (means op)
    both_shows Add ty takes is = function_shows Add ty takes (λ n. refl) (add_function s takes) is
    both_shows Sub ty takes is = function_shows Sub ty takes (λ n. refl) (sub_function s takes) is
    both_shows Mul ty takes is = function_shows Mul ty takes (λ n. refl) (mul_function s takes) is
    both_shows Div ty takes is = function_shows Div ty takes (λ n. refl) (div_function s takes) is
    both_shows Rem ty takes is = function_shows Rem ty takes (λ n. refl) (rem_function s takes) is
    both_shows BitAnd ty takes is = function_shows BitAnd ty takes (λ n. refl) (and_function s takes) is
    both_shows BitOr ty takes is = function_shows BitOr ty takes (λ n. refl) (or_function s takes) is
    both_shows BitXor ty takes is = function_shows BitXor ty takes (λ n. refl) (xor_function s takes) is
    both_shows Shl ty takes is = function_shows Shl ty takes (λ n. refl) (shl_function s takes) is
    both_shows Shr ty takes is = function_shows Shr ty takes (λ n. refl) (shr_function s takes) is
    both_shows Eq ty takes is = compare_shows Eq ty takes (λ n. refl) (λ e f. compare-number scope here Eq e f (λ l r. refl)) is
    both_shows Ne ty takes is = compare_shows Ne ty takes (λ n. refl) (λ e f. compare-number scope here Ne e f (λ l r. refl)) is
    both_shows Lt ty takes is = compare_shows Lt ty takes (λ n. refl) (λ e f. compare-number scope here Lt e f (λ l r. refl)) is
    both_shows Le ty takes is = compare_shows Le ty takes (λ n. refl) (λ e f. compare-number scope here Le e f (λ l r. refl)) is
    both_shows Gt ty takes is = compare_shows Gt ty takes (λ n. refl) (λ e f. compare-number scope here Gt e f (λ l r. refl)) is
    both_shows Ge ty takes is = compare_shows Ge ty takes (λ n. refl) (λ e f. compare-number scope here Ge e f (λ l r. refl)) is
    both_shows And ty takes is = (
      scalar_type ty OfBool is,
      and-number scope here a b
          ∙ and_known (gives_of a) (gives_of b) first second (bool_known (gives_of a) first known takes) (bool_known (gives_of b) second other takes),
    )
      where
        bool_known : (x : Option ℤ) (datum : Option Datum) → Known s x datum → is_bool s ≡ true → Known OfBool x datum
        bool_known x datum known takes = subst (λ s. Known s x datum) (sym (bool_is s takes)) known
    both_shows Or ty takes is = (
      scalar_type ty OfBool is,
      or-number scope here a b
          ∙ or_known (gives_of a) (gives_of b) first second (bool_known (gives_of a) first known takes) (bool_known (gives_of b) second other takes),
    )
      where
        bool_known : (x : Option ℤ) (datum : Option Datum) → Known s x datum → is_bool s ≡ true → Known OfBool x datum
        bool_known x datum known takes = subst (λ s. Known s x datum) (sym (bool_is s takes)) known
    both_shows Minus ty takes is = absurd (cc)
    both_shows BitNot ty takes is = absurd (cc)
    both_shows Not ty takes is = absurd (cc)
