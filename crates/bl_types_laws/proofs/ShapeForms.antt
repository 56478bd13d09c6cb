-- What is formed of parts that are no more is no more: operators, casts, what is read, and what is wanted.
use Rattle.std.proofs.Common.{ℕ, List, [], ◌∷◌, Option, Some, None}
use Rattle.std.specs.Prelude.{Bool, true, false, ⊤, option_and_then, if◌then◌else◌}
use Rattle.bl_tree.specs.declared.place.Place.{Place}
use Rattle.bl_tree.specs.declared.scalar.Op.{Op}
use Rattle.bl_tree.specs.declared.scalar.Scalar.{Scalar as ScalarType}
use Rattle.bl_tree.specs.declared.tree.Expr.{Expr, out-Expr}
use Rattle.bl_tree.specs.declared.tree.Ty.{Ty}
use Rattle.bl_tree.specs.declared.tree.UnitKind.{UnitKind}
use Rattle.bl_tree.specs.Apart.{roots_in}
use Rattle.bl_tree.specs.Depths.{expr_depth}
use Rattle.bl_tree.specs.Scalar.{is_whole}
use Rattle.bl_tree.specs.Types.{same_type, scalar, scalar_in}
use Rattle.bl_tree.specs.Typing.{cast_type, one_type}
use Rattle.bl_types.specs.declared.environment.Variable.{Variable}
use Rattle.bl_types.specs.declared.form.Form.{Form}
use Rattle.bl_types.specs.declared.form.Form.TheVariants.{Failing, Open, Of}
use Rattle.bl_types.specs.declared.form.Found.{Found}
use Rattle.bl_types.specs.declared.form.Found.TheVariants as found
use Rattle.bl_types.specs.Declarations.{expr_of_form}
use Rattle.bl_types.specs.Expressions.{as_index, beside as taken, beside_none, call, call_form, cast, cast_formed, cast_made, closed_form, fails_type, fitting}
use Rattle.bl_types.specs.Expressions.{formed_as, of_settled, one_formed, operands_made, previous, previous_formed, previous_typed, read, reading, settled_two}
use Rattle.bl_types.specs.Expressions.{two_formed, type_of_two, unwanted, wanted_as, whole_or_unfit}
use Rattle.bl_types.specs.Settled.{given, int32, is_logical, keeps_one_open, keeps_two_open, kept, literal, one, settled, settled_if, two, unfit}
use Rattle.bl_types_laws.proofs.Opens.{ExprIn, given_in, settled_if_in, settled_in}
use Rattle.bl_types_laws.proofs.Sizes.{Size, SizeMost, beside, call_size, cast_most, deeper, empty, literal_size, one_most, previous_size, read_size, size_all}
use Rattle.bl_types_laws.proofs.Sizes.{size_deeper, size_empty, size_further, size_is, size_of, size_of_path, size_self, two_most}

-- what is known of an expression has at most this size
abbrev pub FormIn : Size → Form → Type 0
FormIn size Failing = ⊤
FormIn size (Open e) = SizeMost (size_of e) size
FormIn size (Of ty e) = SizeMost (size_of e) size

-- so has what a target leads to; a constant is a number alone
abbrev pub FoundIn : Size → Found → Type 0
FoundIn size found.Nothing = ⊤
FoundIn size (found.Constant s n) = ⊤
FoundIn size (found.Place path) = SizeMost (size_of_path path) size

expr_further : (a b : Size) (made : Option Expr) → ExprIn a made → SizeMost a b → ExprIn b made
expr_further a b (Some e) one more = size_further (size_of e) a b one more
expr_further a b None one more = tt

-- ---- where a type is wanted

open_in : (s : ScalarType) (e : Expr) (size : Size) → SizeMost (size_of e) size → ExprIn size (settled s e).made
open_in s e size most = expr_further (size_of e) size (settled s e).made (settled_in s e) most

given_most : (ty : Ty) (e : Expr) (size : Size) → SizeMost (size_of e) size → ExprIn size (given ty e).made
given_most ty e size most = expr_further (size_of e) size (given ty e).made (given_in ty e) most

kept_if : (holds : Bool) (at : Place) (e : Expr) (size : Size) → SizeMost (size_of e) size → ExprIn size (if holds then kept e else unfit at).made
kept_if true at e size most = most
kept_if false at e size most = tt

wanted_in : (wanted : Ty) (at : Place) (form : Form) (size : Size) → FormIn size form → ExprIn size (wanted_as wanted at form).made
wanted_in wanted at Failing size most = tt
wanted_in wanted at (Open e) size most = given_most wanted e size most
wanted_in wanted at (Of ty e) size most = kept_if (same_type wanted ty) at e size most

unwanted_in : (form : Form) (size : Size) → FormIn size form → ExprIn size (unwanted form).made
unwanted_in Failing size most = tt
unwanted_in (Open e) size most = open_in int32 e size most
unwanted_in (Of ty e) size most = most

pub fitting_in : (wanted : Option Ty) (at : Place) (form : Form) (size : Size) → FormIn size form → ExprIn size (fitting wanted at form).made
fitting_in (Some ty) at form size most = wanted_in ty at form size most
fitting_in None at form size most = unwanted_in form size most

of_settled_in : (s : ScalarType) (made : Option Expr) (size : Size) → ExprIn size made → ExprIn size (expr_of_form (of_settled s made))
of_settled_in s (Some e) size most = most
of_settled_in s None size most = tt

pub closed_in : (form : Form) (size : Size) → FormIn size form → ExprIn size (expr_of_form (closed_form form).form)
closed_in Failing size most = tt
closed_in (Open e) size most = of_settled_in int32 (settled int32 e).made size (open_in int32 e size most)
closed_in (Of ty e) size most = most

-- ---- operators

formed_in : (ty : Option Ty) (at : Place) (e : Expr) (size : Size) → SizeMost (size_of e) size → FormIn size (formed_as ty at e).form
formed_in (Some ty) at e size most = most
formed_in None at e size most = tt

one_open : (at : Place) (op : Op) (a : Expr) (stays : Bool) (size : Size) → SizeMost (size_of a) size →
    FormIn (deeper size) (if stays then record { form = Open (one at op a); failures = [] } else fails_type (out-Expr a).place).form
one_open at op a true size most = one_most at op a size most
one_open at op a false size most = tt

pub one_in : (at : Place) (op : Op) (form : Form) (size : Size) → FormIn size form → FormIn (deeper size) (one_formed at op form).form
one_in at op Failing size most = tt
one_in at op (Open a) size most = one_open at op a (keeps_one_open op) size most
one_in at op (Of ty a) size most = formed_in (option_and_then (one_type op) (scalar_in ty)) at (one at op a) (deeper size) (one_most at op a size most)

operands_in : (at : Place) (op : Op) (ty : Option Ty) (a b : Option Expr) (left right : Size) → ExprIn left a → ExprIn right b →
    FormIn (deeper (beside left right)) (operands_made at op ty a b).form
operands_in at op ty (Some a) (Some b) left right most other = formed_in ty at (two at op a b) (deeper (beside left right))
    (two_most at op a b left right most other)
operands_in at op ty (Some a) None left right most other = tt
operands_in at op ty None b left right most other = tt

taken_if : (logical : Bool) (ty : Ty) (e : Expr) (size : Size) → SizeMost (size_of e) size →
    ExprIn size (if logical then unfit (out-Expr e).place else given ty e).made
taken_if true ty e size most = tt
taken_if false ty e size most = given_most ty e size most

taken_in : (op : Op) (ty : Ty) (e : Expr) (size : Size) → SizeMost (size_of e) size → ExprIn size (taken op ty e).made
taken_in op ty e size most = taken_if (is_logical op) ty e size most

open_two : (at : Place) (op : Op) (a b : Expr) (stays : Bool) (left right : Size) → SizeMost (size_of a) left → SizeMost (size_of b) right →
    FormIn (deeper (beside left right)) (if stays then record { form = Open (two at op a b); failures = [] } else settled_two at op a b).form
open_two at op a b true left right most other = two_most at op a b left right most other
open_two at op a b false left right most other =
    operands_in at op (type_of_two op (scalar int32) (scalar int32)) (taken op (scalar int32) a).made (taken op (scalar int32) b).made left right
    (taken_in op (scalar int32) a left most) (taken_in op (scalar int32) b right other)

none_in : (op : Op) (other : Form) (size : Size) → FormIn size (beside_none op other).form
none_in op Failing size = tt
none_in op (Open e) size = tt
none_in op (Of ty e) size = tt

pub two_in : (at : Place) (op : Op) (a b : Form) (left right : Size) → FormIn left a → FormIn right b →
    FormIn (deeper (beside left right)) (two_formed at op a b).form
two_in at op Failing b left right most other = none_in op b (deeper (beside left right))
two_in at op (Open a) Failing left right most other = tt
two_in at op (Open a) (Open b) left right most other = open_two at op a b (keeps_two_open op) left right most other
two_in at op (Open a) (Of ty b) left right most other = operands_in at op (type_of_two op ty ty) (taken op ty a).made (Some b) left right
    (taken_in op ty a left most) other
two_in at op (Of ty a) Failing left right most other = tt
two_in at op (Of ty a) (Open b) left right most other = operands_in at op (type_of_two op ty ty) (Some a) (taken op ty b).made left right most
    (taken_in op ty b right other)
two_in at op (Of ty a) (Of more b) left right most other = operands_in at op (type_of_two op ty more) (Some a) (Some b) left right most other

cast_made_in : (at : Place) (target : ScalarType) (a : Option Expr) (size : Size) → ExprIn size a → FormIn (deeper size) (cast_made at target a)
cast_made_in at target (Some a) size most = cast_most at target a size most
cast_made_in at target None size most = tt

pub cast_in : (at : Place) (target : ScalarType) (form : Form) (size : Size) → FormIn size form → FormIn (deeper size) (cast_formed at target form).form
cast_in at target Failing size most = tt
cast_in at target (Open a) size most =
    cast_made_in at target (settled_if (is_whole target) target a).made size
    (expr_further (size_of a) size (settled_if (is_whole target) target a).made (settled_if_in target a) most)
cast_in at target (Of ty a) size most = formed_in (option_and_then (cast_type target) (scalar_in ty)) at (cast at target a) (deeper size)
    (cast_most at target a size most)

-- ---- what is read, and calls

pub reading_in : (at : Place) (found : Found) (size : Size) → FoundIn size found → FormIn size (reading at found)
reading_in at found.Nothing size most = tt
reading_in at (found.Constant s n) size most = size_is (size_of (literal at n s)) empty size (literal_size at n s) (size_empty size)
reading_in at (found.Place path) size most = size_is (size_of (read at path)) (size_of_path path) size (read_size at path) most

abbrev pub of_root : ℕ → Size
of_root k = record { depth = 0; roots = k ∷ [] }

previous_typed_in : (kind : UnitKind) (at : Place) (k : ℕ) (var : Variable) (ty : Option Ty) →
    FormIn (of_root k) (previous_typed kind at k var.role ty).form
previous_typed_in kind at k var (Some ty) = size_is (size_of (previous at k)) (of_root k) (of_root k) (previous_size at k) (size_self (of_root k))
previous_typed_in kind at k var None = tt

pub previous_in : (kind : UnitKind) (at : Place) (k : ℕ) (var : Option Variable) → FormIn (of_root k) (previous_formed kind at k var).form
previous_in kind at k (Some var) = previous_typed_in kind at k var var.ty
previous_in kind at k None = tt

pub call_in : (at : Place) (f : ℕ) (inputs : List Expr) (complete : Bool) (result : Option ScalarType) (size : Size) →
    SizeMost (size_all expr_depth roots_in inputs) size → FormIn (deeper size) (call_form at f inputs complete result)
call_in at f inputs true (Some s) size most =
    size_is (size_of (call at f inputs)) (deeper (size_all expr_depth roots_in inputs)) (deeper size) (call_size at f inputs)
    (size_deeper (size_all expr_depth roots_in inputs) size most)
call_in at f inputs true None size most = tt
call_in at f inputs false result size most = tt

-- an index that is made
whole_in : (at : Place) (s : Option ScalarType) (e : Expr) (size : Size) → SizeMost (size_of e) size → ExprIn size (whole_or_unfit at s e).made
whole_in at (Some s) e size most = kept_if (is_whole s) at e size most
whole_in at None e size most = tt

pub as_index_in : (at : Place) (form : Form) (size : Size) → FormIn size form → ExprIn size (as_index at form).made
as_index_in at Failing size most = tt
as_index_in at (Open e) size most = open_in int32 e size most
as_index_in at (Of ty e) size most = whole_in at (scalar_in ty) e size most
