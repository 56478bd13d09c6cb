-- What is made of an expression calls the prelude's functions, and the functions that the expression calls.
use Rattle.std.proofs.Common.{◌≡◌, ℕ, ◌≤◌, ℤ, pos, Bool, true, false, List, [], ◌∷◌, ◌++◌, map, Option}
use Rattle.std.proofs.Common.{Some, None}
use Rattle.std.proofs.Common.{sym, ◌∙◌, subst, arith, codes}
use Rattle.std.proofs.lemmas.List.Elements.{All-head, All-tail}
use Rattle.std.specs.Prelude.{All, slice_get}
use Rattle.bl_tree.specs.declared.place.Place.{Place}
use Rattle.bl_tree.specs.declared.text.Text.{Text}
use Rattle.bl_tree.specs.declared.c.CArg.{CArg}
use Rattle.bl_tree.specs.declared.c.CArg.TheVariants.{Value, Address}
use Rattle.bl_tree.specs.declared.c.CExpr.{CExpr}
use Rattle.bl_tree.specs.declared.c.CPlace.{CPlace}
use Rattle.bl_tree.specs.declared.c.CStep.{CStep}
use Rattle.bl_tree.specs.declared.scalar.Op.{Op}
use Rattle.bl_tree.specs.declared.scalar.Op.TheVariants.{Add, Sub, Mul, Div, Rem, Minus, BitAnd, BitOr, BitXor, BitNot, Shl, Shr}
use Rattle.bl_tree.specs.declared.scalar.Op.TheVariants.{Eq, Ne, Lt, Le, Gt, Ge, And, Or, Not}
use Rattle.bl_tree.specs.declared.scalar.Scalar.{Scalar as ScalarType}
use Rattle.bl_tree.specs.declared.scalar.Scalar.TheVariants.{Bool as OfBool, Int, Nat, Bits}
use Rattle.bl_tree.specs.declared.tree.Expr.{Expr, fold-roll-Expr}
use Rattle.bl_tree.specs.declared.tree.ExprKind.{ExprKind, fold-roll-ExprKind}
use Rattle.bl_tree.specs.declared.tree.ExprKind.TheOpen.{ExprKind-F, Part-F}
use Rattle.bl_tree.specs.declared.tree.Part.{Part, fold-roll-Part, out-Part, out-roll-Part, roll-Part, roll-out-Part}
use Rattle.bl_tree.specs.declared.tree.Path.{Path, fold-roll-Path, roll-Path}
use Rattle.bl_tree.specs.declared.tree.Ty.{Ty}
use Rattle.bl_tree.specs.declared.tree.Unit.{Unit as UnitDef}
use Rattle.bl_tree.specs.Reduce.{joined}
use Rattle.bl_tree.specs.Scalar.{is_int}
use Rattle.bl_tree.specs.Types.{scalar_in}
use Rattle.bl_tree.specs.Typing.{TypingContext, is_activity, var_at}
use Rattle.bl_tree.proofs.ExprInduction.{Cases, EachIndex, OfIndex, expr, induct, induct_path}
use Rattle.bl_limits_measures.specs.Calls.{calls_in_expr, calls_in_part, calls_in_path}
use Rattle.bl_ctext_semantics.specs.Calls.{calls_in, calls_in_arg, calls_in_call, calls_in_place, calls_in_step}
use Rattle.bl_emit_acts.specs.declared.home.Home.{Home}
use Rattle.bl_emit_acts.specs.declared.home.Home.TheVariants.{Held, Local, Lent}
use Rattle.bl_emit_acts.specs.declared.made.Made.{Made}
use Rattle.bl_emit_acts.specs.declared.made.Made.TheVariants.{Number, Whole}
use Rattle.bl_emit_acts.specs.Acts.{name_of_callee}
use Rattle.bl_emit_acts.specs.Expressions.{arg_of, c_both, c_cast, c_compare, c_function, c_one, cast_word, code_of, function_name, hidden, hides_right}
use Rattle.bl_emit_acts.specs.Expressions.{is_decided, length_at, made_at, made_call, made_of, mirrored, operator_word, side, stands, step_typing, steps_of}
use Rattle.bl_emit_acts.specs.Expressions.{type_at, type_made}
use Rattle.bl_emit_acts.specs.Places.{home_of, place_by_steps, place_in}
use Rattle.bl_emit_acts.specs.Trees.{c_call, c_called, c_literal, c_not, c_place, c_read, c_step, c_two}
use Rattle.bl_emit_acts.specs.Types.{c_scalar, copy_name, elements_name, variable_name}
use Rattle.bl_emit_functions_laws_wellformed.proofs.OnFiles.Shapes.{address-calls, call-calls, called-calls, element-calls, literal-calls, not-calls}
use Rattle.bl_emit_functions_laws_wellformed.proofs.OnFiles.Shapes.{place-calls}
use Rattle.bl_emit_functions_laws_wellformed.proofs.OnFiles.Shapes.{read-calls, step-calls, two-calls, value-calls}
use Rattle.bl_emit_functions_laws_wellformed.proofs.OnFiles.Under.{Under, append-under, back-under, cons-under, front-under, head-under, none-under, same-under}
use Rattle.bl_emit_functions_laws_wellformed.proofs.OnFiles.Under.{tail-under}

module _ (weight : Text → ℕ) (prelude : (word : Text) (s : ScalarType) → weight (function_name word s) ≡ 0) where
  -- none of these names has a greater number
  abbrev pub Light : ℕ → List Text → Type 0
  Light n names = Under weight n names

  pub same-light : (n : ℕ) (xs ys : List Text) → xs ≡ ys → Light n ys → Light n xs
  same-light n xs ys is all = same-under weight n xs ys is all

  -- nothing is called
  pub none-light : (n : ℕ) (xs : List Text) → xs ≡ [] → Light n xs
  none-light n xs is = same-light n xs [] is (none-under weight n)

  -- ---- parts of C

  pub literal-light : (n : ℕ) (s : ScalarType) (v : ℤ) → Light n (calls_in (c_literal s v))
  literal-light n s v = none-light n (calls_in (c_literal s v)) (literal-calls s v)

  pub read-light : (n : ℕ) (place : CPlace) → Light n (calls_in_place place) → Light n (calls_in (c_read place))
  read-light n place all = same-light n (calls_in (c_read place)) (calls_in_place place) (read-calls place) all

  -- a variable or what a pointer leads to, without steps
  pub root-light : (n : ℕ) (through : Bool) (name : Text) → Light n (calls_in_place (c_place through name []))
  root-light n through name = none-light n (calls_in_place (c_place through name [])) (place-calls through name [])

  pub two-light : (n : ℕ) (op : Op) (a b : CExpr) → Light n (calls_in a) → Light n (calls_in b) → Light n (calls_in (c_two op a b))
  two-light n op a b one other =
      same-light n (calls_in (c_two op a b)) (calls_in a ++ calls_in b) (two-calls op a b) (append-under weight n (calls_in a) (calls_in b) one other)

  pub call-light : (n : ℕ) (name : Text) (args : List CArg) → weight name ≤ n → Light n (joined (map calls_in_arg args)) →
      Light n (calls_in_call (c_call name args))
  call-light n name args small all =
      same-light n (calls_in_call (c_call name args)) (name ∷ joined (map calls_in_arg args)) (call-calls name args)
      (cons-under weight n name (joined (map calls_in_arg args)) small all)

  called-light : (n : ℕ) (name : Text) (args : List CArg) → weight name ≤ n → Light n (joined (map calls_in_arg args)) →
      Light n (calls_in (c_called name args))
  called-light n name args small all =
      same-light n (calls_in (c_called name args)) (calls_in_call (c_call name args)) (called-calls (c_call name args)) (call-light n name args small all)

  value-light : (n : ℕ) (a : CExpr) → Light n (calls_in a) → Light n (calls_in_arg (Value a))
  value-light n a one = same-light n (calls_in_arg (Value a)) (calls_in a) (value-calls a) one

  -- ---- operators

  free : (n : ℕ) (word : Text) (s : ScalarType) → weight (function_name word s) ≤ n
  free n word s = let none : weight (function_name word s) ≡ 0 = prelude word s in omega (arith, none)

  one_arg : (n : ℕ) (a : CExpr) → Light n (calls_in a) → Light n (joined (map calls_in_arg (Value a ∷ [])))
  one_arg n a one = append-under weight n (calls_in_arg (Value a)) [] (value-light n a one) (none-under weight n)

  two_args : (n : ℕ) (a b : CExpr) → Light n (calls_in a) → Light n (calls_in b) → Light n (joined (map calls_in_arg (Value a ∷ Value b ∷ [])))
  two_args n a b one other =
      append-under weight n (calls_in_arg (Value a)) (joined (map calls_in_arg (Value b ∷ []))) (value-light n a one) (one_arg n b other)

  cast-light : (n : ℕ) (from to : ScalarType) (a : CExpr) → Light n (calls_in a) → Light n (calls_in (c_cast from to a))
  cast-light n from to a one =
      called-light n (function_name (cast_word (is_int from)) to) (Value a ∷ []) (free n (cast_word (is_int from)) to) (one_arg n a one)

  pub hidden-light : (n : ℕ) (s : ScalarType) (a : CExpr) → Light n (calls_in a) → Light n (calls_in (hidden s a))
  hidden-light n OfBool a one = two-light n And a (c_literal OfBool (pos 1)) one (literal-light n OfBool (pos 1))
  hidden-light n (Int w) a one = cast-light n (Int w) (Int w) a one
  hidden-light n (Nat w) a one = cast-light n (Nat w) (Nat w) a one
  hidden-light n (Bits w) a one = cast-light n (Bits w) (Bits w) a one

  side-light : (n : ℕ) (hides : Bool) (s : ScalarType) (a : CExpr) → Light n (calls_in a) → Light n (calls_in (side hides s a))
  side-light n true s a one = hidden-light n s a one
  side-light n false s a one = one

  -- what is made calls nothing of a greater number
  abbrev MadeLight : ℕ → Made → Type 0
  MadeLight n made = Light n (calls_in (code_of made))

  one_function : (n : ℕ) (op : Op) (s : ScalarType) (a : CExpr) → Light n (calls_in a) → MadeLight n (c_function op s (Value a ∷ []))
  one_function n op s a one =
      called-light n (function_name (operator_word op) s) (Value a ∷ []) (free n (operator_word op) s) (one_arg n a one)

  one_light : (n : ℕ) (op : Op) (s : ScalarType) (a : CExpr) → Light n (calls_in a) → MadeLight n (c_one op s a)
  one_light n Not s a one = same-light n (calls_in (c_not a)) (calls_in a) (not-calls a) one
  one_light n Minus s a one = one_function n Minus s a one
  one_light n BitNot s a one = one_function n BitNot s a one
  one_light n Add s a one = one_function n Add s a one
  one_light n Sub s a one = one_function n Sub s a one
  one_light n Mul s a one = one_function n Mul s a one
  one_light n Div s a one = one_function n Div s a one
  one_light n Rem s a one = one_function n Rem s a one
  one_light n BitAnd s a one = one_function n BitAnd s a one
  one_light n BitOr s a one = one_function n BitOr s a one
  one_light n BitXor s a one = one_function n BitXor s a one
  one_light n Shl s a one = one_function n Shl s a one
  one_light n Shr s a one = one_function n Shr s a one
  one_light n Eq s a one = one_function n Eq s a one
  one_light n Ne s a one = one_function n Ne s a one
  one_light n Lt s a one = one_function n Lt s a one
  one_light n Le s a one = one_function n Le s a one
  one_light n Gt s a one = one_function n Gt s a one
  one_light n Ge s a one = one_function n Ge s a one
  one_light n And s a one = one_function n And s a one
  one_light n Or s a one = one_function n Or s a one

  two_function : (n : ℕ) (op : Op) (s : ScalarType) (a b : CExpr) → Light n (calls_in a) → Light n (calls_in b) →
      MadeLight n (c_function op s (Value a ∷ Value b ∷ []))
  two_function n op s a b one other =
      called-light n (function_name (operator_word op) s) (Value a ∷ Value b ∷ []) (free n (operator_word op) s) (two_args n a b one other)

  compared : (n : ℕ) (op : Op) (s : ScalarType) (a b : CExpr) → Light n (calls_in a) → Light n (calls_in b) → Light n (calls_in (c_compare op s a b))
  compared n op s a b one other =
      two-light n op (side (is_decided (mirrored op) a) s a) (side (hides_right op a b) s b) (side-light n (is_decided (mirrored op) a) s a one)
      (side-light n (hides_right op a b) s b other)

  both_light : (n : ℕ) (op : Op) (s : ScalarType) (a b : CExpr) → Light n (calls_in a) → Light n (calls_in b) → MadeLight n (c_both op s a b)
  both_light n Eq s a b one other = compared n Eq s a b one other
  both_light n Ne s a b one other = compared n Ne s a b one other
  both_light n Lt s a b one other = compared n Lt s a b one other
  both_light n Le s a b one other = compared n Le s a b one other
  both_light n Gt s a b one other = compared n Gt s a b one other
  both_light n Ge s a b one other = compared n Ge s a b one other
  both_light n And s a b one other = two-light n And a b one other
  both_light n Or s a b one other = two-light n Or a b one other
  both_light n Add s a b one other = two_function n Add s a b one other
  both_light n Sub s a b one other = two_function n Sub s a b one other
  both_light n Mul s a b one other = two_function n Mul s a b one other
  both_light n Div s a b one other = two_function n Div s a b one other
  both_light n Rem s a b one other = two_function n Rem s a b one other
  both_light n Minus s a b one other = two_function n Minus s a b one other
  both_light n BitAnd s a b one other = two_function n BitAnd s a b one other
  both_light n BitOr s a b one other = two_function n BitOr s a b one other
  both_light n BitXor s a b one other = two_function n BitXor s a b one other
  both_light n BitNot s a b one other = two_function n BitNot s a b one other
  both_light n Shl s a b one other = two_function n Shl s a b one other
  both_light n Shr s a b one other = two_function n Shr s a b one other
  both_light n Not s a b one other = two_function n Not s a b one other

  arg_light : (n : ℕ) (made : Made) → MadeLight n made → Light n (calls_in_arg (arg_of made))
  arg_light n (Number s code) one = value-light n code one
  arg_light n (Whole place) one =
      same-light n (calls_in_arg (Address place)) (calls_in (c_read place)) (address-calls place ∙ sym (read-calls place)) one

  at_light : (n : ℕ) (s : Option ScalarType) (place : CPlace) → Light n (calls_in_place place) → MadeLight n (made_at s place)
  at_light n (Some s) place all = read-light n place all
  at_light n None place all = read-light n place all

  called_made : (n : ℕ) (o : Option UnitDef) (args : List CArg) → weight (name_of_callee o) ≤ n → Light n (joined (map calls_in_arg args)) →
      MadeLight n (made_call o args)
  called_made n (Some unit) args small all = called-light n (name_of_callee (Some unit)) args small all
  called_made n None args small all = called-light n (name_of_callee None) args small all

  -- ---- expressions and paths

  module _ (site : TypingContext) (by : ℕ → ℕ) (callees : (f : ℕ) → weight (name_of_callee (slice_get site.earlier f)) ≤ by f) where
    abbrev P : Expr → Type 0
    P e = (n : ℕ) → Under by n (calls_in_expr e) → Light n (calls_in (code_of (made_of site e)))

    abbrev Q : Path → Type 0
    Q path = (n : ℕ) → Under by n (calls_in_path path) → Light n (calls_in_place (stands site path).place)

    pub callee_light : (n f : ℕ) → by f ≤ n → weight (name_of_callee (slice_get site.earlier f)) ≤ n
    callee_light n f small = let less : weight (name_of_callee (slice_get site.earlier f)) ≤ by f = callees f in omega (arith, less, small)

    literal_case : (place : Place) (v : ℤ) (s : ScalarType) → P (expr place (ExprKind-F.Literal v s))
    literal_case place v s n few = rw (fold-roll-Expr, fold-roll-ExprKind) (literal-light n (c_scalar s) v)

    read_case : (place : Place) (path : Path) → Q path → P (expr place (ExprKind-F.Read path))
    read_case place path is n few =
        rw (fold-roll-Expr, fold-roll-ExprKind)
        (at_light n (scalar_in (stands site path).ty) (stands site path).place (is n (rw (fold-roll-Expr, fold-roll-ExprKind) at few)))

    prev_case : (place : Place) (k : ℕ) → P (expr place (ExprKind-F.Prev k))
    prev_case place k n few =
        rw (fold-roll-Expr, fold-roll-ExprKind) (read-light n (c_place false (copy_name site.vars k) []) (root-light n false (copy_name site.vars k)))

    one_case : (place : Place) (op : Op) (a : Expr) → P a → P (expr place (ExprKind-F.One op a))
    one_case place op a is n few =
        rw (fold-roll-Expr, fold-roll-ExprKind)
        (one_light n op (type_made (made_of site a)) (code_of (made_of site a)) (is n (rw (fold-roll-Expr, fold-roll-ExprKind) at few)))

    two_case : (place : Place) (op : Op) (a b : Expr) → P a → P b → P (expr place (ExprKind-F.Two op a b))
    two_case place op a b is other n few =
        let all : Under by n (calls_in_expr a ++ calls_in_expr b) = rw (fold-roll-Expr, fold-roll-ExprKind) at few in
        rw (fold-roll-Expr, fold-roll-ExprKind)
        (both_light n op (type_made (made_of site a)) (code_of (made_of site a)) (code_of (made_of site b))
        (is n (front-under by n (calls_in_expr a) (calls_in_expr b) all)) (other n (back-under by n (calls_in_expr a) (calls_in_expr b) all)))

    cast_case : (place : Place) (s : ScalarType) (a : Expr) → P a → P (expr place (ExprKind-F.Cast s a))
    cast_case place s a is n few =
        rw (fold-roll-Expr, fold-roll-ExprKind)
        (cast-light n (type_made (made_of site a)) s (code_of (made_of site a)) (is n (rw (fold-roll-Expr, fold-roll-ExprKind) at few)))

    pub args_light : (inputs : List Expr) → All P inputs → (n : ℕ) → Under by n (joined (map calls_in_expr inputs)) →
        Light n (joined (map calls_in_arg (map arg_of (map (made_of site) inputs))))
    args_light [] each n few = none-under weight n
    args_light (e ∷ inputs) each n few =
        append-under weight n (calls_in_arg (arg_of (made_of site e))) (joined (map calls_in_arg (map arg_of (map (made_of site) inputs))))
        (arg_light n (made_of site e)
        (All-head P e inputs each n (front-under by n (calls_in_expr e) (joined (map calls_in_expr inputs)) few)))
        (args_light inputs (All-tail P e inputs each) n (back-under by n (calls_in_expr e) (joined (map calls_in_expr inputs)) few))

    call_case : (place : Place) (f : ℕ) (inputs : List Expr) → All P inputs → P (expr place (ExprKind-F.Call f inputs))
    call_case place f inputs each n few =
        let all : Under by n (f ∷ joined (map calls_in_expr inputs)) = rw (fold-roll-Expr, fold-roll-ExprKind) at few in
        rw (fold-roll-Expr, fold-roll-ExprKind)
        (called_made n (slice_get site.earlier f) (map arg_of (map (made_of site) inputs))
        (callee_light n f (head-under by n f (joined (map calls_in_expr inputs)) all))
        (args_light inputs each n (tail-under by n f (joined (map calls_in_expr inputs)) all)))

    -- what the step of a part calls
    abbrev PartLight : Part → Type 0
    PartLight part = (n : ℕ) (ty : Option Ty) → Under by n (calls_in_part part) → Light n (calls_in_step (step_typing site part ty).step)

    part_by : (layer : Part-F ExprKind Part Expr Path) → OfIndex P layer → PartLight (roll-Part layer)
    part_by (Part-F.Field k) is n ty few = rw fold-roll-Part (none-light n _ (step-calls _))
    part_by (Part-F.Index e) is n ty few =
        rw fold-roll-Part
        (same-light n _ (calls_in (code_of (made_of site e)))
        (element-calls elements_name (is_int (type_made (made_of site e))) (code_of (made_of site e)) (length_at ty))
        (is n (rw fold-roll-Part at few)))

    part_light : (part : Part) → OfIndex P (out-Part part) → PartLight part
    part_light part = subst (λ part. OfIndex P (out-Part part) → PartLight part) (roll-out-Part part)
        (λ is. part_by (out-Part part) (subst (OfIndex P) (out-roll-Part (out-Part part)) is))

    steps_light : (parts : List Part) → EachIndex P parts → (n : ℕ) (ty : Option Ty) → Under by n (joined (map calls_in_part parts)) →
        Light n (joined (map calls_in_step (steps_of (map (step_typing site) parts) ty)))
    steps_light [] each n ty few = none-under weight n
    steps_light (part ∷ rest) each n ty few =
        append-under weight n (calls_in_step (step_typing site part ty).step)
        (joined (map calls_in_step (steps_of (map (step_typing site) rest) (step_typing site part ty).ty)))
        (part_light part (All-head (λ part. OfIndex P (out-Part part)) part rest each) n ty
        (front-under by n (calls_in_part part) (joined (map calls_in_part rest)) few))
        (steps_light rest (All-tail (λ part. OfIndex P (out-Part part)) part rest each) n (step_typing site part ty).ty
        (back-under by n (calls_in_part part) (joined (map calls_in_part rest)) few))

    home_light : (n : ℕ) (activity : Bool) (home : Home) (k : ℕ) (steps : List CStep) → Light n (joined (map calls_in_step steps)) →
        Light n (calls_in_place (place_by_steps activity home site.vars k steps))
    home_light n activity Held k steps all =
        same-light n (calls_in_place (c_place activity (codes "m") (c_step (variable_name site.vars k) ∷ steps)))
        (calls_in_step (c_step (variable_name site.vars k)) ++ joined (map calls_in_step steps))
        (place-calls activity (codes "m") (c_step (variable_name site.vars k) ∷ steps))
        (append-under weight n (calls_in_step (c_step (variable_name site.vars k))) (joined (map calls_in_step steps))
        (none-light n (calls_in_step (c_step (variable_name site.vars k))) (step-calls (variable_name site.vars k))) all)
    home_light n activity Local k steps all =
        same-light n (calls_in_place (c_place false (variable_name site.vars k) steps)) (joined (map calls_in_step steps))
        (place-calls false (variable_name site.vars k) steps) all
    home_light n activity Lent k steps all =
        same-light n (calls_in_place (c_place true (variable_name site.vars k) steps)) (joined (map calls_in_step steps))
        (place-calls true (variable_name site.vars k) steps) all

    -- the place of a variable calls nothing
    pub own_light : (n k : ℕ) → Light n (calls_in_place (place_in site k []))
    own_light n k = home_light n (is_activity site.kind) (home_of site (var_at site k)) k [] (none-under weight n)

    path_case : (place : Place) (root : ℕ) (parts : List Part) (ty : Ty) → EachIndex P parts →
        Q (roll-Path (record { place = place; root = root; parts = parts; ty = ty }))
    path_case place root parts ty each n few =
        rw fold-roll-Path
        (home_light n (is_activity site.kind) (home_of site (var_at site root)) root (steps_of (map (step_typing site) parts) (type_at (var_at site root)))
        (steps_light parts each n (type_at (var_at site root)) (rw fold-roll-Path at few)))

    cases : Cases P Q
    cases = record {
      literal = literal_case;
      read = read_case;
      prev = prev_case;
      one = one_case;
      two = two_case;
      cast = cast_case;
      call = call_case;
      path = path_case;
    }

    -- what is made of an expression calls what the expression calls
    pub expr_light : (e : Expr) → P e
    expr_light = induct P Q cases

    -- and so does the place of a path
    pub path_light : (path : Path) → Q path
    path_light = induct_path P Q cases
