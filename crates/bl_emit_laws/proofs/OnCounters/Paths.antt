-- What is made of expressions and paths names no counter, and begins with names of variables.
use Rattle.std.proofs.Common.{◌≡◌, ℕ, ℤ, pos, Bool, true, false, ◌||◌, List, [], ◌∷◌, ◌++◌, map, Option}
use Rattle.std.proofs.Common.{Some, None}
use Rattle.std.proofs.Common.{refl, sym, ◌∙◌, subst, codes}
use Rattle.std.proofs.lemmas.List.Elements.{All-head, All-tail}
use Rattle.std.specs.List.{list_any}
use Rattle.std.specs.Prelude.{All, slice_get}
use Rattle.bl_tree.specs.declared.place.Place.{Place}
use Rattle.bl_tree.specs.declared.text.Text.{Text}
use Rattle.bl_tree.specs.declared.c.CArg.{CArg}
use Rattle.bl_tree.specs.declared.c.CArg.TheVariants.{Value, Address}
use Rattle.bl_tree.specs.declared.c.CExpr.{CExpr}
use Rattle.bl_tree.specs.declared.c.CPlace.{CPlace}
use Rattle.bl_tree.specs.declared.c.CStep.{CStep}
use Rattle.bl_tree.specs.declared.scalar.Op.{Op}
use Rattle.bl_tree.specs.declared.scalar.Op.TheVariants.{Add, Sub, Mul, Div, Rem, Minus, BitAnd, BitOr, BitXor, BitNot, Shl, Shr}
use Rattle.bl_tree.specs.declared.scalar.Op.TheVariants.{Eq, Ne, Lt, Le, Gt, Ge, And, Or, Not}
use Rattle.bl_tree.specs.declared.scalar.Scalar.{Scalar as ScalarType}
use Rattle.bl_tree.specs.declared.scalar.Scalar.TheVariants.{Bool as OfBool, Int, Nat, Bits}
use Rattle.bl_tree.specs.declared.tree.Expr.{Expr, fold-roll-Expr}
use Rattle.bl_tree.specs.declared.tree.ExprKind.{ExprKind, fold-roll-ExprKind}
use Rattle.bl_tree.specs.declared.tree.ExprKind.TheOpen.{ExprKind-F, Part-F}
use Rattle.bl_tree.specs.declared.tree.Part.{Part, fold-roll-Part, out-Part, out-roll-Part, roll-Part, roll-out-Part}
use Rattle.bl_tree.specs.declared.tree.Path.{Path, fold-roll-Path, roll-Path}
use Rattle.bl_tree.specs.declared.tree.Ty.{Ty}
use Rattle.bl_tree.specs.declared.tree.Unit.{Unit as UnitDef}
use Rattle.bl_tree.specs.declared.tree.Var.{Var}
use Rattle.bl_tree.specs.Reduce.{joined}
use Rattle.bl_tree.specs.Scalar.{is_int}
use Rattle.bl_tree.specs.Types.{scalar_in}
use Rattle.bl_tree.specs.Typing.{TypingContext, is_activity, var_at}
use Rattle.bl_tree.proofs.ExprInduction.{Cases, EachIndex, OfIndex, expr, induct, induct_path}
use Rattle.bl_emit_acts.specs.declared.home.Home.{Home}
use Rattle.bl_emit_acts.specs.declared.home.Home.TheVariants.{Held, Local, Lent}
use Rattle.bl_emit_acts.specs.declared.made.Made.{Made}
use Rattle.bl_emit_acts.specs.declared.made.Made.TheVariants.{Number, Whole}
use Rattle.bl_emit_acts.specs.Expressions.{arg_of, c_both, c_cast, c_compare, c_function, c_one, cast_word, code_of, function_name, hidden, hides_right}
use Rattle.bl_emit_acts.specs.Expressions.{field_at, is_decided, length_at, made_at, made_call, made_of, mirrored, name_of_field, operator_word, side, stands}
use Rattle.bl_emit_acts.specs.Expressions.{step_typing, steps_of, type_at, type_made}
use Rattle.bl_emit_acts.specs.Places.{home_of, place_by_steps, place_in}
use Rattle.bl_emit_acts.specs.Trees.{c_call, c_called, c_literal, c_not, c_place, c_read, c_step, c_two}
use Rattle.bl_emit_acts.specs.Types.{c_scalar, copy_name, elements_name, field_name, unit_name, variable_name}
use Rattle.bl_ctext_places.specs.Counters.{is_counter_name, names_counter}
use Rattle.bl_ctext_places.specs.Places.{CPath, StepParts, parts_of_step, places_in, places_in_arg, places_in_call, places_in_place}
use Rattle.bl_emit_laws.proofs.OnCounters.Fine.{Fine, append-fine, none-fine, same-fine}
use Rattle.bl_emit_laws.proofs.OnCounters.Shapes.{address-names, call-names, called-names, element-passes, inside, literal-names, members_in, not-names}
use Rattle.bl_emit_laws.proofs.OnCounters.Shapes.{place-names, place_of, read-names, step-passes, two-names, value-names}

neither : (a b : Bool) → a ≡ false → b ≡ false → (a || b) ≡ false
neither true b one other = one
neither false b one other = other

-- all names are these with which what is made of expressions begins
pub record OfVariables (Named : Text → Type 0) : Type 0 where
  pub variable : (vars : List Var) (k : ℕ) → Named (variable_name vars k)
  pub copy : (vars : List Var) (k : ℕ) → Named (copy_name vars k)
  pub memory : Named (codes "m")

module _ (P : CPath → Type 0) (Named : Text → Type 0) (names : OfVariables Named)
    (plain : (place : CPath) → names_counter place ≡ false → Named place.name → P place) where
  abbrev pub ExprFine : CExpr → Type 0
  ExprFine e = Fine P (places_in e)

  abbrev pub PlaceFine : CPlace → Type 0
  PlaceFine place = Fine P (places_in_place place)

  abbrev pub ArgFine : CArg → Type 0
  ArgFine arg = Fine P (places_in_arg arg)

  abbrev pub ArgsFine : List CArg → Type 0
  ArgsFine args = Fine P (joined (map places_in_arg args))

  -- ---- parts of C

  -- a step goes through no counter
  abbrev pub Passes : StepParts → Type 0
  Passes step = (is_counter_name step.member ≡ false) × Fine P step.inside

  abbrev pub StepsFine : List CStep → Type 0
  StepsFine [] = Unit {0}
  StepsFine (step ∷ rest) = Passes (parts_of_step step) × StepsFine rest

  pub member-fine : (member : Text) → is_counter_name member ≡ false → Passes (parts_of_step (c_step member))
  member-fine member other = subst Passes (sym (step-passes member)) (other, tt)

  uncounted : (steps : List CStep) → StepsFine steps → list_any is_counter_name (members_in steps) ≡ false
  uncounted [] all = refl
  uncounted (step ∷ rest) all =
      neither (is_counter_name (parts_of_step step).member) (list_any is_counter_name (members_in rest)) all.0.0 (uncounted rest all.1)

  inside_fine : (steps : List CStep) → StepsFine steps → Fine P (inside steps)
  inside_fine [] all = tt
  inside_fine (step ∷ rest) all = append-fine P (parts_of_step step).inside (inside rest) all.0.1 (inside_fine rest all.1)

  pub place-fine : (through : Bool) (name : Text) (steps : List CStep) → Named name → StepsFine steps → PlaceFine (c_place through name steps)
  place-fine through name steps named all =
      same-fine P (places_in_place (c_place through name steps)) (place_of through name steps ∷ inside steps) (place-names through name steps)
      (plain (place_of through name steps) (uncounted steps all) named, inside_fine steps all)

  -- a variable or what a pointer leads to, without steps
  pub root-fine : (through : Bool) (name : Text) → Named name → PlaceFine (c_place through name [])
  root-fine through name named = place-fine through name [] named tt

  pub literal-fine : (s : ScalarType) (v : ℤ) → ExprFine (c_literal s v)
  literal-fine s v = none-fine P (places_in (c_literal s v)) (literal-names s v)

  pub read-fine : (place : CPlace) → PlaceFine place → ExprFine (c_read place)
  read-fine place all = same-fine P (places_in (c_read place)) (places_in_place place) (read-names place) all

  pub not-fine : (a : CExpr) → ExprFine a → ExprFine (c_not a)
  not-fine a one = same-fine P (places_in (c_not a)) (places_in a) (not-names a) one

  pub two-fine : (op : Op) (a b : CExpr) → ExprFine a → ExprFine b → ExprFine (c_two op a b)
  two-fine op a b one other =
      same-fine P (places_in (c_two op a b)) (places_in a ++ places_in b) (two-names op a b) (append-fine P (places_in a) (places_in b) one other)

  pub call-fine : (name : Text) (args : List CArg) → ArgsFine args → Fine P (places_in_call (c_call name args))
  call-fine name args all = same-fine P (places_in_call (c_call name args)) (joined (map places_in_arg args)) (call-names name args) all

  called-fine : (name : Text) (args : List CArg) → ArgsFine args → ExprFine (c_called name args)
  called-fine name args all =
      same-fine P (places_in (c_called name args)) (places_in_call (c_call name args)) (called-names (c_call name args)) (call-fine name args all)

  pub value-fine : (a : CExpr) → ExprFine a → ArgFine (Value a)
  value-fine a one = same-fine P (places_in_arg (Value a)) (places_in a) (value-names a) one

  pub address-fine : (place : CPlace) → PlaceFine place → ArgFine (Address place)
  address-fine place one = same-fine P (places_in_arg (Address place)) (places_in_place place) (address-names place) one

  pub first-arg : (arg : CArg) (args : List CArg) → ArgFine arg → ArgsFine args → ArgsFine (arg ∷ args)
  first-arg arg args one more = append-fine P (places_in_arg arg) (joined (map places_in_arg args)) one more

  -- ---- operators

  one_arg : (a : CExpr) → ExprFine a → ArgsFine (Value a ∷ [])
  one_arg a one = first-arg (Value a) [] (value-fine a one) tt

  two_args : (a b : CExpr) → ExprFine a → ExprFine b → ArgsFine (Value a ∷ Value b ∷ [])
  two_args a b one other = first-arg (Value a) (Value b ∷ []) (value-fine a one) (one_arg b other)

  cast-fine : (from to : ScalarType) (a : CExpr) → ExprFine a → ExprFine (c_cast from to a)
  cast-fine from to a one = called-fine (function_name (cast_word (is_int from)) to) (Value a ∷ []) (one_arg a one)

  pub hidden-fine : (s : ScalarType) (a : CExpr) → ExprFine a → ExprFine (hidden s a)
  hidden-fine OfBool a one = two-fine And a (c_literal OfBool (pos 1)) one (literal-fine OfBool (pos 1))
  hidden-fine (Int w) a one = cast-fine (Int w) (Int w) a one
  hidden-fine (Nat w) a one = cast-fine (Nat w) (Nat w) a one
  hidden-fine (Bits w) a one = cast-fine (Bits w) (Bits w) a one

  side-fine : (hides : Bool) (s : ScalarType) (a : CExpr) → ExprFine a → ExprFine (side hides s a)
  side-fine true s a one = hidden-fine s a one
  side-fine false s a one = one

  -- what is made names no counter
  abbrev MadeFine : Made → Type 0
  MadeFine made = ExprFine (code_of made)

  one_function : (op : Op) (s : ScalarType) (a : CExpr) → ExprFine a → MadeFine (c_function op s (Value a ∷ []))
  one_function op s a one = called-fine (function_name (operator_word op) s) (Value a ∷ []) (one_arg a one)

  one_fine : (op : Op) (s : ScalarType) (a : CExpr) → ExprFine a → MadeFine (c_one op s a)
  one_fine Not s a one = not-fine a one
  one_fine Minus s a one = one_function Minus s a one
  one_fine BitNot s a one = one_function BitNot s a one
  one_fine Add s a one = one_function Add s a one
  one_fine Sub s a one = one_function Sub s a one
  one_fine Mul s a one = one_function Mul s a one
  one_fine Div s a one = one_function Div s a one
  one_fine Rem s a one = one_function Rem s a one
  one_fine BitAnd s a one = one_function BitAnd s a one
  one_fine BitOr s a one = one_function BitOr s a one
  one_fine BitXor s a one = one_function BitXor s a one
  one_fine Shl s a one = one_function Shl s a one
  one_fine Shr s a one = one_function Shr s a one
  one_fine Eq s a one = one_function Eq s a one
  one_fine Ne s a one = one_function Ne s a one
  one_fine Lt s a one = one_function Lt s a one
  one_fine Le s a one = one_function Le s a one
  one_fine Gt s a one = one_function Gt s a one
  one_fine Ge s a one = one_function Ge s a one
  one_fine And s a one = one_function And s a one
  one_fine Or s a one = one_function Or s a one

  two_function : (op : Op) (s : ScalarType) (a b : CExpr) → ExprFine a → ExprFine b → MadeFine (c_function op s (Value a ∷ Value b ∷ []))
  two_function op s a b one other = called-fine (function_name (operator_word op) s) (Value a ∷ Value b ∷ []) (two_args a b one other)

  compare-fine : (op : Op) (s : ScalarType) (a b : CExpr) → ExprFine a → ExprFine b → ExprFine (c_compare op s a b)
  compare-fine op s a b one other =
      two-fine op (side (is_decided (mirrored op) a) s a) (side (hides_right op a b) s b) (side-fine (is_decided (mirrored op) a) s a one)
      (side-fine (hides_right op a b) s b other)

  both_fine : (op : Op) (s : ScalarType) (a b : CExpr) → ExprFine a → ExprFine b → MadeFine (c_both op s a b)
  both_fine Eq s a b one other = compare-fine Eq s a b one other
  both_fine Ne s a b one other = compare-fine Ne s a b one other
  both_fine Lt s a b one other = compare-fine Lt s a b one other
  both_fine Le s a b one other = compare-fine Le s a b one other
  both_fine Gt s a b one other = compare-fine Gt s a b one other
  both_fine Ge s a b one other = compare-fine Ge s a b one other
  both_fine And s a b one other = two-fine And a b one other
  both_fine Or s a b one other = two-fine Or a b one other
  both_fine Add s a b one other = two_function Add s a b one other
  both_fine Sub s a b one other = two_function Sub s a b one other
  both_fine Mul s a b one other = two_function Mul s a b one other
  both_fine Div s a b one other = two_function Div s a b one other
  both_fine Rem s a b one other = two_function Rem s a b one other
  both_fine Minus s a b one other = two_function Minus s a b one other
  both_fine BitAnd s a b one other = two_function BitAnd s a b one other
  both_fine BitOr s a b one other = two_function BitOr s a b one other
  both_fine BitXor s a b one other = two_function BitXor s a b one other
  both_fine BitNot s a b one other = two_function BitNot s a b one other
  both_fine Shl s a b one other = two_function Shl s a b one other
  both_fine Shr s a b one other = two_function Shr s a b one other
  both_fine Not s a b one other = two_function Not s a b one other

  arg_fine : (made : Made) → MadeFine made → ArgFine (arg_of made)
  arg_fine (Number s code) one = value-fine code one
  arg_fine (Whole place) one =
      same-fine P (places_in_arg (Address place)) (places_in (c_read place)) (address-names place ∙ sym (read-names place)) one

  at_fine : (s : Option ScalarType) (place : CPlace) → PlaceFine place → MadeFine (made_at s place)
  at_fine (Some s) place all = read-fine place all
  at_fine None place all = read-fine place all

  called_made : (o : Option UnitDef) (args : List CArg) → ArgsFine args → MadeFine (made_call o args)
  called_made (Some unit) args all = called-fine (unit_name unit.name) args all
  called_made None args all = called-fine (unit_name []) args all

  -- ---- expressions and paths

  module _ (site : TypingContext) where
    abbrev OfExpr : Expr → Type 0
    OfExpr e = ExprFine (code_of (made_of site e))

    abbrev OfPath : Path → Type 0
    OfPath path = PlaceFine (stands site path).place

    literal_case : (place : Place) (v : ℤ) (s : ScalarType) → OfExpr (expr place (ExprKind-F.Literal v s))
    literal_case place v s = rw (fold-roll-Expr, fold-roll-ExprKind) (literal-fine (c_scalar s) v)

    read_case : (place : Place) (path : Path) → OfPath path → OfExpr (expr place (ExprKind-F.Read path))
    read_case place path is =
        rw (fold-roll-Expr, fold-roll-ExprKind) (at_fine (scalar_in (stands site path).ty) (stands site path).place is)

    prev_case : (place : Place) (k : ℕ) → OfExpr (expr place (ExprKind-F.Prev k))
    prev_case place k = rw (fold-roll-Expr, fold-roll-ExprKind)
        (read-fine (c_place false (copy_name site.vars k) []) (root-fine false (copy_name site.vars k) (names.copy site.vars k)))

    one_case : (place : Place) (op : Op) (a : Expr) → OfExpr a → OfExpr (expr place (ExprKind-F.One op a))
    one_case place op a is =
        rw (fold-roll-Expr, fold-roll-ExprKind) (one_fine op (type_made (made_of site a)) (code_of (made_of site a)) is)

    two_case : (place : Place) (op : Op) (a b : Expr) → OfExpr a → OfExpr b → OfExpr (expr place (ExprKind-F.Two op a b))
    two_case place op a b is other =
        rw (fold-roll-Expr, fold-roll-ExprKind)
        (both_fine op (type_made (made_of site a)) (code_of (made_of site a)) (code_of (made_of site b)) is other)

    cast_case : (place : Place) (s : ScalarType) (a : Expr) → OfExpr a → OfExpr (expr place (ExprKind-F.Cast s a))
    cast_case place s a is =
        rw (fold-roll-Expr, fold-roll-ExprKind) (cast-fine (type_made (made_of site a)) s (code_of (made_of site a)) is)

    pub args_fine : (inputs : List Expr) → All OfExpr inputs → ArgsFine (map arg_of (map (made_of site) inputs))
    args_fine [] each = tt
    args_fine (e ∷ inputs) each =
        first-arg (arg_of (made_of site e)) (map arg_of (map (made_of site) inputs)) (arg_fine (made_of site e) (All-head OfExpr e inputs each))
        (args_fine inputs (All-tail OfExpr e inputs each))

    call_case : (place : Place) (f : ℕ) (inputs : List Expr) → All OfExpr inputs → OfExpr (expr place (ExprKind-F.Call f inputs))
    call_case place f inputs each =
        rw (fold-roll-Expr, fold-roll-ExprKind)
        (called_made (slice_get site.earlier f) (map arg_of (map (made_of site) inputs)) (args_fine inputs each))

    -- the step of a part goes through no counter
    abbrev PartFine : Part → Type 0
    PartFine part = (ty : Option Ty) → Passes (parts_of_step (step_typing site part ty).step)

    part_by : (layer : Part-F ExprKind Part Expr Path) → OfIndex OfExpr layer → PartFine (roll-Part layer)
    part_by (Part-F.Field k) is ty = rw fold-roll-Part (member-fine (field_name (name_of_field (field_at site.structs k ty))) refl)
    part_by (Part-F.Index e) is ty =
        rw fold-roll-Part
        (subst Passes (sym (element-passes elements_name (is_int (type_made (made_of site e))) (code_of (made_of site e)) (length_at ty))) (refl, is))

    part_fine : (part : Part) → OfIndex OfExpr (out-Part part) → PartFine part
    part_fine part = subst (λ part. OfIndex OfExpr (out-Part part) → PartFine part) (roll-out-Part part)
        (λ is. part_by (out-Part part) (subst (OfIndex OfExpr) (out-roll-Part (out-Part part)) is))

    steps_fine : (parts : List Part) → EachIndex OfExpr parts → (ty : Option Ty) → StepsFine (steps_of (map (step_typing site) parts) ty)
    steps_fine [] each ty = tt
    steps_fine (part ∷ rest) each ty = (
      part_fine part (All-head (λ part. OfIndex OfExpr (out-Part part)) part rest each) ty,
      steps_fine rest (All-tail (λ part. OfIndex OfExpr (out-Part part)) part rest each) (step_typing site part ty).ty,
    )

    home_fine : (activity : Bool) (home : Home) (k : ℕ) (steps : List CStep) → StepsFine steps → PlaceFine (place_by_steps activity home site.vars k steps)
    home_fine activity Held k steps all =
        place-fine activity (codes "m") (c_step (variable_name site.vars k) ∷ steps) names.memory (member-fine (variable_name site.vars k) refl, all)
    home_fine activity Local k steps all = place-fine false (variable_name site.vars k) steps (names.variable site.vars k) all
    home_fine activity Lent k steps all = place-fine true (variable_name site.vars k) steps (names.variable site.vars k) all

    -- the place of a variable names no counter
    pub own_fine : (k : ℕ) → PlaceFine (place_in site k [])
    own_fine k = home_fine (is_activity site.kind) (home_of site (var_at site k)) k [] tt

    path_case : (place : Place) (root : ℕ) (parts : List Part) (ty : Ty) → EachIndex OfExpr parts →
        OfPath (roll-Path (record { place = place; root = root; parts = parts; ty = ty }))
    path_case place root parts ty each =
        rw fold-roll-Path
        (home_fine (is_activity site.kind) (home_of site (var_at site root)) root (steps_of (map (step_typing site) parts) (type_at (var_at site root)))
        (steps_fine parts each (type_at (var_at site root))))

    cases : Cases OfExpr OfPath
    cases = record {
      literal = literal_case;
      read = read_case;
      prev = prev_case;
      one = one_case;
      two = two_case;
      cast = cast_case;
      call = call_case;
      path = path_case;
    }

    -- what is made of an expression names no counter
    pub expr_fine : (e : Expr) → OfExpr e
    expr_fine = induct OfExpr OfPath cases

    -- and neither does the place of a path
    pub path_fine : (path : Path) → OfPath path
    path_fine = induct_path OfExpr OfPath cases
