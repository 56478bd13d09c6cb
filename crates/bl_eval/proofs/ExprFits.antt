-- The value of an expression that stands at a site is one of its type, and a path leads to what is of its type.
use Rattle.std.proofs.Common.{◌≡◌, ℕ, ℤ, suc, zero, length, Bool, true, ◌&&◌, List, [], ◌∷◌, map, take, arith, Option, Some, None, refl, sym, ap, ◌∙◌, subst}
use Rattle.std.proofs.Common.{IfSome}
use Rattle.std.proofs.lemmas.Bool.{eqb-true}
use Rattle.std.proofs.lemmas.List.Elements.{All-head, All-tail}
use Rattle.std.proofs.lemmas.Option.{same_Some}
use Rattle.std.specs.Prelude.{All, is_some, nat_eq, option_and_then, option_map, slice_get}
use Rattle.std.specs.List.{AllZip, list_all}
use Rattle.std.proofs.lemmas.Bool.{and_from}
use Rattle.bl_tree.proofs.Basics.{and_first, and_second}
use Rattle.bl_tree.specs.declared.place.Place.{Place}
use Rattle.bl_tree.specs.declared.scalar.Op.{Op}
use Rattle.bl_tree.specs.declared.scalar.Scalar.{Scalar as ScalarType}
use Rattle.bl_tree.specs.declared.tree.Expr.{Expr, fold-roll-Expr}
use Rattle.bl_tree.specs.declared.tree.ExprKind.{fold-roll-ExprKind}
use Rattle.bl_tree.specs.declared.tree.ExprKind.TheOpen.{ExprKind-F}
use Rattle.bl_tree.specs.declared.tree.Part.{Part}
use Rattle.bl_tree.specs.declared.tree.Path.{Path, fold-roll-Path, roll-Path}
use Rattle.bl_tree.specs.declared.tree.StructDef.{StructDef}
use Rattle.bl_tree.specs.declared.tree.Ty.{Ty}
use Rattle.bl_tree.specs.declared.tree.Unit.{Unit as UnitDef}
use Rattle.bl_tree.specs.declared.tree.Var.{Var}
use Rattle.bl_tree.specs.declared.value.Value.{Value}
use Rattle.bl_tree.specs.Program.{parameters_of, structs_stand_from}
use Rattle.bl_tree.specs.Scalar.{in_range}
use Rattle.bl_tree.specs.Types.{same_type, scalar, scalar_in, type_stands}
use Rattle.bl_tree.specs.Typing.{TypingContext, after_parts, call_type, cast_type, inputs_of, is_activity, is_function, is_variable, one_type, outputs_of}
use Rattle.bl_tree.specs.Typing.{prev_type, site_of, two_type, type_of, type_of_path, types_match, where_same}
use Rattle.bl_tree.proofs.ExprInduction.{Cases, EachIndex, expr, induct, induct_path}
use Rattle.bl_eval.specs.declared.datum.Datum.{Datum}
use Rattle.bl_eval.specs.declared.datum.Left.{Left}
use Rattle.bl_eval.specs.Functions.{scope_among}
use Rattle.bl_eval.specs.Meaning.{Callee, Meaning, PathMeaning, Scope, View, call_datum, cast_datum, datum_of, meaning_of, one_datum, operand, path_meaning_of}
use Rattle.bl_eval.specs.Meaning.{plain, read_at, reading, scalar_of, two_datum, values_of}
use Rattle.bl_eval.specs.Values.{value_fits, values_fit}
use Rattle.bl_eval.proofs.FitLemmas.{same_type_is}
use Rattle.bl_eval.proofs.OperatorFits.{DatumFits, OperandFits, cast_fits, datum_fits, one_fits, operand_fits, plain_fits, some_found, two_fits, where_holds}
use Rattle.bl_eval.proofs.PartFits.{Fits, Leads, if_map, if_then, parts_lead, read_fits, type_of_part}
use Rattle.bl_eval.proofs.PassLemmas.{pass_at}

-- ---- functions

-- a result is of its function's type
abbrev pub ResultFits : List StructDef → Option ScalarType → Option Datum → Type 0
ResultFits structs result given = IfSome given (λ datum. IfSome result (λ s. DatumFits structs (scalar s) datum))

abbrev pub LeftFits : List StructDef → UnitDef → Left → Type 0
LeftFits structs unit left = (values_fit structs (outputs_of unit) left.outputs ≡ true) × ResultFits structs unit.result left.result

-- from arguments of its parameters' types a function leaves what is of its outputs' and its result's types
abbrev pub CalleeFits : List StructDef → UnitDef → Callee → Type 0
CalleeFits structs unit callee = (arguments : List Value) → values_fit structs (parameters_of unit) arguments ≡ true →
    IfSome (callee arguments) (LeftFits structs unit)

pub callee_at : (structs : List StructDef) (units : List UnitDef) (callees : List Callee) (f : ℕ) (unit : UnitDef)
    → AllZip (CalleeFits structs) units callees
    → slice_get units f ≡ Some unit → IfSome (slice_get callees f) (CalleeFits structs unit)
callee_at structs [] callees f unit all there = absurd (cc)
callee_at structs (first ∷ units) [] f unit all there = absurd all
callee_at structs (first ∷ units) (callee ∷ callees) zero unit all there =
    subst (λ unit. CalleeFits structs unit callee) (same_Some first unit there) all.0
callee_at structs (first ∷ units) (callee ∷ callees) (suc f) unit all there = callee_at structs units callees f unit all.1 there

result_by : (structs : List StructDef) (ty : Ty) (result : Option ScalarType) (given : Option Datum) → option_map scalar result ≡ Some ty →
    ResultFits structs result given
    → IfSome given (DatumFits structs ty)
result_by structs ty None given typed fit = absurd (cc)
result_by structs ty (Some s) None typed fit = tt
result_by structs ty (Some s) (Some datum) typed fit = subst (λ ty. DatumFits structs ty datum) (same_Some (scalar s) ty typed) fit

-- ---- values of many

abbrev pub GivesFit : List StructDef → View → Meaning → Option Ty → Type 0
GivesFit structs view means typed = (ty : Ty) → typed ≡ Some ty → IfSome (means view) (DatumFits structs ty)

values_first : (structs : List StructDef) (var : Var) (vars : List Var) (ty : Ty) (first : Option Datum) (rest : Option (List Value)) →
    same_type ty var.ty ≡ true
    → IfSome first (DatumFits structs ty) → IfSome rest (λ values. values_fit structs vars values ≡ true)
    → IfSome (option_and_then (λ datum. option_map (λ values. plain datum ∷ values) rest) first)
    (λ values. values_fit structs (var ∷ vars) values ≡ true)
values_first structs var vars ty None rest same one more = tt
values_first structs var vars ty (Some datum) None same one more = tt
values_first structs var vars ty (Some datum) (Some values) same one more =
    and_from (value_fits structs var.ty (plain datum)) (values_fit structs vars values)
    (subst (λ ty. value_fits structs ty (plain datum) ≡ true) (same_type_is ty var.ty same) (plain_fits structs ty datum one)) more

module _ {X : Type 0} (structs : List StructDef) (view : View) (means : X → Meaning) (types : X → Option Ty) where
  abbrev EachFits : List X → Type 0
  EachFits xs = All (λ x. GivesFit structs view (means x) (types x)) xs

  abbrev AllMatch : List X → Type 0
  AllMatch xs = (vars : List Var) → types_match (map types xs) vars ≡ true →
      IfSome (values_of (map means xs) view) (λ values. values_fit structs vars values ≡ true)

  match_first : (x : X) (xs : List X) (vars : List Var) (typed : Option Ty) → types x ≡ typed → types_match (typed ∷ map types xs) vars ≡ true
      → GivesFit structs view (means x) (types x) → AllMatch xs
      → IfSome (values_of (map means (x ∷ xs)) view) (λ values. values_fit structs vars values ≡ true)
  match_first x xs [] None is all one more = absurd (cc)
  match_first x xs [] (Some ty) is all one more = absurd (cc)
  match_first x xs (var ∷ vars) None is all one more = absurd (cc)
  match_first x xs (var ∷ vars) (Some ty) is all one more =
      values_first structs var vars ty (means x view) (values_of (map means xs) view)
      (and_first (same_type ty var.ty) (types_match (map types xs) vars) all) (one ty is)
      (more vars (and_second (same_type ty var.ty) (types_match (map types xs) vars) all))

  pub match_fits : (xs : List X) → EachFits xs → AllMatch xs
  match_fits [] each [] all = refl
  match_fits [] each (var ∷ vars) all = absurd (cc)
  match_fits (x ∷ xs) each vars all =
      match_first x xs vars (types x) refl all (All-head (λ x. GivesFit structs view (means x) (types x)) x xs each)
      (match_fits xs (All-tail (λ x. GivesFit structs view (means x) (types x)) x xs each))

-- ---- expressions

-- what the statements of a unit stand on
pub record Sound (structs : List StructDef) (earlier : List UnitDef) (unit : UnitDef) (callees : List Callee) : Type 0 where
  pub structs_stand : structs_stand_from 0 structs ≡ true
  pub vars_stand : list_all (λ var. type_stands (length structs) var.ty) unit.vars ≡ true
  pub callees_fit : AllZip (CalleeFits structs) earlier callees

-- a path: its variable is there, and its positions lead to what is of its type
pub record SpotFits (structs : List StructDef) (vars : List Var) (view : View) (ty : Ty) (spot : PathMeaning) : Type 0 where
  pub var : Var
  pub is_there : slice_get vars spot.root ≡ Some var
  pub is_typed : spot.ty ≡ ty
  pub leads : IfSome (spot.positions view) (λ ks. Leads structs var.ty ks ty)

pub reading_fits : (structs : List StructDef) (vars : List Var) (view : View) (ty : Ty) (spot : PathMeaning) →
    values_fit structs vars view.now ≡ true → SpotFits structs vars view ty spot
    → IfSome (reading spot view) (DatumFits structs ty)
reading_fits structs vars view ty spot fit found =
    let read : IfSome (option_and_then (read_at spot.root view.now) (spot.positions view)) (Fits structs ty) =
    if_then (λ ks. Leads structs found.var.ty ks ty) (Fits structs ty) (read_at spot.root view.now) (spot.positions view) found.leads
    (λ ks leads. read_fits structs vars spot.root found.var ks ty found.is_there leads view.now fit) in
    if_map (Fits structs ty) (DatumFits structs ty) (datum_of (scalar_in spot.ty)) (option_and_then (read_at spot.root view.now) (spot.positions view)) read
    (λ value one. subst (λ t. DatumFits structs ty (datum_of (scalar_in t) value)) (sym found.is_typed) (datum_fits structs ty value one))

module _ (structs : List StructDef) (earlier : List UnitDef) (unit : UnitDef) (callees : List Callee) (sound : Sound structs earlier unit callees) (view : View)
    (now_fits : values_fit structs unit.vars view.now ≡ true) (before_fits : values_fit structs unit.vars view.before ≡ true) where
  abbrev site : TypingContext
  site = site_of structs earlier unit

  abbrev scope : Scope
  scope = scope_among structs callees unit

  abbrev P : Expr → Type 0
  P e = GivesFit structs view (meaning_of scope e) (type_of site e)

  abbrev Q : Path → Type 0
  Q path = (ty : Ty) → type_of_path site path ≡ Some ty → SpotFits structs unit.vars view ty (path_meaning_of scope path)

  literal_fits : (place : Place) (n : ℤ) (s : ScalarType) → P (expr place (ExprKind-F.Literal n s))
  literal_fits place n s ty typed =
      let found = where_holds (in_range s n) (Some (scalar s)) ty (rw (fold-roll-Expr, fold-roll-ExprKind) at typed) in
      rw (fold-roll-Expr, fold-roll-ExprKind) (sym (same_Some (scalar s) ty found.1), found.0)

  read_path_fits : (place : Place) (path : Path) → Q path → P (expr place (ExprKind-F.Read path))
  read_path_fits place path leads ty typed =
      rw (fold-roll-Expr, fold-roll-ExprKind) (reading_fits structs unit.vars view ty (path_meaning_of scope path) now_fits
      (leads ty (rw (fold-roll-Expr, fold-roll-ExprKind) at typed)))

  before_at : (k : ℕ) (ty : Ty) → option_and_then (prev_type unit.kind) (slice_get unit.vars k) ≡ Some ty
      → IfSome (option_map (datum_of (scalar_of (slice_get unit.vars k))) (slice_get view.before k)) (DatumFits structs ty)
  before_at k ty typed =
      let found = some_found (prev_type unit.kind) (slice_get unit.vars k) ty typed in
      let var : Var = found.0 in
      let is = where_holds (is_activity unit.kind && (is_variable var.role && is_some (scalar_in var.ty))) (Some var.ty) ty found.2 in
      let stored = pass_at (λ (var : Var). value_fits structs var.ty) unit.vars view.before k var before_fits found.1 in
      subst (λ (at : Option Var). IfSome (option_map (datum_of (scalar_of at)) (slice_get view.before k)) (DatumFits structs ty)) (sym found.1)
      (subst (λ at. IfSome (option_map (datum_of (scalar_in var.ty)) at) (DatumFits structs ty)) (sym stored.1)
      (subst (λ ty. DatumFits structs ty (datum_of (scalar_in var.ty) stored.0)) (same_Some var.ty ty is.1) (datum_fits structs var.ty stored.0 stored.2)))

  prev_fits : (place : Place) (k : ℕ) → P (expr place (ExprKind-F.Prev k))
  prev_fits place k ty typed = rw (fold-roll-Expr, fold-roll-ExprKind) (before_at k ty (rw (fold-roll-Expr, fold-roll-ExprKind) at typed))

  -- an operand of a scalar type
  operand_at : (a : Expr) (s : ScalarType) → P a → option_and_then scalar_in (type_of site a) ≡ Some s →
      IfSome (operand (meaning_of scope a) view) (OperandFits s)
  operand_at a s fit typed =
      let found = some_found scalar_in (type_of site a) s typed in
      operand_fits structs found.0 s (meaning_of scope a view) found.2 (fit found.0 found.1)

  one_expr_fits : (place : Place) (op : Op) (a : Expr) → P a → P (expr place (ExprKind-F.One op a))
  one_expr_fits place op a fit ty typed =
      let found = some_found (one_type op) (option_and_then scalar_in (type_of site a)) ty (rw (fold-roll-Expr, fold-roll-ExprKind) at typed) in
      rw (fold-roll-Expr, fold-roll-ExprKind)
      (if_then (OperandFits found.0) (DatumFits structs ty) (one_datum op) (operand (meaning_of scope a) view) (operand_at a found.0 fit found.1)
      (λ operand one. one_fits structs ty op found.0 operand one.0 found.2))

  two_expr_fits : (place : Place) (op : Op) (a b : Expr) → P a → P b → P (expr place (ExprKind-F.Two op a b))
  two_expr_fits place op a b fit other ty typed =
      let found = some_found (λ s. option_and_then (two_type op s) (option_and_then scalar_in (type_of site b)))
      (option_and_then scalar_in (type_of site a)) ty (rw (fold-roll-Expr, fold-roll-ExprKind) at typed) in
      let right = some_found (two_type op found.0) (option_and_then scalar_in (type_of site b)) ty found.2 in
      rw (fold-roll-Expr, fold-roll-ExprKind)
      (if_then (OperandFits found.0) (DatumFits structs ty) (two_datum op (operand (meaning_of scope b) view))
      (operand (meaning_of scope a) view) (operand_at a found.0 fit found.1)
      (λ left one. two_fits structs ty op found.0 right.0 left one right.2 (operand (meaning_of scope b) view)))

  cast_expr_fits : (place : Place) (target : ScalarType) (a : Expr) → P a → P (expr place (ExprKind-F.Cast target a))
  cast_expr_fits place target a fit ty typed =
      let found = some_found (cast_type target) (option_and_then scalar_in (type_of site a)) ty (rw (fold-roll-Expr, fold-roll-ExprKind) at typed) in
      rw (fold-roll-Expr, fold-roll-ExprKind)
      (if_then (OperandFits found.0) (DatumFits structs ty) (cast_datum target) (operand (meaning_of scope a) view) (operand_at a found.0 fit found.1)
      (λ operand one. cast_fits structs ty target found.0 operand found.2))

  -- a call
  call_at : (f : ℕ) (inputs : List Expr) (ty : Ty) → All P inputs
      → option_and_then (call_type (map (type_of site) inputs)) (slice_get earlier f) ≡ Some ty
      → IfSome (option_and_then (call_datum (values_of (map (meaning_of scope) inputs) view)) (slice_get callees f)) (DatumFits structs ty)
  call_at f inputs ty each typed =
      let found = some_found (call_type (map (type_of site) inputs)) (slice_get earlier f) ty typed in
      let callee : UnitDef = found.0 in
      let shape : Bool = nat_eq callee.outputs 0 && types_match (map (type_of site) inputs) (inputs_of callee) in
      let is = where_holds (is_function callee.kind && shape) (option_map scalar callee.result) ty found.2 in
      let fitting : shape ≡ true = and_second (is_function callee.kind) shape is.0 in
      let none : callee.outputs ≡ 0 = eqb-true callee.outputs 0
      (and_first (nat_eq callee.outputs 0) (types_match (map (type_of site) inputs) (inputs_of callee)) fitting) in
      let same : inputs_of callee ≡ parameters_of callee = ap (λ n. take n callee.vars) (omega arith) in
      let given : IfSome (values_of (map (meaning_of scope) inputs) view) (λ values. values_fit structs (inputs_of callee) values ≡ true) =
      match_fits structs view (meaning_of scope) (type_of site) inputs each (inputs_of callee)
      (and_second (nat_eq callee.outputs 0) (types_match (map (type_of site) inputs) (inputs_of callee)) fitting) in
      if_then (CalleeFits structs callee) (DatumFits structs ty) (call_datum (values_of (map (meaning_of scope) inputs) view)) (slice_get callees f)
      (callee_at structs earlier callees f callee sound.callees_fit found.1)
      (λ does fits. if_then (λ values. values_fit structs (inputs_of callee) values ≡ true) (DatumFits structs ty)
      (λ values. option_and_then (λ (left : Left). left.result) (does values))
      (values_of (map (meaning_of scope) inputs) view) given
      (λ values all. if_then (LeftFits structs callee) (DatumFits structs ty) (λ (left : Left). left.result) (does values)
      (fits values (subst (λ vars. values_fit structs vars values ≡ true) same all))
      (λ left one. result_by structs ty callee.result left.result is.1 one.1)))

  call_fits : (place : Place) (f : ℕ) (inputs : List Expr) → All P inputs → P (expr place (ExprKind-F.Call f inputs))
  call_fits place f inputs each ty typed = rw (fold-roll-Expr, fold-roll-ExprKind) (call_at f inputs ty each (rw (fold-roll-Expr, fold-roll-ExprKind) at typed))

  -- a path
  path_fits : (place : Place) (root : ℕ) (parts : List Part) (written : Ty) → EachIndex P parts →
      Q (roll-Path (record { place = place; root = root; parts = parts; ty = written }))
  path_fits place root parts written each ty typed =
      let whole = some_found (where_same written) (option_and_then (λ (var : Var). after_parts (map (type_of_part site) parts) var.ty)
      (slice_get unit.vars root)) ty (rw fold-roll-Path at typed) in
      let found = some_found (λ (var : Var). after_parts (map (type_of_part site) parts) var.ty) (slice_get unit.vars root) whole.0 whole.1 in
      let is = where_holds (same_type written whole.0) (Some whole.0) ty whole.2 in
      let same : whole.0 ≡ ty = same_Some whole.0 ty is.1 in
      rw fold-roll-Path (record {
        var = found.0;
        is_there = found.1;
        is_typed = same_type_is written whole.0 is.0 ∙ same;
        leads = parts_lead site scope view sound.structs_stand parts ty found.0.ty (found.2 ∙ ap Some same);
      })

  cases : Cases P Q
  cases = record {
    literal = literal_fits;
    read = read_path_fits;
    prev = prev_fits;
    one = one_expr_fits;
    two = two_expr_fits;
    cast = cast_expr_fits;
    call = call_fits;
    path = path_fits;
  }

  -- what an expression gives is of its type
  pub expr_fits : (e : Expr) (ty : Ty) → type_of site e ≡ Some ty → IfSome (meaning_of scope e view) (DatumFits structs ty)
  expr_fits = induct P Q cases

  -- where a path leads is of its type
  pub spot_fits : (path : Path) (ty : Ty) → type_of_path site path ≡ Some ty → SpotFits structs unit.vars view ty (path_meaning_of scope path)
  spot_fits = induct_path P Q cases
