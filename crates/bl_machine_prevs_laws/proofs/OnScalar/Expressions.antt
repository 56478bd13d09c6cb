-- An expression that has a type names under a `prev` only variables of its unit that are scalar.
use Rattle.std.proofs.Common.{◌≡◌, ℕ, Bool, true, ◌&&◌, List, [], ◌∷◌, ◌++◌, map, Option, Some, None, refl, sym, ap}
use Rattle.std.proofs.Common.{◌∙◌}
use Rattle.std.specs.Prelude.{All, if◌then◌else◌, is_some, nat_eq, option_and_then, option_map, slice_get}
use Rattle.std.specs.List.{list_all}
use Rattle.std.proofs.lemmas.List.Elements.{All-head, All-tail}
use Rattle.std.proofs.lemmas.List.Folds.{list_all-append}
use Rattle.std.proofs.lemmas.Bool.{and_from}
use Rattle.bl_tree.proofs.Basics.{and_second}
use Rattle.bl_tree.specs.declared.place.Place.{Place}
use Rattle.bl_tree.specs.declared.scalar.Scalar.{Scalar as ScalarType}
use Rattle.bl_tree.specs.declared.tree.Expr.{Expr, fold-roll-Expr}
use Rattle.bl_tree.specs.declared.tree.ExprKind.{ExprKind, fold-ExprKind, fold-roll-ExprKind, map-ExprKind}
use Rattle.bl_tree.specs.declared.tree.ExprKind.TheOpen.{ExprKind-F, Part-F}
use Rattle.bl_tree.specs.declared.tree.Part.{Part, fold-Part, fold_out-Part, out-Part}
use Rattle.bl_tree.specs.declared.tree.Path.{Path, fold-roll-Path, roll-Path}
use Rattle.bl_tree.specs.declared.tree.Ty.{Ty, out-Ty}
use Rattle.bl_tree.specs.declared.tree.Unit.{Unit as UnitDef}
use Rattle.bl_tree.specs.declared.tree.UnitKind.{UnitKind}
use Rattle.bl_tree.specs.declared.tree.Var.{Var}
use Rattle.bl_tree.specs.Reduce.{joined}
use Rattle.bl_tree.specs.Scalar.{is_whole}
use Rattle.bl_tree.specs.Types.{scalar_in}
use Rattle.bl_tree.specs.Typing.{TypingContext, after_parts, call_type, cast_type, element_in, expr_type, inputs_of, is_activity, is_function, is_variable}
use Rattle.bl_tree.specs.Typing.{kind_type, one_type, part_type, path_type, prev_type, two_type, type_of, type_of_path, types_match, var_at, where_same}
use Rattle.bl_tree.specs.Typing.{where_whole}
use Rattle.bl_tree.proofs.ExprInduction.{Cases, EachIndex, OfIndex, expr, induct, induct_path}
use Rattle.bl_eval.proofs.OperatorFits.{some_found, where_holds}
use Rattle.bl_machine_prevs.specs.Prevs.{expr_layer_prevs, kind_prevs, part_prevs, path_layer_prevs, prevs_in_expr, prevs_in_part, prevs_in_path}
use Rattle.bl_machine_prevs_laws.specs.Scalar.{is_scalar_var}
use Rattle.bl_machine_prevs_laws.proofs.OnDeclared.Expressions.{types_first}

-- whether the variable at the position is a scalar
abbrev pub is_scalar : TypingContext → ℕ → Bool
is_scalar site k = is_scalar_var (var_at site k)

prev_typed : (kind : UnitKind) (var : Option Var) (ty : Ty) → option_and_then (prev_type kind) var ≡ Some ty → is_scalar_var var ≡ true
prev_typed kind None ty is = absurd (cc)
prev_typed kind (Some var) ty is =
    let holds = where_holds (is_activity kind && (is_variable var.role && is_some (scalar_in var.ty))) (Some var.ty) ty is in
    and_second (is_variable var.role) (is_some (scalar_in var.ty))
    (and_second (is_activity kind) (is_variable var.role && is_some (scalar_in var.ty)) holds.0)

pub all_both : (test : ℕ → Bool) (xs ys : List ℕ) → list_all test xs ≡ true → list_all test ys ≡ true → list_all test (xs ++ ys) ≡ true
all_both test xs ys one two = list_all-append test xs ys ∙ and_from (list_all test xs) (list_all test ys) one two

module _ (site : TypingContext) where
  abbrev Good : List ℕ → Type 0
  Good ks = list_all (is_scalar site) ks ≡ true

  abbrev OfExpr : Expr → Type 0
  OfExpr e = (ty : Ty) → type_of site e ≡ Some ty → Good (prevs_in_expr e)

  abbrev OfPath : Path → Type 0
  OfPath path = (ty : Ty) → type_of_path site path ≡ Some ty → Good (prevs_in_path path)

  abbrev Layer : Type 0
  Layer = ExprKind-F ExprKind Part Expr Path

  abbrev part_ty : Part → Ty → Option Ty
  part_ty = fold-Part (Option Ty) (Ty → Option Ty) (Option Ty) (Option Ty) (kind_type site) (part_type site) expr_type (path_type site)

  abbrev type_layer : Layer → Option Ty
  type_layer layer = kind_type site
      (map-ExprKind ExprKind Part Expr Path (Option Ty) (Ty → Option Ty) (Option Ty) (Option Ty)
      (fold-ExprKind (Option Ty) (Ty → Option Ty) (Option Ty) (Option Ty) (kind_type site) (part_type site) expr_type (path_type site))
      part_ty (type_of site) (type_of_path site) layer)

  abbrev prevs_layer : Layer → List ℕ
  prevs_layer layer = kind_prevs
      (map-ExprKind ExprKind Part Expr Path (List ℕ) (List ℕ) (List ℕ) (List ℕ) (fold-ExprKind (List ℕ) (List ℕ) (List ℕ)
      (List ℕ) kind_prevs part_prevs
      expr_layer_prevs path_layer_prevs) prevs_in_part prevs_in_expr prevs_in_path layer)

  by_kind : (place : Place) (layer : Layer) → ((ty : Ty) → type_layer layer ≡ Some ty → Good (prevs_layer layer)) → OfExpr (expr place layer)
  by_kind place layer gives ty typed =
      let type_is : type_of site (expr place layer) ≡ type_layer layer = rw (fold-roll-Expr, fold-roll-ExprKind) refl in
      let prevs_are : prevs_in_expr (expr place layer) ≡ prevs_layer layer = rw (fold-roll-Expr, fold-roll-ExprKind) refl in
      ap (list_all (is_scalar site)) prevs_are ∙ gives ty (sym type_is ∙ typed)

  exprs_by : (es : List Expr) → All OfExpr es → (vars : List Var) → types_match (map (type_of site) es) vars ≡ true →
      Good (joined (map prevs_in_expr es))
  exprs_by [] each vars typed = refl
  exprs_by (e ∷ es) each vars typed =
      let first = types_first (type_of site e) (map (type_of site) es) vars typed in
      all_both (is_scalar site) (prevs_in_expr e) (joined (map prevs_in_expr es)) (All-head OfExpr e es each first.ty first.is)
      (exprs_by es (All-tail OfExpr e es each) first.rest first.match)

  abbrev PartLayer : Type 0
  PartLayer = Part-F ExprKind Part Expr Path

  part_by : (part : Part) (layer : PartLayer) → out-Part part ≡ layer → OfIndex OfExpr layer → (ty to : Ty) → part_ty part ty ≡ Some to →
      Good (prevs_in_part part)
  part_by part (Part-F.Field k) is of ty to typed =
      rw (fold_out-Part (List ℕ) (List ℕ) (List ℕ) (List ℕ) kind_prevs part_prevs expr_layer_prevs path_layer_prevs part, is) refl
  part_by part (Part-F.Index e) is of ty to typed =
      let index : where_whole (type_of site e) (element_in (out-Ty ty)) ≡ Some to =
      rw (
        fold_out-Part (Option Ty) (Ty → Option Ty) (Option Ty) (Option Ty) (kind_type site) (part_type site) expr_type (path_type site) part,
        is,
      ) at typed in
      let found = some_found (λ (ty' : Ty). option_and_then (λ s. if is_whole s then element_in (out-Ty ty) else None) (scalar_in ty'))
      (type_of site e) to
      index in
      rw (fold_out-Part (List ℕ) (List ℕ) (List ℕ) (List ℕ) kind_prevs part_prevs expr_layer_prevs path_layer_prevs part, is)
      (of found.0 found.1)

  parts_by : (parts : List Part) → EachIndex OfExpr parts → (ty to : Ty) → after_parts (map part_ty parts) ty ≡ Some to →
      Good (joined (map prevs_in_part parts))
  parts_by [] each ty to typed = refl
  parts_by (part ∷ parts) each ty to typed =
      let found = some_found (after_parts (map part_ty parts)) (part_ty part ty) to typed in
      all_both (is_scalar site) (prevs_in_part part) (joined (map prevs_in_part parts))
      (part_by part (out-Part part) refl (All-head (λ part. OfIndex OfExpr (out-Part part)) part parts each) ty found.0 found.1)
      (parts_by parts (All-tail (λ part. OfIndex OfExpr (out-Part part)) part parts each) found.0 to found.2)

  path_case : (place : Place) (root : ℕ) (parts : List Part) (ty : Ty) → EachIndex OfExpr parts →
      OfPath (roll-Path (record { place = place; root = root; parts = parts; ty = ty }))
  path_case place root parts written each ty typed =
      let path : Path = roll-Path (record { place = place; root = root; parts = parts; ty = written }) in
      let type_is : type_of_path site path
      ≡ option_and_then (where_same written) (option_and_then (λ var. after_parts (map part_ty parts) var.ty) (var_at site root)) =
      rw fold-roll-Path refl in
      let prevs_are : prevs_in_path path ≡ joined (map prevs_in_part parts) = rw fold-roll-Path refl in
      let end = some_found (where_same written) (option_and_then (λ (var : Var). after_parts (map part_ty parts) var.ty) (var_at site root)) ty
      (sym type_is ∙ typed) in
      let begin = some_found (λ (var : Var). after_parts (map part_ty parts) var.ty) (var_at site root) end.0 end.1 in
      ap (list_all (is_scalar site)) prevs_are ∙ parts_by parts each begin.0.ty end.0 begin.2

  scalar_of : (a : Option Ty) {B : Type 0} (f : ScalarType → Option B) (y : B) → option_and_then f (option_and_then scalar_in a) ≡ Some y →
      (ty : Ty) × (a ≡ Some ty)
  scalar_of a f y is =
      let inner = some_found f (option_and_then scalar_in a) y is in
      let outer = some_found scalar_in a inner.0 inner.1 in
      (outer.0, outer.1)

  call_by : (inputs : List Expr) (callee : Option UnitDef) (ty : Ty) → All OfExpr inputs →
      option_and_then (call_type (map (type_of site) inputs)) callee ≡ Some ty → Good (joined (map prevs_in_expr inputs))
  call_by inputs callee ty each typed =
      let found = some_found (call_type (map (type_of site) inputs)) callee ty typed in
      let unit : UnitDef = found.0 in
      let match = types_match (map (type_of site) inputs) (inputs_of unit) in
      let holds = where_holds (is_function unit.kind && (nat_eq unit.outputs 0 && match)) (option_map _ unit.result) ty found.2 in
      exprs_by inputs each (inputs_of unit) (and_second (nat_eq unit.outputs 0) match (and_second (is_function unit.kind)
      (nat_eq unit.outputs 0 && match)
      holds.0))

  cases : Cases OfExpr OfPath
  cases = record {
    literal = λ place n s. by_kind place (ExprKind-F.Literal n s) (λ ty typed. refl);
    read = λ place path is. by_kind place (ExprKind-F.Read path) is;
    prev = λ place k. by_kind place (ExprKind-F.Prev k)
        (λ ty typed. and_from (is_scalar site k) true (prev_typed site.kind (var_at site k) ty typed) refl);
    one = λ place op a is. by_kind place (ExprKind-F.One op a)
        (λ ty typed. let found = scalar_of (type_of site a) (one_type op) ty typed in is found.0 found.1);
    two = λ place op a b is_a is_b. by_kind place (ExprKind-F.Two op a b)
        (λ ty typed.
        let first = scalar_of (type_of site a) (λ s. option_and_then (two_type op s) (option_and_then scalar_in (type_of site b))) ty typed in
        let inner = some_found (λ s. option_and_then (two_type op s) (option_and_then scalar_in (type_of site b))) (option_and_then scalar_in
        (type_of site a)) ty
        typed in
        let second = scalar_of (type_of site b) (two_type op inner.0) ty inner.2 in
        all_both (is_scalar site) (prevs_in_expr a) (prevs_in_expr b) (is_a first.0 first.1) (is_b second.0 second.1));
    cast = λ place target a is. by_kind place (ExprKind-F.Cast target a)
        (λ ty typed. let found = scalar_of (type_of site a) (cast_type target) ty typed in is found.0 found.1);
    call = λ place f inputs each. by_kind place (ExprKind-F.Call f inputs) (λ ty typed. call_by inputs (slice_get site.earlier f) ty each typed);
    path = path_case;
  }

  pub expr_scalar : (e : Expr) → OfExpr e
  expr_scalar = induct OfExpr OfPath cases

  pub path_scalar : (path : Path) → OfPath path
  path_scalar = induct_path OfExpr OfPath cases

  -- arguments that have the types of parameters
  pub exprs_scalar : (es : List Expr) (vars : List Var) → types_match (map (type_of site) es) vars ≡ true → Good (joined (map prevs_in_expr es))
  exprs_scalar es = exprs_by es (λ k d within. expr_scalar _)

  pub paths_scalar : (paths : List Path) (vars : List Var) → types_match (map (type_of_path site) paths) vars ≡ true →
      Good (joined (map prevs_in_path paths))
  paths_scalar [] vars typed = refl
  paths_scalar (path ∷ paths) vars typed =
      let first = types_first (type_of_path site path) (map (type_of_path site) paths) vars typed in
      all_both (is_scalar site) (prevs_in_path path) (joined (map prevs_in_path paths)) (path_scalar path first.ty first.is)
      (paths_scalar paths first.rest first.match)
