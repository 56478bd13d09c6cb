-- An expression that has a type asks only what a `var` was, and asks it of a known variable where it names known variables alone.
use Rattle.std.proofs.Common.{◌≡◌, ℕ, Bool, true, false, ◌&&◌, List, [], ◌∷◌, ◌++◌, map, Option, Some, None, refl, sym, ap}
use Rattle.std.proofs.Common.{◌∙◌}
use Rattle.std.specs.Prelude.{All, if◌then◌else◌, is_some, nat_eq, option_and_then, option_map, slice_get}
use Rattle.std.proofs.lemmas.List.Elements.{All-head, All-tail}
use Rattle.std.proofs.lemmas.List.Folds.{list_all-append}
use Rattle.std.proofs.lemmas.Bool.{and_from}
use Rattle.bl_tree.proofs.Basics.{and_first, and_second}
use Rattle.bl_tree.specs.declared.place.Place.{Place}
use Rattle.bl_tree.specs.declared.scalar.Scalar.{Scalar as ScalarType}
use Rattle.bl_tree.specs.declared.tree.Expr.{Expr, fold-roll-Expr}
use Rattle.bl_tree.specs.declared.tree.ExprKind.{ExprKind, fold-ExprKind, fold-roll-ExprKind, map-ExprKind}
use Rattle.bl_tree.specs.declared.tree.ExprKind.TheOpen.{ExprKind-F, Part-F}
use Rattle.bl_tree.specs.declared.tree.Part.{Part, fold-Part, fold_out-Part, out-Part}
use Rattle.bl_tree.specs.declared.tree.Path.{Path, fold-roll-Path, roll-Path}
use Rattle.bl_tree.specs.declared.tree.Ty.{Ty, out-Ty}
use Rattle.bl_tree.specs.declared.tree.Unit.{Unit as UnitDef}
use Rattle.bl_tree.specs.declared.tree.UnitKind.{UnitKind}
use Rattle.bl_tree.specs.declared.tree.Var.{Var}
use Rattle.bl_tree.specs.Apart.{Roots, expr_layer_roots, kind_roots, part_roots, path_layer_roots, roots_in, roots_in_path}
use Rattle.bl_tree.specs.Reduce.{joined}
use Rattle.bl_tree.specs.Scalar.{is_whole}
use Rattle.bl_tree.specs.Types.{scalar_in}
use Rattle.bl_tree.specs.Typing.{TypingContext, after_parts, call_type, cast_type, element_in, expr_type, inputs_of, is_activity, is_function, is_variable}
use Rattle.bl_tree.specs.Typing.{kind_type, one_type, part_type, path_type, prev_type, two_type, type_of, type_of_path, types_match, var_at, where_same}
use Rattle.bl_tree.specs.Typing.{where_whole}
use Rattle.bl_tree.proofs.ExprInduction.{Cases, EachIndex, OfIndex, expr, induct, induct_path}
use Rattle.bl_eval.proofs.OperatorFits.{some_found, where_holds}
use Rattle.bl_machine_prevs_laws.specs.Names.Scoped.{are_known, is_known}
use Rattle.bl_machine_prevs.specs.Prevs.{expr_layer_prevs, kind_prevs, part_prevs, path_layer_prevs, prevs_in_expr, prevs_in_part, prevs_in_path}

-- whether this is a `var`
abbrev pub is_var : Option Var → Bool
is_var (Some var) = is_variable var.role
is_var None = false

-- each `var` of the site that the one knows the other knows
abbrev pub Related : TypingContext → Roots → Roots → Type 0
Related site known mine = (k : ℕ) → is_var (var_at site k) ≡ true → is_known known k ≡ true → is_known mine k ≡ true

prev_typed : (kind : UnitKind) (var : Option Var) (ty : Ty) → option_and_then (prev_type kind) var ≡ Some ty → is_var var ≡ true
prev_typed kind None ty is = absurd (cc)
prev_typed kind (Some var) ty is =
    let holds = where_holds (is_activity kind && (is_variable var.role && is_some (scalar_in var.ty))) (Some var.ty) ty is in
    and_first (is_variable var.role) (is_some (scalar_in var.ty))
    (and_second (is_activity kind) (is_variable var.role && is_some (scalar_in var.ty)) holds.0)

pub record First (t : Option Ty) (ts : List (Option Ty)) (vars : List Var) : Type 0 where
  pub ty : Ty
  pub is : t ≡ Some ty
  pub rest : List Var
  pub match : types_match ts rest ≡ true

pub types_first : (t : Option Ty) (ts : List (Option Ty)) (vars : List Var) → types_match (t ∷ ts) vars ≡ true → First t ts vars
types_first None ts vars is = absurd (cc)
types_first (Some ty) ts [] is = absurd (cc)
types_first (Some ty) ts (var ∷ vars) is = record { ty = ty; is = refl; rest = vars; match = and_second _ (types_match ts vars) is }

module _ (site : TypingContext) (known mine : Roots) (related : Related site known mine) where
  abbrev OfExpr : Expr → Type 0
  OfExpr e = (ty : Ty) → type_of site e ≡ Some ty → are_known known (roots_in e) ≡ true → are_known mine (prevs_in_expr e) ≡ true

  abbrev OfPath : Path → Type 0
  OfPath path = (ty : Ty) → type_of_path site path ≡ Some ty → are_known known (roots_in_path path) ≡ true →
      are_known mine (prevs_in_path path) ≡ true

  abbrev Layer : Type 0
  Layer = ExprKind-F ExprKind Part Expr Path

  abbrev part_ty : Part → Ty → Option Ty
  part_ty = fold-Part (Option Ty) (Ty → Option Ty) (Option Ty) (Option Ty) (kind_type site) (part_type site) expr_type (path_type site)

  abbrev roots_of_part : Part → Roots
  roots_of_part = fold-Part Roots Roots Roots Roots kind_roots part_roots expr_layer_roots path_layer_roots

  abbrev type_layer : Layer → Option Ty
  type_layer layer = kind_type site
      (map-ExprKind ExprKind Part Expr Path (Option Ty) (Ty → Option Ty) (Option Ty) (Option Ty)
      (fold-ExprKind (Option Ty) (Ty → Option Ty) (Option Ty) (Option Ty) (kind_type site) (part_type site) expr_type (path_type site))
      part_ty (type_of site) (type_of_path site) layer)

  abbrev roots_layer : Layer → Roots
  roots_layer layer = kind_roots
      (map-ExprKind ExprKind Part Expr Path Roots Roots Roots Roots (fold-ExprKind Roots Roots Roots Roots kind_roots part_roots expr_layer_roots
      path_layer_roots) roots_of_part roots_in roots_in_path layer)

  abbrev prevs_layer : Layer → List ℕ
  prevs_layer layer = kind_prevs
      (map-ExprKind ExprKind Part Expr Path (List ℕ) (List ℕ) (List ℕ) (List ℕ) (fold-ExprKind (List ℕ) (List ℕ) (List ℕ)
      (List ℕ) kind_prevs part_prevs
      expr_layer_prevs path_layer_prevs) prevs_in_part prevs_in_expr prevs_in_path layer)

  by_kind : (place : Place) (layer : Layer) → ((ty : Ty) → type_layer layer ≡ Some ty → are_known known (roots_layer layer) ≡ true →
      are_known mine (prevs_layer layer) ≡ true) → OfExpr (expr place layer)
  by_kind place layer gives ty typed all =
      let type_is : type_of site (expr place layer) ≡ type_layer layer = rw (fold-roll-Expr, fold-roll-ExprKind) refl in
      let roots_are : roots_in (expr place layer) ≡ roots_layer layer = rw (fold-roll-Expr, fold-roll-ExprKind) refl in
      let prevs_are : prevs_in_expr (expr place layer) ≡ prevs_layer layer = rw (fold-roll-Expr, fold-roll-ExprKind) refl in
      ap (are_known mine) prevs_are ∙ gives ty (sym type_is ∙ typed) (ap (are_known known) (sym roots_are) ∙ all)

  all_left : (xs ys : Roots) → are_known known (xs ++ ys) ≡ true → are_known known xs ≡ true
  all_left xs ys all = and_first (are_known known xs) (are_known known ys) (sym (list_all-append (is_known known) xs ys) ∙ all)

  all_right : (xs ys : Roots) → are_known known (xs ++ ys) ≡ true → are_known known ys ≡ true
  all_right xs ys all = and_second (are_known known xs) (are_known known ys) (sym (list_all-append (is_known known) xs ys) ∙ all)

  all_both : (xs ys : Roots) → are_known mine xs ≡ true → are_known mine ys ≡ true → are_known mine (xs ++ ys) ≡ true
  all_both xs ys one two = list_all-append (is_known mine) xs ys ∙ and_from (are_known mine xs) (are_known mine ys) one two

  exprs_by : (es : List Expr) → All OfExpr es → (vars : List Var) → types_match (map (type_of site) es) vars ≡ true →
      are_known known (joined (map roots_in es)) ≡ true →
      are_known mine (joined (map prevs_in_expr es)) ≡ true
  exprs_by [] each vars typed all = refl
  exprs_by (e ∷ es) each vars typed all =
      let first = types_first (type_of site e) (map (type_of site) es) vars typed in
      all_both (prevs_in_expr e) (joined (map prevs_in_expr es))
      (All-head OfExpr e es each first.ty first.is (all_left (roots_in e) (joined (map roots_in es)) all))
      (exprs_by es (All-tail OfExpr e es each) first.rest first.match (all_right (roots_in e) (joined (map roots_in es)) all))

  abbrev PartLayer : Type 0
  PartLayer = Part-F ExprKind Part Expr Path

  part_by : (part : Part) (layer : PartLayer) → out-Part part ≡ layer → OfIndex OfExpr layer →
      (ty to : Ty) → part_ty part ty ≡ Some to →
      are_known known (roots_of_part part) ≡ true → are_known mine (prevs_in_part part) ≡ true
  part_by part (Part-F.Field k) is of ty to typed all =
      rw (fold_out-Part (List ℕ) (List ℕ) (List ℕ) (List ℕ) kind_prevs part_prevs expr_layer_prevs path_layer_prevs part, is) refl
  part_by part (Part-F.Index e) is of ty to typed all =
      let index : where_whole (type_of site e) (element_in (out-Ty ty)) ≡ Some to =
      rw (
        fold_out-Part (Option Ty) (Ty → Option Ty) (Option Ty) (Option Ty) (kind_type site) (part_type site) expr_type (path_type site) part,
        is,
      ) at typed in
      let found = some_found (λ (ty' : Ty). option_and_then (λ s. if is_whole s then element_in (out-Ty ty) else None) (scalar_in ty'))
      (type_of site e) to
      index in
      rw (fold_out-Part (List ℕ) (List ℕ) (List ℕ) (List ℕ) kind_prevs part_prevs expr_layer_prevs path_layer_prevs part, is)
      (of found.0 found.1 (rw (fold_out-Part Roots Roots Roots Roots kind_roots part_roots expr_layer_roots path_layer_roots part, is) at all))

  parts_by : (parts : List Part) → EachIndex OfExpr parts → (ty to : Ty) → after_parts (map part_ty parts) ty ≡ Some to →
      are_known known (joined (map roots_of_part parts)) ≡ true →
      are_known mine (joined (map prevs_in_part parts)) ≡ true
  parts_by [] each ty to typed all = refl
  parts_by (part ∷ parts) each ty to typed all =
      let found = some_found (after_parts (map part_ty parts)) (part_ty part ty) to typed in
      all_both (prevs_in_part part) (joined (map prevs_in_part parts))
      (part_by part (out-Part part) refl (All-head (λ part. OfIndex OfExpr (out-Part part)) part parts each) ty found.0 found.1
      (all_left (roots_of_part part) (joined (map roots_of_part parts)) all))
      (parts_by parts (All-tail (λ part. OfIndex OfExpr (out-Part part)) part parts each) found.0 to found.2
      (all_right (roots_of_part part) (joined (map roots_of_part parts)) all))

  path_case : (place : Place) (root : ℕ) (parts : List Part) (ty : Ty) → EachIndex OfExpr parts →
      OfPath (roll-Path (record { place = place; root = root; parts = parts; ty = ty }))
  path_case place root parts written each ty typed all =
      let path : Path = roll-Path (record { place = place; root = root; parts = parts; ty = written }) in
      let type_is : type_of_path site path
      ≡ option_and_then (where_same written) (option_and_then (λ var. after_parts (map part_ty parts) var.ty) (var_at site root)) =
      rw fold-roll-Path refl in
      let roots_are : roots_in_path path ≡ root ∷ joined (map roots_of_part parts) = rw fold-roll-Path refl in
      let prevs_are : prevs_in_path path ≡ joined (map prevs_in_part parts) = rw fold-roll-Path refl in
      let end = some_found (where_same written) (option_and_then (λ (var : Var). after_parts (map part_ty parts) var.ty) (var_at site root)) ty
      (sym type_is ∙ typed) in
      let begin = some_found (λ (var : Var). after_parts (map part_ty parts) var.ty) (var_at site root) end.0 end.1 in
      ap (are_known mine) prevs_are
      ∙ parts_by parts each begin.0.ty end.0 begin.2 (and_second (is_known known root) (are_known known (joined (map roots_of_part parts)))
      (ap (are_known known) (sym roots_are) ∙ all))

  scalar_of : (a : Option Ty) {B : Type 0} (f : ScalarType → Option B) (y : B) → option_and_then f (option_and_then scalar_in a) ≡ Some y →
      (ty : Ty) × (a ≡ Some ty)
  scalar_of a f y is =
      let inner = some_found f (option_and_then scalar_in a) y is in
      let outer = some_found scalar_in a inner.0 inner.1 in
      (outer.0, outer.1)

  call_by : (inputs : List Expr) (callee : Option UnitDef) (ty : Ty) → All OfExpr inputs →
      option_and_then (call_type (map (type_of site) inputs)) callee ≡ Some ty →
      are_known known (joined (map roots_in inputs)) ≡ true → are_known mine (joined (map prevs_in_expr inputs)) ≡ true
  call_by inputs callee ty each typed all =
      let found = some_found (call_type (map (type_of site) inputs)) callee ty typed in
      let unit : UnitDef = found.0 in
      let match = types_match (map (type_of site) inputs) (inputs_of unit) in
      let holds = where_holds (is_function unit.kind && (nat_eq unit.outputs 0 && match)) (option_map _ unit.result) ty found.2 in
      exprs_by inputs each (inputs_of unit) (and_second (nat_eq unit.outputs 0) match (and_second (is_function unit.kind)
      (nat_eq unit.outputs 0 && match)
      holds.0)) all

  cases : Cases OfExpr OfPath
  cases = record {
    literal = λ place n s. by_kind place (ExprKind-F.Literal n s) (λ ty typed all. refl);
    read = λ place path is. by_kind place (ExprKind-F.Read path) is;
    prev = λ place k. by_kind place (ExprKind-F.Prev k)
        (λ ty typed all. and_from (is_known mine k) true (related k (prev_typed site.kind (var_at site k) ty typed) (and_first
        (is_known known k) true all)) refl);
    one = λ place op a is. by_kind place (ExprKind-F.One op a)
        (λ ty typed all. let found = scalar_of (type_of site a) (one_type op) ty typed in is found.0 found.1 all);
    two = λ place op a b is_a is_b. by_kind place (ExprKind-F.Two op a b)
        (λ ty typed all.
        let first = scalar_of (type_of site a) (λ s. option_and_then (two_type op s) (option_and_then scalar_in (type_of site b))) ty typed in
        let inner = some_found (λ s. option_and_then (two_type op s) (option_and_then scalar_in (type_of site b))) (option_and_then scalar_in
        (type_of site a)) ty
        typed in
        let second = scalar_of (type_of site b) (two_type op inner.0) ty inner.2 in
        all_both (prevs_in_expr a) (prevs_in_expr b) (is_a first.0 first.1 (all_left (roots_in a) (roots_in b) all))
        (is_b second.0 second.1 (all_right (roots_in a) (roots_in b) all)));
    cast = λ place target a is. by_kind place (ExprKind-F.Cast target a)
        (λ ty typed all. let found = scalar_of (type_of site a) (cast_type target) ty typed in is found.0 found.1 all);
    call = λ place f inputs each. by_kind place (ExprKind-F.Call f inputs) (λ ty typed all. call_by inputs
        (slice_get site.earlier f) ty each typed all);
    path = path_case;
  }

  pub expr_stands : (e : Expr) → OfExpr e
  expr_stands = induct OfExpr OfPath cases

  pub path_stands : (path : Path) → OfPath path
  path_stands = induct_path OfExpr OfPath cases

  -- arguments that have the types of parameters
  pub exprs_stand : (es : List Expr) (vars : List Var) → types_match (map (type_of site) es) vars ≡ true →
      are_known known (joined (map roots_in es)) ≡ true → are_known mine (joined (map prevs_in_expr es)) ≡ true
  exprs_stand es = exprs_by es (λ k d within. expr_stands _)

  pub paths_stand : (paths : List Path) (vars : List Var) → types_match (map (type_of_path site) paths) vars ≡ true →
      are_known known (joined (map roots_in_path paths)) ≡ true → are_known mine (joined (map prevs_in_path paths)) ≡ true
  paths_stand [] vars typed all = refl
  paths_stand (path ∷ paths) vars typed all =
      let first = types_first (type_of_path site path) (map (type_of_path site) paths) vars typed in
      all_both (prevs_in_path path) (joined (map prevs_in_path paths))
      (path_stands path first.ty first.is (all_left (roots_in_path path) (joined (map roots_in_path paths)) all))
      (paths_stand paths first.rest first.match (all_right (roots_in_path path) (joined (map roots_in_path paths)) all))
