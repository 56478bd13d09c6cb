-- The units of a typed program call and run earlier ones alone: what has a type names earlier functions, and what fits earlier activities.
use Rattle.std.proofs.Common.{◌≡◌, ℕ, ℤ, zero, suc, ◌+◌, ◌<◌, ◌≤◌, Bool, true, false, ◌&&◌, ◌||◌, List, [], ◌∷◌, ◌++◌, map, length, get_or, take, Option, Some}
use Rattle.std.proofs.Common.{None, refl, sym, subst, ◌∙◌, append_assoc, append-nil, arith}
use Rattle.std.specs.List.{list_all}
use Rattle.std.specs.Prelude.{All, nat_eq, option_and_then, option_map, slice_get, if◌then◌else◌}
use Rattle.std.proofs.lemmas.List.{length-take-le}
use Rattle.std.proofs.lemmas.List.Elements.{All-append, All-cons, All-head, All-nil, All-tail}
use Rattle.std.proofs.lemmas.Option.{same_Some, slice_get_within}
use Rattle.std.proofs.lemmas.Bool.{and_from}
use Rattle.bl_tree.proofs.Basics.{and_first, and_second}
use Rattle.bl_tree.specs.declared.place.Place.{Place}
use Rattle.bl_tree.specs.declared.scalar.Op.{Op}
use Rattle.bl_tree.specs.declared.scalar.Scalar.{Scalar as ScalarType}
use Rattle.bl_tree.specs.declared.tree.Arm.{Arm, fold-Arm, fold_out-Arm, out-Arm}
use Rattle.bl_tree.specs.declared.tree.Branch.{Branch, fold-Branch, fold_out-Branch, out-Branch}
use Rattle.bl_tree.specs.declared.tree.Expr.{Expr, fold-roll-Expr}
use Rattle.bl_tree.specs.declared.tree.ExprKind.{ExprKind, fold-roll-ExprKind}
use Rattle.bl_tree.specs.declared.tree.ExprKind.TheOpen.{ExprKind-F, Part-F}
use Rattle.bl_tree.specs.declared.tree.Part.{Part, fold-Part, fold-roll-Part, out-Part, roll-Part, roll-out-Part}
use Rattle.bl_tree.specs.declared.tree.Path.{Path, fold-roll-Path, roll-Path}
use Rattle.bl_tree.specs.declared.tree.Stmt.{Stmt, fold-roll-Stmt}
use Rattle.bl_tree.specs.declared.tree.StmtKind.{StmtKind, fold-StmtKind, fold-roll-StmtKind, map-StmtKind}
use Rattle.bl_tree.specs.declared.tree.StmtKind.TheOpen.{StmtKind-F}
use Rattle.bl_tree.specs.declared.tree.StructDef.{StructDef}
use Rattle.bl_tree.specs.declared.tree.Ty.{Ty, out-Ty}
use Rattle.bl_tree.specs.declared.tree.Unit.{Unit as UnitDef}
use Rattle.bl_tree.specs.declared.tree.Var.{Var}
use Rattle.bl_tree.specs.Program.{unit_stands, units_stand_after}
use Rattle.bl_tree.specs.Reduce.{all_of, joined}
use Rattle.bl_tree.specs.Types.{same_type, scalar, scalar_in}
use Rattle.bl_tree.specs.Typing.{TypingContext, after_parts, are_same, arguments_fit, arm_fits, branch_fits, call_fits, call_type, cast_type, declaration_fits}
use Rattle.bl_tree.specs.Typing.{element_in, expr_type, fits, inputs_of, is_activity, is_assignable, is_fixed, is_function, is_inhabited, is_outlet}
use Rattle.bl_tree.specs.Typing.{is_procedure, is_truth, is_variable, kind_fits, kind_type, one_type, outputs_of, part_type, path_type, return_fits, run_fits}
use Rattle.bl_tree.specs.Typing.{site_of, stmt_fits, target_fits, two_type, type_of, type_of_path, types_match, var_at, where_same, where_whole}
use Rattle.bl_tree.proofs.ExprInduction.{Cases as ExprCases, EachIndex, OfIndex, expr, induct as expr_induct, induct_path}
use Rattle.bl_tree.proofs.StmtInduction.{Cases, Each, EachArm, EachBranch, induct, stmt}
use Rattle.bl_limits_measures.specs.Calls.{argument_calls, arm_calls, branch_calls, calls_in, calls_in_arm, calls_in_branch, calls_in_expr, calls_in_part}
use Rattle.bl_limits_measures.specs.Calls.{calls_in_path, calls_of, optional_calls, stmt_kind_calls, stmt_layer_calls, target_calls}
use Rattle.bl_limits_measures.specs.Runs.{activities_run}
use Rattle.bl_limits_measures.proofs.RunLemmas.{activities_are, activities_in as runs_in, activities_in_arm as runs_in_arm}
use Rattle.bl_limits_measures.proofs.RunLemmas.{activities_in_branch as runs_in_branch, arm_activities as arm_runs, branch_activities as branch_runs}
use Rattle.bl_limits_measures.proofs.RunLemmas.{kind_activities as kind_runs, stmt_activities as stmt_layer_runs}
use Rattle.bl_limits_measures_laws.specs.Laws.{UnitsUseEarlierOnes}

-- ---- tests

some_found : {A B : Type 0} (f : A → Option B) (o : Option A) (y : B) → option_and_then f o ≡ Some y → (x : A) × (o ≡ Some x) × (f x ≡ Some y)
some_found f None y is = absurd (cc)
some_found f (Some x) y is = (x, refl, is)

where_holds : {A : Type 0} (b : Bool) (o : Option A) (x : A) → (if b then o else None) ≡ Some x → (b ≡ true) × (o ≡ Some x)
where_holds true o x is = (refl, is)
where_holds false o x is = absurd (cc)

same_found : (a b : Option Ty) → are_same a b ≡ true → ((ty : Ty) × (a ≡ Some ty)) × ((ty : Ty) × (b ≡ Some ty))
same_found (Some a) (Some b) is = ((a, refl), (b, refl))
same_found (Some a) None is = absurd (cc)
same_found None b is = absurd (cc)

truth_found : (found : Option Ty) → is_truth found ≡ true → (ty : Ty) × (found ≡ Some ty)
truth_found (Some ty) is = (ty, refl)
truth_found None is = absurd (cc)

whole_found : (index t : Option Ty) (c : Ty) → where_whole index t ≡ Some c → (ty : Ty) × (index ≡ Some ty)
whole_found None t c is = absurd (cc)
whole_found (Some ty) t c is = (ty, refl)

-- ---- positions below a number

module _ (n : ℕ) where
  abbrev Below : List ℕ → Type 0
  Below positions = All (λ j. j < n) positions

  none : Below []
  none = All-nil (λ j. j < n)

  both : (xs ys : List ℕ) → Below xs → Below ys → Below (xs ++ ys)
  both = All-append (λ j. j < n)

  first : (j : ℕ) (xs : List ℕ) → j < n → Below xs → Below (j ∷ xs)
  first = All-cons (λ j. j < n)

  -- what has a type names positions below
  abbrev Good : {A : Type 0} → (A → Option Ty) → (A → List ℕ) → A → Type 0
  Good types names x = (ty : Ty) → types x ≡ Some ty → Below (names x)

  module _ {A : Type 0} (types : A → Option Ty) (names : A → List ℕ) where
    match_first : (x : A) (xs : List A) (vars : List Var) (found : Option Ty) → types x ≡ found →
        types_match (found ∷ map types xs) vars ≡ true → Good types names x
        → ((rest : List Var) → types_match (map types xs) rest ≡ true → Below (joined (map names xs))) → Below (names x ++ joined (map names xs))
    match_first x xs [] (Some ty) is matched good more = absurd (cc)
    match_first x xs [] None is matched good more = absurd (cc)
    match_first x xs (var ∷ vars) None is matched good more = absurd (cc)
    match_first x xs (var ∷ vars) (Some ty) is matched good more =
        both (names x) (joined (map names xs)) (good ty is) (more vars (and_second (same_type ty var.ty) (types_match (map types xs) vars) matched))

    -- of arguments that match
    match_below : (xs : List A) → All (Good types names) xs → (vars : List Var) → types_match (map types xs) vars ≡ true →
        Below (joined (map names xs))
    match_below [] all vars matched = none
    match_below (x ∷ xs) all vars matched =
        match_first x xs vars (types x) refl matched (All-head (Good types names) x xs all) (match_below xs (All-tail (Good types names) x xs all))

-- ---- expressions

module _ (site : TypingContext) where
  abbrev N : ℕ
  N = length site.earlier

  abbrev P : Expr → Type 0
  P e = Good N (type_of site) calls_in_expr e

  abbrev Q : Path → Type 0
  Q path = Good N (type_of_path site) calls_in_path path

  abbrev type_of_part : Part → Ty → Option Ty
  type_of_part = fold-Part (Option Ty) (Ty → Option Ty) (Option Ty) (Option Ty) (kind_type site) (part_type site) expr_type (path_type site)

  called : (f : ℕ) (callee : UnitDef) → slice_get site.earlier f ≡ Some callee → f < N
  called f callee there = slice_get_within site.earlier f callee there

  literal_below : (place : Place) (n : ℤ) (s : ScalarType) → P (expr place (ExprKind-F.Literal n s))
  literal_below place n s ty typed = rw (fold-roll-Expr, fold-roll-ExprKind) (none N)

  read_below : (place : Place) (path : Path) → Q path → P (expr place (ExprKind-F.Read path))
  read_below place path good ty typed = rw (fold-roll-Expr, fold-roll-ExprKind) (good ty (rw (fold-roll-Expr, fold-roll-ExprKind) at typed))

  prev_below : (place : Place) (k : ℕ) → P (expr place (ExprKind-F.Prev k))
  prev_below place k ty typed = rw (fold-roll-Expr, fold-roll-ExprKind) (none N)

  operand_below : (a : Expr) (s : ScalarType) → P a → option_and_then scalar_in (type_of site a) ≡ Some s → Below N (calls_in_expr a)
  operand_below a s good typed = let found = some_found scalar_in (type_of site a) s typed in good found.0 found.1

  one_below : (place : Place) (op : Op) (a : Expr) → P a → P (expr place (ExprKind-F.One op a))
  one_below place op a good ty typed =
      let found = some_found (one_type op) (option_and_then scalar_in (type_of site a)) ty (rw (fold-roll-Expr, fold-roll-ExprKind) at typed) in
      rw (fold-roll-Expr, fold-roll-ExprKind) (operand_below a found.0 good found.1)

  two_below : (place : Place) (op : Op) (a b : Expr) → P a → P b → P (expr place (ExprKind-F.Two op a b))
  two_below place op a b good other ty typed =
      let found = some_found (λ s. option_and_then (two_type op s) (option_and_then scalar_in (type_of site b)))
      (option_and_then scalar_in (type_of site a)) ty (rw (fold-roll-Expr, fold-roll-ExprKind) at typed) in
      let right = some_found (two_type op found.0) (option_and_then scalar_in (type_of site b)) ty found.2 in
      rw (fold-roll-Expr, fold-roll-ExprKind) (both N (calls_in_expr a) (calls_in_expr b) (operand_below a found.0 good found.1)
      (operand_below b right.0 other right.1))

  cast_below : (place : Place) (target : ScalarType) (a : Expr) → P a → P (expr place (ExprKind-F.Cast target a))
  cast_below place target a good ty typed =
      let found = some_found (cast_type target) (option_and_then scalar_in (type_of site a)) ty (rw (fold-roll-Expr, fold-roll-ExprKind) at typed) in
      rw (fold-roll-Expr, fold-roll-ExprKind) (operand_below a found.0 good found.1)

  call_at : (f : ℕ) (inputs : List Expr) (ty : Ty) → All P inputs →
      option_and_then (call_type (map (type_of site) inputs)) (slice_get site.earlier f) ≡ Some ty → Below N (f ∷ joined (map calls_in_expr inputs))
  call_at f inputs ty each typed =
      let found = some_found (call_type (map (type_of site) inputs)) (slice_get site.earlier f) ty typed in
      let callee : UnitDef = found.0 in
      let matches : Bool = types_match (map (type_of site) inputs) (inputs_of callee) in
      let is = where_holds (is_function callee.kind && (nat_eq callee.outputs 0 && matches)) (option_map scalar callee.result) ty found.2 in
      first N f (joined (map calls_in_expr inputs)) (called f callee found.1)
      (match_below N (type_of site) calls_in_expr inputs each (inputs_of callee)
      (and_second (nat_eq callee.outputs 0) matches (and_second (is_function callee.kind) (nat_eq callee.outputs 0 && matches) is.0)))

  call_below : (place : Place) (f : ℕ) (inputs : List Expr) → All P inputs → P (expr place (ExprKind-F.Call f inputs))
  call_below place f inputs each ty typed = rw (fold-roll-Expr, fold-roll-ExprKind)
      (call_at f inputs ty each (rw (fold-roll-Expr, fold-roll-ExprKind) at typed))

  part_at : (layer : Part-F ExprKind Part Expr Path) (a c : Ty) → OfIndex P layer → type_of_part (roll-Part layer) a ≡ Some c →
      Below N (calls_in_part (roll-Part layer))
  part_at (Part-F.Field k) a c good is = rw fold-roll-Part (none N)
  part_at (Part-F.Index e) a c good is =
      let found = whole_found (type_of site e) (element_in (out-Ty a)) c (rw fold-roll-Part at is) in
      rw fold-roll-Part (good found.0 found.1)

  part_below : (part : Part) (a c : Ty) → OfIndex P (out-Part part) → type_of_part part a ≡ Some c → Below N (calls_in_part part)
  part_below part a c good = subst (λ part. type_of_part part a ≡ Some c → Below N (calls_in_part part)) (roll-out-Part part)
      (part_at (out-Part part) a c good)

  parts_below : (parts : List Part) (a b : Ty) → EachIndex P parts → after_parts (map type_of_part parts) a ≡ Some b →
      Below N (joined (map calls_in_part parts))
  parts_below [] a b each typed = none N
  parts_below (part ∷ rest) a b each typed =
      let found = some_found (after_parts (map type_of_part rest)) (type_of_part part a) b typed in
      both N (calls_in_part part) (joined (map calls_in_part rest))
      (part_below part a found.0 (All-head (λ part. OfIndex P (out-Part part)) part rest each) found.1)
      (parts_below rest found.0 b (All-tail (λ part. OfIndex P (out-Part part)) part rest each) found.2)

  path_below : (place : Place) (root : ℕ) (parts : List Part) (written : Ty) → EachIndex P parts →
      Q (roll-Path (record { place = place; root = root; parts = parts; ty = written }))
  path_below place root parts written each ty typed =
      let whole = some_found (where_same written) (option_and_then (λ (var : Var). after_parts (map type_of_part parts) var.ty)
      (slice_get site.vars root)) ty (rw fold-roll-Path at typed) in
      let found = some_found (λ (var : Var). after_parts (map type_of_part parts) var.ty) (slice_get site.vars root) whole.0 whole.1 in
      rw fold-roll-Path (parts_below parts found.0.ty whole.0 each found.2)

  cases : ExprCases P Q
  cases = record {
    literal = literal_below;
    read = read_below;
    prev = prev_below;
    one = one_below;
    two = two_below;
    cast = cast_below;
    call = call_below;
    path = path_below;
  }

  -- an expression with a type calls earlier functions alone
  expr_earlier : (e : Expr) → P e
  expr_earlier = expr_induct P Q cases

  path_earlier : (path : Path) → Q path
  path_earlier = induct_path P Q cases

-- ---- statements

-- what is called and what is run is earlier
record Names (n : ℕ) (called run : List ℕ) : Type 0 where
  calls : Below n called
  runs : Below n run

-- parts one after another
parts_name : {A : Type 0} (n : ℕ) (fit : A → Bool) (f g : A → List ℕ) (xs : List A) →
    All (λ x. fit x ≡ true → Names n (f x) (g x)) xs → all_of (map fit xs) ≡ true
    → Names n (joined (map f xs)) (joined (map g xs))
parts_name n fit f g [] all fitted = record { calls = none n; runs = none n }
parts_name n fit f g (x ∷ xs) all fitted =
    let one : Names n (f x) (g x) = All-head (λ x. fit x ≡ true → Names n (f x) (g x)) x xs all (and_first (fit x) (all_of (map fit xs)) fitted) in
    let more : Names n (joined (map f xs)) (joined (map g xs)) =
    parts_name n fit f g xs (All-tail (λ x. fit x ≡ true → Names n (f x) (g x)) x xs all) (and_second (fit x) (all_of (map fit xs)) fitted) in
    record { calls = both n (f x) (joined (map f xs)) one.calls more.calls; runs = both n (g x) (joined (map g xs)) one.runs more.runs }

abbrev call_parts : StmtKind-F StmtKind Arm Branch Stmt → StmtKind-F (List ℕ) (List ℕ) (List ℕ) (List ℕ)
call_parts =
    map-StmtKind StmtKind Arm Branch Stmt (List ℕ) (List ℕ) (List ℕ) (List ℕ)
    (fold-StmtKind (List ℕ) (List ℕ) (List ℕ) (List ℕ) stmt_kind_calls arm_calls branch_calls stmt_layer_calls) calls_in_arm calls_in_branch calls_in

calls_at : (place : Place) (layer : StmtKind-F StmtKind Arm Branch Stmt) → calls_in (stmt place layer) ≡ stmt_kind_calls (call_parts layer)
calls_at place layer = rw (fold-roll-Stmt, fold-roll-StmtKind) refl

abbrev run_parts : StmtKind-F StmtKind Arm Branch Stmt → StmtKind-F (List ℕ) (List ℕ) (List ℕ) (List ℕ)
run_parts =
    map-StmtKind StmtKind Arm Branch Stmt (List ℕ) (List ℕ) (List ℕ) (List ℕ)
    (fold-StmtKind (List ℕ) (List ℕ) (List ℕ) (List ℕ) kind_runs arm_runs branch_runs stmt_layer_runs) runs_in_arm runs_in_branch runs_in

runs_at : (place : Place) (layer : StmtKind-F StmtKind Arm Branch Stmt) → runs_in (stmt place layer) ≡ kind_runs (run_parts layer)
runs_at place layer = rw (fold-roll-Stmt, fold-roll-StmtKind) refl

module _ (site : TypingContext) where
  abbrev M : ℕ
  M = length site.earlier

  abbrev S : Stmt → Type 0
  S s = fits site s ≡ true → Names M (calls_in s) (runs_in s)

  -- a statement that runs nothing itself
  calls_alone : (calls : List ℕ) → Below M calls → Names M calls []
  calls_alone calls below = record { calls = below; runs = none M }

  block_names : (body : List Stmt) → Each S body → all_of (map (fits site) body) ≡ true →
      Names M (joined (map calls_in body)) (joined (map runs_in body))
  block_names body each fitted = parts_name M (fits site) calls_in runs_in body each fitted

  optional_named : (initial : Option Expr) (found : Option Var) → declaration_fits site initial found ≡ true → Below M (optional_calls initial)
  optional_named None found fitted = none M
  optional_named (Some e) None fitted = absurd (cc)
  optional_named (Some e) (Some var) fitted =
      let typed = (same_found (Some var.ty) (type_of site e)
      (and_second (is_variable var.role || is_fixed var.role) (are_same (Some var.ty) (type_of site e)) fitted)).1 in
      expr_earlier site e typed.0 typed.1

  returned_named : (e : Option Expr) (result : Option ScalarType) → return_fits site e result ≡ true → Below M (optional_calls e)
  returned_named None result fitted = none M
  returned_named (Some e) None fitted = absurd (cc)
  returned_named (Some e) (Some s) fitted = let typed = (same_found (Some (scalar s)) (type_of site e) fitted).1 in expr_earlier site e typed.0 typed.1

  truth_named : (e : Expr) → is_truth (type_of site e) ≡ true → Below M (calls_in_expr e)
  truth_named e fitted = let typed = truth_found (type_of site e) fitted in expr_earlier site e typed.0 typed.1

  arguments_named : (inputs : List Expr) (outputs : List Path) (callee : UnitDef) →
      arguments_fit site inputs outputs callee ≡ true → Below M (argument_calls inputs outputs)
  arguments_named inputs outputs callee fitted =
      let ins : Bool = types_match (map (type_of site) inputs) (inputs_of callee) in
      let outs : Bool = types_match (map (type_of_path site) outputs) (outputs_of callee) in
      let plain : Bool = all_of (map (is_outlet site) outputs) in
      both M (joined (map calls_in_expr inputs)) (joined (map calls_in_path outputs))
      (match_below M (type_of site) calls_in_expr inputs (λ k d within. expr_earlier site (get_or inputs k d)) (inputs_of callee)
      (and_first ins (outs && plain) fitted))
      (match_below M (type_of_path site) calls_in_path outputs (λ k d within. path_earlier site (get_or outputs k d))
      (outputs_of callee) (and_first outs plain (and_second ins (outs && plain) fitted)))

  target_named : (result : Option ScalarType) (target : Option Path) → target_fits site result target ≡ true → Below M (target_calls target)
  target_named result None fitted = none M
  target_named None (Some path) fitted = absurd (cc)
  target_named (Some s) (Some path) fitted =
      let typed = (same_found (Some (scalar s)) (type_of_path site path)
      (and_second (is_outlet site path) (are_same (Some (scalar s)) (type_of_path site path)) fitted)).1 in
      path_earlier site path typed.0 typed.1

  call_named : (f : ℕ) (inputs : List Expr) (outputs : List Path) (found : Option UnitDef) → slice_get site.earlier f ≡ found →
      call_fits site inputs outputs found ≡ true
      → Below M (f ∷ argument_calls inputs outputs)
  call_named f inputs outputs None there fitted = absurd (cc)
  call_named f inputs outputs (Some callee) there fitted =
      first M f (argument_calls inputs outputs) (slice_get_within site.earlier f callee there)
      (arguments_named inputs outputs callee (and_second (is_procedure callee) (arguments_fit site inputs outputs callee) fitted))

  run_named : (target : Option Path) (a : ℕ) (inputs : List Expr) (outputs : List Path) (found : Option UnitDef) →
      slice_get site.earlier a ≡ found → run_fits site target inputs outputs found ≡ true
      → Names M (target_calls target ++ argument_calls inputs outputs) (a ∷ [])
  run_named target a inputs outputs None there fitted = absurd (cc)
  run_named target a inputs outputs (Some callee) there fitted =
      let fitting = and_second (is_activity site.kind && is_activity callee.kind)
      (target_fits site callee.result target && arguments_fit site inputs outputs callee) fitted in
      record {
        calls = both M (target_calls target) (argument_calls inputs outputs)
            (target_named callee.result target (and_first (target_fits site callee.result target) (arguments_fit site inputs outputs callee) fitting))
            (arguments_named inputs outputs callee (and_second (target_fits site callee.result target) (arguments_fit site inputs outputs callee) fitting));
        runs = first M a [] (slice_get_within site.earlier a callee there) (none M);
      }

  abbrev arm_fitted : Arm → Bool
  arm_fitted = fold-Arm Bool Bool Bool Bool (kind_fits site) (arm_fits site) branch_fits stmt_fits

  abbrev branch_fitted : Branch → Bool
  branch_fitted = fold-Branch Bool Bool Bool Bool (kind_fits site) (arm_fits site) branch_fits stmt_fits

  arm_named : (arm : Arm) → Each S (out-Arm arm).body → arm_fitted arm ≡ true → Names M (calls_in_arm arm) (runs_in_arm arm)
  arm_named arm each fitted =
      let tested : Bool = is_truth (type_of site (out-Arm arm).test) in
      let inside : Bool = all_of (map (fits site) (out-Arm arm).body) in
      let fitting : (tested && inside) ≡ true = sym (fold_out-Arm Bool Bool Bool Bool (kind_fits site)
      (arm_fits site) branch_fits stmt_fits arm) ∙ fitted in
      let body = block_names (out-Arm arm).body each (and_second tested inside fitting) in
      record {
        calls = subst (Below M) (sym (fold_out-Arm (List ℕ) (List ℕ) (List ℕ) (List ℕ) stmt_kind_calls arm_calls branch_calls stmt_layer_calls arm))
            (both M (calls_in_expr (out-Arm arm).test) (joined (map calls_in (out-Arm arm).body))
            (truth_named (out-Arm arm).test (and_first tested inside fitting)) body.calls);
        runs = subst (Below M) (sym (fold_out-Arm (List ℕ) (List ℕ) (List ℕ) (List ℕ) kind_runs arm_runs branch_runs stmt_layer_runs arm)) body.runs;
      }

  branch_named : (branch : Branch) → Each S (out-Branch branch).body → branch_fitted branch ≡ true →
      Names M (calls_in_branch branch) (runs_in_branch branch)
  branch_named branch each fitted =
      let body = block_names (out-Branch branch).body each
      (sym (fold_out-Branch Bool Bool Bool Bool (kind_fits site) (arm_fits site) branch_fits stmt_fits branch) ∙ fitted) in
      record {
        calls = subst (Below M) (sym (fold_out-Branch (List ℕ) (List ℕ) (List ℕ)
            (List ℕ) stmt_kind_calls arm_calls branch_calls stmt_layer_calls branch)) body.calls;
        runs = subst (Below M) (sym (fold_out-Branch (List ℕ) (List ℕ) (List ℕ)
            (List ℕ) kind_runs arm_runs branch_runs stmt_layer_runs branch)) body.runs;
      }

  abbrev fit_parts : StmtKind-F StmtKind Arm Branch Stmt → StmtKind-F Bool Bool Bool Bool
  fit_parts = map-StmtKind StmtKind Arm Branch Stmt Bool Bool Bool Bool
      (fold-StmtKind Bool Bool Bool Bool (kind_fits site) (arm_fits site) branch_fits stmt_fits) arm_fitted branch_fitted (fits site)

  fit_at : (place : Place) (layer : StmtKind-F StmtKind Arm Branch Stmt) → fits site (stmt place layer) ≡ kind_fits site (fit_parts layer)
  fit_at place layer = rw (fold-roll-Stmt, fold-roll-StmtKind) refl

  -- from each element what is shown of it
  shown : {A : Type 0} (P Q : A → Type 0) → ((x : A) → P x → Q x) → (xs : List A) → All P xs → All Q xs
  shown P Q gives xs all = λ k d within. gives _ (all k d within)

  arms_named : (arms : List Arm) → EachArm S arms → all_of (map arm_fitted arms) ≡ true →
      Names M (joined (map calls_in_arm arms)) (joined (map runs_in_arm arms))
  arms_named arms each = parts_name M arm_fitted calls_in_arm runs_in_arm arms
      (shown (λ arm. Each S (out-Arm arm).body) (λ arm. arm_fitted arm ≡ true → Names M (calls_in_arm arm) (runs_in_arm arm)) arm_named arms each)

  branches_named : (branches : List Branch) → EachBranch S branches → all_of (map branch_fitted branches) ≡ true →
      Names M (joined (map calls_in_branch branches)) (joined (map runs_in_branch branches))
  branches_named branches each = parts_name M branch_fitted calls_in_branch runs_in_branch branches
      (shown (λ branch. Each S (out-Branch branch).body)
      (λ branch. branch_fitted branch ≡ true → Names M (calls_in_branch branch) (runs_in_branch branch)) branch_named branches each)

  -- two parts
  joined_names : (a b c d : List ℕ) → Names M a c → Names M b d → Names M (a ++ b) (c ++ d)
  joined_names a b c d one other = record { calls = both M a b one.calls other.calls; runs = both M c d one.runs other.runs }

  -- an expression beside a block
  after_calls : (a b d : List ℕ) → Below M a → Names M b d → Names M (a ++ b) d
  after_calls a b d one other = record { calls = both M a b one other.calls; runs = other.runs }

  before_calls : (a b d : List ℕ) → Names M b d → Below M a → Names M (b ++ a) d
  before_calls a b d other one = record { calls = both M b a other.calls one; runs = other.runs }

  -- a statement by what its parts name
  by_parts : (place : Place) (layer : StmtKind-F StmtKind Arm Branch Stmt) →
      (kind_fits site (fit_parts layer) ≡ true → Names M (stmt_kind_calls (call_parts layer)) (kind_runs (run_parts layer)))
      → S (stmt place layer)
  by_parts place layer names fitted =
      let inside = names (sym (fit_at place layer) ∙ fitted) in
      subst (λ calls. Names M calls (runs_in (stmt place layer))) (sym (calls_at place layer))
      (subst (λ runs. Names M (stmt_kind_calls (call_parts layer)) runs) (sym (runs_at place layer)) inside)

  stmt_cases : Cases S
  stmt_cases = record {
    declare = λ place k initial. by_parts place (StmtKind-F.Declare k initial)
        (λ fitted. calls_alone (optional_calls initial) (optional_named initial (var_at site k) fitted));
    assign = λ place path e. by_parts place (StmtKind-F.Assign path e) (λ fitted.
        let typed = same_found (type_of_path site path) (type_of site e)
        (and_second (is_assignable site path) (are_same (type_of_path site path) (type_of site e)) fitted) in
        calls_alone (calls_in_path path ++ calls_in_expr e)
        (both M (calls_in_path path) (calls_in_expr e) (path_earlier site path typed.0.0 typed.0.1) (expr_earlier site e typed.1.0 typed.1.1)));
    call = λ place f inputs outputs. by_parts place (StmtKind-F.Call f inputs outputs)
        (λ fitted. calls_alone (f ∷ argument_calls inputs outputs) (call_named f inputs outputs (slice_get site.earlier f) refl fitted));
    await = λ place e. by_parts place (StmtKind-F.Await e)
        (λ fitted. calls_alone (calls_in_expr e) (truth_named e (and_second (is_activity site.kind) (is_truth (type_of site e)) fitted)));
    run = λ place target a inputs outputs. by_parts place (StmtKind-F.Run target a inputs outputs)
        (λ fitted. run_named target a inputs outputs (slice_get site.earlier a) refl fitted);
    branching = λ place arms other in_arms in_other. by_parts place (StmtKind-F.If arms other) (λ fitted.
        let choices : Bool = all_of (map arm_fitted arms) in
        let last : Bool = all_of (map (fits site) other) in
        let fitting : (choices && last) ≡ true = and_second (is_inhabited (map arm_fitted arms)) (choices && last) fitted in
        joined_names (joined (map calls_in_arm arms)) (joined (map calls_in other)) (joined (map runs_in_arm arms)) (joined (map runs_in other))
        (arms_named arms in_arms (and_first choices last fitting)) (block_names other in_other (and_second choices last fitting)));
    cobegin = λ place branches each. by_parts place (StmtKind-F.Cobegin branches) (λ fitted.
        let some : Bool = is_inhabited (map branch_fitted branches) in
        let inside : Bool = all_of (map branch_fitted branches) in
        branches_named branches each (and_second some inside (and_second (is_activity site.kind) (some && inside) fitted)));
    guarded = λ place guard e body each. by_parts place (StmtKind-F.When guard e body) (λ fitted.
        let tested : Bool = is_truth (type_of site e) in
        let inside : Bool = all_of (map (fits site) body) in
        let fitting : (tested && inside) ≡ true = and_second (is_activity site.kind) (tested && inside) fitted in
        after_calls (calls_in_expr e) (joined (map calls_in body)) (joined (map runs_in body))
        (truth_named e (and_first tested inside fitting)) (block_names body each (and_second tested inside fitting)));
    repeat = λ place body each. by_parts place (StmtKind-F.Repeat body) (λ fitted. block_names body each fitted);
    until = λ place body e each. by_parts place (StmtKind-F.Until body e) (λ fitted.
        let tested : Bool = is_truth (type_of site e) in
        let inside : Bool = all_of (map (fits site) body) in
        before_calls (calls_in_expr e) (joined (map calls_in body)) (joined (map runs_in body))
        (block_names body each (and_first inside tested fitted)) (truth_named e (and_second inside tested fitted)));
    while = λ place e body each. by_parts place (StmtKind-F.While e body) (λ fitted.
        let tested : Bool = is_truth (type_of site e) in
        let inside : Bool = all_of (map (fits site) body) in
        after_calls (calls_in_expr e) (joined (map calls_in body)) (joined (map runs_in body))
        (truth_named e (and_first tested inside fitted)) (block_names body each (and_second tested inside fitted)));
    returns = λ place e. by_parts place (StmtKind-F.Return e) (λ fitted. calls_alone (optional_calls e) (returned_named e site.result fitted));
  }

  -- a statement that fits names earlier units alone
  stmt_earlier : (s : Stmt) → S s
  stmt_earlier = induct S stmt_cases

  all_fit : (body : List Stmt) → list_all (fits site) body ≡ true → all_of (map (fits site) body) ≡ true
  all_fit [] fitted = refl
  all_fit (s ∷ body) fitted = and_from (fits site s) (all_of (map (fits site) body))
      (and_first (fits site s) (list_all (fits site) body) fitted) (all_fit body (and_second (fits site s) (list_all (fits site) body) fitted))

  body_names : (body : List Stmt) → list_all (fits site) body ≡ true → Names M (joined (map calls_in body)) (joined (map runs_in body))
  body_names body fitted = block_names body (λ k d within. stmt_earlier (get_or body k d)) (all_fit body fitted)

-- ---- units

unit_at : (structs : List StructDef) (earlier units : List UnitDef) (k : ℕ) (unit : UnitDef) →
    units_stand_after structs earlier units ≡ true → slice_get units k ≡ Some unit
    → unit_stands structs (earlier ++ take k units) unit ≡ true
unit_at structs earlier [] k unit stand there = absurd (cc)
unit_at structs earlier (first ∷ units) zero unit stand there =
    subst (λ earlier. unit_stands structs earlier unit ≡ true) (sym (append-nil earlier))
    (subst (λ unit. unit_stands structs earlier unit ≡ true) (same_Some first unit there)
    (and_first (unit_stands structs earlier first) (units_stand_after structs (earlier ++ first ∷ []) units) stand))
unit_at structs earlier (first ∷ units) (suc k) unit stand there =
    subst (λ earlier. unit_stands structs earlier unit ≡ true) (append_assoc earlier (first ∷ []) (take k units))
    (unit_at structs (earlier ++ first ∷ []) units k unit
    (and_second (unit_stands structs earlier first) (units_stand_after structs (earlier ++ first ∷ []) units) stand) there)

-- a unit that stands has a body that fits
fitting : (structs : List StructDef) (earlier : List UnitDef) (unit : UnitDef) → unit_stands structs earlier unit ≡ true →
    list_all (fits (site_of structs earlier unit)) unit.body ≡ true
fitting structs earlier unit stands = and_first _ _ (and_second _ _ (and_second _ _ stands))

pub units_use_earlier : UnitsUseEarlierOnes
units_use_earlier structs units stand k unit there =
    let before = take k units in
    let long : length before ≡ k = (let within = slice_get_within units k unit there in length-take-le k units (omega arith)) in
    let names : Names (length before) (calls_of unit) (activities_run unit) =
    subst (λ runs. Names (length before) (calls_of unit) runs) (sym (activities_are unit))
    (body_names (site_of structs before unit) unit.body (fitting structs before unit (unit_at structs [] units k unit stand there))) in
    record {
      calls = subst (λ n. Below n (calls_of unit)) long names.calls;
      runs = subst (λ n. Below n (activities_run unit)) long names.runs;
    }
