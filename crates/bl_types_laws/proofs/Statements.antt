-- What is made of statements fits.
use Rattle.std.proofs.Common.{◌≡◌, ℕ, List, [], ◌++◌, map, length, Option, Some, None, refl, ap, sym, subst, ◌∙◌}
use Rattle.std.specs.Prelude.{Bool, true, false, ◌&&◌, is_none, is_some, nat_lt, option_map, slice_get}
use Rattle.std.specs.List.{list_all}
use Rattle.std.proofs.lemmas.Option.{same_Some}
use Rattle.std.proofs.lemmas.Bool.{and_from}
use Rattle.bl_tree.proofs.Basics.{and_first, and_second, first_empty, second_empty}
use Rattle.bl_tree.specs.declared.place.Place.{Place}
use Rattle.bl_tree.specs.declared.rule.Failure.{Failure}
use Rattle.bl_tree.specs.declared.rule.Rule.TheVariants as rule
use Rattle.bl_tree.specs.declared.scalar.Scalar.{Scalar as ScalarType}
use Rattle.bl_tree.specs.declared.scalar.Scalar.TheVariants.{Bool as OfBool}
use Rattle.bl_tree.specs.declared.tree.Arm.{Arm, fold-Arm, fold-roll-Arm}
use Rattle.bl_tree.specs.declared.tree.Branch.{Branch, fold-Branch}
use Rattle.bl_tree.specs.declared.tree.Expr.{Expr}
use Rattle.bl_tree.specs.declared.tree.Path.{Path, out-Path}
use Rattle.bl_tree.specs.declared.tree.Stmt.{Stmt, fold-roll-Stmt}
use Rattle.bl_tree.specs.declared.tree.StmtKind.{StmtKind, fold-StmtKind, fold_out-StmtKind, map-StmtKind, out-StmtKind}
use Rattle.bl_tree.specs.declared.tree.StmtKind.TheOpen.{StmtKind-F}
use Rattle.bl_tree.specs.declared.tree.StmtKind.TheVariants as what
use Rattle.bl_tree.specs.declared.tree.Ty.{Ty}
use Rattle.bl_tree.specs.declared.tree.Unit.{Unit as UnitDef}
use Rattle.bl_tree.specs.Reduce.{all_of}
use Rattle.bl_tree.specs.Types.{scalar}
use Rattle.bl_tree.specs.Typing.{TypingContext, are_same, arguments_fit, arm_fits, branch_fits, call_fits, fits, is_activity, is_assignable, is_function}
use Rattle.bl_tree.specs.Typing.{is_outlet, is_truth, kind_fits, return_fits, run_fits, stmt_fits, target_fits, type_of, type_of_path}
use Rattle.bl_eval.proofs.OperatorFits.{where_holds}
use Rattle.bl_names_tree.specs.declared.expr.NamedExpr.{NamedExpr}
use Rattle.bl_names_tree.specs.declared.expr.NamedTarget.{NamedTarget, out-NamedTarget}
use Rattle.bl_names_tree.specs.declared.stmt.NamedPath.{NamedPath}
use Rattle.bl_names_tree.specs.Placed.{DeclaredBefore, arguments_placed, declares_none, expr_placed, holds_if, holds_of, path_placed, target_placed}
use Rattle.bl_types.specs.declared.environment.Environment.{Environment}
use Rattle.bl_types.specs.declared.form.Found.{Found}
use Rattle.bl_types.specs.declared.form.Found.TheVariants as found
use Rattle.bl_types.specs.Expressions.{Targeted, in_context, judged, targeted}
use Rattle.bl_types.specs.Failures.{unless}
use Rattle.bl_types.specs.Settled.{Settled}
use Rattle.bl_types.specs.Statements.{Arguments, RunTarget, arguments, arm_of, assign, assign_made, call_walked, condition, has_result, if_complete, immutable}
use Rattle.bl_types.specs.Statements.{lent, misplaced, no_result, result_type, returned, run_made, run_target, run_walked, stmt_made, type_found, walked}
use Rattle.bl_types_laws.specs.Fitting.{FoundFits, IsLent, IsMade}
use Rattle.bl_types_laws.specs.Standing.{Around, Known, PartPassed}
use Rattle.bl_types_laws.specs.Within.{EnvironmentWithin, calls_functions, known_in, target_calls}
use Rattle.bl_types_laws.proofs.Arguments.{complete_if, arguments_good, condition_fits, truth_is}
use Rattle.bl_types_laws.proofs.Expressions.{targets_fit, there_at, wanted_fits}
use Rattle.bl_types_laws.proofs.Forms.{map_found, same_type_self, unless_holds}
use Rattle.bl_types_laws.proofs.Paths.{lent_fits, target_assignable}
use Rattle.bl_types_laws.proofs.Walks.{own_calls, WalkFits, passed_still}

-- ---- statements by their kinds

module _ (site : TypingContext) where
  abbrev pub good_arm : Arm → Bool
  good_arm = fold-Arm Bool Bool Bool Bool (kind_fits site) (arm_fits site) branch_fits stmt_fits

  abbrev pub good_branch : Branch → Bool
  good_branch = fold-Branch Bool Bool Bool Bool (kind_fits site) (arm_fits site) branch_fits stmt_fits

  abbrev pub fits_layer : StmtKind-F StmtKind Arm Branch Stmt → Bool
  fits_layer layer = kind_fits site
      (map-StmtKind StmtKind Arm Branch Stmt Bool Bool Bool Bool (fold-StmtKind Bool Bool Bool Bool (kind_fits site) (arm_fits site) branch_fits stmt_fits)
      good_arm good_branch (fits site) layer)

  pub fits_is : (at : Place) (kind : StmtKind) (layer : StmtKind-F StmtKind Arm Branch Stmt) → out-StmtKind kind ≡ layer →
      fits site (stmt_made at kind) ≡ fits_layer layer
  fits_is at kind layer is = rw fold-roll-Stmt (fold_out-StmtKind Bool Bool Bool Bool (kind_fits site) (arm_fits site) branch_fits stmt_fits kind
      ∙ ap fits_layer is)

  pub arm_is : (test : Expr) (body : List Stmt) → good_arm (arm_of test body) ≡ (is_truth (type_of site test) && all_of (map (fits site) body))
  arm_is test body = rw fold-roll-Arm refl

  -- ---- assignments

  same_types : (a b : Option Ty) (ty : Ty) → a ≡ Some ty → b ≡ Some ty → are_same a b ≡ true
  same_types a b ty is are = ap (λ a. are_same a b) is ∙ ap (are_same (Some ty)) are ∙ same_type_self ty

  assign_by : (at : Place) (leads : Found) (value : Option Expr) (a : StmtKind) → FoundFits site leads →
      ((path : Path) → leads ≡ found.Place path → is_assignable site path ≡ true) →
      ((ty : Ty) → type_found leads ≡ Some ty → IsMade site ty value) → assign_made leads value ≡ Some a → fits site (stmt_made at a) ≡ true
  assign_by at found.Nothing value a fit may typed is = absurd fit
  assign_by at (found.Constant s n) value a fit may typed is = absurd (cc)
  assign_by at (found.Place path) None a fit may typed is = absurd (cc)
  assign_by at (found.Place path) (Some e) a fit may typed is =
      let made = typed (out-Path path).ty refl in
      let value : type_of site e ≡ Some (out-Path path).ty = ap (type_of site) (same_Some e made.it made.is) ∙ made.is_typed in
      subst (λ a. fits site (stmt_made at a) ≡ true) (same_Some (what.Assign path e) a is)
      (fits_is at (what.Assign path e) (StmtKind-F.Assign path e) (what.outs-Assign path e)
      ∙ and_from (is_assignable site path) (are_same (type_of_path site path) (type_of site e)) (may path refl)
      (same_types (type_of_path site path) (type_of site e) (out-Path path).ty fit value))

  -- ---- calls and runs

  call_good : (at : Place) (f : ℕ) (arguments : Arguments) (unit : UnitDef) (a : StmtKind) → slice_get site.earlier f ≡ Some unit →
      is_function unit.kind ≡ true → is_none unit.result ≡ true →
      arguments_fit site arguments.inputs arguments.outputs unit ≡ true → if_complete arguments (what.Call f) ≡ Some a →
      fits site (stmt_made at a) ≡ true
  call_good at f arguments unit a there function none fit is =
      subst (λ a. fits site (stmt_made at a) ≡ true) (complete_if arguments.complete (what.Call f) arguments.inputs arguments.outputs a is)
      (fits_is at (what.Call f arguments.inputs arguments.outputs) (StmtKind-F.Call f arguments.inputs arguments.outputs)
      (what.outs-Call f arguments.inputs arguments.outputs)
      ∙ ap (call_fits site arguments.inputs arguments.outputs) there
      ∙ and_from (is_function unit.kind && is_none unit.result) (arguments_fit site arguments.inputs arguments.outputs unit)
      (and_from (is_function unit.kind) (is_none unit.result) function none) fit)

  run_good : (at : Place) (f : ℕ) (target : Option (Option Path)) (arguments : Arguments) (unit : UnitDef) (a : StmtKind) →
      slice_get site.earlier f ≡ Some unit → is_activity site.kind ≡ true → is_activity unit.kind ≡ true →
      ((path : Option Path) → target ≡ Some path → target_fits site unit.result path ≡ true) →
      arguments_fit site arguments.inputs arguments.outputs unit ≡ true → run_made target f arguments ≡ Some a →
      fits site (stmt_made at a) ≡ true
  run_good at f None arguments unit a there own activity leads fit is = absurd (cc)
  run_good at f (Some path) arguments unit a there own activity leads fit is =
      subst (λ a. fits site (stmt_made at a) ≡ true) (complete_if arguments.complete (what.Run path f) arguments.inputs arguments.outputs a is)
      (fits_is at (what.Run path f arguments.inputs arguments.outputs) (StmtKind-F.Run path f arguments.inputs arguments.outputs)
      (what.outs-Run path f arguments.inputs arguments.outputs)
      ∙ ap (run_fits site path arguments.inputs arguments.outputs) there
      ∙ and_from (is_activity site.kind && is_activity unit.kind) _ (and_from (is_activity site.kind) (is_activity unit.kind) own activity)
      (and_from (target_fits site unit.result path) (arguments_fit site arguments.inputs arguments.outputs unit) (leads path refl) fit))

  target_lent : (result : Option ScalarType) (s : ScalarType) (made : Option Path) (path : Option Path) → result ≡ Some s →
      IsLent site (scalar s) made →
      option_map (λ path. Some path) made ≡ Some path → target_fits site result path ≡ true
  target_lent result s made path is lent are =
      let found = map_found (λ (path : Path). Some path) made path are in
      let same : lent.it ≡ found.0 = same_Some lent.it found.0 (sym lent.is ∙ found.1) in
      subst (λ path. target_fits site result path ≡ true) found.2
      (subst (λ (path : Path). target_fits site result (Some path) ≡ true) same
      (ap (λ result. target_fits site result (Some lent.it)) is
      ∙ and_from (is_outlet site lent.it) (are_same (Some (scalar s)) (type_of_path site lent.it)) lent.is_outlet_there
      (same_types (Some (scalar s)) (type_of_path site lent.it) (scalar s) refl lent.is_typed)))

  -- ---- conditions

  pub truth_made : (test : Option Expr) (e : Expr) → IsMade site (scalar OfBool) test → test ≡ Some e → is_truth (type_of site e) ≡ true
  truth_made test e made is = truth_is site e (ap (type_of site) (same_Some e made.it (sym is ∙ made.is)) ∙ made.is_typed)

  await_good : (at : Place) (test : Option Expr) (a : StmtKind) → is_activity site.kind ≡ true → IsMade site (scalar OfBool) test →
      option_map what.Await test ≡ Some a → fits site (stmt_made at a) ≡ true
  await_good at test a own made is =
      let found = map_found what.Await test a is in
      subst (λ a. fits site (stmt_made at a) ≡ true) found.2
      (fits_is at (what.Await found.0) (StmtKind-F.Await found.0) (what.outs-Await found.0)
      ∙ and_from (is_activity site.kind) (is_truth (type_of site found.0)) own (truth_made test found.0 made found.1))

  return_good : (at : Place) (s : ScalarType) (value : Option Expr) (a : StmtKind) → site.result ≡ Some s → IsMade site (scalar s) value →
      option_map (λ e. what.Return (Some e)) value ≡ Some a → fits site (stmt_made at a) ≡ true
  return_good at s value a result made is =
      let found = map_found (λ e. what.Return (Some e)) value a is in
      subst (λ a. fits site (stmt_made at a) ≡ true) found.2
      (fits_is at (what.Return (Some found.0)) (StmtKind-F.Return (Some found.0)) (what.outs-Return (Some found.0))
      ∙ ap (return_fits site (Some found.0)) result
      ∙ same_types (Some (scalar s)) (type_of site found.0) (scalar s) refl
      (ap (type_of site) (same_Some found.0 made.it (sym found.1 ∙ made.is)) ∙ made.is_typed))

  bare_return_good : (at : Place) (a : StmtKind) → site.result ≡ None → Some (what.Return None) ≡ Some a → fits site (stmt_made at a) ≡ true
  bare_return_good at a result is =
      subst (λ a. fits site (stmt_made at a) ≡ true) (same_Some (what.Return None) a is)
      (fits_is at (what.Return None) (StmtKind-F.Return None) (what.outs-Return None) ∙ ap (return_fits site None) result)

-- ---- what declares nothing

placed_of : (env : Environment) (placed : Bool) (counts : DeclaredBefore) → declares_none placed (known_in env) ≡ Some counts →
    (placed ≡ true) × (known_in env ≡ counts)
placed_of env placed counts is = let holds = where_holds placed (Some (known_in env)) counts is in (holds.0, same_Some (known_in env) counts holds.1)

module _ (site : TypingContext) (at : Place) where
  abbrev pub good : StmtKind → Bool
  good kind = fits site (stmt_made at kind)

  own_all : (env : Environment) → Around env site → (inputs : List NamedExpr) → list_all (calls_functions site.earlier) inputs ≡ true →
      list_all (calls_functions env.units) inputs ≡ true
  own_all env around inputs calls = ap (λ units. list_all (calls_functions units) inputs) around.units ∙ calls

  pub own_kind : (env : Environment) → Around env site → misplaced env.kind at ≡ [] → is_activity site.kind ≡ true
  own_kind env around none = ap is_activity (sym around.kind) ∙ unless_holds (is_activity env.kind) rule.Where at none

  pub assign_fits : (target : NamedTarget) (e : NamedExpr) → (target_calls site.earlier target && calls_functions site.earlier e) ≡ true →
      WalkFits false site good (λ env. assign target (targeted env target) e env)
      (λ earlier. declares_none (target_placed earlier target && expr_placed earlier e) earlier)
  assign_fits target e named env around known counts step none =
      let placed = placed_of env (target_placed (known_in env) target && expr_placed (known_in env) e) counts step in
      let leads : Targeted = targeted env target in
      let value : Settled = in_context (type_found leads.found) (judged env e) in
      let may : List Failure = immutable env (out-NamedTarget target).place (out-NamedTarget target).root in
      let behind : value.failures ++ may ≡ [] = second_empty leads.failures (value.failures ++ may) none in
      let target_in : target_placed (known_in env) target ≡ true = and_first (target_placed (known_in env) target) (expr_placed (known_in env) e) placed.0 in
      let expr_in : expr_placed (known_in env) e ≡ true = and_second (target_placed (known_in env) target) (expr_placed (known_in env) e) placed.0 in
      let target_own : target_calls env.units target ≡ true = ap (λ units. target_calls units target) around.units
      ∙ and_first (target_calls site.earlier target) (calls_functions site.earlier e) named in
      let expr_own : calls_functions env.units e ≡ true = own_calls env site around e
      (and_second (target_calls site.earlier target) (calls_functions site.earlier e) named) in
      passed_still site good env counts (assign_made leads.found value.made) (leads.failures ++ (value.failures ++ may)) around known placed.1
      (λ within a is.
      assign_by site at leads.found value.made a (targets_fit env site within target target_in target_own
      (first_empty leads.failures (value.failures ++ may) none))
      (λ path is. target_assignable env site within target path target_in is (second_empty value.failures may behind))
      (λ ty is.
      subst (λ wanted. (in_context wanted (judged env e)).failures ≡ [] → IsMade site ty (in_context wanted (judged env e)).made) (sym is)
      (wanted_fits env site within e expr_in expr_own ty) (first_empty value.failures may behind))
      is)

  pub call_fit : (name : Place) (f : ℕ) (inputs : List NamedExpr) (outputs : List NamedPath) →
      (holds_of (λ (unit : UnitDef). is_function unit.kind) (slice_get site.earlier f) && list_all (calls_functions site.earlier) inputs) ≡ true →
      WalkFits false site good (λ env. call_walked name f (arguments env name f inputs outputs) env)
      (λ earlier. declares_none (arguments_placed earlier f inputs outputs) earlier)
  call_fit name f inputs outputs named env around known counts step none =
      let placed = placed_of env (arguments_placed (known_in env) f inputs outputs) counts step in
      let given : Arguments = arguments env name f inputs outputs in
      let found = there_at env.units f (and_first (nat_lt f (length env.units)) _ placed.0) in
      let unit : UnitDef = found.0 in
      let there : slice_get site.earlier f ≡ Some unit = ap (λ units. slice_get units f) (sym around.units) ∙ found.1 in
      let parts = and_second (nat_lt f (length env.units)) (list_all (expr_placed (known_in env)) inputs && list_all (path_placed (known_in env)) outputs)
      placed.0 in
      let function : is_function unit.kind ≡ true =
      ap (holds_of (λ (unit : UnitDef). is_function unit.kind)) (sym there)
      ∙ and_first (holds_of (λ (unit : UnitDef). is_function unit.kind) (slice_get site.earlier f)) (list_all (calls_functions site.earlier) inputs) named in
      let bare : is_none unit.result ≡ true =
      unless_holds (is_none unit.result) rule.Return name (ap (has_result name) (sym found.1)
      ∙ second_empty given.failures (has_result name (slice_get env.units f)) none) in
      passed_still site good env counts (if_complete given (what.Call f)) (given.failures ++ has_result name (slice_get env.units f)) around known placed.1
      (λ within a is.
      let complete = arguments_good env site within name f inputs outputs unit found.1
      (and_first (list_all (expr_placed (known_in env)) inputs) (list_all (path_placed (known_in env)) outputs) parts)
      (and_second (list_all (expr_placed (known_in env)) inputs) (list_all (path_placed (known_in env)) outputs) parts)
      (own_all env around inputs (and_second (holds_of (λ (unit : UnitDef). is_function unit.kind) (slice_get site.earlier f))
      (list_all (calls_functions site.earlier) inputs) named))
      (first_empty given.failures (has_result name (slice_get env.units f)) none) in
      call_good site at f given unit a there function bare complete.fit is)

  target_by : (env : Environment) → EnvironmentWithin env site → (unit : UnitDef) (target : Option NamedPath) →
      holds_if (path_placed (known_in env)) target ≡ true →
      (run_target env (Some unit) target).failures ≡ [] →
      (path : Option Path) → (run_target env (Some unit) target).made ≡ Some path → target_fits site unit.result path ≡ true
  target_by env within unit None placed none path is =
      subst (λ path. target_fits site unit.result path ≡ true) (same_Some None path is) (no_target unit.result)
    where
      no_target : (result : Option ScalarType) → target_fits site result None ≡ true
      no_target None = refl
      no_target (Some s) = refl
  target_by env within unit (Some target) placed none path is = result_by unit.result refl
    where
      result_by : (result : Option ScalarType) → unit.result ≡ result → target_fits site unit.result path ≡ true
      result_by None result = absurd (let fails = ap (λ result. unless (is_some result) rule.Return target.place) (sym result)
          ∙ second_empty (lent env (result_type (Some unit)) target).failures (no_result target.place (Some unit)) none in cc)
      result_by (Some s) result =
          let wanted : result_type (Some unit) ≡ Some (scalar s) = ap (option_map scalar) result in
          target_lent site unit.result s (lent env (result_type (Some unit)) target).made path result
          (subst (λ wanted. (lent env wanted target).failures ≡ [] → IsLent site (scalar s) (lent env wanted target).made) (sym wanted)
          (lent_fits env site within target placed (scalar s))
          (first_empty (lent env (result_type (Some unit)) target).failures (no_result target.place (Some unit)) none))
          is

  pub run_fit : (target : Option NamedPath) (name : Place) (f : ℕ) (inputs : List NamedExpr) (outputs : List NamedPath) →
      (holds_of (λ (unit : UnitDef). is_activity unit.kind) (slice_get site.earlier f) && list_all (calls_functions site.earlier) inputs) ≡ true →
      WalkFits false site good (λ env. run_walked at f (run_target env (slice_get env.units f) target) (arguments env name f inputs outputs) env)
      (λ earlier. declares_none (holds_if (path_placed earlier) target && arguments_placed earlier f inputs outputs) earlier)
  run_fit target name f inputs outputs named env around known counts step none =
      let placed = placed_of env (holds_if (path_placed (known_in env)) target && arguments_placed (known_in env) f inputs outputs) counts step in
      let target_in : holds_if (path_placed (known_in env)) target ≡ true =
      and_first (holds_if (path_placed (known_in env)) target) (arguments_placed (known_in env) f inputs outputs) placed.0 in
      let arguments_in : arguments_placed (known_in env) f inputs outputs ≡ true =
      and_second (holds_if (path_placed (known_in env)) target) (arguments_placed (known_in env) f inputs outputs) placed.0 in
      let given : Arguments = arguments env name f inputs outputs in
      let leads : RunTarget = run_target env (slice_get env.units f) target in
      let found = there_at env.units f (and_first (nat_lt f (length env.units)) _ arguments_in) in
      let unit : UnitDef = found.0 in
      let there : slice_get site.earlier f ≡ Some unit = ap (λ units. slice_get units f) (sym around.units) ∙ found.1 in
      let parts = and_second (nat_lt f (length env.units)) (list_all (expr_placed (known_in env)) inputs && list_all (path_placed (known_in env)) outputs)
      arguments_in in
      let activity : is_activity unit.kind ≡ true =
      ap (holds_of (λ (unit : UnitDef). is_activity unit.kind)) (sym there)
      ∙ and_first (holds_of (λ (unit : UnitDef). is_activity unit.kind) (slice_get site.earlier f)) (list_all (calls_functions site.earlier) inputs) named in
      let behind : leads.failures ++ given.failures ≡ [] = second_empty (misplaced env.kind at) (leads.failures ++ given.failures) none in
      let target_is : run_target env (slice_get env.units f) target ≡ run_target env (Some unit) target =
      ap (λ callee. run_target env callee target) found.1 in
      passed_still site good env counts (run_made leads.made f given) (misplaced env.kind at ++ (leads.failures ++ given.failures)) around known placed.1
      (λ within a is.
      let complete = arguments_good env site within name f inputs outputs unit found.1
      (and_first (list_all (expr_placed (known_in env)) inputs) (list_all (path_placed (known_in env)) outputs) parts)
      (and_second (list_all (expr_placed (known_in env)) inputs) (list_all (path_placed (known_in env)) outputs) parts)
      (own_all env around inputs (and_second (holds_of (λ (unit : UnitDef). is_activity unit.kind) (slice_get site.earlier f))
      (list_all (calls_functions site.earlier) inputs) named))
      (second_empty leads.failures given.failures behind) in
      run_good site at f leads.made given unit a there (own_kind env around (first_empty (misplaced env.kind at) (leads.failures ++ given.failures) none)) activity
      (λ path is. target_by env within unit target target_in (ap (λ (target : RunTarget). target.failures) (sym target_is)
      ∙ first_empty leads.failures given.failures behind) path (ap (λ (target : RunTarget). target.made) (sym target_is) ∙ is))
      complete.fit is)

  pub await_fits : (e : NamedExpr) → calls_functions site.earlier e ≡ true →
      WalkFits false site good (λ env. walked env (option_map what.Await (condition env e).made) (misplaced env.kind at ++ (condition env e).failures))
      (λ earlier. declares_none (expr_placed earlier e) earlier)
  await_fits e named env around known counts step none =
      let placed = placed_of env (expr_placed (known_in env) e) counts step in
      let test : Settled = condition env e in
      passed_still site good env counts (option_map what.Await test.made) (misplaced env.kind at ++ test.failures) around known placed.1
      (λ within a is.
      await_good site at test.made a (own_kind env around (first_empty (misplaced env.kind at) test.failures none))
      (condition_fits env site within e placed.0 (own_calls env site around e named) (second_empty (misplaced env.kind at) test.failures none)) is)

  return_by : (e : Option NamedExpr) (result : Option ScalarType) (env : Environment) → env.result ≡ result →
      holds_if (calls_functions site.earlier) e ≡ true →
      Around env site → Known env → (counts : DeclaredBefore) →
      declares_none (holds_if (expr_placed (known_in env)) e) (known_in env) ≡ Some counts → (returned at e result env).failures ≡ [] →
      PartPassed false site good env counts (returned at e result env)
  return_by (Some e) (Some s) env result named around known counts step none =
      let placed = placed_of env (expr_placed (known_in env) e) counts step in
      let value : Settled = in_context (Some (scalar s)) (judged env e) in
      passed_still site good env counts (option_map (λ e. what.Return (Some e)) value.made) value.failures around known placed.1
      (λ within a is. return_good site at s value.made a (sym around.result ∙ result)
      (wanted_fits env site within e placed.0 (own_calls env site around e named) (scalar s) none) is)
  return_by (Some e) None env result named around known counts step none =
      absurd (let fails = second_empty (in_context None (judged env e)).failures _ none in cc)
  return_by None (Some s) env result named around known counts step none = absurd (cc)
  return_by None None env result named around known counts step none =
      let placed = placed_of env true counts step in
      passed_still site good env counts (Some (what.Return None)) [] around known placed.1
      (λ within a is. bare_return_good site at a (sym around.result ∙ result) is)

  pub return_walk_fits : (e : Option NamedExpr) → holds_if (calls_functions site.earlier) e ≡ true →
      WalkFits false site good (λ env. returned at e env.result env) (λ earlier. declares_none (holds_if (expr_placed earlier) e) earlier)
  return_walk_fits e named env around known counts step none = return_by e env.result env refl named around known counts step none
