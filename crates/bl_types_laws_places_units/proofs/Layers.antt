-- What layers of statements come to in two environments that agree.
use Rattle.std.proofs.Common.{◌≡◌, ℕ, ◌+◌, ◌≤◌, arith, List, [], ◌++◌, map, length, Option, Some, None, refl, ap, sym, subst, ◌∙◌}
use Rattle.std.specs.Prelude.{Bool, true, false, ◌&&◌, nat_eq, option_map, slice_get, if◌then◌else◌}
use Rattle.std.proofs.lemmas.Bool.{eqb-true}
use Rattle.std.proofs.lemmas.Option.{slice_get-map}
use Rattle.bl_tree.proofs.Basics.{and_first, and_second}
use Rattle.bl_tree.specs.declared.place.Place.{Place}
use Rattle.bl_tree.specs.declared.rule.Failure.{Failure}
use Rattle.bl_tree.specs.declared.rule.Rule.TheVariants as rule
use Rattle.bl_tree.specs.declared.scalar.Scalar.{Scalar as ScalarType}
use Rattle.bl_tree.specs.declared.tree.Expr.{Expr}
use Rattle.bl_tree.specs.declared.tree.Path.{Path}
use Rattle.bl_tree.specs.declared.tree.StmtKind.{StmtKind}
use Rattle.bl_tree.specs.declared.tree.StmtKind.TheVariants as what
use Rattle.bl_tree.specs.Types.{scalar}
use Rattle.bl_tree.specs.Typing.{is_activity}
use Rattle.bl_tree_laws_places.specs.Placed.{placed_expr, placed_path}
use Rattle.bl_tree_laws_places.proofs.Exprs.{path_out}
use Rattle.bl_tree_laws_places.proofs.Stmts.{acted}
use Rattle.bl_names_laws_places.specs.Renamed.{Renaming, renamed_constant, renamed_expr, renamed_expr_layer, renamed_kind, renamed_part, renamed_path}
use Rattle.bl_names_laws_places.specs.Renamed.{renamed_root, renamed_target, renamed_target_layer, renamed_var}
use Rattle.bl_names_tree.specs.declared.expr.NamedExpr.{NamedExpr}
use Rattle.bl_names_tree.specs.declared.expr.NamedExprKind.{NamedExprKind}
use Rattle.bl_names_tree.specs.declared.expr.NamedPart.{NamedPart, fold-NamedPart}
use Rattle.bl_names_tree.specs.declared.expr.NamedTarget.{NamedTarget, fold_out-NamedTarget, out-NamedTarget, out-roll-NamedTarget}
use Rattle.bl_names_tree.specs.declared.item.NamedConstant.{NamedConstant}
use Rattle.bl_names_tree.specs.declared.item.NamedVar.{NamedVar}
use Rattle.bl_names_tree.specs.declared.stmt.NamedPath.{NamedPath}
use Rattle.bl_names_tree.specs.Placed.{constant_placed, holds_of}
use Rattle.bl_types.specs.declared.environment.Environment.{Environment}
use Rattle.bl_types.specs.declared.form.Found.{Found}
use Rattle.bl_types.specs.declared.form.Found.TheVariants as found
use Rattle.bl_types.specs.Declarations.{Initial, after_constant, initial}
use Rattle.bl_types.specs.Expressions.{Targeted, in_context, judged, targeted}
use Rattle.bl_types.specs.Failures.{fails_at}
use Rattle.bl_types.specs.Settled.{Settled}
use Rattle.bl_types.specs.Statements.{Arguments, RunTarget, after_optional_constant, arguments, assign, assign_made, call_walked, condition, constant_walked}
use Rattle.bl_types.specs.Statements.{declare, declared_with, has_result, if_complete, immutable, misplaced, returned, run_made, run_target, run_walked}
use Rattle.bl_types.specs.Statements.{type_found, walked}
use Rattle.bl_types_laws.specs.Within.{known_in}
use Rattle.bl_types_laws_places.specs.Agree.{placed_failures}
use Rattle.bl_types_laws_places.specs.Judgements.{placed_arguments, placed_found, placed_run_target, placed_settled, placed_targeted}
use Rattle.bl_types_laws_places.specs.Laws.{ArgumentsAgree, DeclarationsAgree, ExpressionsAgree, SameArguments, SameDeclarations, SameJudgements}
use Rattle.bl_types_laws_places_units.proofs.Alike.{Inside, SameConstants, WalksAlike, both_placed, unless_placed}
use Rattle.bl_types_laws_places_units.proofs.Made as made

-- ---- what is made

module _ (f : Place → Place) where
  pub complete_placed : (arguments : Arguments) (near_make far_make : List Expr → List Path → StmtKind) →
      ((inputs : List Expr) (outputs : List Path) →
      far_make (map (placed_expr f) inputs) (map (placed_path f) outputs) ≡ acted f (near_make inputs outputs)) →
      if_complete (placed_arguments f arguments) far_make ≡ option_map (acted f) (if_complete arguments near_make)
  complete_placed arguments near_make far_make same = by_test arguments.complete
    where
      by_test : (test : Bool) →
          (if test then Some (far_make (map (placed_expr f) arguments.inputs) (map (placed_path f) arguments.outputs)) else None)
          ≡ option_map (acted f) (if test then Some (near_make arguments.inputs arguments.outputs) else None)
      by_test true = ap Some (same arguments.inputs arguments.outputs)
      by_test false = refl

  pub run_placed : (target : Option (Option Path)) (a : ℕ) (arguments : Arguments) →
      run_made (option_map (option_map (placed_path f)) target) a (placed_arguments f arguments)
      ≡ option_map (acted f) (run_made target a arguments)
  run_placed (Some target) a arguments =
      complete_placed arguments (what.Run target a) (what.Run (option_map (placed_path f) target) a)
      (λ inputs outputs. sym (made.run_is f target a inputs outputs))
  run_placed None a arguments = refl

  pub assign_placed : (leads : Found) (value : Option Expr) →
      assign_made (placed_found f leads) (option_map (placed_expr f) value) ≡ option_map (acted f) (assign_made leads value)
  assign_placed (found.Place path) (Some e) = ap Some (sym (made.assign_is f path e))
  assign_placed (found.Place path) None = refl
  assign_placed found.Nothing value = refl
  assign_placed (found.Constant s n) value = refl

  pub type_found_placed : (leads : Found) → type_found (placed_found f leads) ≡ type_found leads
  type_found_placed (found.Place path) = ap (λ layer. Some layer.ty) (path_out f path)
  type_found_placed found.Nothing = refl
  type_found_placed (found.Constant s n) = refl

  -- a statement that is made of an expression
  pub one_placed : (near_make far_make : Expr → StmtKind) → ((e : Expr) → far_make (placed_expr f e) ≡ acted f (near_make e)) → (e : Option Expr) →
      option_map far_make (option_map (placed_expr f) e) ≡ option_map (acted f) (option_map near_make e)
  one_placed near_make far_make same (Some e) = ap Some (same e)
  one_placed near_make far_make same None = refl

-- ---- layers without blocks

module _ (by : Renaming) where
  pub target_out : (target : NamedTarget) → out-NamedTarget (renamed_target by target)
      ≡ record {
        place = by.place (out-NamedTarget target).place;
        root = renamed_root by (out-NamedTarget target).root;
        parts =
            map (λ part. fold-NamedPart NamedExprKind NamedPart NamedExpr NamedTarget (renamed_kind by) (renamed_part by) (renamed_expr_layer by)
            (renamed_target_layer by) part) (out-NamedTarget target).parts;
      }
  target_out target =
      ap out-NamedTarget (fold_out-NamedTarget NamedExprKind NamedPart NamedExpr NamedTarget (renamed_kind by) (renamed_part by)
      (renamed_expr_layer by) (renamed_target_layer by) target)
      ∙ out-roll-NamedTarget _

module _ (by : Renaming) (from upto : ℕ) (expressions : ExpressionsAgree) (arguments_agree : ArgumentsAgree) (declarations : DeclarationsAgree)
    (near far : Environment) (inside : Inside by from near far) where
  abbrev f : Place → Place
  f = by.place

  abbrev same : StmtKind → StmtKind
  same = acted f

  judgements : SameJudgements by near far
  judgements = expressions by near far inside.agree

  passed : SameArguments by near far
  passed = arguments_agree by near far inside.agree

  declared : SameDeclarations by near far
  declared = declarations by near far inside.agree

  pub misplaced_placed : (at : Place) → misplaced far.kind (f at) ≡ placed_failures f (misplaced near.kind at)
  misplaced_placed at = ap (λ kind. misplaced kind (f at)) inside.kind ∙ unless_placed f (is_activity near.kind) rule.Where at

  -- a statement that declares nothing
  pub still : (near_made far_made : Option StmtKind) (near_failures far_failures : List Failure) → far_made ≡ option_map same near_made →
      far_failures ≡ placed_failures f near_failures →
      WalksAlike by same (walked near near_made near_failures) (walked far far_made far_failures)
  still near_made far_made near_failures far_failures made failures = record { env = inside.agree; made = made; failures = failures }

  declare_alike : (k : ℕ) (var : Option NamedVar) (e : Option NamedExpr) →
      WalksAlike by same (declare k var e near) (declare k (option_map (renamed_var by) var) (option_map (renamed_expr by) e) far)
  declare_alike k (Some var) (Some e) =
      subst (λ (value : Initial). WalksAlike by same (declared_with var k (initial near var.ty e) near) (declared_with (renamed_var by var) k value far))
      (sym (declared.value var.ty e))
      (record {
        env = declared.with_type inside.kind var (initial near var.ty e).valued.ty;
        made = one_placed f (λ e. what.Declare k (Some e)) (λ e. what.Declare k (Some e)) (λ e. sym (made.declare_is f k (Some e)))
            (initial near var.ty e).valued.value;
        failures = refl;
      })
  declare_alike k (Some var) None =
      let after = declared.variable inside.kind var in
      record { env = after.env; made = ap Some (sym (made.declare_is f k None)); failures = after.failures }
  declare_alike k None e = still None None [] [] refl refl

  pub declare_layer : (k : ℕ) (vars : List NamedVar) (e : Option NamedExpr) →
      WalksAlike by same (declare k (slice_get vars k) e near)
      (declare k (slice_get (map (renamed_var by) vars) k) (option_map (renamed_expr by) e) far)
  declare_layer k vars e =
      subst (λ var. WalksAlike by same (declare k (slice_get vars k) e near) (declare k var (option_map (renamed_expr by) e) far))
      (sym (slice_get-map (renamed_var by) vars k)) (declare_alike k (slice_get vars k) e)

  constant_alike : (constant : NamedConstant) →
      WalksAlike by same (constant_walked (after_constant constant near)) (constant_walked (after_constant (renamed_constant by constant) far))
  constant_alike constant =
      let after = declared.constant constant in
      record { env = after.env; made = refl; failures = after.failures }

  pub constant_layer : (k : ℕ) (one other : List NamedConstant) → SameConstants by from upto one other → (near_found : Option NamedConstant) →
      slice_get one k ≡ near_found → length near.constants + 1 ≤ upto →
      (nat_eq k (length near.constants) && holds_of (constant_placed (known_in near)) near_found) ≡ true →
      WalksAlike by same (constant_walked (after_optional_constant near_found near))
      (constant_walked (after_optional_constant (slice_get other (by.constant k)) far))
  constant_layer k one other there None is less placed = absurd (let no = and_second (nat_eq k (length near.constants)) false placed in cc)
  constant_layer k one other there (Some constant) is less placed =
      let at : k ≡ length near.constants =
      eqb-true k (length near.constants) (and_first (nat_eq k (length near.constants)) (constant_placed (known_in near) constant) placed) in
      subst
      (λ far_found. WalksAlike by same (constant_walked (after_constant constant near)) (constant_walked (after_optional_constant far_found far)))
      (sym (there k constant (subst (λ n. from ≤ n) (sym at) inside.behind) (omega arith) is)) (constant_alike constant)

  assign_alike : (target : NamedTarget) (e : NamedExpr) (near_leads far_leads : Targeted) → far_leads ≡ placed_targeted f near_leads →
      WalksAlike by same (assign target near_leads e near) (assign (renamed_target by target) far_leads (renamed_expr by e) far)
  assign_alike target e near_leads far_leads leads =
      let near_value : Settled = in_context (type_found near_leads.found) (judged near e) in
      let far_value : Settled = in_context (type_found far_leads.found) (judged far (renamed_expr by e)) in
      let value : far_value ≡ placed_settled f near_value =
      ap (λ (leads : Targeted). in_context (type_found leads.found) (judged far (renamed_expr by e))) leads
      ∙ ap (λ ty. in_context ty (judged far (renamed_expr by e))) (type_found_placed f near_leads.found)
      ∙ judgements.context (type_found near_leads.found) e in
      let root = out-NamedTarget target in
      let changed : immutable far (out-NamedTarget (renamed_target by target)).place (out-NamedTarget (renamed_target by target)).root
      ≡ placed_failures f (immutable near root.place root.root) =
      ap (λ layer. immutable far layer.place layer.root) (target_out by target) ∙ judgements.immutable root.place root.root in
      still _ _ _ _
      ((λ i. assign_made (leads i).found (value i).made) ∙ assign_placed f near_leads.found near_value.made)
      (both_placed f near_leads.failures (near_value.failures ++ immutable near root.place root.root) far_leads.failures _
      (ap (λ (leads : Targeted). leads.failures) leads)
      (both_placed f near_value.failures (immutable near root.place root.root) far_value.failures _
      (ap (λ (value : Settled). value.failures) value) changed))

  pub assign_layer : (target : NamedTarget) (e : NamedExpr) →
      WalksAlike by same (assign target (targeted near target) e near)
      (assign (renamed_target by target) (targeted far (renamed_target by target)) (renamed_expr by e) far)
  assign_layer target e = assign_alike target e (targeted near target) (targeted far (renamed_target by target)) (judgements.target target)

  pub call_layer : (name : Place) (k : ℕ) (inputs : List NamedExpr) (outputs : List NamedPath) →
      WalksAlike by same (call_walked name k (arguments near name k inputs outputs) near)
      (call_walked (f name) k (arguments far (f name) k (map (renamed_expr by) inputs) (map (renamed_path by) outputs)) far)
  call_layer name k inputs outputs =
      let near_arguments : Arguments = arguments near name k inputs outputs in
      let far_arguments : Arguments = arguments far (f name) k (map (renamed_expr by) inputs) (map (renamed_path by) outputs) in
      let all : far_arguments ≡ placed_arguments f near_arguments = passed.arguments name k inputs outputs in
      still _ _ _ _
      (ap (λ (all : Arguments). if_complete all (what.Call k)) all
      ∙ complete_placed f near_arguments (what.Call k) (what.Call k) (λ inputs outputs. sym (made.call_is f k inputs outputs)))
      (both_placed f near_arguments.failures (has_result name (slice_get near.units k)) far_arguments.failures _
      (ap (λ (all : Arguments). all.failures) all) (passed.has_result name k))

  pub await_layer : (at : Place) (e : NamedExpr) →
      WalksAlike by same (walked near (option_map what.Await (condition near e).made) (misplaced near.kind at ++ (condition near e).failures))
      (walked far (option_map what.Await (condition far (renamed_expr by e)).made)
      (misplaced far.kind (f at) ++ (condition far (renamed_expr by e)).failures))
  await_layer at e =
      let test = judgements.condition e in
      still _ _ _ _
      (ap (λ (value : Settled). option_map what.Await value.made) test
      ∙ one_placed f what.Await what.Await (λ e. sym (made.await_is f e)) (condition near e).made)
      (both_placed f (misplaced near.kind at) (condition near e).failures (misplaced far.kind (f at)) _ (misplaced_placed at)
      (ap (λ (value : Settled). value.failures) test))

  pub run_layer : (at name : Place) (a : ℕ) (target : Option NamedPath) (inputs : List NamedExpr) (outputs : List NamedPath) →
      WalksAlike by same (run_walked at a (run_target near (slice_get near.units a) target) (arguments near name a inputs outputs) near)
      (run_walked (f at) a (run_target far (slice_get far.units a) (option_map (renamed_path by) target))
      (arguments far (f name) a (map (renamed_expr by) inputs) (map (renamed_path by) outputs)) far)
  run_layer at name a target inputs outputs =
      let near_arguments : Arguments = arguments near name a inputs outputs in
      let far_arguments : Arguments = arguments far (f name) a (map (renamed_expr by) inputs) (map (renamed_path by) outputs) in
      let all : far_arguments ≡ placed_arguments f near_arguments = passed.arguments name a inputs outputs in
      let near_target : RunTarget = run_target near (slice_get near.units a) target in
      let far_target : RunTarget = run_target far (slice_get far.units a) (option_map (renamed_path by) target) in
      let into : far_target ≡ placed_run_target f near_target = passed.run_target a target in
      still _ _ _ _
      ((λ i. run_made (into i).made a (all i)) ∙ run_placed f near_target.made a near_arguments)
      (both_placed f (misplaced near.kind at) (near_target.failures ++ near_arguments.failures) (misplaced far.kind (f at)) _ (misplaced_placed at)
      (both_placed f near_target.failures near_arguments.failures far_target.failures _ (ap (λ (target : RunTarget). target.failures) into)
      (ap (λ (all : Arguments). all.failures) all)))

  returned_alike : (at : Place) (e : Option NamedExpr) (result : Option ScalarType) →
      WalksAlike by same (returned at e result near) (returned (f at) (option_map (renamed_expr by) e) result far)
  returned_alike at (Some e) (Some s) =
      let value = judgements.context (Some (scalar s)) e in
      still _ _ _ _
      (ap (λ (value : Settled). option_map (λ e. what.Return (Some e)) value.made) value
      ∙ one_placed f (λ e. what.Return (Some e)) (λ e. what.Return (Some e)) (λ e. sym (made.return_is f (Some e)))
      (in_context (Some (scalar s)) (judged near e)).made)
      (ap (λ (value : Settled). value.failures) value)
  returned_alike at (Some e) None =
      let value = judgements.context None e in
      still _ _ _ _
      (ap (λ (value : Settled). option_map (λ e. what.Return (Some e)) value.made) value
      ∙ one_placed f (λ e. what.Return (Some e)) (λ e. what.Return (Some e)) (λ e. sym (made.return_is f (Some e)))
      (in_context None (judged near e)).made)
      (both_placed f (in_context None (judged near e)).failures (fails_at rule.Return at) _ _ (ap (λ (value : Settled). value.failures) value) refl)
  returned_alike at None (Some s) = still _ _ _ _ (ap Some (sym (made.return_is f None))) refl
  returned_alike at None None = still _ _ _ _ (ap Some (sym (made.return_is f None))) refl

  pub return_layer : (at : Place) (e : Option NamedExpr) →
      WalksAlike by same (returned at e near.result near) (returned (f at) (option_map (renamed_expr by) e) far.result far)
  return_layer at e =
      subst (λ result. WalksAlike by same (returned at e near.result near) (returned (f at) (option_map (renamed_expr by) e) result far))
      (sym inside.agree.result) (returned_alike at e near.result)
