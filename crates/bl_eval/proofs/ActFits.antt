-- After an assignment, a declaration or a call that stands at a site the variables have values of their types.
use Rattle.std.proofs.Common.{◌≡◌, ℕ, length, true, ◌||◌, List, [], ◌∷◌, ◌++◌, map, Option, Some, None, refl, sym, ap, ◌∙◌, subst, IfSome}
use Rattle.std.proofs.Math.Seq.{take-add}
use Rattle.std.specs.Prelude.{All, option_and_then, option_map, slice_get, unwrap_or}
use Rattle.bl_tree.proofs.Basics.{and_first, and_second}
use Rattle.bl_tree.specs.declared.place.Place.{Place}
use Rattle.bl_tree.specs.declared.tree.Arm.{Arm}
use Rattle.bl_tree.specs.declared.tree.Branch.{Branch}
use Rattle.bl_tree.specs.declared.tree.Expr.{Expr}
use Rattle.bl_tree.specs.declared.tree.Path.{Path}
use Rattle.bl_tree.specs.declared.tree.Stmt.{Stmt, fold-roll-Stmt, out-Stmt, roll-Stmt, roll-out-Stmt}
use Rattle.bl_tree.specs.declared.tree.StmtKind.{StmtKind, fold-roll-StmtKind, out-StmtKind, roll-out-StmtKind}
use Rattle.bl_tree.specs.declared.tree.StmtKind.TheOpen.{StmtKind-F}
use Rattle.bl_tree.specs.declared.tree.StructDef.{StructDef}
use Rattle.bl_tree.specs.declared.tree.Ty.{Ty}
use Rattle.bl_tree.specs.declared.tree.Unit.{Unit as UnitDef}
use Rattle.bl_tree.specs.declared.tree.Var.{Var}
use Rattle.bl_tree.specs.declared.value.Value.{Value}
use Rattle.bl_tree.specs.Program.{parameters_of}
use Rattle.bl_tree.specs.Types.{same_type, type_stands}
use Rattle.bl_tree.specs.Typing.{TypingContext, are_same, arguments_fit, call_fits, declaration_fits, fits, inputs_of, is_assignable, is_fixed, is_procedure}
use Rattle.bl_tree.specs.Typing.{is_variable, outputs_of, site_of, type_of, type_of_path, types_match}
use Rattle.bl_tree.proofs.StmtInduction.{stmt}
use Rattle.bl_eval.specs.declared.datum.Left.{Left}
use Rattle.bl_eval.specs.Functions.{acted, assigned, call_of, declared, initial_value, outcome_of_call, put_all, put_back, scope_among}
use Rattle.bl_eval.specs.Meaning.{Callee, Meaning, PathMeaning, Scope, View, meaning_of, path_meaning_of, plain, reading, value_in, values_of}
use Rattle.bl_eval.specs.Values.{put_at, value_fits, values_fit, zero_of}
use Rattle.bl_eval.proofs.ExprFits.{CalleeFits, GivesFit, LeftFits, Sound, SpotFits, callee_at, expr_fits, match_fits, reading_fits, spot_fits}
use Rattle.bl_eval.proofs.FitLemmas.{same_type_is, zero_fits}
use Rattle.bl_eval.proofs.MeaningLemmas.{values_append}
use Rattle.bl_eval.proofs.OperatorFits.{DatumFits, plain_fits}
use Rattle.bl_eval.proofs.PartFits.{Fits, Leads, if_map, if_then, leads_none, put_fits}
use Rattle.bl_eval.proofs.PassLemmas.{all_at, pass_append}

pub same_found : (a b : Option Ty) → are_same a b ≡ true → (ty : Ty) × (a ≡ Some ty) × (b ≡ Some ty)
same_found (Some a) (Some b) is = (a, refl, ap Some (sym (same_type_is a b is)))
same_found (Some a) None is = absurd (cc)
same_found None (Some b) is = absurd (cc)
same_found None None is = absurd (cc)

abbrev pub AllFit : List StructDef → List Var → List Value → Type 0
AllFit structs vars values = values_fit structs vars values ≡ true

-- ---- what a path names has a new value

pub spot_put : (structs : List StructDef) (vars : List Var) (view : View) (ty : Ty) (spot : PathMeaning) (value : Value) (now : List Value) →
    SpotFits structs vars view ty spot → Fits structs ty value
    → AllFit structs vars now → IfSome (option_and_then (λ positions. put_at spot.root positions value now) (spot.positions view)) (AllFit structs vars)
spot_put structs vars view ty spot value now found one all =
    if_then (λ ks. Leads structs found.var.ty ks ty) (AllFit structs vars) (λ positions. put_at spot.root positions value now)
    (spot.positions view) found.leads
    (λ ks leads. put_fits structs vars spot.root found.var ks ty found.is_there leads now all value one)

kept : (structs : List StructDef) (vars : List Var) (made : Option (List Value)) (now : List Value) → IfSome made (AllFit structs vars) →
    AllFit structs vars now → AllFit structs vars (unwrap_or made now)
kept structs vars None now h all = all
kept structs vars (Some new) now h all = h

back_fits : (structs : List StructDef) (vars : List Var) (view : View) (ty : Ty) (spot : PathMeaning) (value : Value) (now : List Value) →
    SpotFits structs vars view ty spot → Fits structs ty value
    → AllFit structs vars now → AllFit structs vars (put_back spot value view now)
back_fits structs vars view ty spot value now found one all =
    kept structs vars (option_and_then (λ positions. put_at spot.root positions value now) (spot.positions view)) now
    (spot_put structs vars view ty spot value now found one all) all

reading_all : (scope : Scope) (paths : List Path) → map (λ path. reading (path_meaning_of scope path)) paths
    ≡ map reading (map (path_meaning_of scope) paths)
reading_all scope [] = refl
reading_all scope (path ∷ paths) = ap (λ rest. reading (path_meaning_of scope path) ∷ rest) (reading_all scope paths)

-- ---- acts

module _ (structs : List StructDef) (earlier : List UnitDef) (unit : UnitDef) (callees : List Callee) (sound : Sound structs earlier unit callees) (view : View)
    (now_fits : values_fit structs unit.vars view.now ≡ true) (before_fits : values_fit structs unit.vars view.before ≡ true) where
  abbrev site : TypingContext
  site = site_of structs earlier unit

  abbrev scope : Scope
  scope = scope_among structs callees unit

  value_fits_at : (e : Expr) (ty : Ty) → type_of site e ≡ Some ty → IfSome (value_in scope e view) (Fits structs ty)
  value_fits_at e ty typed =
      if_map (DatumFits structs ty) (Fits structs ty) plain (meaning_of scope e view)
      (expr_fits structs earlier unit callees sound view now_fits before_fits e ty typed)
      (λ datum one. plain_fits structs ty datum one)

  spot_at : (path : Path) (ty : Ty) → type_of_path site path ≡ Some ty → SpotFits structs unit.vars view ty (path_meaning_of scope path)
  spot_at = spot_fits structs earlier unit callees sound view now_fits before_fits

  pub assigned_fits : (path : Path) (e : Expr) → are_same (type_of_path site path) (type_of site e) ≡ true →
      IfSome (assigned (path_meaning_of scope path) (value_in scope e view) view) (AllFit structs unit.vars)
  assigned_fits path e same =
      let found = same_found (type_of_path site path) (type_of site e) same in
      if_then (Fits structs found.0) (AllFit structs unit.vars)
      (λ value. option_and_then (λ positions. put_at (path_meaning_of scope path).root positions value view.now)
      ((path_meaning_of scope path).positions view))
      (value_in scope e view) (value_fits_at e found.0 found.2)
      (λ value one. spot_put structs unit.vars view found.0 (path_meaning_of scope path) value view.now (spot_at path found.0 found.1) one now_fits)

  -- a declaration
  declared_var : (initial : Option Expr) (var : Option Var) → declaration_fits site initial var ≡ true → (found : Var) × (var ≡ Some found)
  declared_var (Some e) (Some var) fitted = (var, refl)
  declared_var (Some e) None fitted = absurd (cc)
  declared_var None (Some var) fitted = (var, refl)
  declared_var None None fitted = absurd (cc)

  initial_fits : (k : ℕ) (initial : Option Expr) (var : Var) → slice_get unit.vars k ≡ Some var → declaration_fits site initial (Some var) ≡ true
      → IfSome (initial_value scope k initial view) (Fits structs var.ty)
  initial_fits k (Some e) var there fitted =
      let found = same_found (Some var.ty) (type_of site e)
      (and_second (is_variable var.role || is_fixed var.role) (are_same (Some var.ty) (type_of site e)) fitted) in
      value_fits_at e var.ty (found.2 ∙ sym found.1)
  initial_fits k None var there fitted =
      subst (λ at. IfSome (option_map (λ (var : Var). zero_of structs var.ty) at) (Fits structs var.ty)) (sym there)
      (zero_fits structs var.ty sound.structs_stand (all_at (λ (var : Var). type_stands (length structs) var.ty) unit.vars k var sound.vars_stand there))

  pub declared_fits : (k : ℕ) (initial : Option Expr) → declaration_fits site initial (slice_get unit.vars k) ≡ true →
      IfSome (declared scope k initial view) (AllFit structs unit.vars)
  declared_fits k initial fitted =
      let found = declared_var initial (slice_get unit.vars k) fitted in
      let var : Var = found.0 in
      if_then (Fits structs var.ty) (AllFit structs unit.vars) (λ value. put_at k [] value view.now) (initial_value scope k initial view)
      (initial_fits k initial var found.1 (subst (λ at. declaration_fits site initial at ≡ true) found.1 fitted))
      (λ value one. put_fits structs unit.vars k var [] var.ty found.1 (leads_none structs var.ty) view.now now_fits value one)

  -- the outputs of a call
  outputs_first : (path : Path) (paths : List Path) (var : Var) (vars : List Var) (typed : Option Ty) → type_of_path site path ≡ typed →
      types_match (typed ∷ map (type_of_path site) paths) (var ∷ vars) ≡ true
      → SpotFits structs unit.vars view var.ty (path_meaning_of scope path) × (types_match (map (type_of_path site) paths) vars ≡ true)
  outputs_first path paths var vars None is matched = absurd (cc)
  outputs_first path paths var vars (Some ty) is matched = (
    spot_at path var.ty (is ∙ ap Some (same_type_is ty var.ty (and_first (same_type ty var.ty) (types_match (map (type_of_path site) paths) vars) matched))),
    and_second (same_type ty var.ty) (types_match (map (type_of_path site) paths) vars) matched,
  )

  back_all : (paths : List Path) (vars : List Var) (values : List Value) (now : List Value) →
      types_match (map (type_of_path site) paths) vars ≡ true → AllFit structs vars values
      → AllFit structs unit.vars now → AllFit structs unit.vars (put_all (map (path_meaning_of scope) paths) values view now)
  back_all [] vars values now matched given all = all
  back_all (path ∷ paths) vars [] now matched given all = all
  back_all (path ∷ paths) [] (value ∷ values) now matched given all = absurd (cc)
  back_all (path ∷ paths) (var ∷ vars) (value ∷ values) now matched given all =
      let first = outputs_first path paths var vars (type_of_path site path) refl matched in
      back_all paths vars values (put_back (path_meaning_of scope path) value view now) first.1
      (and_second (value_fits structs var.ty value) (values_fit structs vars values) given)
      (back_fits structs unit.vars view var.ty (path_meaning_of scope path) value now first.0
      (and_first (value_fits structs var.ty value) (values_fit structs vars values) given) all)

  -- the arguments of a call
  outputs_given : (outputs : List Path) (vars : List Var) → types_match (map (type_of_path site) outputs) vars ≡ true
      → IfSome (values_of (map reading (map (path_meaning_of scope) outputs)) view) (AllFit structs vars)
  outputs_given outputs vars matched =
      let each : All (λ path. GivesFit structs view (reading (path_meaning_of scope path)) (type_of_path site path)) outputs =
      λ k d within ty typed. reading_fits structs unit.vars view ty _ now_fits (spot_at _ ty typed) in
      subst (λ means. IfSome (values_of means view) (AllFit structs vars)) (reading_all scope outputs)
      (match_fits structs view (λ path. reading (path_meaning_of scope path)) (type_of_path site) outputs each vars matched)

  inputs_given : (inputs : List Expr) (vars : List Var) → types_match (map (type_of site) inputs) vars ≡ true →
      IfSome (values_of (map (meaning_of scope) inputs) view) (AllFit structs vars)
  inputs_given inputs vars matched =
      let each : All (λ e. GivesFit structs view (meaning_of scope e) (type_of site e)) inputs =
      λ k d within ty typed. expr_fits structs earlier unit callees sound view now_fits before_fits _ ty typed in
      match_fits structs view (meaning_of scope) (type_of site) inputs each vars matched

  together : (means others : List Meaning) (xs ys : List Var) → IfSome (values_of means view) (AllFit structs xs) →
      IfSome (values_of others view) (AllFit structs ys)
      → IfSome (values_of (means ++ others) view) (AllFit structs (xs ++ ys))
  together means others xs ys one other =
      subst (λ given. IfSome given (AllFit structs (xs ++ ys))) (sym (values_append means others view))
      (if_then (AllFit structs xs) (AllFit structs (xs ++ ys)) (λ vs. option_map (λ ws. vs ++ ws) (values_of others view)) (values_of means view) one
      (λ vs fit. if_map (AllFit structs ys) (AllFit structs (xs ++ ys)) (λ ws. vs ++ ws) (values_of others view) other
      (λ ws more. pass_append (λ (var : Var). value_fits structs var.ty) xs ys vs ws fit more)))

  pub called_fits : (f : ℕ) (inputs : List Expr) (outputs : List Path) (callee : Option UnitDef) → slice_get earlier f ≡ callee →
      call_fits site inputs outputs callee ≡ true
      → IfSome (call_of scope f inputs outputs view) (AllFit structs unit.vars)
  called_fits f inputs outputs None there fitted = absurd (cc)
  called_fits f inputs outputs (Some callee) there fitted =
      let fitting : arguments_fit site inputs outputs callee ≡ true = and_second (is_procedure callee) (arguments_fit site inputs outputs callee) fitted in
      let ins : types_match (map (type_of site) inputs) (inputs_of callee) ≡ true = and_first _ _ fitting in
      let outs : types_match (map (type_of_path site) outputs) (outputs_of callee) ≡ true = and_first _ _ (and_second _ _ fitting) in
      let given : IfSome (values_of (map (meaning_of scope) inputs ++ map reading (map (path_meaning_of scope) outputs)) view)
      (AllFit structs (inputs_of callee ++ outputs_of callee)) =
      together (map (meaning_of scope) inputs) (map reading (map (path_meaning_of scope) outputs)) (inputs_of callee) (outputs_of callee)
      (inputs_given inputs (inputs_of callee) ins)
      (outputs_given outputs (outputs_of callee) outs) in
      let same : inputs_of callee ++ outputs_of callee ≡ parameters_of callee = sym (take-add callee.inputs callee.outputs callee.vars) in
      if_then (CalleeFits structs callee) (AllFit structs unit.vars)
      (outcome_of_call (map (meaning_of scope) inputs) (map (path_meaning_of scope) outputs) view) (slice_get callees f)
      (callee_at structs earlier callees f callee sound.callees_fit there)
      (λ does does_fit. if_then (AllFit structs (inputs_of callee ++ outputs_of callee)) (AllFit structs unit.vars)
      (λ values. option_map (λ (left : Left). put_all (map (path_meaning_of scope) outputs) left.outputs view view.now) (does values))
      (values_of (map (meaning_of scope) inputs ++ map reading (map (path_meaning_of scope) outputs)) view) given
      (λ values all. if_map (LeftFits structs callee) (AllFit structs unit.vars)
      (λ (left : Left). put_all (map (path_meaning_of scope) outputs) left.outputs view view.now) (does values)
      (does_fit values (subst (λ vars. AllFit structs vars values) same all))
      (λ left one. back_all outputs (outputs_of callee) left.outputs view.now outs one.0 now_fits)))

  act_at : (place : Place) (layer : StmtKind-F StmtKind Arm Branch Stmt) → fits site (stmt place layer) ≡ true →
      IfSome (acted scope layer view) (AllFit structs unit.vars)
  act_at place (StmtKind-F.Declare k initial) fitted = declared_fits k initial (rw (fold-roll-Stmt, fold-roll-StmtKind) at fitted)
  act_at place (StmtKind-F.Assign path e) fitted =
      assigned_fits path e (and_second (is_assignable site path) (are_same (type_of_path site path) (type_of site e))
      (rw (fold-roll-Stmt, fold-roll-StmtKind) at fitted))
  act_at place (StmtKind-F.Call f inputs outputs) fitted =
      called_fits f inputs outputs (slice_get earlier f) refl (rw (fold-roll-Stmt, fold-roll-StmtKind) at fitted)
  act_at place _ fitted = tt

  -- an assignment, a declaration or a call keeps the variables' types
  pub act_fits : (s : Stmt) → fits site s ≡ true → IfSome (acted scope (out-StmtKind (out-Stmt s).what) view) (AllFit structs unit.vars)
  act_fits s fitted =
      let place : Place = (out-Stmt s).place in
      let whole : stmt place (out-StmtKind (out-Stmt s).what) ≡ s =
      ap (λ (what : StmtKind). roll-Stmt (record { place = place; what = what })) (roll-out-StmtKind (out-Stmt s).what) ∙ roll-out-Stmt s in
      act_at place (out-StmtKind (out-Stmt s).what) (subst (λ s. fits site s ≡ true) (sym whole) fitted)
