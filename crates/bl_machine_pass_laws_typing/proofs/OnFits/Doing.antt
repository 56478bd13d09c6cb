-- What deeds of nodes that fit leave of typed stores.
use Rattle.std.proofs.Common.{◌≡◌, ℕ, Bool, true, List, [], ◌∷◌, map, take, Option, Some, None, refl, sym, ap, ◌∙◌, subst, IfSome}
use Rattle.std.specs.Prelude.{is_some, option_and_then, option_map, slice_get}
use Rattle.std.proofs.lemmas.Bool.{and_from}
use Rattle.bl_tree.proofs.Basics.{and_first, and_second, one_some}
use Rattle.bl_tree.specs.declared.place.Place.{Place}
use Rattle.bl_tree.specs.declared.scalar.Scalar.{Scalar as ScalarType}
use Rattle.bl_tree.specs.declared.tree.Arm.{Arm}
use Rattle.bl_tree.specs.declared.tree.Branch.{Branch}
use Rattle.bl_tree.specs.declared.tree.Expr.{Expr}
use Rattle.bl_tree.specs.declared.tree.Path.{Path}
use Rattle.bl_tree.specs.declared.tree.Stmt.{Stmt, out-Stmt}
use Rattle.bl_tree.specs.declared.tree.StmtKind.{StmtKind}
use Rattle.bl_tree.specs.declared.tree.StmtKind.TheOpen.{StmtKind-F}
use Rattle.bl_tree.specs.declared.tree.StructDef.{StructDef}
use Rattle.bl_tree.specs.declared.tree.Ty.{Ty}
use Rattle.bl_tree.specs.declared.tree.Unit.{Unit as UnitDef}
use Rattle.bl_tree.specs.declared.tree.Var.{Var}
use Rattle.bl_tree.specs.declared.value.Value.{Value}
use Rattle.bl_tree.specs.Effects.{writes}
use Rattle.bl_tree.specs.Program.{IsWellTyped}
use Rattle.bl_tree.specs.Static.{static_of}
use Rattle.bl_tree.specs.Types.{same_type, scalar}
use Rattle.bl_tree.specs.Typing.{TypingContext, are_same, fits, inputs_of, is_assignable, is_outlet, is_plain, return_fits, site_of, target_fits, type_of}
use Rattle.bl_tree.specs.Typing.{type_of_path, types_match}
use Rattle.bl_tree.proofs.StmtInduction.{stmt}
use Rattle.bl_graph_nodes.specs.Nodes.{ActAt, CheckAt, DepthEndAt, DepthJoinAt, EnterAt, ForkAt, HeadAt, Node, PauseAt, ResumeAt, StartAt, SurfaceEndAt}
use Rattle.bl_graph_nodes.specs.Nodes.{SurfaceJoinAt, TestAt}
use Rattle.bl_graph_nodes.specs.Plain.{Label}
use Rattle.bl_graph_nodes.proofs.Equations.{made_of_parts}
use Rattle.bl_eval.specs.Meaning.{View}
use Rattle.bl_eval.specs.Standing.{ActStandsInUnit, ExprStandsInUnit, outcome_in_unit, type_in_unit, value_in_unit}
use Rattle.bl_eval.specs.Values.{value_fits, values_fit}
use Rattle.bl_eval.proofs.ActFits.{same_found}
use Rattle.bl_eval.proofs.FitLemmas.{same_type_is}
use Rattle.bl_eval.proofs.LawLemmas.{act_typed, value_typed}
use Rattle.bl_eval.proofs.PartFits.{Fits}
use Rattle.bl_ctree.specs.Actions.{Acts, Asks, Copies, Gives, Performed, acted_kind, done, effect_on, given_to, is_true_value, outcome_there, result_at}
use Rattle.bl_ctree.specs.Actions.{value_there, values_there, with_result}
use Rattle.bl_ctree.specs.declared.instance.Instance.{Instance}
use Rattle.bl_ctree.specs.Instances.{Setting, setting_of, unit_at, unit_of}
use Rattle.bl_ctree.specs.Positions.{stmt_kind}
use Rattle.bl_ctree.specs.Store.{Frame, Store, home, put_written, remember, view_at, with_frame, with_inputs}
use Rattle.bl_ctree_laws_typing.specs.Fits.{StoreFits, result_fits}
use Rattle.bl_ctree_laws_confluence.specs.Deeds.Origins.{InstancesHaveCallers}
use Rattle.bl_ctree_laws_confluence.proofs.OnApart.Told.{fit_at}
use Rattle.bl_ctree_laws_typing.specs.Views.{ViewsAreTyped}
use Rattle.bl_ctree_laws_typing.proofs.OnViews.Paths.{path_typed}
use Rattle.bl_ctree_laws_typing.proofs.OnViews.Typed.{home_typed}
use Rattle.bl_machine_laws.specs.Passes.Follows.{DeedYields}
use Rattle.bl_machine_pass_laws_execution.specs.Executes.{IsPoint, deed_at}
use Rattle.bl_machine_pass_laws_typing.proofs.OnFits.Changing.{changed_fits, inputs_fit, put_fits, remember_fits, returned_fits, written_fits}

pub one_if : {A : Type 0} (P : A → Type 0) (o : Option A) (x : A) → o ≡ Some x → IfSome o P → P x
one_if P o x is h = subst (λ o. IfSome o P) is h

-- an instance of the unit, by its position in the program
pub record Stands (structs : List StructDef) (units : List UnitDef) (entry i : ℕ) (unit : UnitDef) : Type 0 where
  pub instance : Instance
  pub there : slice_get (setting_of structs units entry).instances i ≡ Some instance
  pub of : slice_get units instance.unit ≡ Some unit

pub stands_at : (structs : List StructDef) (units : List UnitDef) (entry i : ℕ) (unit : UnitDef) →
    unit_at (setting_of structs units entry) i ≡ Some unit → Stands structs units entry i unit
stands_at structs units entry i unit is = by (slice_get (setting_of structs units entry).instances i) refl is
  where
    by : (found : Option Instance) → slice_get (setting_of structs units entry).instances i ≡ found →
        option_and_then (unit_of (setting_of structs units entry)) found ≡ Some unit → Stands structs units entry i unit
    by None there is = absurd cc
    by (Some instance) there is = record { instance = instance; there = there; of = is }

module _ (callers : InstancesHaveCallers) (views : ViewsAreTyped) (structs : List StructDef) (units : List UnitDef) (entry : ℕ)
    (keeps : IsWellTyped structs units entry) (i : ℕ) (unit : UnitDef) (is : unit_at (setting_of structs units entry) i ≡ Some unit)
    (store : Store) (typed : StoreFits (setting_of structs units entry) store) where
  abbrev W : Setting
  W = setting_of structs units entry

  abbrev here : Stands structs units entry i unit
  here = stands_at structs units entry i unit is

  abbrev k : ℕ
  k = here.instance.unit

  abbrev site : TypingContext
  site = site_of structs (take k units) unit

  abbrev view : View
  view = view_at W store i

  -- ---- values

  there_typed : (e : Expr) (ty : Ty) (value : Value) → type_of site e ≡ Some ty → value_there W store i e ≡ Some value →
      Fits structs ty value
  there_typed e ty value typed_as gives =
      let seen = views structs units entry i unit store keeps is typed in
      let stands : ExprStandsInUnit structs units k view e = record {
        unit = unit;
        is_there = here.of;
        typed = ap is_some typed_as;
        fitting = record { now = seen.now; before = seen.before };
      } in
      let value_is : value_in_unit structs units k e view ≡ Some value =
      sym (ap (option_and_then (λ (instance : Instance). value_in_unit structs units instance.unit e view)) here.there) ∙ gives in
      let type_is : type_in_unit structs units k e ≡ Some ty =
      ap (λ (o : Option UnitDef). option_and_then (λ (site : TypingContext). type_of site e) (option_map (site_of structs (take k units)) o)) here.of
      ∙ typed_as in
      one_if (λ (ty : Ty). value_fits structs ty value ≡ true) (type_in_unit structs units k e) ty type_is
      (one_if (λ (value : Value). IfSome (type_in_unit structs units k e) (λ ty. value_fits structs ty value ≡ true)) (value_in_unit
      structs units k e view) value
      value_is (value_typed structs units entry k view keeps e stands))

  inputs_first : (e : Expr) (rest : List Expr) (var : Var) (vars : List Var) (value : Value) (found : Option Ty) → type_of site e ≡ found →
      types_match (found ∷ map (type_of site) rest) (var ∷ vars) ≡ true → value_there W store i e ≡ Some value →
      Fits structs var.ty value × (types_match (map (type_of site) rest) vars ≡ true)
  inputs_first e rest var vars value None typed_as matched gives = absurd cc
  inputs_first e rest var vars value (Some ty) typed_as matched gives = (
    there_typed e var.ty value
        (typed_as ∙ ap Some (same_type_is ty var.ty (and_first (same_type ty var.ty) (types_match (map (type_of site) rest) vars) matched))) gives,
    and_second (same_type ty var.ty) (types_match (map (type_of site) rest) vars) matched,
  )

  pub inputs_typed : (inputs : List Expr) (vars : List Var) (values : List Value) → types_match (map (type_of site) inputs) vars ≡ true →
      values_there W store i inputs ≡ Some values → values_fit structs vars values ≡ true
  inputs_typed [] [] values matched gives = let none : [] ≡ values = cc in subst (λ values. values_fit structs [] values ≡ true) none refl
  inputs_typed [] (var ∷ vars) values matched gives = absurd cc
  inputs_typed (e ∷ rest) [] values matched gives = absurd (no_vars (type_of site e) (map (type_of site) rest) matched)
    where
      no_vars : (found : Option Ty) (rest : List (Option Ty)) → types_match (found ∷ rest) [] ≡ true → ⊥
      no_vars None rest h = absurd cc
      no_vars (Some ty) rest h = absurd cc
  inputs_typed (e ∷ rest) (var ∷ vars) values matched gives =
      by (value_there W store i e) refl gives (λ others more so. inputs_typed rest vars others more so)
    where
      by_rest : (value : Value) → value_there W store i e ≡ Some value → (o : Option (List Value)) → values_there W store i rest ≡ o →
          option_map (λ values. value ∷ values) o ≡ Some values →
          ((others : List Value) → types_match (map (type_of site) rest) vars ≡ true → values_there W store i rest ≡ Some others →
          values_fit structs vars others ≡ true) → values_fit structs (var ∷ vars) values ≡ true
      by_rest value one None is gives inner = absurd cc
      by_rest value one (Some others) is gives inner =
          let first = inputs_first e rest var vars value (type_of site e) refl matched one in
          let so : value ∷ others ≡ values = cc in
          subst (λ values. values_fit structs (var ∷ vars) values ≡ true) so
          (and_from (value_fits structs var.ty value) (values_fit structs vars others) first.0 (inner others first.1 is))

      by : (o : Option Value) → value_there W store i e ≡ o →
          option_and_then (λ value. option_map (λ values. value ∷ values) (values_there W store i rest)) o ≡ Some values →
          ((others : List Value) → types_match (map (type_of site) rest) vars ≡ true → values_there W store i rest ≡ Some others →
          values_fit structs vars others ≡ true) → values_fit structs (var ∷ vars) values ≡ true
      by None is gives inner = absurd cc
      by (Some value) is gives inner = by_rest value is (values_there W store i rest) refl gives inner

  -- ---- acts

  act_left : (s : Stmt) (values : List Value) → fits site s ≡ true → outcome_there W store i s ≡ Some values →
      values_fit structs unit.vars values ≡ true
  act_left s values fitted gives =
      let seen = views structs units entry i unit store keeps is typed in
      let stands : ActStandsInUnit structs units k view s =
      record { unit = unit; is_there = here.of; fitted = fitted; fitting = record { now = seen.now; before = seen.before } } in
      let values_are : outcome_in_unit structs units k s view ≡ Some values =
      sym (ap (option_and_then (λ (instance : Instance). outcome_in_unit structs units instance.unit s view)) here.there) ∙ gives in
      one_if (λ (unit : UnitDef). values_fit structs unit.vars values ≡ true) (slice_get units k) unit here.of
      (one_if (λ (left : List Value). IfSome (slice_get units k) (λ (unit : UnitDef). values_fit structs unit.vars left ≡ true))
      (outcome_in_unit structs units k s view) values
      values_are (act_typed structs units entry k view keeps s stands))

  put_left : (s : Stmt) (left : Store) → fits site s ≡ true →
      option_map (λ values. put_written W i values (writes s) store) (outcome_there W store i s) ≡ Some left → StoreFits W left
  put_left s left fitted gives = by (outcome_there W store i s) refl gives
    where
      by : (o : Option (List Value)) → outcome_there W store i s ≡ o →
          option_map (λ values. put_written W i values (writes s) store) o ≡ Some left → StoreFits W left
      by None made gives = absurd cc
      by (Some values) made gives =
          let so : put_written W i values (writes s) store ≡ left = cc in
          subst (StoreFits W) so (written_fits callers structs units entry keeps i unit values (writes s) store is (act_left s values fitted
          made) typed)

  declared_left : (s : Stmt) (x : ℕ) (left : Store) → fits site s ≡ true →
      option_map (λ values. with_frame i (remember x) (put_written W i values (writes s) store)) (outcome_there W store i s) ≡ Some left →
      StoreFits W left
  declared_left s x left fitted gives = by (outcome_there W store i s) refl gives
    where
      by : (o : Option (List Value)) → outcome_there W store i s ≡ o →
          option_map (λ values. with_frame i (remember x) (put_written W i values (writes s) store)) o ≡ Some left → StoreFits W left
      by None made gives = absurd cc
      by (Some values) made gives =
          let so : with_frame i (remember x) (put_written W i values (writes s) store) ≡ left = cc in
          subst (StoreFits W) so
          (changed_fits callers structs units entry keeps (put_written W i values (writes s) store) i unit (remember x)
          (written_fits callers structs units entry keeps i unit values (writes s) store is (act_left s values fitted made) typed) is
          (λ frame one. remember_fits structs unit x frame one))

  -- a `return` with a value
  returned_type : (e : Expr) (result : Option ScalarType) → return_fits site (Some e) result ≡ true →
      (s : ScalarType) × (result ≡ Some s) × (type_of site e ≡ Some (scalar s))
  returned_type e None fitted = absurd cc
  returned_type e (Some s) fitted =
      let found = same_found (Some (scalar s)) (type_of site e) fitted in (s, refl, found.2 ∙ sym found.1)

  return_left : (place : Place) (e : Expr) (left : Store) → fits site (stmt place (StmtKind-F.Return (Some e))) ≡ true →
      option_map (λ value. with_frame i (with_result value) store) (value_there W store i e) ≡ Some left → StoreFits W left
  return_left place e left fitted gives = by (value_there W store i e) refl gives
    where
      by : (o : Option Value) → value_there W store i e ≡ o → option_map (λ value. with_frame i (with_result value) store) o ≡ Some left →
          StoreFits W left
      by None made gives = absurd cc
      by (Some value) made gives =
          let so : with_frame i (with_result value) store ≡ left = cc in
          let result = returned_type e unit.result (sym (fit_at site place (StmtKind-F.Return (Some e))) ∙ fitted) in
          subst (StoreFits W) so
          (changed_fits callers structs units entry keeps store i unit (with_result value) typed is
          (λ frame one. returned_fits structs unit result.0 value frame result.1 (there_typed e (scalar result.0) value result.2 made) one))

  acted_left : (s : Stmt) (left : Store) → fits site s ≡ true → acted_kind W i s (stmt_kind s) store ≡ Some left → StoreFits W left
  acted_left s left fitted gives = by (stmt_kind s) (subst (λ s. fits site s ≡ true) (sym (made_of_parts s)) fitted) gives
    where
      by : (layer : StmtKind-F StmtKind Arm Branch Stmt) → fits site (stmt (out-Stmt s).place layer) ≡ true →
          acted_kind W i s layer store ≡ Some left →
          StoreFits W left
      by (StmtKind-F.Return None) fits gives = let so : store ≡ left = cc in subst (StoreFits W) so typed
      by (StmtKind-F.Return (Some e)) fits gives = return_left (out-Stmt s).place e left fits gives
      by (StmtKind-F.Declare x initial) fits gives = declared_left s x left fitted gives
      by (StmtKind-F.Assign path e) fits gives = put_left s left fitted gives
      by (StmtKind-F.Call f inputs outputs) fits gives = put_left s left fitted gives
      by (StmtKind-F.Await e) fits gives = put_left s left fitted gives
      by (StmtKind-F.Run target a inputs outputs) fits gives = put_left s left fitted gives
      by (StmtKind-F.If arms other) fits gives = put_left s left fitted gives
      by (StmtKind-F.Cobegin branches) fits gives = put_left s left fitted gives
      by (StmtKind-F.When guard e body) fits gives = put_left s left fitted gives
      by (StmtKind-F.Repeat body) fits gives = put_left s left fitted gives
      by (StmtKind-F.Until body e) fits gives = put_left s left fitted gives
      by (StmtKind-F.While e body) fits gives = put_left s left fitted gives

  -- ---- effects

  performed_left : (p : Performed) (answer : Bool) (left : Store) → Some p ≡ Some (record { answer = answer; store = left }) → p.store ≡ left
  performed_left p answer left e =
      one_some p.store left (option_map (λ (p : Performed). p.store) (Some p)) refl (ap (option_map (λ (p : Performed). p.store)) e)

  store_left : (answer : Bool) (now left : Store) → Some (done now) ≡ Some (record { answer = answer; store = left }) → now ≡ left
  store_left answer now left e = performed_left (done now) answer left e

  act_fits : (s : Stmt) (answer : Bool) (left : Store) → fits site s ≡ true →
      effect_on W i (Acts s) store ≡ Some (record { answer = answer; store = left }) → StoreFits W left
  act_fits s answer left fitted gives = by (acted_kind W i s (stmt_kind s) store) refl gives
    where
      by : (o : Option Store) → acted_kind W i s (stmt_kind s) store ≡ o → option_map done o
          ≡ Some (record { answer = answer; store = left }) →
          StoreFits W left
      by None made e = absurd cc
      by (Some now) made e = subst (StoreFits W) (store_left answer now left e) (acted_left s now fitted made)

  abbrev asked : Value → Performed
  asked value = record { answer = is_true_value value; store = store }

  ask_fits : (e : Expr) (answer : Bool) (left : Store) → effect_on W i (Asks e) store ≡ Some (record { answer = answer; store = left }) →
      StoreFits W left
  ask_fits e answer left gives = by (value_there W store i e) gives
    where
      by : (o : Option Value) → option_map asked o ≡ Some (record { answer = answer; store = left }) → StoreFits W left
      by None e = absurd cc
      by (Some value) e = subst (StoreFits W) (performed_left (asked value) answer left e) typed

  silent_fits : (answer : Bool) (left : Store) → Some (done store) ≡ Some (record { answer = answer; store = left }) → StoreFits W left
  silent_fits answer left e = subst (StoreFits W) (store_left answer store left e) typed

  -- a point's deed
  pub point_fits : (n : Node) (answer : Bool) (left : Store) → IsPoint n → ((l : Label) (s : Stmt) → n ≡ ActAt l s →
      fits site s ≡ true) →
      DeedYields W (deed_at i n) store answer left → StoreFits W left
  point_fits (ActAt l s) answer left point fitted does = act_fits s answer left (fitted l s refl) does
  point_fits (TestAt l at e) answer left point fitted does = ask_fits e answer left does
  point_fits (PauseAt l at) answer left point fitted does = silent_fits answer left does
  point_fits (EnterAt l at arguments) answer left point fitted does = absurd point
  point_fits (ResumeAt l at arguments) answer left point fitted does = absurd point
  point_fits (HeadAt l at) answer left point fitted does = silent_fits answer left does
  point_fits (StartAt l at) answer left point fitted does = silent_fits answer left does
  point_fits (CheckAt l at e) answer left point fitted does = ask_fits e answer left does
  point_fits (SurfaceEndAt l at) answer left point fitted does = silent_fits answer left does
  point_fits (DepthEndAt l at) answer left point fitted does = silent_fits answer left does
  point_fits (ForkAt l at) answer left point fitted does = silent_fits answer left does
  point_fits (SurfaceJoinAt l at) answer left point fitted does = silent_fits answer left does
  point_fits (DepthJoinAt l at) answer left point fitted does = silent_fits answer left does

  -- inputs are copied to an instance of a unit whose inputs have their types
  pub copy_fits : (callee : ℕ) (other : UnitDef) (inputs : List Expr) (left : Store) → unit_at W callee ≡ Some other →
      types_match (map (type_of site) inputs) (inputs_of other) ≡ true →
      effect_on W i (Copies callee inputs) store ≡ Some (record { answer = true; store = left }) → StoreFits W left
  copy_fits callee other inputs left of matched gives = by (values_there W store i inputs) refl gives
    where
      by : (o : Option (List Value)) → values_there W store i inputs ≡ o →
          option_map (λ values. done (with_frame callee (with_inputs values) store)) o
          ≡ Some (record { answer = true; store = left }) → StoreFits W left
      by None made e = absurd cc
      by (Some values) made e =
          subst (StoreFits W) (store_left true (with_frame callee (with_inputs values) store) left e)
          (changed_fits callers structs units entry keeps store callee other (with_inputs values) typed of
          (λ frame one. inputs_fit structs other values frame (inputs_typed inputs (inputs_of other) values matched made) one))

  -- the target gets a result of its type
  target_left : (callee : ℕ) (other : UnitDef) (target : Option Path) → unit_at W callee ≡ Some other →
      target_fits site other.result target ≡ true →
      StoreFits W (given_to W i target (result_at store callee) store)
  target_left callee other target of fitted = by target (result_at store callee) refl fitted
    where
      by_result : (path : Path) (value : Value) → result_at store callee ≡ Some value → (result : Option ScalarType) →
          other.result ≡ result →
          target_fits site result (Some path) ≡ true → StoreFits W (given_to W i (Some path) (Some value) store)
      by_result path value given None result_is fitted = absurd cc
      by_result path value given (Some s) result_is fitted =
          let has = typed.each callee other of in
          let found = same_found (Some (scalar s)) (type_of_path site path)
          (and_second (is_outlet site path) (are_same (Some (scalar s)) (type_of_path site path)) fitted) in
          let plain : is_plain path ≡ true =
          and_first (is_plain path) (is_assignable site path)
          (and_first (is_outlet site path) (are_same (Some (scalar s)) (type_of_path site path)) fitted) in
          let path_is = path_typed site path (scalar s) plain (found.2 ∙ sym found.1) in
          let held : has.frame.result ≡ Some value = sym (ap (option_and_then (λ (frame : Frame). frame.result)) has.is) ∙ given in
          let one : result_fits structs (Some s) (Some value) ≡ true =
          subst (λ o. result_fits structs (Some s) o ≡ true) held
          (subst (λ o. result_fits structs o has.frame.result ≡ true) result_is has.fits.result) in
          put_fits callers structs units entry keeps store (home W (record { instance = i; path = static_of path })) (scalar s) value typed
          (home_typed callers structs units entry keeps (record { instance = i; path = static_of path }) (scalar s)
          (record { unit = unit; there = is; path = path_is })) one

      by : (target : Option Path) (result : Option Value) → result_at store callee ≡ result → target_fits site other.result target ≡ true →
          StoreFits W (given_to W i target result store)
      by None None given fitted = typed
      by None (Some value) given fitted = typed
      by (Some path) None given fitted = typed
      by (Some path) (Some value) given fitted = by_result path value given other.result refl fitted

  pub give_fits : (callee : ℕ) (other : UnitDef) (target : Option Path) (left : Store) → unit_at W callee ≡ Some other →
      target_fits site other.result target ≡ true →
      effect_on W i (Gives callee target) store ≡ Some (record { answer = true; store = left }) → StoreFits W left
  give_fits callee other target left of fitted gives =
      subst (StoreFits W) (store_left true (given_to W i target (result_at store callee) store) left gives) (target_left callee other target
      of fitted)
