-- Typed stores after values are put, and frames changed.
use Rattle.std.proofs.Common.{◌≡◌, ◌⊎◌, inl, inr, ℕ, zero, suc, true, List, [], ◌∷◌, ◌++◌, length, take, drop, Option}
use Rattle.std.proofs.Common.{Some, None, refl, sym, ap, ◌∙◌, subst}
use Rattle.std.specs.Prelude.{option_and_then, option_map, slice_get, slice_set, unwrap_or}
use Rattle.std.proofs.lemmas.Bool.{and_from}
use Rattle.bl_tree.proofs.Basics.{and_first, and_second, one_some}
use Rattle.bl_tree.specs.declared.scalar.Scalar.{Scalar as ScalarType}
use Rattle.bl_tree.specs.declared.static_path.Static.{Static}
use Rattle.bl_tree.specs.declared.tree.StructDef.{StructDef}
use Rattle.bl_tree.specs.declared.tree.Ty.{Ty}
use Rattle.bl_tree.specs.declared.tree.Unit.{Unit as UnitDef}
use Rattle.bl_tree.specs.declared.tree.Var.{Var}
use Rattle.bl_tree.specs.declared.value.Value.{Value}
use Rattle.bl_tree.specs.Program.{IsWellTyped}
use Rattle.bl_tree.specs.Types.{scalar}
use Rattle.bl_tree.specs.Typing.{inputs_of}
use Rattle.bl_eval.specs.Values.{put_at, value_at, value_fits, values_fit, with_value_at}
use Rattle.bl_eval.proofs.FitLemmas.{Test}
use Rattle.bl_eval.proofs.PartFits.{Fits}
use Rattle.bl_eval.proofs.PassLemmas.{pass_at, pass_set}
use Rattle.bl_ctree.specs.Actions.{with_result}
use Rattle.bl_ctree.specs.Instances.{Setting, setting_of, unit_at}
use Rattle.bl_ctree.specs.Store.{Frame, Location, Store, home, put, put_path, put_written, remember, with_frame, with_inputs, with_now}
use Rattle.bl_ctree_laws_typing.specs.Fits.{FrameFits, HasFrame, StoreFits, result_fits}
use Rattle.bl_ctree_laws_confluence.specs.Deeds.Origins.{InstancesHaveCallers}
use Rattle.bl_ctree_laws_typing.proofs.OnViews.Along.{along_leads, along_there, pass_past}
use Rattle.bl_ctree_laws_typing.proofs.OnViews.Typed.{LocationTyped, home_typed}

set_case : {A : Type 0} (xs : List A) (j i : ℕ) (x old : A) → slice_get xs j ≡ Some old →
    ((i ≡ j) × (slice_get (slice_set xs j x) i ≡ Some x)) ⊎ (slice_get (slice_set xs j x) i ≡ slice_get xs i)
set_case [] zero i x old there = absurd cc
set_case [] (suc j) i x old there = absurd cc
set_case (y ∷ xs) zero zero x old there = inl (refl, refl)
set_case (y ∷ xs) zero (suc i) x old there = inr refl
set_case (y ∷ xs) (suc j) zero x old there = inr refl
set_case (y ∷ xs) (suc j) (suc i) x old there = by (set_case xs j i x old there)
  where
    by : ((i ≡ j) × (slice_get (slice_set xs j x) i ≡ Some x)) ⊎ (slice_get (slice_set xs j x) i ≡ slice_get xs i) →
        ((suc i ≡ suc j) × (slice_get (slice_set xs j x) i ≡ Some x)) ⊎ (slice_get (slice_set xs j x) i ≡ slice_get xs i)
    by (inl one) = inl (ap suc one.0, one.1)
    by (inr same) = inr same

-- ---- values of variables

abbrev test_of : List StructDef → Var → Test
test_of structs var = value_fits structs var.ty

-- a variable's value, set among others
pub one_set : (structs : List StructDef) (vars : List Var) (values others : List Value) (k : ℕ) → values_fit structs vars values ≡ true →
    values_fit structs vars others ≡ true →
    values_fit structs vars (unwrap_or (option_map (slice_set others k) (slice_get values k)) others) ≡ true
one_set structs vars values others k one other = by (slice_get vars k) refl
  where
    by : (var : Option Var) → slice_get vars k ≡ var →
        values_fit structs vars (unwrap_or (option_map (slice_set others k) (slice_get values k)) others) ≡ true
    by None there =
        subst (λ o. values_fit structs vars (unwrap_or (option_map (slice_set others k) o) others) ≡ true)
        (sym (pass_past (test_of structs) vars values k one there)) other
    by (Some var) there =
        let found = pass_at (test_of structs) vars values k var one there in
        subst (λ o. values_fit structs vars (unwrap_or (option_map (slice_set others k) o) others) ≡ true) (sym found.1)
        (pass_set (test_of structs) vars others k var found.0 other there found.2)

-- values of the first variables, before those of the rest
front_set : (structs : List StructDef) (n : ℕ) (vars : List Var) (values now : List Value) → values_fit structs (take n vars) values ≡ true →
    values_fit structs vars now ≡ true → values_fit structs vars (values ++ drop (length values) now) ≡ true
front_set structs zero vars [] now one other = other
front_set structs zero vars (v ∷ values) now one other = absurd cc
front_set structs (suc n) [] [] now one other = other
front_set structs (suc n) [] (v ∷ values) now one other = absurd cc
front_set structs (suc n) (var ∷ vars) [] now one other = absurd cc
front_set structs (suc n) (var ∷ vars) (v ∷ values) [] one other = absurd cc
front_set structs (suc n) (var ∷ vars) (v ∷ values) (x ∷ now) one other =
    and_from (value_fits structs var.ty v) (values_fit structs vars (values ++ drop (length values) now))
    (and_first (value_fits structs var.ty v) (values_fit structs (take n vars) values) one)
    (front_set structs n vars values now (and_second (value_fits structs var.ty v) (values_fit structs (take n vars) values) one)
    (and_second (value_fits structs var.ty x) (values_fit structs vars now) other))

-- ---- frames

pub remember_fits : (structs : List StructDef) (unit : UnitDef) (k : ℕ) (frame : Frame) → FrameFits structs unit frame →
    FrameFits structs unit (remember k frame)
remember_fits structs unit k frame fits =
    record { now = fits.now; before = one_set structs unit.vars frame.now frame.before k fits.now fits.before; result = fits.result }

pub inputs_fit : (structs : List StructDef) (unit : UnitDef) (inputs : List Value) (frame : Frame) →
    values_fit structs (inputs_of unit) inputs ≡ true → FrameFits structs unit frame → FrameFits structs unit (with_inputs inputs frame)
inputs_fit structs unit inputs frame one fits =
    record { now = front_set structs unit.inputs unit.vars inputs frame.now one fits.now; before = fits.before; result = fits.result }

pub returned_fits : (structs : List StructDef) (unit : UnitDef) (s : ScalarType) (value : Value) (frame : Frame) → unit.result ≡ Some s →
    Fits structs (scalar s) value → FrameFits structs unit frame → FrameFits structs unit (with_result value frame)
returned_fits structs unit s value frame is one fits = record {
  now = fits.now;
  before = fits.before;
  result = subst (λ o. result_fits structs o (Some value) ≡ true) (sym is) one;
}

-- ---- stores

module _ (callers : InstancesHaveCallers) (structs : List StructDef) (units : List UnitDef) (entry : ℕ) (keeps : IsWellTyped structs units entry) where
  abbrev pub W : Setting
  W = setting_of structs units entry

  set_fits : (store : Store) (j : ℕ) (unit : UnitDef) (old frame : Frame) → StoreFits W store → unit_at W j ≡ Some unit →
      slice_get store j ≡ Some old → FrameFits structs unit frame → StoreFits W (slice_set store j frame)
  set_fits store j unit old frame fits there at fit = record { each = λ i other of. by i other of (set_case store j i frame old at) }
    where
      by : (i : ℕ) (other : UnitDef) → unit_at W i ≡ Some other →
          ((i ≡ j) × (slice_get (slice_set store j frame) i ≡ Some frame)) ⊎ (slice_get (slice_set store j frame) i ≡ slice_get store i) →
          HasFrame W (slice_set store j frame) i other
      by i other of (inl one) =
          let same : unit ≡ other = one_some unit other (unit_at W j) there (subst (λ i. unit_at W i ≡ Some other) one.0 of) in
          record { frame = frame; is = one.1; fits = subst (λ unit. FrameFits structs unit frame) same fit }
      by i other of (inr same) = let has = fits.each i other of in record { frame = has.frame; is = same ∙ has.is; fits = has.fits }

  -- a frame is changed to one that fits
  pub changed_fits : (store : Store) (j : ℕ) (unit : UnitDef) (change : Frame → Frame) → StoreFits W store → unit_at W j ≡ Some unit →
      ((frame : Frame) → FrameFits structs unit frame → FrameFits structs unit (change frame)) → StoreFits W (with_frame j change store)
  changed_fits store j unit change fits there so =
      let has = fits.each j unit there in
      subst (StoreFits W) (sym (ap (λ o. unwrap_or (option_map (λ frame. slice_set store j (change frame)) o) store) has.is))
      (set_fits store j unit has.frame (change has.frame) fits there has.is (so has.frame has.fits))

  -- a value is put where values of its type are
  pub put_fits : (store : Store) (at : Location) (ty : Ty) (value : Value) → StoreFits W store → LocationTyped W at ty →
      Fits structs ty value →
      StoreFits W (put at value store)
  put_fits store at ty value fits typed one =
      let has = fits.each at.instance typed.unit typed.there in
      let root = pass_at (test_of structs) typed.unit.vars has.frame.now at.path.root typed.path.var has.fits.now typed.path.root in
      let leads = along_leads structs keeps.structs_stand at.path.fields typed.path.var.ty ty root.0 root.2 typed.path.leads in
      let made = leads.puts value one in
      let now : List Value = slice_set has.frame.now at.path.root made.0 in
      let frame : Frame = record { now = now; before = has.frame.before; result = has.frame.result } in
      let is_put : put_at at.path.root at.path.fields value has.frame.now ≡ Some now =
      ap (option_and_then (λ old. option_map (λ part. slice_set has.frame.now at.path.root part) (with_value_at at.path.fields value old))) root.1
      ∙ ap (option_map (λ part. slice_set has.frame.now at.path.root part)) made.1 in
      let is_with : with_now store at value has.frame ≡ Some (slice_set store at.instance frame) =
      ap (option_map (λ now. slice_set store at.instance (record { now = now; before = has.frame.before; result = has.frame.result }))) is_put in
      let whole : put at value store ≡ slice_set store at.instance frame =
      ap (λ o. unwrap_or (option_and_then (with_now store at value) o) store) has.is ∙ ap (λ o. unwrap_or o store) is_with in
      subst (StoreFits W) (sym whole)
      (set_fits store at.instance typed.unit has.frame frame fits typed.there has.is (record {
        now =
            pass_set (test_of structs) typed.unit.vars has.frame.now at.path.root typed.path.var made.0 has.fits.now typed.path.root made.2;
        before = has.fits.before;
        result = has.fits.result;
      }))

  abbrev LeftBy : ℕ → Static → Store → Option Value → Type 0
  LeftBy i path store o = StoreFits W (unwrap_or (option_map (λ value. put (home W (record { instance = i; path = path })) value store) o) store)

  -- what stands at a path of typed variables goes to the path's home
  path_fits : (i : ℕ) (unit : UnitDef) (variables : List Value) (path : Static) (store : Store) → unit_at W i ≡ Some unit →
      values_fit structs unit.vars variables ≡ true → StoreFits W store → StoreFits W (put_path W i variables path store)
  path_fits i unit variables path store there all fits = by_var (slice_get unit.vars path.root) refl
    where
      by_value : (var : Var) (v : Value) → slice_get unit.vars path.root ≡ Some var → Fits structs var.ty v → (o : Option Value) →
          value_at path.fields v ≡ o → LeftBy i path store o
      by_value var v at fit None is = fits
      by_value var v at fit (Some x) is =
          let typed = along_there structs keeps.structs_stand path.fields var.ty v x fit is in
          put_fits store (home W (record { instance = i; path = path })) typed.0 x fits
          (home_typed callers structs units entry keeps (record { instance = i; path = path }) typed.0 (record {
            unit = unit;
            there = there;
            path = record { var = var; root = at; leads = typed.1 };
          })) typed.2

      by_var : (var : Option Var) → slice_get unit.vars path.root ≡ var →
          LeftBy i path store (option_and_then (value_at path.fields) (slice_get variables path.root))
      by_var None at =
          subst (λ o. LeftBy i path store (option_and_then (value_at path.fields) o))
          (sym (pass_past (test_of structs) unit.vars variables path.root all at)) fits
      by_var (Some var) at =
          let found = pass_at (test_of structs) unit.vars variables path.root var all at in
          subst (λ o. LeftBy i path store (option_and_then (value_at path.fields) o)) (sym found.1) (by_value var found.0 at found.2
          (value_at path.fields found.0) refl)

  -- what an act writes goes to its homes
  pub written_fits : (i : ℕ) (unit : UnitDef) (variables : List Value) (paths : List Static) (store : Store) → unit_at W i ≡ Some unit →
      values_fit structs unit.vars variables ≡ true → StoreFits W store → StoreFits W (put_written W i variables paths store)
  written_fits i unit variables [] store there all fits = fits
  written_fits i unit variables (path ∷ paths) store there all fits =
      written_fits i unit variables paths (put_path W i variables path store) there all (path_fits i unit variables path store there all fits)
