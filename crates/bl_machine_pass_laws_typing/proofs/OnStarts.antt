-- First stores and woken ones are typed.
use Rattle.std.proofs.Common.{◌≡◌, ℕ, zero, suc, ◌+◌, ◌-◌, ◌≤◌, Bool, true, ◌&&◌, List, [], ◌∷◌, length, map, take}
use Rattle.std.proofs.Common.{Option, Some, None, refl, sym, ap, ◌∙◌, subst, arith}
use Rattle.std.specs.Prelude.{ℤ, pos, is_none, is_some, option_and_then, option_map, slice_get, unwrap_or}
use Rattle.std.specs.List.{list_all}
use Rattle.std.proofs.lemmas.Bool.{and_from}
use Rattle.bl_tree.proofs.Basics.{and_first, and_second}
use Rattle.bl_tree.specs.declared.scalar.Scalar.{Scalar as ScalarType}
use Rattle.bl_tree.specs.declared.scalar.Scalar.TheVariants.{Bool as OfBool, Int, Nat, Bits}
use Rattle.bl_tree.specs.declared.scalar.Width.TheVariants.{W8, W16, W32, W64}
use Rattle.bl_tree.specs.declared.tree.StructDef.{StructDef}
use Rattle.bl_tree.specs.declared.tree.Unit.{Unit as UnitDef}
use Rattle.bl_tree.specs.declared.tree.Var.{Var}
use Rattle.bl_tree.specs.declared.value.Value.{Value}
use Rattle.bl_tree.specs.declared.value.Value.TheVariants.{Number, outs-Number}
use Rattle.bl_tree.specs.Ports.{column_type, columns_of, in_ranges, row_fits, types_of}
use Rattle.bl_tree.specs.Program.{IsWellTyped, is_entry, parameters_of}
use Rattle.bl_tree.specs.Scalar.{in_range}
use Rattle.bl_tree.specs.Types.{scalar, scalar_in, type_stands}
use Rattle.bl_tree.specs.Typing.{is_activity}
use Rattle.bl_eval.specs.Values.{is_number_of, tests_after, value_fits, values_fit, zero_of}
use Rattle.bl_eval.proofs.FitLemmas.{fits_scalar, scalar_is, zero_fits}
use Rattle.bl_eval.proofs.PassLemmas.{pass_each}
use Rattle.bl_ctree.specs.declared.instance.Instance.{Instance}
use Rattle.bl_ctree.specs.Instances.{Setting, expanded, instances_below, runs_of, setting_of, unit_at, unit_of}
use Rattle.bl_ctree.specs.Store.{Frame, Store, aged, first_frame, first_store, frame_at_first, with_inputs, woken_store, zero_result}
use Rattle.bl_ctree_laws_typing.specs.Fits.{FrameFits, HasFrame, StoreFits, result_fits}
use Rattle.bl_ctree_laws_confluence.specs.Deeds.Origins.{InstancesHaveCallers}
use Rattle.bl_ctree_laws_typing.proofs.OnViews.Running.{types_stand}
use Rattle.bl_machine_pass_laws_typing.proofs.OnFits.Changing.{changed_fits, inputs_fit}
use Rattle.bl_machine_pass_laws_typing.proofs.OnFits.Doing.{stands_at}
use Rattle.bl_machine_pass_laws_typing.specs.Starts.{AllStartsFit, StartsFit}
use Rattle.bl_eval.proofs.UnitFits.{unit_at as unit_stands_at}
use Rattle.bl_machine_pass_laws_execution.proofs.OnFresh.Lists.{get_mapped}
use Rattle.bl_eval.proofs.FitLemmas.{zero_scalar}

-- ---- numbers

number_fits : (structs : List StructDef) (s : ScalarType) (n : ℤ) → in_range s n ≡ true → value_fits structs (scalar s) (Number n) ≡ true
number_fits structs s n within = fits_scalar (tests_after [] structs) s (Number n) ∙ ap (is_number_of s) (outs-Number n) ∙ within

-- a number of a column is one of the variable's type
column_within : (s : ScalarType) (n : ℤ) → in_range (column_type s) n ≡ true → in_range s n ≡ true
column_within OfBool n h = h
column_within (Int w) n h = h
column_within (Nat w) n h = h
column_within (Bits W8) n h = h
column_within (Bits W16) n h = h
column_within (Bits W32) n h = h
column_within (Bits W64) n h = h

-- ---- rows

pub some_scalar : (o : Option ScalarType) → is_some o ≡ true → (s : ScalarType) × (o ≡ Some s)
some_scalar None h = absurd cc
some_scalar (Some s) h = (s, refl)

abbrev pub is_scalar : Var → Bool
is_scalar var = is_some (scalar_in var.ty)

row_typed : (structs : List StructDef) (vars : List Var) (row : List ℤ) → list_all is_scalar vars ≡ true →
    in_ranges (types_of (columns_of vars)) row ≡ true → values_fit structs vars (map Number row) ≡ true
row_typed structs [] [] scalars fits = refl
row_typed structs [] (n ∷ row) scalars fits = absurd cc
row_typed structs (var ∷ vars) [] scalars fits = absurd cc
row_typed structs (var ∷ vars) (n ∷ row) scalars fits =
    let found = some_scalar (scalar_in var.ty) (and_first (is_scalar var) (list_all is_scalar vars) scalars) in
    let column : ScalarType = column_type (unwrap_or (scalar_in var.ty) OfBool) in
    let here : in_range column n ≡ true = and_first (in_range column n) (in_ranges (types_of (columns_of vars)) row) fits in
    let within : in_range found.0 n ≡ true =
    column_within found.0 n (subst (λ o. in_range (column_type (unwrap_or o OfBool)) n ≡ true)
    found.1 here) in
    and_from (value_fits structs var.ty (Number n)) (values_fit structs vars (map Number row))
    (subst (λ ty. value_fits structs ty (Number n) ≡ true) (sym (scalar_is var.ty found.0 found.1)) (number_fits structs found.0 n within))
    (row_typed structs vars row (and_second (is_scalar var) (list_all is_scalar vars) scalars)
    (and_second (in_range column n) (in_ranges (types_of (columns_of vars)) row) fits))

-- the first of several
first_all : (test : Var → Bool) (n m : ℕ) (vars : List Var) → list_all test (take (n + m) vars) ≡ true →
    list_all test (take n vars) ≡ true
first_all test zero m vars all = refl
first_all test (suc n) m [] all = refl
first_all test (suc n) m (var ∷ vars) all =
    let one : ℕ = n + m in
    let sum : suc n + m ≡ suc one = omega arith in
    let whole : list_all test (take (suc one) (var ∷ vars)) ≡ true = subst (λ k. list_all test (take k (var ∷ vars)) ≡ true) sum all in
    and_from (test var) (list_all test (take n vars)) (and_first (test var) (list_all test (take one vars)) whole)
    (first_all test n m vars (and_second (test var) (list_all test (take one vars)) whole))

-- ---- frames

first_fits : (structs : List StructDef) (units : List UnitDef) (entry k : ℕ) (unit : UnitDef) → IsWellTyped structs units entry →
    slice_get units k ≡ Some unit → FrameFits structs unit (first_frame structs unit)
first_fits structs units entry k unit keeps there = record { now = zeros; before = zeros; result = by unit.result }
  where
    zeros : values_fit structs unit.vars (map (λ (var : Var). zero_of structs var.ty) unit.vars) ≡ true
    zeros =
        pass_each (λ (var : Var). value_fits structs var.ty) (λ (var : Var). zero_of structs var.ty)
        (λ (var : Var). type_stands (length structs) var.ty)
        (λ (var : Var) stands. zero_fits structs var.ty keeps.structs_stand stands) unit.vars
        (types_stand structs (take k units) unit (unit_stands_at structs [] units k unit keeps.units_stand there))

    by : (result : Option ScalarType) → result_fits structs result (zero_result result) ≡ true
    by None = refl
    by (Some s) = number_fits structs s (pos 0) (zero_scalar s)

aged_fits : (structs : List StructDef) (unit : UnitDef) (frame : Frame) → FrameFits structs unit frame → FrameFits structs unit (aged frame)
aged_fits structs unit frame fits = record { now = fits.now; before = fits.now; result = fits.result }

-- ---- stores

module _ (callers : InstancesHaveCallers) (structs : List StructDef) (units : List UnitDef) (entry : ℕ) (keeps : IsWellTyped structs units entry) where
  abbrev W : Setting
  W = setting_of structs units entry

  first_typed : StoreFits W (first_store W)
  first_typed = record { each = each }
    where
      each : (i : ℕ) (unit : UnitDef) → unit_at W i ≡ Some unit → HasFrame W (first_store W) i unit
      each i unit is =
          let at = stands_at structs units entry i unit is in
          let empty : Frame = record { now = []; before = []; result = None } in record {
            frame = first_frame structs unit;
            is = get_mapped (frame_at_first W) W.instances i ∙ ap (option_map (frame_at_first W)) at.there
                ∙ ap (λ (o : Option UnitDef). Some (unwrap_or (option_map (first_frame structs) o) empty)) at.of;
            fits = first_fits structs units entry at.instance.unit unit keeps at.of;
          }

  aged_typed : (store : Store) → StoreFits W store → StoreFits W (map aged store)
  aged_typed store fits = record { each = each }
    where
      each : (i : ℕ) (unit : UnitDef) → unit_at W i ≡ Some unit → HasFrame W (map aged store) i unit
      each i unit is =
          let has = fits.each i unit is in record {
            frame = aged has.frame;
            is = get_mapped aged store i ∙ ap (option_map aged) has.is;
            fits = aged_fits structs unit has.frame has.fits;
          }

  -- the entry's instance is the first
  entry_first : (unit : UnitDef) → slice_get units entry ≡ Some unit → unit_at W 0 ≡ Some unit
  entry_first unit there =
      let root : Instance = record { unit = entry; depth = 0; origin = None } in
      let sum : entry + 1 ≡ suc entry = omega arith in
      let first : slice_get W.instances 0 ≡ Some root =
      ap (λ n. slice_get (expanded units n entry) 0) sum
      ∙ ap (λ (o : Option UnitDef). slice_get (unwrap_or (option_map (λ (unit : UnitDef). root
      ∷ instances_below (expanded units entry) 1 (runs_of unit)) o) []) 0) there in
      ap (option_and_then (unit_of W)) first ∙ there

  first_scalar : (unit : UnitDef) (n : ℕ) (o : Option UnitDef) → n ≤ unit.inputs + unit.outputs → o ≡ Some unit → is_entry o ≡ true →
      list_all is_scalar (take n unit.vars) ≡ true
  first_scalar unit n None few is stands = absurd cc
  first_scalar unit n (Some other) few is stands =
      let same : other ≡ unit = cc in
      let all : Bool = list_all is_scalar (parameters_of other) in
      let scalars : list_all is_scalar (take (other.inputs + other.outputs) other.vars) ≡ true =
      and_second (is_none other.result) all (and_second (is_activity other.kind) (is_none other.result && all) stands) in
      let whole : list_all is_scalar (take (unit.inputs + unit.outputs) unit.vars) ≡ true =
      subst (λ (unit : UnitDef). list_all is_scalar (take (unit.inputs + unit.outputs) unit.vars) ≡ true) same scalars in
      let rest : ℕ = (unit.inputs + unit.outputs) - n in
      let sum : n + rest ≡ unit.inputs + unit.outputs = omega (arith, few) in
      first_all is_scalar n rest unit.vars (subst (λ m. list_all is_scalar (take m unit.vars) ≡ true) (sym sum) whole)

  -- the first values of a frame may be replaced by values of their types
  first_replaced : (unit : UnitDef) (n : ℕ) (values : List Value) (frame : Frame) → values_fit structs (take n unit.vars) values ≡ true →
      FrameFits structs unit frame → FrameFits structs unit (with_inputs values frame)
  first_replaced unit n values frame fit fits =
      let alike : UnitDef = record unit { inputs = n } in
      let left : FrameFits structs alike (with_inputs values frame) =
      inputs_fit structs alike values frame fit (record { now = fits.now; before = fits.before; result = fits.result }) in
      record { now = left.now; before = left.before; result = left.result }

  woken_typed : (unit : UnitDef) (n : ℕ) (row : List ℤ) (store : Store) → slice_get units entry ≡ Some unit → n ≤ unit.inputs + unit.outputs →
      row_fits (columns_of (take n unit.vars)) row ≡ true → StoreFits W store → StoreFits W (woken_store row store)
  woken_typed unit n row store there few fitting fits =
      changed_fits callers structs units entry keeps (map aged store) 0 unit (with_inputs (map Number row)) (aged_typed store fits)
      (entry_first unit there)
      (λ frame one. first_replaced unit n (map Number row) frame
      (row_typed structs (take n unit.vars) row (first_scalar unit n (slice_get units entry) few there keeps.entry_stands) fitting) one)

  pub starts : StartsFit structs units entry
  starts = record { first = first_typed; woken = woken_typed }

pub starts_typed : InstancesHaveCallers → AllStartsFit
starts_typed callers structs units entry keeps = starts callers structs units entry keeps
