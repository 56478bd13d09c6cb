-- What an instance sees once values are put at the homes of its paths.
use Rattle.std.proofs.Common.{◌≡◌, ℕ, zero, suc, ◌+◌, ◌<◌, Bool, true, false, ◌||◌, List, [], ◌∷◌, ◌++◌, map, take, length}
use Rattle.std.proofs.Common.{Option, Some, None, refl, sym, ap, ◌∙◌, subst, arith, eqb-true, IfSome}
use Rattle.std.proofs.lemmas.Option.{slice_get-map}
use Rattle.std.specs.List.{range_with_len}
use Rattle.std.specs.Prelude.{nat_eq, option_and_then, option_map, slice_get, slice_set, unwrap_or}
use Rattle.bl_tree.proofs.Basics.{and_first, and_second, one_some}
use Rattle.bl_tree.specs.declared.scalar.Scalar.{Scalar as ScalarType}
use Rattle.bl_tree.specs.declared.static_path.Static.{Static}
use Rattle.bl_tree.specs.declared.tree.Arm.{Arm}
use Rattle.bl_tree.specs.declared.tree.Branch.{Branch}
use Rattle.bl_tree.specs.declared.tree.Path.{Path}
use Rattle.bl_tree.specs.declared.tree.Stmt.{Stmt}
use Rattle.bl_tree.specs.declared.tree.StmtKind.{StmtKind}
use Rattle.bl_tree.specs.declared.tree.StmtKind.TheOpen.{StmtKind-F}
use Rattle.bl_tree.specs.declared.tree.StructDef.{StructDef}
use Rattle.bl_tree.specs.declared.tree.Ty.{Ty}
use Rattle.bl_tree.specs.declared.tree.Unit.{Unit as UnitDef}
use Rattle.bl_tree.specs.declared.tree.Var.{Var}
use Rattle.bl_tree.specs.declared.value.Value.{Value}
use Rattle.bl_tree.specs.declared.value.Value.TheVariants.{Parts}
use Rattle.bl_tree.specs.Effects.{writes}
use Rattle.bl_tree.specs.Program.{IsWellTyped}
use Rattle.bl_tree.specs.Static.{is_front, overlaps, static_of, whole}
use Rattle.bl_tree.specs.Types.{scalar}
use Rattle.bl_tree.specs.Typing.{TypingContext, are_same, fits, is_assignable, is_outlet, is_plain, site_of, target_fits, type_of_path}
use Rattle.bl_effects.specs.Rules.{Passes}
use Rattle.bl_eval.specs.Meaning.{View}
use Rattle.bl_eval.specs.Standing.{ActStandsInUnit, outcome_in_unit, outcome_of, scope_of}
use Rattle.bl_eval.specs.Functions.{acted}
use Rattle.bl_eval.specs.Values.{put_at, value_at, value_fits, values_fit, with_value_at}
use Rattle.bl_eval.proofs.ActFits.{same_found}
use Rattle.bl_eval.proofs.LawLemmas.{act_typed}
use Rattle.bl_eval.proofs.PartFits.{Fits}
use Rattle.bl_eval.proofs.PassLemmas.{pass_at}
use Rattle.bl_eval_laws.proofs.OnLocal.Acting.{kind_of}
use Rattle.bl_ctree.specs.declared.instance.Instance.{Instance}
use Rattle.bl_ctree.specs.Actions.{acted_kind, outcome_there}
use Rattle.bl_ctree.specs.Instances.{Setting, setting_of, unit_at, unit_of}
use Rattle.bl_ctree.specs.Positions.{stmt_kind}
use Rattle.bl_ctree.specs.Store.{Frame, Location, Store, home, overlap, put, put_path, put_written, remember, value_among, variable_among, variables_of}
use Rattle.bl_ctree.specs.Store.{vars_at, view_at, whole_of, with_frame, with_now}
use Rattle.bl_ctree_laws_typing.specs.Fits.{StoreFits}
use Rattle.bl_ctree_laws_confluence.specs.Deeds.Homes.{HomesAreApart}
use Rattle.bl_ctree_laws_confluence.specs.Deeds.Orderly.{AcceptedIsOrderly}
use Rattle.bl_ctree_laws_confluence.specs.Deeds.Origins.{InstancesHaveCallers}
use Rattle.bl_ctree_laws_typing.specs.Views.{ViewsAreTyped}
use Rattle.bl_ctree_laws_typing.proofs.OnViews.Along.{along_leads, along_there, pass_past}
use Rattle.bl_ctree_laws_typing.proofs.OnViews.Paths.{PathTyped, path_typed}
use Rattle.bl_ctree_laws_typing.proofs.OnViews.Typed.{home_typed, value_typed}
use Rattle.bl_ctree_laws_confluence.specs.Stores.{HomesLeadOn, PutsKeepOthers, RememberingKeepsOthers, now_of, onward}
use Rattle.bl_machine_pass_laws_typing.proofs.OnFits.Changing.{written_fits}
use Rattle.bl_machine_pass_laws_typing.specs.Seen.{ActsAreSeen, PutsAreSeen, TargetsAreSeen}
use Rattle.bl_machine_pass_laws_typing.proofs.OnSeen.Outcomes.{Had, Left, act_left}
use Rattle.bl_machine_pass_laws_typing.proofs.OnSeen.Values.{Differ, at_path_is, differ_step, put_may, put_opened, put_there, same_parts, set_got, way}
use Rattle.bl_ctree_laws_confluence.proofs.OnStores.Views.{range_at}
use Rattle.bl_eval_laws.proofs.OnLocal.Puts.{put_is}
use Rattle.bl_machine_pass_laws_typing.proofs.OnFits.Doing.{one_if}

-- ---- variables by their numbers

-- what is in a list by numbers
pub mapped_got : (f : ℕ → Value) (count k : ℕ) (old : Value) → slice_get (map f (range_with_len 0 count)) k ≡ Some old → f k ≡ old
mapped_got f count k old e = by (slice_get (range_with_len 0 count) k) refl (sym (slice_get-map f (range_with_len 0 count) k) ∙ e)
  where
    by : (o : Option ℕ) → slice_get (range_with_len 0 count) k ≡ o → option_map f o ≡ Some old → f k ≡ old
    by None is e = absurd cc
    by (Some j) is e =
        let at : k ≡ j = (let sum : j ≡ 0 + k = range_at 0 count k j is in omega arith) in
        let so : f j ≡ old = cc in
        ap f at ∙ so

mapped_behind : (f g : ℕ → Value) (first count bound : ℕ) → bound < first → ((k : ℕ) → (k ≡ bound → ⊥) → g k ≡ f k) →
    map g (range_with_len first count) ≡ map f (range_with_len first count)
mapped_behind f g first zero bound less same = refl
mapped_behind f g first (suc count) bound less same =
    ap (λ v. v ∷ map g (range_with_len (first + 1) count)) (same first (λ is. absurd (omega (arith, less, is))))
    ∙ ap (λ vs. f first ∷ vs) (mapped_behind f g (first + 1) count bound (omega (arith, less)) same)

-- lists by numbers that are the same but for one
mapped_set : (f g : ℕ → Value) (first count root at : ℕ) (new : Value) → at ≡ first + root → g at ≡ new →
    ((k : ℕ) → (k ≡ at → ⊥) → g k ≡ f k) →
    map g (range_with_len first count) ≡ slice_set (map f (range_with_len first count)) root new
mapped_set f g first zero zero at new is here same = refl
mapped_set f g first zero (suc root) at new is here same = refl
mapped_set f g first (suc count) zero at new is here same =
    let first_is : first ≡ at = omega (arith, is) in
    ap (λ v. v ∷ map g (range_with_len (first + 1) count)) (ap g first_is ∙ here)
    ∙ ap (λ vs. new ∷ vs) (mapped_behind f g (first + 1) count at (omega (arith, is)) same)
mapped_set f g first (suc count) (suc root) at new is here same =
    ap (λ v. v ∷ map g (range_with_len (first + 1) count)) (same first (λ one. absurd (omega (arith, is, one))))
    ∙ ap (λ vs. f first ∷ vs) (mapped_set f g (first + 1) count root at new (omega (arith, is)) here same)

mapped_alike : (f g : ℕ → Value) (xs : List ℕ) → ((k : ℕ) → g k ≡ f k) → map g xs ≡ map f xs
mapped_alike f g [] same = refl
mapped_alike f g (x ∷ xs) same = ap (λ v. v ∷ map g xs) (same x) ∙ ap (λ vs. f x ∷ vs) (mapped_alike f g xs same)

-- ---- one home

-- a value is put on from a location, into what is there
put_onward : (store : Store) (at : Location) (fields : List ℕ) (v old new : Value) → value_among now_of store at ≡ Some old →
    with_value_at fields v old ≡ Some new → value_among now_of (put (onward at fields) v store) at ≡ Some new
put_onward store at fields v old new there inner = by_frame (slice_get store at.instance) refl there
  where
    by_value : (frame : Frame) → slice_get store at.instance ≡ Some frame → (o : Option Value) → slice_get frame.now at.path.root ≡ o →
        option_and_then (value_at at.path.fields) o ≡ Some old → value_among now_of (put (onward at fields) v store) at ≡ Some new
    by_value frame is None root e = absurd cc
    by_value frame is (Some x) root e =
        let made = put_there at.path.fields fields v x old new e inner in
        let now : List Value = slice_set frame.now at.path.root made.z in
        let changed : Frame = record { now = now; before = frame.before; result = frame.result } in
        let is_put : put_at at.path.root (at.path.fields ++ fields) v frame.now ≡ Some now =
        ap (option_and_then (λ old. option_map (λ part. slice_set frame.now at.path.root part) (with_value_at (at.path.fields ++ fields) v old))) root
        ∙ ap (option_map (λ part. slice_set frame.now at.path.root part)) made.is in
        let is_with : with_now store (onward at fields) v frame ≡ Some (slice_set store at.instance changed) =
        ap (option_map (λ now. slice_set store at.instance (record { now = now; before = frame.before; result = frame.result }))) is_put in
        let all : put (onward at fields) v store ≡ slice_set store at.instance changed =
        ap (λ o. unwrap_or (option_and_then (with_now store (onward at fields) v) o) store) is ∙ ap (λ o. unwrap_or o store) is_with in
        ap (λ store. value_among now_of store at) all
        ∙ ap (option_and_then (λ (frame : Frame). option_and_then (value_at at.path.fields) (slice_get frame.now at.path.root)))
        (set_got store at.instance frame changed is)
        ∙ ap (option_and_then (value_at at.path.fields)) (set_got frame.now at.path.root x made.z root)
        ∙ made.there

    by_frame : (o : Option Frame) → slice_get store at.instance ≡ o →
        option_and_then (λ (frame : Frame). option_and_then (value_at at.path.fields) (slice_get frame.now at.path.root)) o ≡ Some old →
        value_among now_of (put (onward at fields) v store) at ≡ Some new
    by_frame None is e = absurd cc
    by_frame (Some frame) is e = by_value frame is (slice_get frame.now at.path.root) refl e

-- ---- what is seen

module _ (views : ViewsAreTyped) (structs : List StructDef) (units : List UnitDef) (entry : ℕ) (keeps : IsWellTyped structs units entry) (i : ℕ)
    (unit : UnitDef) (is : unit_at (setting_of structs units entry) i ≡ Some unit) where
  abbrev W : Setting
  W = setting_of structs units entry

  abbrev now : Store → List Value
  now store = (view_at W store i).now

  abbrev home_of : Static → Location
  home_of path = home W (record { instance = i; path = path })

  now_fits : (store : Store) → StoreFits W store → values_fit structs unit.vars (now store) ≡ true
  now_fits store fit = (views structs units entry i unit store keeps is fit).now

  -- a variable whose value is among those that fit
  var_there : (values : List Value) (k : ℕ) (old : Value) → values_fit structs unit.vars values ≡ true → slice_get values k ≡ Some old →
      (var : Var) × (slice_get unit.vars k ≡ Some var)
  var_there values k old fit there = by (slice_get unit.vars k) refl
    where
      by : (o : Option Var) → slice_get unit.vars k ≡ o → (var : Var) × (slice_get unit.vars k ≡ Some var)
      by None none =
          let never : None ≡ Some old = sym (pass_past (λ (var : Var). value_fits structs var.ty) unit.vars values k fit none) ∙ there in absurd cc
      by (Some var) has = (var, has)

  -- values that fit have something at the same paths
  both_had : (xs ys : List Value) (path : Static) (x : Value) → values_fit structs unit.vars xs ≡ true → values_fit structs unit.vars ys ≡ true →
      value_at (way path) (Parts xs) ≡ Some x → (y : Value) × (value_at (way path) (Parts ys) ≡ Some y)
  both_had xs ys path x one other at = by (slice_get xs path.root) refl (sym (at_path_is xs path) ∙ at)
    where
      by : (o : Option Value) → slice_get xs path.root ≡ o → option_and_then (value_at path.fields) o ≡ Some x →
          (y : Value) × (value_at (way path) (Parts ys) ≡ Some y)
      by None root e = absurd cc
      by (Some old) root e =
          let var = var_there xs path.root old one root in
          let here = pass_at (λ (var : Var). value_fits structs var.ty) unit.vars xs path.root var.0 one var.1 in
          let there = pass_at (λ (var : Var). value_fits structs var.ty) unit.vars ys path.root var.0 other var.1 in
          let same : here.0 ≡ old = one_some here.0 old (slice_get xs path.root) here.1 root in
          found var.0 here.0 there.0 here.2 there.2 (ap (value_at path.fields) same ∙ e) there.1
        where
          found : (var : Var) (u v : Value) → Fits structs var.ty u → Fits structs var.ty v → value_at path.fields u ≡ Some x →
              slice_get ys path.root ≡ Some v → (y : Value) × (value_at (way path) (Parts ys) ≡ Some y)
          found var u v first second at other =
              let typed = along_there structs keeps.structs_stand path.fields var.ty u x first at in
              let leads = along_leads structs keeps.structs_stand path.fields var.ty typed.0 v second typed.1 in
              (leads.old, at_path_is ys path ∙ ap (option_and_then (value_at path.fields)) other ∙ leads.at)

  -- so they have at a path that has a type
  typed_had : (values : List Value) (path : Static) (ty : Ty) → values_fit structs unit.vars values ≡ true →
      PathTyped structs unit.vars path ty → (y : Value) × (value_at (way path) (Parts values) ≡ Some y)
  typed_had values path ty one typed =
      let root = pass_at (λ (var : Var). value_fits structs var.ty) unit.vars values path.root typed.var one typed.root in
      found root.0 root.2 root.1
    where
      found : (v : Value) → Fits structs typed.var.ty v → slice_get values path.root ≡ Some v →
          (y : Value) × (value_at (way path) (Parts values) ≡ Some y)
      found v first at =
          let leads = along_leads structs keeps.structs_stand path.fields typed.var.ty ty v first typed.leads in
          (leads.old, at_path_is values path ∙ ap (option_and_then (value_at path.fields)) at ∙ leads.at)

  module _ (callers : InstancesHaveCallers) (orderly : AcceptedIsOrderly) (apart : HomesAreApart) (lead_on : HomesLeadOn) (puts : PutsKeepOthers)
      (passes : Passes units) where
    -- a variable has a value at its home
    variable_there : (store : Store) → StoreFits W store → (k : ℕ) (var : Var) → slice_get unit.vars k ≡ Some var →
        (value : Value) × (value_among now_of store (home W (whole_of i k)) ≡ Some value)
    variable_there store fit k var has =
        let found = value_typed callers structs units entry keeps (λ frame. frame.now) (λ unit frame one. one.now) store fit (home W (whole_of i k))
        var.ty
        (home_typed callers structs units entry keeps (whole_of i k) var.ty
        (record { unit = unit; there = is; path = record { var = var; root = has; leads = refl } })) in (found.0, found.1)

    -- other variables have other homes
    other_home : (path : Static) (k : ℕ) → (k ≡ path.root → ⊥) → overlap (home_of path) (home W (whole_of i k)) ≡ false
    other_home path k never = by (overlap (home_of path) (home W (whole_of i k))) refl
      where
        by : (b : Bool) → overlap (home_of path) (home W (whole_of i k)) ≡ b → b ≡ false
        by false e = refl
        by true e =
            let over : overlaps path (whole k) ≡ true = apart structs units entry i path (whole k) (orderly structs units entry keeps passes).outputs e in
            absurd (never (sym (eqb-true path.root k
            (and_first (nat_eq path.root k) (is_front path.fields (whole k).fields || is_front (whole k).fields path.fields) over))))

    module _ (path : Static) (value : Value) (store : Store) (seen : List Value) (fit : StoreFits W store)
        (may : put_at path.root path.fields value (now store) ≡ Some seen) where
      abbrev left : Store
      left = put (home_of path) value store

      abbrev before : ℕ → Value
      before = variable_among now_of W store i

      abbrev after : ℕ → Value
      after = variable_among now_of W left i

      others : (k : ℕ) → (k ≡ path.root → ⊥) → after k ≡ before k
      others k never =
          ap (λ o. unwrap_or o (Parts [])) (puts.now (home_of path) (home W (whole_of i k)) value store (other_home path k never))

      put_at_home : now left ≡ seen
      put_at_home =
          let o = put_opened path.root path.fields value (now store) seen may in
          let var = var_there (now store) path.root o.old (now_fits store fit) o.at in
          let at = variable_there store fit path.root var.0 var.1 in
          let old_is : before path.root ≡ o.old = mapped_got before (length (vars_at W i)) path.root o.old o.at in
          let there : value_among now_of store (home W (whole_of i path.root)) ≡ Some o.old =
          at.1 ∙ ap Some (sym (ap (λ o. unwrap_or o (Parts [])) at.1) ∙ old_is) in
          let put_there : value_among now_of left (home W (whole_of i path.root)) ≡ Some o.new =
          ap (λ at. value_among now_of (put at value store) (home W (whole_of i path.root))) (lead_on W i path)
          ∙ put_onward store (home W (whole_of i path.root)) path.fields value o.old o.new there o.inner in
          mapped_set before after 0 (length (vars_at W i)) path.root path.root o.new (omega arith) (ap (λ o. unwrap_or o (Parts [])) put_there) others
          ∙ sym o.made

pub puts_are_seen : ViewsAreTyped → InstancesHaveCallers → AcceptedIsOrderly → HomesAreApart → HomesLeadOn → PutsKeepOthers → PutsAreSeen
puts_are_seen views callers orderly apart lead_on puts structs units entry i unit path value store seen keeps passes is fit may =
    put_at_home views structs units entry keeps i unit is callers orderly apart lead_on puts passes path value store seen fit may

-- ---- acts

module _ (put_seen : PutsAreSeen) (views : ViewsAreTyped) (callers : InstancesHaveCallers) (remembers : RememberingKeepsOthers)
    (structs : List StructDef) (units : List UnitDef)
    (entry : ℕ) (keeps : IsWellTyped structs units entry) (passes : Passes units) (i : ℕ) (instance : Instance) (unit : UnitDef)
    (there : slice_get (setting_of structs units entry).instances i ≡ Some instance) (of : slice_get units instance.unit ≡ Some unit) where
  abbrev V : Setting
  V = setting_of structs units entry

  abbrev sees : Store → List Value
  sees store = (view_at V store i).now

  it_is : unit_at V i ≡ Some unit
  it_is = ap (option_and_then (unit_of V)) there ∙ of

  -- the values that are left go to the homes of the paths at which they differ
  written_seen : (paths : List Static) (values : List Value) (store : Store) → StoreFits V store → values_fit structs unit.vars values ≡ true →
      Had paths (Parts values) → Differ paths (Parts (sees store)) (Parts values) → sees (put_written V i values paths store) ≡ values
  written_seen [] values store fit typed had differ = same_parts (sees store) values (cc_some (differ [] tt))
    where
      cc_some : Some (Parts (sees store)) ≡ Some (Parts values) → Parts (sees store) ≡ Parts values
      cc_some e = cc
  written_seen (path ∷ rest) values store fit typed had differ =
      let v : Value = had.0.0 in
      let now_fit = (views structs units entry i unit store keeps it_is fit).now in
      let here = both_had views structs units entry keeps i unit it_is values (sees store) path v typed now_fit had.0.1 in
      let made = put_may path v (sees store) here.0 here.1 in
      let next : Store = put (home V (record { instance = i; path = path })) v store in
      let path_is : put_path V i values path store ≡ next =
      ap (λ o. unwrap_or (option_map (λ value. put (home V (record { instance = i; path = path })) value store) o) store)
      (sym (at_path_is values path) ∙ had.0.1) in
      let seen : sees next ≡ made.0 = put_seen structs units entry i unit path v store made.0 keeps passes it_is fit made.1 in
      let next_fit : StoreFits V next =
      subst (StoreFits V) path_is (written_fits callers structs units entry keeps i unit values (path ∷ []) store it_is typed fit) in
      let differs : Differ rest (Parts made.0) (Parts values) =
      differ_step path rest v (Parts (sees store)) (Parts values) (Parts made.0) had.0.1
      (put_is path.root path.fields v (sees store) ∙ ap (option_map Parts) made.1) differ in
      ap (λ store. sees (put_written V i values rest store)) path_is
      ∙ written_seen rest values next next_fit typed had.1 (subst (λ now. Differ rest (Parts now) (Parts values)) (sym seen) differs)

  all_had : (paths : List Static) (xs ys : List Value) → values_fit structs unit.vars xs ≡ true → values_fit structs unit.vars ys ≡ true →
      Had paths (Parts xs) → Had paths (Parts ys)
  all_had [] xs ys one other had = tt
  all_had (path ∷ rest) xs ys one other had =
      (both_had views structs units entry keeps i unit it_is xs ys path had.0.0 one other had.0.1, all_had rest xs ys one other had.1)

  module _ (s : Stmt) (store : Store) (fitted : fits (site_of structs (take instance.unit units) unit) s ≡ true) (fit : StoreFits V store)
      (values : List Value) (outcome : outcome_there V store i s ≡ Some values) where
    abbrev view : View
    view = view_at V store i

    in_unit : outcome_in_unit structs units instance.unit s view ≡ Some values
    in_unit = sym (ap (option_and_then (λ (instance : Instance). outcome_in_unit structs units instance.unit s view)) there) ∙ outcome

    site : TypingContext
    site = site_of structs (take instance.unit units) unit

    left_typed : values_fit structs unit.vars values ≡ true
    left_typed =
        let seen = views structs units entry i unit store keeps it_is fit in
        let stands : ActStandsInUnit structs units instance.unit view s =
        record { unit = unit; is_there = of; fitted = fitted; fitting = record { now = seen.now; before = seen.before } } in
        one_if (λ (unit : UnitDef). values_fit structs unit.vars values ≡ true) (slice_get units instance.unit) unit of
        (one_if (λ (left : List Value). IfSome (slice_get units instance.unit) (λ (unit : UnitDef). values_fit structs unit.vars left ≡ true))
        (outcome_in_unit structs units instance.unit s view) values in_unit (act_typed structs units entry instance.unit view keeps s stands))

    did : acted (scope_of (site_of structs (take instance.unit units) unit)) (kind_of s) view ≡ Some values
    did =
        sym (ap (λ o. option_and_then (λ (site : TypingContext). outcome_of site s view) (option_map (site_of structs (take instance.unit units)) o)) of)
        ∙ in_unit

    all_written : sees (put_written V i values (writes s) store) ≡ values
    all_written =
        let left : Left (writes s) (sees store) values = act_left (scope_of (site_of structs (take instance.unit units) unit)) view s values did in
        let now_fit = (views structs units entry i unit store keeps it_is fit).now in
        written_seen (writes s) values store fit left_typed (all_had (writes s) (sees store) values now_fit left_typed left.had) left.differ

    remembered : (k : ℕ) → sees (with_frame i (remember k) (put_written V i values (writes s) store)) ≡ values
    remembered k =
        let written : Store = put_written V i values (writes s) store in
        mapped_alike (variable_among now_of V written i) (variable_among now_of V (with_frame i (remember k) written) i) (variables_of V i) (λ x.
        ap (λ o. unwrap_or o (Parts [])) (remembers.now i k (home V (whole_of i x)) written))
        ∙ all_written

    -- what is made of the values that are left
    made_of : (made : List Value → Store) (left : Store) → sees (made values) ≡ values → option_map made (outcome_there V store i s) ≡ Some left →
        sees left ≡ values
    made_of made left seen e =
        let is : made values ≡ left = one_some (made values) left (option_map made (outcome_there V store i s)) (ap (option_map made) outcome) e in
        sym (ap sees is) ∙ seen

    kind_seen : (layer : StmtKind-F StmtKind Arm Branch Stmt) (left : Store) → stmt_kind s ≡ layer → acted_kind V i s layer store ≡ Some left →
        sees left ≡ values
    kind_seen (StmtKind-F.Declare k initial) left kind e =
        made_of (λ values. with_frame i (remember k) (put_written V i values (writes s) store)) left (remembered k) e
    kind_seen (StmtKind-F.Assign path x) left kind e = made_of (λ values. put_written V i values (writes s) store) left all_written e
    kind_seen (StmtKind-F.Call f inputs outputs) left kind e = made_of (λ values. put_written V i values (writes s) store) left all_written e
    kind_seen (StmtKind-F.Await x) left kind e = made_of (λ values. put_written V i values (writes s) store) left all_written e
    kind_seen (StmtKind-F.Run target a inputs outputs) left kind e = made_of (λ values. put_written V i values (writes s) store) left all_written e
    kind_seen (StmtKind-F.If arms other) left kind e = made_of (λ values. put_written V i values (writes s) store) left all_written e
    kind_seen (StmtKind-F.Cobegin branches) left kind e = made_of (λ values. put_written V i values (writes s) store) left all_written e
    kind_seen (StmtKind-F.When guard x body) left kind e = made_of (λ values. put_written V i values (writes s) store) left all_written e
    kind_seen (StmtKind-F.Repeat body) left kind e = made_of (λ values. put_written V i values (writes s) store) left all_written e
    kind_seen (StmtKind-F.Until body x) left kind e = made_of (λ values. put_written V i values (writes s) store) left all_written e
    kind_seen (StmtKind-F.While x body) left kind e = made_of (λ values. put_written V i values (writes s) store) left all_written e
    kind_seen (StmtKind-F.Return x) left kind e =
        let never : None ≡ Some values =
        sym (ap (λ layer. acted (scope_of (site_of structs (take instance.unit units) unit)) layer view) kind) ∙ did in
        absurd cc

pub acts_are_seen : PutsAreSeen → ViewsAreTyped → InstancesHaveCallers → RememberingKeepsOthers → ActsAreSeen
acts_are_seen put_seen views callers remembers structs units entry i instance unit s store left values keeps passes there of fitted fit outcome e =
    kind_seen put_seen views callers remembers structs units entry keeps passes i instance unit there of s store fitted fit values outcome
    (stmt_kind s) left refl e

-- ---- targets

-- a path of a target has a type, and is by fields alone
target_typed : (site : TypingContext) (result : Option ScalarType) (path : Path) → target_fits site result (Some path) ≡ true →
    (s : ScalarType) × (is_plain path ≡ true) × (type_of_path site path ≡ Some (scalar s))
target_typed site None path fitted = absurd cc
target_typed site (Some s) path fitted =
    let outlet = and_first (is_outlet site path) (are_same (Some (scalar s)) (type_of_path site path)) fitted in
    let found = same_found (Some (scalar s)) (type_of_path site path)
    (and_second (is_outlet site path) (are_same (Some (scalar s)) (type_of_path site path)) fitted) in (
      s,
      and_first (is_plain path) (is_assignable site path) outlet,
      found.2 ∙ sym found.1,
    )

pub targets_are_seen : PutsAreSeen → ViewsAreTyped → TargetsAreSeen
targets_are_seen put_seen views structs units entry i unit earlier result path value store keeps passes is fitted fit =
    let w = setting_of structs units entry in
    let site = site_of structs earlier unit in
    let typed = target_typed site result path fitted in
    let leads = path_typed site path (scalar typed.0) typed.1 typed.2 in
    let now : List Value = (view_at w store i).now in
    let there = typed_had views structs units entry keeps i unit is now (static_of path) (scalar typed.0)
    (views structs units entry i unit store keeps is fit).now leads in
    let made = put_may (static_of path) value now there.0 there.1 in
    made.1 ∙ ap Some (sym (put_seen structs units entry i unit (static_of path) value store made.0 keeps passes is fit made.1))
