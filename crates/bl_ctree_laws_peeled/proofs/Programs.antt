-- Programs whose activities are peeled or not are one program but for their bodies.
use Rattle.std.proofs.Common.{◌≡◌, ℕ, zero, suc, ◌+◌, cond, List, [], ◌∷◌, ◌++◌, map, length, take, Option, Some, None, refl, sym, ap, ◌∙◌, subst}
use Rattle.std.specs.Prelude.{option_and_then, option_map, slice_get, unwrap_or}
use Rattle.std.specs.List.{range_with_len}
use Rattle.bl_tree.specs.declared.static_path.Static.{Static}
use Rattle.bl_tree.specs.declared.tree.Arm.{Arm}
use Rattle.bl_tree.specs.declared.tree.Branch.{Branch}
use Rattle.bl_tree.specs.declared.tree.Expr.{Expr}
use Rattle.bl_tree.specs.declared.tree.Path.{Path}
use Rattle.bl_tree.specs.declared.tree.Stmt.{Stmt, out-Stmt}
use Rattle.bl_tree.specs.declared.tree.StmtKind.{StmtKind, out-StmtKind}
use Rattle.bl_tree.specs.declared.tree.StmtKind.TheOpen.{StmtKind-F}
use Rattle.bl_tree.specs.declared.tree.StructDef.{StructDef}
use Rattle.bl_tree.specs.declared.tree.Unit.{Unit as UnitDef}
use Rattle.bl_tree.specs.declared.value.Value.{Value}
use Rattle.bl_tree.specs.declared.value.Value.TheVariants.{Parts}
use Rattle.bl_tree.specs.Effects.{writes}
use Rattle.bl_tree.specs.Static.{static_of}
use Rattle.bl_tree.specs.Typing.{site_of}
use Rattle.bl_eval.specs.Functions.{acted, callable_of, callee_of as callee_in, callees_after, callees_of}
use Rattle.bl_eval.specs.Meaning.{Callee, View, value_in}
use Rattle.bl_eval.specs.Standing.{outcome_in_unit, outcome_of, value_in_unit, value_of}
use Rattle.bl_eval.specs.Values.{value_at}
use Rattle.bl_ctree.specs.Actions.{Acts, Asks, Copies, Effect, Gives, Silent, acted_kind, done, effect_on, given_to, is_true_value, outcome_there, result_at}
use Rattle.bl_ctree.specs.Actions.{value_there, values_there, with_result}
use Rattle.bl_ctree.specs.Instances.{Setting, expanded, instances_below, instances_of, runs_of, setting_of, unit_at, unit_of}
use Rattle.bl_ctree.specs.Positions.{stmt_kind}
use Rattle.bl_ctree.specs.Store.{Location, Store, depth_at, first_frame, first_store, frame_at_first, home, home_within, led, led_by, outputs_of_frame}
use Rattle.bl_ctree.specs.Store.{outputs_row, put, put_path, put_written, remember, value_among, vars_at, view_at, whole_of, with_frame, with_inputs}
use Rattle.bl_ctree.specs.declared.instance.Instance.{Instance}
use Rattle.bl_ctree.specs.declared.instance.Origin.{Origin}
use Rattle.bl_peel.specs.Peeled.{peeled}
use Rattle.bl_ctree_laws_peeled.specs.Bodies.{PeeledIsSameProgram, PeeledRuns}
use Rattle.bl_peel.specs.Units.{UnitPeels, UnitsPeel, is_peeled, kept, more_units, no_units}
use Rattle.bl_ctree_laws_peeled.specs.Settings.{SameProgram, UnitUnrolls, no_unit, one_unit}
use Rattle.bl_ctree_laws_peeled.specs.Unrolls.{AnyHead}
use Rattle.bl_ctree_laws_peeled.proofs.Blocks.{block_same}
use Rattle.bl_ctree_laws_peeled.proofs.Calls.{peeled_runs}
use Rattle.bl_ctree_laws_peeled.proofs.Peeling.{peeled_unrolls}

-- ---- units

pub peeled_unit_runs : PeeledRuns
peeled_unit_runs unit = peeled_runs unit.body

runs_same : {unit peeled_unit : UnitDef} → UnitPeels unit peeled_unit → runs_of unit ≡ runs_of peeled_unit
runs_same kept = refl
runs_same (is_peeled {unit} activity) = sym (peeled_runs unit.body)

vars_same : {unit peeled_unit : UnitDef} → UnitPeels unit peeled_unit → unit.vars ≡ peeled_unit.vars
vars_same kept = refl
vars_same (is_peeled activity) = refl

-- a unit on both sides, or on neither
pub data BothPeel : Option UnitDef → Option UnitDef → Type 0 where
  neither : BothPeel None None
  both : {unit peeled_unit : UnitDef} → UnitPeels unit peeled_unit → BothPeel (Some unit) (Some peeled_unit)

pub unit_there : {units peeled_units : List UnitDef} → UnitsPeel units peeled_units → (k : ℕ) → BothPeel (slice_get units k) (slice_get peeled_units k)
unit_there no_units zero = neither
unit_there no_units (suc k) = neither
unit_there (more_units one more) zero = both one
unit_there (more_units one more) (suc k) = unit_there more k

first_units : {units peeled_units : List UnitDef} → UnitsPeel units peeled_units → (k : ℕ) → UnitsPeel (take k units) (take k peeled_units)
first_units no_units zero = no_units
first_units no_units (suc k) = no_units
first_units (more_units one more) zero = no_units
first_units (more_units one more) (suc k) = more_units one (first_units more k)

-- ---- functions

callable_same : (structs : List StructDef) (callees : List Callee) {unit peeled_unit : UnitDef} → UnitPeels unit peeled_unit →
    callable_of structs callees unit ≡ callable_of structs callees peeled_unit
callable_same structs callees kept = refl
callable_same structs callees (is_peeled {unit} activity) =
    ap (λ b. cond b (callee_in structs callees unit) (λ arguments. None)) activity
    ∙ sym (ap (λ b. cond b (callee_in structs callees (record unit { body = peeled unit.body })) (λ arguments. None)) activity)

callees_same : (structs : List StructDef) {units peeled_units : List UnitDef} → UnitsPeel units peeled_units → (callees : List Callee) →
    callees_after structs callees units ≡ callees_after structs callees peeled_units
callees_same structs no_units callees = refl
callees_same structs (more_units {unit} {peeled_unit} {units} one more) callees =
    ap (λ c. callees_after structs (callees ++ c ∷ []) units) (callable_same structs callees one)
    ∙ callees_same structs more (callees ++ callable_of structs callees peeled_unit ∷ [])

module _ (structs : List StructDef) (units peeled_units : List UnitDef) (peels : UnitsPeel units peeled_units) where
  value_same : (k : ℕ) (e : Expr) (view : View) → value_in_unit structs units k e view ≡ value_in_unit structs peeled_units k e view
  value_same k e view = by_unit (unit_there peels k)
    where
      functions : callees_of structs (take k units) ≡ callees_of structs (take k peeled_units)
      functions = callees_same structs (first_units peels k) []

      by_unit : {one other : Option UnitDef} → BothPeel one other →
          option_and_then (λ site. value_of site e view) (option_map (site_of structs (take k units)) one)
          ≡ option_and_then (λ site. value_of site e view) (option_map (site_of structs (take k peeled_units)) other)
      by_unit neither = refl
      by_unit (both {unit} kept) = λ j. value_in (record { structs = structs; vars = unit.vars; callees = functions j }) e view
      by_unit (both (is_peeled {unit} activity)) = λ j. value_in (record { structs = structs; vars = unit.vars; callees = functions j }) e view

  outcome_same : (k : ℕ) (s : Stmt) (view : View) → outcome_in_unit structs units k s view ≡ outcome_in_unit structs peeled_units k s view
  outcome_same k s view = by_unit (unit_there peels k)
    where
      functions : callees_of structs (take k units) ≡ callees_of structs (take k peeled_units)
      functions = callees_same structs (first_units peels k) []

      by_unit : {one other : Option UnitDef} → BothPeel one other →
          option_and_then (λ site. outcome_of site s view) (option_map (site_of structs (take k units)) one)
          ≡ option_and_then (λ site. outcome_of site s view) (option_map (site_of structs (take k peeled_units)) other)
      by_unit neither = refl
      by_unit (both {unit} kept) =
          λ j. acted (record { structs = structs; vars = unit.vars; callees = functions j }) (out-StmtKind (out-Stmt s).what) view
      by_unit (both (is_peeled {unit} activity)) =
          λ j. acted (record { structs = structs; vars = unit.vars; callees = functions j }) (out-StmtKind (out-Stmt s).what) view

  -- ---- instances

  expanded_same : (longest k : ℕ) → expanded units longest k ≡ expanded peeled_units longest k
  expanded_same zero k = refl
  expanded_same (suc longest) k = by_unit (unit_there peels k) (expanded_same longest)
    where
      by_unit : {one other : Option UnitDef} → BothPeel one other → ((n : ℕ) → expanded units longest n ≡ expanded peeled_units longest n) →
          unwrap_or (option_map (λ unit. record { unit = k; depth = 0; origin = None } ∷ instances_below (expanded units longest) 1 (runs_of unit)) one) []
          ≡ unwrap_or (option_map (λ unit. record { unit = k; depth = 0; origin = None } ∷
          instances_below (expanded peeled_units longest) 1 (runs_of unit)) other) []
      by_unit neither inner = refl
      by_unit (both one) inner =
          λ j. record { unit = k; depth = 0; origin = None } ∷ instances_below (λ n. inner n j) 1 (runs_same one j)

  module _ (entry : ℕ) where
    abbrev w : Setting
    w = setting_of structs units entry

    abbrev w' : Setting
    w' = setting_of structs peeled_units entry

    instances_same : instances_of units entry ≡ instances_of peeled_units entry
    instances_same = expanded_same (entry + 1) entry

    unit_of_both : (o : Option Instance) → BothPeel (option_and_then (unit_of w) o) (option_and_then (unit_of w') o)
    unit_of_both None = neither
    unit_of_both (Some instance) = unit_there peels instance.unit

    unit_at_both : (i : ℕ) → BothPeel (unit_at w i) (unit_at w' i)
    unit_at_both i =
        subst (λ all. BothPeel (unit_at w i) (option_and_then (unit_of w') (slice_get all i))) instances_same (unit_of_both (slice_get (instances_of units entry) i))

    -- ---- homes

    led_same_by : (path : Static) (origin : Origin) {one other : Option UnitDef} → BothPeel one other →
        option_and_then (led_by path origin) one ≡ option_and_then (led_by path origin) other
    led_same_by path origin neither = refl
    led_same_by path origin (both kept) = refl
    led_same_by path origin (both (is_peeled activity)) = refl

    led_same : (at : Location) → led w at ≡ led w' at
    led_same at = λ j.
        option_and_then (λ instance. option_and_then (λ origin. led_same_by at.path origin (unit_there peels instance.unit) j) instance.origin)
        (slice_get (instances_same j) at.instance)

    depth_same : (i : ℕ) → depth_at w i ≡ depth_at w' i
    depth_same i = λ j. unwrap_or (option_map (λ instance. instance.depth) (slice_get (instances_same j) i)) 0

    within_same : (depth : ℕ) (at : Location) → home_within w depth at ≡ home_within w' depth at
    within_same zero at = refl
    within_same (suc depth) at = λ j. unwrap_or (option_map (λ x. within_same depth x j) (led_same at j)) at

    home_same : (at : Location) → home w at ≡ home w' at
    home_same at = λ j. within_same (depth_same at.instance j) at j

    -- ---- stores

    vars_at_same : (i : ℕ) → vars_at w i ≡ vars_at w' i
    vars_at_same i = by_unit (unit_at_both i)
      where
        by_unit : {one other : Option UnitDef} → BothPeel one other →
            unwrap_or (option_map (λ unit. unit.vars) one) [] ≡ unwrap_or (option_map (λ unit. unit.vars) other) []
        by_unit neither = refl
        by_unit (both one) = vars_same one

    view_same : (store : Store) (i : ℕ) → view_at w store i ≡ view_at w' store i
    view_same store i = λ j. record {
      now = map (λ k. unwrap_or (value_among (λ frame. frame.now) store (home_same (whole_of i k) j)) (Parts []))
          (range_with_len 0 (length (vars_at_same i j)));
      before = map (λ k. unwrap_or (value_among (λ frame. frame.before) store (home_same (whole_of i k) j)) (Parts []))
          (range_with_len 0 (length (vars_at_same i j)));
    }

    value_there_same : (store : Store) (i : ℕ) (e : Expr) → value_there w store i e ≡ value_there w' store i e
    value_there_same store i e = λ j.
        option_and_then (λ instance. value_same instance.unit e (view_same store i j) j) (slice_get (instances_same j) i)

    outcome_there_same : (store : Store) (i : ℕ) (s : Stmt) → outcome_there w store i s ≡ outcome_there w' store i s
    outcome_there_same store i s = λ j.
        option_and_then (λ instance. outcome_same instance.unit s (view_same store i j) j) (slice_get (instances_same j) i)

    values_there_same : (store : Store) (i : ℕ) (es : List Expr) → values_there w store i es ≡ values_there w' store i es
    values_there_same store i [] = refl
    values_there_same store i (e ∷ rest) = λ j.
        option_and_then (λ value. option_map (λ values. value ∷ values) (values_there_same store i rest j)) (value_there_same store i e j)

    put_path_same : (i : ℕ) (variables : List Value) (path : Static) (store : Store) → put_path w i variables path store ≡ put_path w' i variables path store
    put_path_same i variables path store = λ j.
        unwrap_or (option_map (λ value. put (home_same (record { instance = i; path = path }) j) value store)
        (option_and_then (value_at path.fields) (slice_get variables path.root))) store

    put_written_same : (i : ℕ) (variables : List Value) (paths : List Static) (store : Store) →
        put_written w i variables paths store ≡ put_written w' i variables paths store
    put_written_same i variables [] store = refl
    put_written_same i variables (path ∷ rest) store = λ j. put_written_same i variables rest (put_path_same i variables path store j) j

    -- ---- effects

    plain_act : (i : ℕ) (s : Stmt) (store : Store) →
        option_map (λ values. put_written w i values (writes s) store) (outcome_there w store i s)
        ≡ option_map (λ values. put_written w' i values (writes s) store) (outcome_there w' store i s)
    plain_act i s store = λ j. option_map (λ values. put_written_same i values (writes s) store j) (outcome_there_same store i s j)

    acted_same : (i : ℕ) (s : Stmt) (layer : StmtKind-F StmtKind Arm Branch Stmt) (store : Store) →
        acted_kind w i s layer store ≡ acted_kind w' i s layer store
    acted_same i s (StmtKind-F.Return None) store = refl
    acted_same i s (StmtKind-F.Return (Some e)) store = λ j. option_map (λ value. with_frame i (with_result value) store) (value_there_same store i e j)
    acted_same i s (StmtKind-F.Declare k initial) store = λ j.
        option_map (λ values. with_frame i (remember k) (put_written_same i values (writes s) store j)) (outcome_there_same store i s j)
    acted_same i s (StmtKind-F.Assign path e) store = plain_act i s store
    acted_same i s (StmtKind-F.Call f inputs outputs) store = plain_act i s store
    acted_same i s (StmtKind-F.Await e) store = plain_act i s store
    acted_same i s (StmtKind-F.Run target a inputs outputs) store = plain_act i s store
    acted_same i s (StmtKind-F.If arms other) store = plain_act i s store
    acted_same i s (StmtKind-F.Cobegin branches) store = plain_act i s store
    acted_same i s (StmtKind-F.When guard e body) store = plain_act i s store
    acted_same i s (StmtKind-F.Repeat body) store = plain_act i s store
    acted_same i s (StmtKind-F.Until body e) store = plain_act i s store
    acted_same i s (StmtKind-F.While e body) store = plain_act i s store

    given_same : (i : ℕ) (target : Option Path) (result : Option Value) (store : Store) → given_to w i target result store ≡ given_to w' i target result store
    given_same i None result store = refl
    given_same i (Some path) None store = refl
    given_same i (Some path) (Some value) store = λ j. put (home_same (record { instance = i; path = static_of path }) j) value store

    effect_same : (i : ℕ) (effect : Effect) (store : Store) → effect_on w i effect store ≡ effect_on w' i effect store
    effect_same i Silent store = refl
    effect_same i (Acts s) store = ap (option_map done) (acted_same i s (stmt_kind s) store)
    effect_same i (Asks e) store = λ j. option_map (λ value. record { answer = is_true_value value; store = store }) (value_there_same store i e j)
    effect_same i (Copies callee inputs) store = λ j.
        option_map (λ values. done (with_frame callee (with_inputs values) store)) (values_there_same store i inputs j)
    effect_same i (Gives callee target) store = λ j. Some (done (given_same i target (result_at store callee) store j))

    -- ---- both programs

    body_of_both : (i : ℕ) {one other : Option UnitDef} → BothPeel one other → UnitUnrolls (AnyHead i) one other
    body_of_both i neither = no_unit
    body_of_both i (both kept) = one_unit (block_same _)
    body_of_both i (both (is_peeled {unit} activity)) = one_unit (peeled_unrolls i unit.body)

    pub same_program : SameProgram AnyHead w w'
    same_program = record {
      instances = instances_same;
      homes = home_same;
      effects = effect_same;
      bodies = λ i. body_of_both i (unit_at_both i);
    }

    frame_same : (instance : Instance) → frame_at_first w instance ≡ frame_at_first w' instance
    frame_same instance = by_unit (unit_there peels instance.unit)
      where
        by_unit : {one other : Option UnitDef} → BothPeel one other →
            unwrap_or (option_map (first_frame structs) one) (record { now = []; before = []; result = None })
            ≡ unwrap_or (option_map (first_frame structs) other) (record { now = []; before = []; result = None })
        by_unit neither = refl
        by_unit (both kept) = refl
        by_unit (both (is_peeled activity)) = refl

    pub first_same : first_store w ≡ first_store w'
    first_same = λ j. map (λ instance. frame_same instance j) (instances_same j)

    pub row_same : (store : Store) → outputs_row w store ≡ outputs_row w' store
    row_same store = by_unit (unit_at_both 0)
      where
        by_unit : {one other : Option UnitDef} → BothPeel one other →
            unwrap_or (option_and_then (λ unit. option_map (outputs_of_frame unit) (slice_get store 0)) one) []
            ≡ unwrap_or (option_and_then (λ unit. option_map (outputs_of_frame unit) (slice_get store 0)) other) []
        by_unit neither = refl
        by_unit (both kept) = refl
        by_unit (both (is_peeled activity)) = refl

pub peeled_is_same_program : PeeledIsSameProgram
peeled_is_same_program structs units peeled_units entry peels = same_program structs units peeled_units peels entry
