-- The functions of needed units do in the file what they do among those of all units.
use Rattle.std.proofs.Common.{◌≡◌, ℕ, suc, ◌≤◌, Bool, true, false, List, [], ◌∷◌, drop, map, take}
use Rattle.std.proofs.Common.{Option, Some, None, refl, sym, ap, ◌∙◌, subst, arith}
use Rattle.std.proofs.lemmas.List.Folds.{list_all-append}
use Rattle.std.specs.List.{list_all}
use Rattle.std.specs.Prelude.{All, slice_get, unwrap_or, if◌then◌else◌}
use Rattle.bl_tree.proofs.Basics.{and_second}
use Rattle.bl_tree.specs.declared.c.CFunc.{CFunc}
use Rattle.bl_tree.specs.declared.scalar.Scalar.{Scalar as ScalarType}
use Rattle.bl_tree.specs.declared.text.Text.{Text}
use Rattle.bl_tree.specs.declared.tree.StructDef.{StructDef}
use Rattle.bl_tree.specs.declared.tree.Unit.{Unit as UnitDef}
use Rattle.bl_tree.specs.Program.{IsWellTyped}
use Rattle.bl_tree.specs.Typing.{is_activity, site_of}
use Rattle.bl_tree.specs.Words.{are_distinct, is_name}
use Rattle.bl_machine.specs.declared.machine.Activity.{Activity as InMachine}
use Rattle.bl_limits_measures.specs.Calls.{calls_of}
use Rattle.bl_limits_measures.specs.Runs.{activities_run}
use Rattle.bl_ctext_semantics.specs.Calls.{calls_in_block}
use Rattle.bl_ctext_semantics.specs.Tables.{no_entries}
use Rattle.bl_ctext_semantics_laws_calls.specs.Known.{CallsDecide}
use Rattle.bl_emit_acts.specs.Acts.{name_of_callee}
use Rattle.bl_emit_acts.specs.Expressions.{function_name}
use Rattle.bl_emit_acts.specs.Types.{unit_name}
use Rattle.bl_emit_functions.specs.Functions.{function_code}
use Rattle.bl_emit_functions_laws_wellformed.proofs.OnFiles.Chains.{code_few, taken}
use Rattle.bl_emit_functions_laws_wellformed.proofs.OnFiles.Growing.{distinct_behind}
use Rattle.bl_emit_functions_laws_wellformed.proofs.OnFiles.Under.{front-under}
use Rattle.bl_emit_spec.specs.Activities.{activity_function}
use Rattle.bl_emit_spec.specs.Programs.{needed_units, needs_of}
use Rattle.bl_emit_spec_laws.specs.Calls.Built.{Activities, AreBuilt}
use Rattle.bl_emit_spec_laws_wellformed.specs.Chains.{ActivitiesCallFew, NoneAbove}
use Rattle.bl_emit_spec_laws_wellformed.specs.Closed.{NeededClosed}
use Rattle.bl_emit_laws.specs.Linked.{NeededAreKnown, table_of_needed}
use Rattle.bl_emit_laws.proofs.OnLinked.Spared.{Sparing, spared}
use Rattle.bl_emit_laws.proofs.OnLinked.Units.{all_none, counted, drop_none, needed_other, none_tested, on, prelude_other}
use Rattle.bl_emit_laws.proofs.OnLinked.Units.{unnamed_other, unneeded, unneeded_is}
use Rattle.bl_emit_spec_laws.specs.Tables.Tables.{each_from, functions_of_all, table_of_all, unit_function}
use Rattle.bl_emit_spec_laws.proofs.OnTables.Lists.{drop_next}
use Rattle.bl_emit_functions_laws_simulation.proofs.OnUnits.Made.{names}

module _ (structs : List StructDef) (units : List UnitDef) (entry : ℕ) (decide : CallsDecide) (few : ActivitiesCallFew)
    (closed : NeededClosed structs units entry) (machine : List InMachine) (activities : Activities) (keeps : IsWellTyped structs units entry)
    (built : AreBuilt structs units machine activities) where
  abbrev needed : List Bool
  needed = needed_units units entry

  -- the names of functions that are left out
  abbrev out : Text → Bool
  out name = unneeded needed units name

  abbrev weight : Text → ℕ
  weight name = counted (out name)

  abbrev by : ℕ → ℕ
  by f = if on needed f then 0 else 1

  distinct : are_distinct (names units) ≡ true
  distinct = distinct_behind (map (λ (def : StructDef). def.name) structs) (names units) keeps.distinct

  named : list_all is_name (names units) ≡ true
  named =
      and_second (list_all is_name (map (λ (def : StructDef). def.name) structs)) (list_all is_name (names units))
      (sym (list_all-append is_name (map (λ (def : StructDef). def.name) structs) (names units)) ∙ keeps.named)

  prelude : (word : Text) (s : ScalarType) → weight (function_name word s) ≡ 0
  prelude word s = ap counted (prelude_other needed units word s)

  at_most_one : (b : Bool) → counted b ≤ 1
  at_most_one true = omega arith
  at_most_one false = omega arith

  callee : (k f : ℕ) (o : Option UnitDef) → slice_get (take k units) f ≡ o → (b : Bool) → on needed f ≡ b →
      weight (name_of_callee o) ≤ (if b then 0 else 1)
  callee k f o there false off = at_most_one (out (name_of_callee o))
  callee k f None there true is =
      let none : weight (unit_name []) ≡ 0 = ap counted (unnamed_other needed units named) in omega (arith, none)
  callee k f (Some unit) there true is =
      let found = taken units k f unit there in
      let none : weight (unit_name unit.name) ≡ 0 = ap counted (needed_other needed units f unit distinct found.1 is) in omega (arith, none)

  callees : (k f : ℕ) → weight (name_of_callee (slice_get (take k units) f)) ≤ by f
  callees k f = callee k f (slice_get (take k units) f) refl (on needed f) refl

  -- a needed unit needs none that isn't
  needs : (k : ℕ) (unit : UnitDef) → slice_get units k ≡ Some unit → slice_get needed k ≡ Some true → NoneAbove by 0 (needs_of unit)
  needs k unit there is =
      all_none by (needs_of unit)
      (λ j among. ap (λ o. if unwrap_or o false then 0 else 1) (closed.closed k j unit keeps there is among))

  abbrev code : ℕ → UnitDef → CFunc
  code k unit = unit_function structs units activities k unit

  calls : (k : ℕ) (unit : UnitDef) → slice_get units k ≡ Some unit → slice_get needed k ≡ Some true →
      All (λ name. out name ≡ false) (calls_in_block (code k unit).body)
  calls k unit there is = none_tested out (calls_in_block (code k unit).body) (by_kind (is_activity unit.kind))
    where
      of_activity : NoneAbove weight 0 (calls_in_block (activity_function (activities k)).body)
      of_activity =
          few (activities k) weight by 0 prelude
          (λ f. subst (λ (earlier : List UnitDef). weight (name_of_callee (slice_get earlier f)) ≤ by f) (sym (built.earlier k unit there)) (callees k f))
          (subst (λ (it : UnitDef). NoneAbove by 0 (needs_of it)) (sym (built.unit k unit there)) (needs k unit there is))

      by_kind : (active : Bool) →
          NoneAbove weight 0 (calls_in_block (if active then activity_function (activities k) else function_code structs (take k units) unit).body)
      by_kind true = of_activity
      by_kind false =
          code_few weight prelude (site_of structs (take k units) unit) by (callees k) 0 unit
          (front-under by 0 (calls_of unit) (activities_run unit) (needs k unit there is))

  test_is : (k : ℕ) (o : Option Bool) → slice_get needed k ≡ o → unwrap_or o false ≡ false → on needed k ≡ false
  test_is k o is off = ap (λ o. unwrap_or o false) is ∙ off

  named_out : (k : ℕ) (unit : UnitDef) → slice_get units k ≡ Some unit → on needed k ≡ false → out (code k unit).name ≡ true
  named_out k unit there off = ap out (by_kind (is_activity unit.kind)) ∙ unneeded_is needed units k unit there off
    where
      by_kind : (active : Bool) → (if active then activity_function (activities k) else function_code structs (take k units) unit).name
          ≡ unit_name unit.name
      by_kind true = ap (λ (unit : UnitDef). unit_name unit.name) (built.unit k unit there)
      by_kind false = refl

  sparing : (tests : List Bool) (xs : List UnitDef) (k : ℕ) → drop k needed ≡ tests → drop k units ≡ xs → Sparing out tests (each_from code k xs)
  sparing [] [] k tested is = tt
  sparing (test ∷ tests) [] k tested is = tt
  sparing [] (unit ∷ xs) k tested is =
      let found = drop_next units k unit xs is in
      let none = drop_none needed k tested in
      (named_out k unit found.0 (test_is k None none.0 refl), sparing [] xs (suc k) none.1 found.1)
  sparing (true ∷ tests) (unit ∷ xs) k tested is =
      let found = drop_next units k unit xs is in
      let test = drop_next needed k true tests tested in
      (calls k unit found.0 test.0, sparing tests xs (suc k) test.1 found.1)
  sparing (false ∷ tests) (unit ∷ xs) k tested is =
      let found = drop_next units k unit xs is in
      let test = drop_next needed k false tests tested in
      (named_out k unit found.0 (test_is k (Some false) test.0 refl), sparing tests xs (suc k) test.1 found.1)

  pub known : (k : ℕ) (unit : UnitDef) → slice_get units k ≡ Some unit → slice_get needed k ≡ Some true →
      table_of_needed structs units entry activities (unit_name unit.name) ≡ table_of_all structs units activities (unit_name unit.name)
  known k unit there is =
      sym (spared out decide needed (functions_of_all structs units activities) no_entries no_entries (sparing needed units 0 refl refl)
      (λ name other. refl) (unit_name unit.name) (needed_other needed units k unit distinct there (ap (λ o. unwrap_or o false) is)))

pub all_known : (structs : List StructDef) (units : List UnitDef) (entry : ℕ) → CallsDecide → ActivitiesCallFew → NeededClosed structs units entry →
    NeededAreKnown structs units entry
all_known structs units entry decide few closed machine activities k unit keeps built there is =
    known structs units entry decide few closed machine activities keeps built k unit there is
