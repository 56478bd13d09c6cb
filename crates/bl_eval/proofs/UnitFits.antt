-- Every unit of a typed program leaves values of its types, and what stands in it gives and keeps them.
use Rattle.std.proofs.Common.{◌≡◌, ℕ, suc, zero, ◌+◌, length, Bool, true, false, ◌&&◌, List, [], ◌∷◌, ◌++◌, map, take, drop, Some, None, refl, sym, ap, ◌∙◌}
use Rattle.std.proofs.Common.{subst, append_assoc}
use Rattle.std.proofs.lemmas.List.{append-nil, take-append-drop}
use Rattle.std.proofs.lemmas.Option.{same_Some}
use Rattle.std.specs.Prelude.{slice_get, if◌then◌else◌}
use Rattle.std.specs.List.{AllZip, list_all}
use Rattle.bl_tree.proofs.Basics.{and_first, and_second}
use Rattle.bl_tree.specs.declared.tree.Stmt.{Stmt}
use Rattle.bl_tree.specs.declared.tree.StructDef.{StructDef}
use Rattle.bl_tree.specs.declared.tree.Unit.{Unit as UnitDef}
use Rattle.bl_tree.specs.declared.tree.Var.{Var}
use Rattle.bl_tree.specs.declared.value.Value.{Value}
use Rattle.bl_tree.specs.Program.{IsWellTyped, locals_of, parameters_of, structs_stand_from, unit_stands, units_stand_after}
use Rattle.bl_tree.specs.Reduce.{all_of}
use Rattle.bl_tree.specs.Types.{type_stands}
use Rattle.bl_tree.specs.Typing.{fits, is_function, site_of}
use Rattle.bl_eval.specs.Functions.{Flow, callable_of, callee_of, callees_after, callees_of, does, frame_of, in_order, left_by, scope_among}
use Rattle.bl_eval.specs.Meaning.{Callee}
use Rattle.bl_eval.specs.Values.{value_fits, zero_of}
use Rattle.bl_eval.proofs.ActFits.{AllFit}
use Rattle.bl_eval.proofs.ExprFits.{CalleeFits, LeftFits, Sound}
use Rattle.bl_eval.proofs.FitLemmas.{zero_fits}
use Rattle.bl_eval.proofs.PartFits.{if_map}
use Rattle.bl_eval.proofs.PassLemmas.{all_drop, pass_append, pass_drop, pass_each, pass_take}
use Rattle.bl_eval.proofs.StmtFits.{FlowFits, block_fits, does_fits}

pub all_listed : (test : Stmt → Bool) (body : List Stmt) → list_all test body ≡ true → all_of (map test body) ≡ true
all_listed test body all = listed test body ∙ all
  where
    listed : (test : Stmt → Bool) (body : List Stmt) → all_of (map test body) ≡ list_all test body
    listed test [] = refl
    listed test (s ∷ body) = ap (λ rest. test s && rest) (listed test body)

-- ---- what a unit that stands keeps

module _ (structs : List StructDef) (earlier : List UnitDef) (unit : UnitDef) (stands : unit_stands structs earlier unit ≡ true) where
  vars_stand : list_all (λ var. type_stands (length structs) var.ty) unit.vars ≡ true
  vars_stand = and_first _ _ (and_second _ _ stands)

  body_fits : list_all (fits (site_of structs earlier unit)) unit.body ≡ true
  body_fits = and_first _ _ (and_second _ _ (and_second _ _ stands))

-- ---- functions

pub frame_fits : (structs : List StructDef) (unit : UnitDef) (arguments : List Value) → structs_stand_from 0 structs ≡ true →
    list_all (λ var. type_stands (length structs) var.ty) unit.vars ≡ true
    → AllFit structs (parameters_of unit) arguments → AllFit structs unit.vars (frame_of structs unit arguments)
frame_fits structs unit arguments structs_stand vars_stand given =
    let test : Var → Value → Bool = λ var. value_fits structs var.ty in
    let good : Var → Bool = λ var. type_stands (length structs) var.ty in
    let zeros : AllFit structs (locals_of unit) (map (λ (var : Var). zero_of structs var.ty) (locals_of unit)) =
    pass_each test (λ var. zero_of structs var.ty) good (λ var stands. zero_fits structs var.ty structs_stand stands) (locals_of unit)
    (all_drop good (unit.inputs + unit.outputs) unit.vars vars_stand) in
    subst (λ vars. AllFit structs vars (frame_of structs unit arguments)) (take-append-drop (unit.inputs + unit.outputs) unit.vars)
    (pass_append test (parameters_of unit) (locals_of unit) arguments (map (λ (var : Var). zero_of structs var.ty) (locals_of unit)) given zeros)

left_fits : (structs : List StructDef) (unit : UnitDef) (flow : Flow) → FlowFits structs unit.vars unit.result flow →
    LeftFits structs unit (left_by unit flow)
left_fits structs unit (Flow.On now) fit =
    let test : Var → Value → Bool = λ var. value_fits structs var.ty in
    (pass_take test unit.outputs (drop unit.inputs unit.vars) (drop unit.inputs now) (pass_drop test unit.inputs unit.vars now fit), tt)
left_fits structs unit (Flow.Back now result) fit =
    let test : Var → Value → Bool = λ var. value_fits structs var.ty in
    (pass_take test unit.outputs (drop unit.inputs unit.vars) (drop unit.inputs now) (pass_drop test unit.inputs unit.vars now fit.0), fit.1)

callee_fits : (structs : List StructDef) (earlier : List UnitDef) (unit : UnitDef) (callees : List Callee) →
    Sound structs earlier unit callees → unit_stands structs earlier unit ≡ true
    → CalleeFits structs unit (callee_of structs callees unit)
callee_fits structs earlier unit callees sound stands arguments given =
    if_map (FlowFits structs unit.vars unit.result) (LeftFits structs unit) (left_by unit)
    (in_order (map (does (scope_among structs callees unit)) unit.body) (frame_of structs unit arguments))
    (block_fits structs earlier unit callees sound unit.body (λ k d within. does_fits structs earlier unit callees sound _)
    (all_listed (fits (site_of structs earlier unit)) unit.body (body_fits structs earlier unit stands)) (frame_of structs unit arguments)
    (frame_fits structs unit arguments sound.structs_stand sound.vars_stand given))
    (left_fits structs unit)

callable_fits : (structs : List StructDef) (earlier : List UnitDef) (unit : UnitDef) (callees : List Callee) →
    Sound structs earlier unit callees → unit_stands structs earlier unit ≡ true
    → CalleeFits structs unit (callable_of structs callees unit)
callable_fits structs earlier unit callees sound stands = by_kind (is_function unit.kind)
  where
    by_kind : (function : Bool) → CalleeFits structs unit (if function then callee_of structs callees unit else (λ arguments. None))
    by_kind true = callee_fits structs earlier unit callees sound stands
    by_kind false = λ arguments given. tt

-- ---- all units

zip_push : (structs : List StructDef) (units : List UnitDef) (callees : List Callee) (unit : UnitDef) (callee : Callee) →
    AllZip (CalleeFits structs) units callees
    → CalleeFits structs unit callee → AllZip (CalleeFits structs) (units ++ unit ∷ []) (callees ++ callee ∷ [])
zip_push structs [] [] unit callee all one = (one, tt)
zip_push structs [] (first ∷ callees) unit callee all one = absurd all
zip_push structs (first ∷ units) [] unit callee all one = absurd all
zip_push structs (first ∷ units) (other ∷ callees) unit callee all one = (all.0, zip_push structs units callees unit callee all.1 one)

callees_fit_after : (structs : List StructDef) (earlier : List UnitDef) (callees : List Callee) (rest : List UnitDef) → structs_stand_from 0 structs ≡ true
    → AllZip (CalleeFits structs) earlier callees → units_stand_after structs earlier rest ≡ true →
    AllZip (CalleeFits structs) (earlier ++ rest) (callees_after structs callees rest)
callees_fit_after structs earlier callees [] structs_stand all stand =
    subst (λ units. AllZip (CalleeFits structs) units callees) (sym (append-nil earlier)) all
callees_fit_after structs earlier callees (unit ∷ rest) structs_stand all stand =
    let here : unit_stands structs earlier unit ≡ true =
    and_first (unit_stands structs earlier unit) (units_stand_after structs (earlier ++ unit ∷ []) rest) stand in
    let sound : Sound structs earlier unit callees = record {
      structs_stand = structs_stand;
      vars_stand =
          vars_stand structs earlier unit here;
      callees_fit = all;
    } in
    subst (λ units. AllZip (CalleeFits structs) units (callees_after structs (callees ++ callable_of structs callees unit ∷ []) rest))
    (append_assoc earlier (unit ∷ []) rest)
    (callees_fit_after structs (earlier ++ unit ∷ []) (callees ++ callable_of structs callees unit ∷ []) rest structs_stand
    (zip_push structs earlier callees unit (callable_of structs callees unit) all (callable_fits structs earlier unit callees sound here))
    (and_second (unit_stands structs earlier unit) (units_stand_after structs (earlier ++ unit ∷ []) rest) stand))

units_take : (structs : List StructDef) (earlier units : List UnitDef) (k : ℕ) → units_stand_after structs earlier units ≡ true →
    units_stand_after structs earlier (take k units) ≡ true
units_take structs earlier units zero stand = refl
units_take structs earlier [] (suc k) stand = refl
units_take structs earlier (unit ∷ units) (suc k) stand =
    let here : unit_stands structs earlier unit ≡ true =
    and_first (unit_stands structs earlier unit) (units_stand_after structs (earlier ++ unit ∷ []) units) stand in
    ap (λ b. b && units_stand_after structs (earlier ++ unit ∷ []) (take k units)) here
    ∙ units_take structs (earlier ++ unit ∷ []) units k
    (and_second (unit_stands structs earlier unit) (units_stand_after structs (earlier ++ unit ∷ []) units) stand)

pub unit_at : (structs : List StructDef) (earlier units : List UnitDef) (k : ℕ) (unit : UnitDef) →
    units_stand_after structs earlier units ≡ true → slice_get units k ≡ Some unit
    → unit_stands structs (earlier ++ take k units) unit ≡ true
unit_at structs earlier [] k unit stand there = absurd (cc)
unit_at structs earlier (first ∷ units) zero unit stand there =
    subst (λ earlier. unit_stands structs earlier unit ≡ true) (sym (append-nil earlier))
    (subst (λ unit. unit_stands structs earlier unit ≡ true) (same_Some first unit there)
    (and_first (unit_stands structs earlier first) (units_stand_after structs (earlier ++ first ∷ []) units) stand))
unit_at structs earlier (first ∷ units) (suc k) unit stand there =
    subst (λ earlier. unit_stands structs earlier unit ≡ true) (append_assoc earlier (first ∷ []) (take k units))
    (unit_at structs (earlier ++ first ∷ []) units k unit
    (and_second (unit_stands structs earlier first) (units_stand_after structs (earlier ++ first ∷ []) units) stand) there)

-- what the statements of a unit of a typed program stand on
pub sound_at : (structs : List StructDef) (units : List UnitDef) (entry k : ℕ) (unit : UnitDef) → IsWellTyped structs units entry
    → slice_get units k ≡ Some unit
    → Sound structs (take k units) unit (callees_of structs (take k units))
sound_at structs units entry k unit keeps there = record {
  structs_stand = keeps.structs_stand;
  vars_stand = vars_stand structs (take k units) unit (unit_at structs [] units k unit keeps.units_stand there);
  callees_fit = callees_fit_after structs [] [] (take k units) keeps.structs_stand tt (units_take structs [] units k keeps.units_stand);
}
