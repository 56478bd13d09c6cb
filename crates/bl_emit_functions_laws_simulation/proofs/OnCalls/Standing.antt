-- What a unit that stands keeps, and how its body ends.
use Rattle.std.proofs.Common.{◌≡◌, ℕ, Bool, true, false, not, ◌&&◌, ◌||◌, List, [], ◌∷◌}
use Rattle.std.proofs.Common.{◌++◌, length, map, take, Option, Some, None, refl, sym, ◌∙◌, IfSome}
use Rattle.std.specs.Prelude.{is_none, nat_eq, slice_get, if◌then◌else◌}
use Rattle.std.specs.List.{list_all}
use Rattle.bl_tree.proofs.Basics.{and_first, and_second, true_not_false}
use Rattle.bl_tree.specs.declared.scalar.Scalar.{Scalar as ScalarType}
use Rattle.bl_tree.specs.declared.tree.StructDef.{StructDef}
use Rattle.bl_tree.specs.declared.tree.Unit.{Unit as UnitDef}
use Rattle.bl_tree.specs.Apart.{is_apart}
use Rattle.bl_tree.specs.Depths.{is_shallow}
use Rattle.bl_tree.specs.Program.{IsWellTyped, names_of, parameters_of, roles_stand, unit_stands}
use Rattle.bl_tree.specs.Reduce.{all_of}
use Rattle.bl_tree.specs.Returns.{activity_returns, function_returns, last_of, surely_returns, unit_returns}
use Rattle.bl_tree.specs.Types.{type_stands}
use Rattle.bl_tree.specs.Typing.{fits, is_activity, is_function, site_of}
use Rattle.bl_tree.specs.Words.{are_distinct, is_name}
use Rattle.bl_eval.specs.Functions.{Flow, does, in_order}
use Rattle.bl_emit_functions_laws_simulation.specs.Calls.{BodiesEnd, EndsFor}
use Rattle.bl_emit_functions_laws_simulation.proofs.OnCalls.Ends.{EndsWith, block_ends, stmt_ends}
use Rattle.bl_eval.proofs.UnitFits.{all_listed, unit_at}

-- the unit at a position stands
pub stands_at : (structs : List StructDef) (units : List UnitDef) (entry k : ℕ) (unit : UnitDef) → IsWellTyped structs units entry →
    slice_get units k ≡ Some unit → unit_stands structs (take k units) unit ≡ true
stands_at structs units entry k unit keeps there = unit_at structs [] units k unit keeps.units_stand there

module _ (structs : List StructDef) (earlier : List UnitDef) (unit : UnitDef) (stands : unit_stands structs earlier unit ≡ true) where
  pub body_fits : all_of (map (fits (site_of structs earlier unit)) unit.body) ≡ true
  body_fits = all_listed (fits (site_of structs earlier unit)) unit.body (and_first _ _ (and_second _ _ (and_second _ _ stands)))

  pub roles : roles_stand unit ≡ true
  roles = and_first _ _ (and_first _ _ stands)

  pub returns : unit_returns unit ≡ true
  returns =
      let last : Bool = unit_returns unit && (is_shallow 200 unit.body && list_all is_apart unit.body) in
      let fitted : Bool = list_all (fits (site_of structs earlier unit)) unit.body in
      let typed : Bool = list_all (λ var. type_stands (length structs) var.ty) unit.vars in
      let named : Bool = roles_stand unit && (list_all is_name (names_of unit.vars) && are_distinct (names_of (parameters_of unit))) in
      and_first (unit_returns unit) (is_shallow 200 unit.body && list_all is_apart unit.body)
      (and_second fitted last (and_second typed (fitted && last) (and_second named (typed && (fitted && last)) stands)))

surely : (unit : UnitDef) (s : ScalarType) → is_function unit.kind ≡ true → unit.result ≡ Some s → unit_returns unit ≡ true →
    last_of (map surely_returns unit.body) ≡ true
surely unit s function result all =
    by_kind (is_activity unit.kind) function all
  where
    by_result : (o : Option ScalarType) (b c : Bool) → o ≡ Some s → (is_none o || (b && c)) ≡ true → c ≡ true
    by_result None b c is all = cc
    by_result (Some t) true c is all = all
    by_result (Some t) false c is all = cc

    by_kind : (activity : Bool) → not activity ≡ true → (if activity then activity_returns unit else function_returns unit) ≡ true →
        last_of (map surely_returns unit.body) ≡ true
    by_kind true is all = cc
    by_kind false is all = by_result unit.result (nat_eq unit.outputs 0) (last_of (map surely_returns unit.body)) result all

ends_by : (unit : UnitDef) (result : Option ScalarType) (flow : Option Flow) → unit.result ≡ result → is_function unit.kind ≡ true →
    unit_returns unit ≡ true → IfSome flow (EndsWith result (last_of (map surely_returns unit.body))) → EndsFor result flow
ends_by unit result None is function all h = tt
ends_by unit None (Some (Flow.On now)) is function all h = refl
ends_by unit (Some s) (Some (Flow.On now)) is function all h = absurd (true_not_false (sym (surely unit s function is all) ∙ h))
ends_by unit result (Some (Flow.Back now given)) is function all h = h

pub end_all : (structs : List StructDef) (units : List UnitDef) (entry : ℕ) → BodiesEnd structs units entry
end_all structs units entry k unit sees now keeps there function =
    let stands = stands_at structs units entry k unit keeps there in
    let site = site_of structs (take k units) unit in
    ends_by unit unit.result (in_order (map (does sees) unit.body) now) refl function (returns structs (take k units) unit stands)
    (block_ends site sees unit.body (λ k d within. stmt_ends site sees _) (body_fits structs (take k units) unit stands) now)
