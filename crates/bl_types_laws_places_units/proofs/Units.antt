-- Units are judged alike in two programs, where what is known before them agrees.
use Rattle.std.proofs.Common.{◌≡◌, inl, inr, ℕ, ◌≤◌, List, [], ◌∷◌, ◌++◌, map, length, take, drop, Option, Some, None, refl, ap, ap₂, sym, subst, ◌∙◌}
use Rattle.std.specs.List.{cons_option}
use Rattle.std.specs.Prelude.{is_some, option_map}
use Rattle.std.proofs.lemmas.List.{drop-map, map-append, take-map}
use Rattle.bl_tree.specs.declared.place.Place.{Place}
use Rattle.bl_tree.specs.declared.rule.Rule.TheVariants as rule
use Rattle.bl_tree.specs.declared.tree.Stmt.{Stmt}
use Rattle.bl_tree.specs.declared.tree.Ty.{Ty}
use Rattle.bl_tree.specs.declared.tree.Unit.{Unit as UnitDef}
use Rattle.bl_tree.specs.declared.tree.Var.{Var}
use Rattle.bl_tree.specs.Types.{scalar_in}
use Rattle.bl_tree_laws_places.specs.Placed.{placed_stmt, placed_unit, placed_var}
use Rattle.bl_tree_laws_places.proofs.Lists.{map-twice}
use Rattle.bl_names_laws_places.specs.Renamed.{Renaming, renamed_type, renamed_unit}
use Rattle.bl_names_tree.specs.declared.item.NamedConstant.{NamedConstant}
use Rattle.bl_names_tree.specs.declared.item.NamedUnit.{NamedUnit}
use Rattle.bl_names_tree.specs.declared.types.NamedType.{NamedType}
use Rattle.bl_names_tree.specs.Placed.{DeclaredBefore, in_turn, stmt_step, unit_step}
use Rattle.bl_types.specs.declared.environment.Environment.{Environment}
use Rattle.bl_types.specs.declared.environment.Variable.{Variable}
use Rattle.bl_types.specs.Declarations.{Declaring, after_parameters}
use Rattle.bl_types.specs.Failures.{unless}
use Rattle.bl_types.specs.Returns.{return_failures}
use Rattle.bl_types.specs.Statements.{Block, walked_block}
use Rattle.bl_types.specs.Units.{Result, after_head, after_unit, entered, environment_after, result_of, unit_of, var_of, vars_of}
use Rattle.bl_types.specs.Written.{bad_lengths, written_type}
use Rattle.bl_types_laws.specs.Within.{known_in}
use Rattle.bl_types_laws_places.specs.Agree.{EnvironmentsAgree, head_of_unit, placed_failures, placed_variable, unplaced}
use Rattle.bl_types_laws_places.specs.Judgements.{DeclaringsAgree}
use Rattle.bl_types_laws_places.specs.Laws.{ArgumentsAgree, DeclarationsAgree, ExpressionsAgree}
use Rattle.bl_types_laws_places_units.proofs.Alike.{Inside, SameConstants, both_placed, unless_placed}
use Rattle.bl_types_laws_places_units.proofs.Bodies.{bodies_alike}
use Rattle.bl_types_laws_places_units.proofs.Grows.{bodies_grow}
use Rattle.bl_types_laws_places_units.proofs.Heads.{head_known, unit_placed}
use Rattle.bl_types_laws_places_units.proofs.Returning.{returns_placed}

-- ---- the variables and the head of a unit

module _ (f : Place → Place) where
  var_placed : (var : Variable) → var_of (placed_variable f var) ≡ option_map (placed_var f) (var_of var)
  var_placed var = by_type var.ty
    where
      by_type : (ty : Option Ty) →
          option_map (λ ty. record { name = var.name; place = f var.place; ty = ty; role = var.role }) ty
          ≡ option_map (placed_var f) (option_map (λ ty. record { name = var.name; place = var.place; ty = ty; role = var.role }) ty)
      by_type (Some ty) = refl
      by_type None = refl

  cons_placed : (var : Option Var) (rest : List Var) →
      cons_option (option_map (placed_var f) var) (map (placed_var f) rest) ≡ map (placed_var f) (cons_option var rest)
  cons_placed (Some var) rest = refl
  cons_placed None rest = refl

  vars_placed : (vars : List Variable) → vars_of (map (placed_variable f) vars) ≡ map (placed_var f) (vars_of vars)
  vars_placed [] = refl
  vars_placed (var ∷ rest) = ap₂ cons_option (var_placed var) (vars_placed rest) ∙ cons_placed (var_of var) (vars_of rest)

  bare_again : (vars : List Var) → map (placed_var unplaced) (map (placed_var f) vars) ≡ map (placed_var unplaced) vars
  bare_again vars = map-twice (placed_var unplaced) (placed_var f) vars

  -- the head of a unit doesn't depend on places
  pub head_stays : (unit : UnitDef) → head_of_unit (placed_unit f unit) ≡ head_of_unit unit
  head_stays unit = λ i. record {
    name = unit.name;
    kind = unit.kind;
    inputs = (ap (map (placed_var unplaced)) (take-map (placed_var f) unit.inputs unit.vars) ∙ bare_again (take unit.inputs unit.vars)) i;
    outputs = (ap (λ vars. map (placed_var unplaced) (take unit.outputs vars)) (drop-map (placed_var f) unit.inputs unit.vars)
        ∙ ap (map (placed_var unplaced)) (take-map (placed_var f) unit.outputs (drop unit.inputs unit.vars))
        ∙ bare_again (take unit.outputs (drop unit.inputs unit.vars))) i;
    input_count = unit.inputs;
    output_count = unit.outputs;
    result = unit.result;
  }

-- what a unit comes to in two programs
pub record UnitAlike (by : Renaming) (near far : Environment) (one two : Declaring) : Type 0 where
  pub failures : two.failures ≡ placed_failures by.place one.failures
  pub agree : EnvironmentsAgree by one.env two.env
  pub made : UnitDef
  pub near_units : one.env.units ≡ near.units ++ made ∷ []
  pub far_units : two.env.units ≡ far.units ++ placed_unit by.place made ∷ []

module _ (by : Renaming) (from upto : ℕ) (expressions : ExpressionsAgree) (arguments_agree : ArgumentsAgree) (declarations : DeclarationsAgree)
    (one other : List NamedConstant) (same : SameConstants by from upto one other) where
  abbrev f : Place → Place
  f = by.place

  -- ---- heads

  entered_agree : (unit : NamedUnit) (near far : Environment) → EnvironmentsAgree by near far →
      EnvironmentsAgree by (entered unit near) (entered (renamed_unit by unit) far)
  entered_agree unit near far agree = record {
    structs = agree.structs;
    constants = agree.constants;
    next = agree.next;
    units = agree.units;
    vars = refl;
    kind = inr refl;
    result = refl;
  }

  record ResultAlike (first second : Result) : Type 0 where
    result : second.result ≡ first.result
    failures : second.failures ≡ placed_failures f first.failures

  result_alike : (near far : Environment) → EnvironmentsAgree by near far → (name : Place) (written : Option NamedType) →
      ResultAlike (result_of near name written) (result_of far (f name) (option_map (renamed_type by) written))
  result_alike near far agree name None = record { result = refl; failures = refl }
  result_alike near far agree name (Some written) =
      let judgements = expressions by near far agree in
      let is = judgements.written written in
      let ty = written_type near.constants written in
      record {
        result = ap scalar_in is;
        failures =
            both_placed f (bad_lengths near.constants written) (unless (is_some (scalar_in ty)) rule.Type name) _ _ (judgements.lengths written)
            (ap (λ ty. unless (is_some (scalar_in ty)) rule.Type (f name)) is ∙ unless_placed f (is_some (scalar_in ty)) rule.Type name);
      }

  head_alike : (unit : NamedUnit) (near far : Environment) → EnvironmentsAgree by near far →
      DeclaringsAgree by (after_head unit near) (after_head (renamed_unit by unit) far)
  head_alike unit near far agree =
      let near_inside : Declaring = after_parameters unit.vars (entered unit near) in
      let far_inside : Declaring = after_parameters (renamed_unit by unit).vars (entered (renamed_unit by unit) far) in
      let inside = (declarations by (entered unit near) (entered (renamed_unit by unit) far) (entered_agree unit near far agree)).parameters refl
      unit.vars in
      let result = result_alike near_inside.env far_inside.env inside.env unit.name.place unit.result in
      record {
        env = record {
          structs = inside.env.structs;
          constants = inside.env.constants;
          next = inside.env.next;
          units = inside.env.units;
          vars = inside.env.vars;
          kind = inside.env.kind;
          result = result.result;
        };
        failures =
            both_placed f near_inside.failures (result_of near_inside.env unit.name.place unit.result).failures far_inside.failures _ inside.failures
            result.failures;
      }

  -- ---- what is made of a unit

  made_alike : (unit : NamedUnit) (near_made far_made : List Stmt) (near far : Environment) → EnvironmentsAgree by near far →
      far_made ≡ map (placed_stmt f) near_made →
      unit_of (renamed_unit by unit) far_made far ≡ placed_unit f (unit_of unit near_made near)
  made_alike unit near_made far_made near far agree body = λ i. record {
    name = unit.name.text;
    place = f unit.name.place;
    kind = unit.kind;
    vars = (ap vars_of agree.vars ∙ vars_placed f near.vars) i;
    inputs = unit.inputs;
    outputs = unit.outputs;
    result = agree.result i;
    body = body i;
  }

  -- what is known behind a unit agrees
  behind_agree : (unit : NamedUnit) (near_made far_made : List Stmt) (near far : Environment) → EnvironmentsAgree by near far →
      unit_of (renamed_unit by unit) far_made far ≡ placed_unit f (unit_of unit near_made near) →
      EnvironmentsAgree by (environment_after unit near_made near) (environment_after (renamed_unit by unit) far_made far)
  behind_agree unit near_made far_made near far agree is = record {
    structs = agree.structs;
    constants = agree.constants;
    next = agree.next;
    units =
        map-append head_of_unit far.units (unit_of (renamed_unit by unit) far_made far ∷ [])
        ∙ ap₂ (λ heads head. heads ++ head ∷ []) agree.units (ap head_of_unit is ∙ head_stays f (unit_of unit near_made near))
        ∙ sym (map-append head_of_unit near.units (unit_of unit near_made near ∷ []));
    vars = refl;
    kind = inl refl;
    result = refl;
  }

  -- a unit in place is judged alike
  pub unit_alike : (unit : NamedUnit) (near far : Environment) → EnvironmentsAgree by near far → from ≤ length near.constants →
      (counts : DeclaredBefore) → unit_step one unit (known_in near) ≡ Some counts → counts.constants ≤ upto →
      UnitAlike by near far (after_unit one unit near) (after_unit other (renamed_unit by unit) far)
  unit_alike unit near far agree behind counts step less =
      let placed = unit_placed one unit (known_in near) counts step in
      let near_head : Declaring = after_head unit near in
      let far_head : Declaring = after_head (renamed_unit by unit) far in
      let head = head_alike unit near far agree in
      let near_known = head_known unit near in
      let far_known = head_known (renamed_unit by unit) far in
      let near_body : Block Stmt = walked_block one unit.vars unit.body near_head.env in
      let far_body : Block Stmt = walked_block other (renamed_unit by unit).vars (renamed_unit by unit).body far_head.env in
      let inside : Inside by from near_head.env far_head.env = record {
        agree = head.env;
        kind = far_known.kind ∙ sym near_known.kind;
        behind = subst (λ constants. from ≤ length constants) (sym near_known.constants) behind;
      } in
      let there : in_turn (map (stmt_step unit.vars one) unit.body) (known_in near_head.env) ≡ Some placed.inner =
      ap (in_turn (map (stmt_step unit.vars one) unit.body)) (near_known.counts_are placed.roles) ∙ placed.body in
      let within : placed.inner.constants ≤ upto =
      subst (λ n. n ≤ upto) (ap (λ (counts : DeclaredBefore). counts.constants) (sym placed.behind)) less in
      let body = bodies_alike by from upto expressions arguments_agree declarations one other same unit.vars unit.body near_head.env far_head.env
      inside placed.inner there within in
      let near_grows = bodies_grow one unit.vars unit.body near_head.env in
      let far_grows = bodies_grow other (renamed_unit by unit).vars (renamed_unit by unit).body far_head.env in
      let is = made_alike unit near_body.made far_body.made near_body.env far_body.env body.env body.made in
      record {
        failures =
            both_placed f near_head.failures (near_body.failures ++ return_failures unit) far_head.failures
            (far_body.failures ++ return_failures (renamed_unit by unit)) head.failures
            (both_placed f near_body.failures (return_failures unit) far_body.failures (return_failures (renamed_unit by unit)) body.failures
            (returns_placed by unit));
        agree = behind_agree unit near_body.made far_body.made near_body.env far_body.env body.env is;
        made = unit_of unit near_body.made near_body.env;
        near_units = ap (λ xs. xs ++ unit_of unit near_body.made near_body.env ∷ []) (near_grows.grown.units ∙ near_known.units);
        far_units = ap₂ (λ xs x. xs ++ x ∷ []) (far_grows.grown.units ∙ far_known.units) is;
      }
