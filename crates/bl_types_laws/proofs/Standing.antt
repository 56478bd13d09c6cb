-- What is made of a struct and of a unit stands.
use Rattle.std.proofs.Common.{◌≡◌, ℕ, ◌+◌, ◌≤◌, arith, true, ◌&&◌, List, [], ◌∷◌, ◌++◌, length, map, take, Some, refl, sym, ap, subst, ◌∙◌}
use Rattle.std.specs.Prelude.{nat_le}
use Rattle.std.specs.List.{list_all}
use Rattle.std.proofs.lemmas.Bool.{le-leb, leb-true}
use Rattle.std.proofs.lemmas.List.{take-map}
use Rattle.std.proofs.lemmas.Simd.{map-map}
use Rattle.std.proofs.lemmas.Bool.{and_from}
use Rattle.bl_tree.proofs.Basics.{and_first, and_second}
use Rattle.bl_tree.specs.Apart.{is_apart}
use Rattle.bl_tree.specs.declared.tree.Field.{Field}
use Rattle.bl_tree.specs.declared.tree.Stmt.{Stmt}
use Rattle.bl_tree.specs.declared.tree.StructDef.{StructDef}
use Rattle.bl_tree.specs.declared.tree.Unit.{Unit as UnitDef}
use Rattle.bl_tree.specs.declared.tree.Var.{Var}
use Rattle.bl_tree.specs.Depths.{block, depth_of, is_shallow, of_all}
use Rattle.bl_tree.specs.Program.{field_names, is_entry, names_of, parameters_of, roles_stand, struct_stands, unit_stands}
use Rattle.bl_tree.specs.Returns.{unit_returns}
use Rattle.bl_tree.specs.Types.{type_stands}
use Rattle.bl_tree.specs.Typing.{fits, is_inhabited, site_of}
use Rattle.bl_tree.specs.Words.{are_distinct, is_name}
use Rattle.bl_names_tree.specs.declared.item.NamedConstant.{NamedConstant}
use Rattle.bl_names_tree.specs.declared.item.NamedStruct.{NamedStruct}
use Rattle.bl_names_tree.specs.declared.item.NamedUnit.{NamedUnit}
use Rattle.bl_names_tree.specs.declared.item.NamedVar.{NamedVar}
use Rattle.bl_names_tree.specs.Placed.{DeclaredBefore, parameters, struct_placed}
use Rattle.bl_names_laws.specs.WellFormed.{body_apart, body_filled, body_shallow, fields_differ, fields_named, has_name, parameters_differ, variables_named}
use Rattle.bl_names_laws.specs.WellFormed.{field_names as named_fields, names_of as named_names, struct_stands as struct_keeps, unit_stands as unit_keeps}
use Rattle.bl_types.specs.declared.environment.Environment.{Environment}
use Rattle.bl_types.specs.Declarations.{after_struct, field_of, struct_of}
use Rattle.bl_types.specs.Statements.{Block, walked_block}
use Rattle.bl_types.specs.Units.{after_head, after_unit, drives, unit_of}
use Rattle.bl_types_laws.specs.Standing.{UnitPassed}
use Rattle.bl_types_laws.specs.Within.{known_in}
use Rattle.bl_types_laws.proofs.TypesStand.{struct_stands as fields_stand}
use Rattle.bl_types_laws.proofs.Premises.{Shapes}
use Rattle.bl_types_laws.proofs.Ends.{same_last}
use Rattle.bl_types_laws.proofs.Blocks.{inhabited_mapped}

-- ---- structs

fields_are : (env : Environment) (def : NamedStruct) → field_names (struct_of env def) ≡ named_fields def
fields_are env def = map-map (λ (field : Field). field.name) (field_of env) def.fields

pub struct_made : (def : NamedStruct) (env : Environment) → struct_keeps def ≡ true → struct_placed (known_in env) def ≡ true →
    (after_struct def env).failures ≡ [] → struct_stands (length env.structs) (struct_of env def) ≡ true
struct_made def env keeps placed none =
    let named : fields_named def ≡ true = and_first (fields_named def) (fields_differ def) keeps in
    let made : StructDef = struct_of env def in
    and_from (is_inhabited made.fields) ((list_all is_name (field_names made) && are_distinct (field_names made))
    && list_all (λ (field : Field). type_stands (length env.structs) field.ty) made.fields)
    (inhabited_mapped (field_of env) def.fields ∙ and_first (is_inhabited def.fields) (list_all is_name (named_fields def)) named)
    (and_from (list_all is_name (field_names made) && are_distinct (field_names made))
    (list_all (λ (field : Field). type_stands (length env.structs) field.ty) made.fields)
    (and_from (list_all is_name (field_names made)) (are_distinct (field_names made))
    (ap (list_all is_name) (fields_are env def) ∙ and_second (is_inhabited def.fields) (list_all is_name (named_fields def)) named)
    (ap are_distinct (fields_are env def) ∙ and_second (fields_named def) (fields_differ def) keeps))
    (fields_stand def env placed none))

-- ---- units

-- what is made of a unit
abbrev pub made_of : List NamedConstant → NamedUnit → Environment → UnitDef
made_of constants unit env =
    let body : Block Stmt = walked_block constants unit.vars unit.body (after_head unit env).env in unit_of unit body.made body.env

-- what holds of what is made of a unit in which no rule fails
pub record Passing (structs : List StructDef) (unit : NamedUnit) (earlier : List UnitDef) (made : UnitDef) : Type 0 where
  pub is_good : list_all (fits (site_of structs earlier made)) made.body ≡ true
  pub vars_stand : list_all (λ (var : Var). type_stands (length structs) var.ty) made.vars ≡ true
  pub roles : roles_stand made ≡ true
  pub names : names_of made.vars ≡ map (λ (var : NamedVar). var.name.text) unit.vars
  pub entry : drives unit ≡ true → is_entry (Some made) ≡ true
  pub returns : unit_returns made ≡ true

module _ (structs : List StructDef) (constants : List NamedConstant) (unit : NamedUnit) (env : Environment) (counts : DeclaredBefore)
    (passed : UnitPassed structs unit env counts (after_unit constants unit env).env) where
  same_made : passed.made ≡ made_of constants unit env
  same_made = same_last env.units (walked_block constants unit.vars unit.body (after_head unit env).env).env.units passed.made (made_of constants unit env)
      (sym passed.is_made)

  pub units_made : (after_unit constants unit env).env.units ≡ env.units ++ made_of constants unit env ∷ []
  units_made = passed.is_made ∙ ap (λ made. env.units ++ made ∷ []) same_made

  pub passing : Passing structs unit env.units (made_of constants unit env)
  passing = subst (Passing structs unit env.units) same_made (record {
    is_good = passed.is_good;
    vars_stand = passed.vars_stand;
    roles = passed.roles;
    names = passed.names;
    entry = passed.entry;
    returns = passed.returns;
  })

names_named : (vars : List NamedVar) → list_all has_name vars ≡ true → list_all is_name (map (λ (var : NamedVar). var.name.text) vars) ≡ true
names_named [] named = refl
names_named (var ∷ vars) named = and_from (has_name var) (list_all is_name (map (λ (var : NamedVar). var.name.text) vars))
    (and_first (has_name var) (list_all has_name vars) named) (names_named vars (and_second (has_name var) (list_all has_name vars) named))

parameter_names : (unit : NamedUnit) (made : UnitDef) (n : ℕ) → names_of made.vars ≡ map (λ (var : NamedVar). var.name.text) unit.vars →
    names_of (take n made.vars) ≡ named_names (take n unit.vars)
parameter_names unit made n names =
    sym (take-map (λ (var : Var). var.name) n made.vars) ∙ ap (take n) names ∙ take-map (λ (var : NamedVar). var.name.text) n unit.vars

-- where the same parameters are, and what is made of the body is shallow and apart, what is made of a unit stands
stands_by : (structs : List StructDef) (earlier : List UnitDef) (unit : NamedUnit) (made : UnitDef) → unit_keeps unit ≡ true →
    Passing structs unit earlier made → made.inputs + made.outputs ≡ parameters unit →
    is_shallow 200 made.body ≡ true → list_all is_apart made.body ≡ true → unit_stands structs earlier made ≡ true
stands_by structs earlier unit made keeps passing same shallow apart =
    let head = and_first (variables_named unit && parameters_differ unit) (body_filled unit && (body_shallow unit && body_apart unit)) keeps in
    let named : list_all is_name (names_of made.vars) ≡ true = ap (list_all is_name) passing.names
    ∙ names_named unit.vars (and_first (variables_named unit) (parameters_differ unit) head) in
    let differ : are_distinct (names_of (parameters_of made)) ≡ true =
    ap are_distinct (ap (λ n. names_of (take n made.vars)) same ∙ parameter_names unit made (parameters unit) passing.names)
    ∙ and_second (variables_named unit) (parameters_differ unit) head in
    and_from (roles_stand made && (list_all is_name (names_of made.vars) && are_distinct (names_of (parameters_of made))))
    (list_all (λ (var : Var). type_stands (length structs) var.ty) made.vars
    && (list_all (fits (site_of structs earlier made)) made.body && (unit_returns made && (is_shallow 200 made.body && list_all is_apart made.body))))
    (and_from (roles_stand made) (list_all is_name (names_of made.vars) && are_distinct (names_of (parameters_of made))) passing.roles
    (and_from (list_all is_name (names_of made.vars)) (are_distinct (names_of (parameters_of made))) named differ))
    (and_from (list_all (λ (var : Var). type_stands (length structs) var.ty) made.vars)
    (list_all (fits (site_of structs earlier made)) made.body && (unit_returns made && (is_shallow 200 made.body && list_all is_apart made.body)))
    passing.vars_stand
    (and_from (list_all (fits (site_of structs earlier made)) made.body) (unit_returns made && (is_shallow 200 made.body && list_all is_apart made.body))
    passing.is_good
    (and_from (unit_returns made) (is_shallow 200 made.body && list_all is_apart made.body) passing.returns
    (and_from (is_shallow 200 made.body) (list_all is_apart made.body) shallow apart))))

-- what is nested at most 100 deep is nested at most 200 deep
deeper_too : (body : List Stmt) → is_shallow 100 body ≡ true → is_shallow 200 body ≡ true
deeper_too body shallow =
    let d = (block 0 (map depth_of body)).blocks in
    let exprs = nat_le (of_all (map depth_of body)).exprs 200 in
    let less : d ≤ 100 = leb-true d 100 (and_first (nat_le d 100) exprs shallow) in
    and_from (nat_le d 200) exprs (le-leb d 200 (omega arith)) (and_second (nat_le d 100) exprs shallow)

-- what is made of a unit is nested no deeper than it may be itself
pub unit_shallow : Shapes → (constants : List NamedConstant) (unit : NamedUnit) (env : Environment) → unit_keeps unit ≡ true →
    is_shallow 100 (made_of constants unit env).body ≡ true
unit_shallow shapes constants unit env keeps =
    let rest = and_second (variables_named unit && parameters_differ unit) (body_filled unit && (body_shallow unit && body_apart unit)) keeps in
    let inner = and_second (body_filled unit) (body_shallow unit && body_apart unit) rest in
    shapes.shallow constants unit.vars unit.body (after_head unit env).env (and_first (body_shallow unit) (body_apart unit) inner)

pub unit_made : Shapes → (structs : List StructDef) (constants : List NamedConstant) (unit : NamedUnit) (env : Environment) → unit_keeps unit ≡ true →
    Passing structs unit env.units (made_of constants unit env) →
    unit_stands structs env.units (made_of constants unit env) ≡ true
unit_made shapes structs constants unit env keeps passing =
    let rest = and_second (variables_named unit && parameters_differ unit) (body_filled unit && (body_shallow unit && body_apart unit)) keeps in
    let inner = and_second (body_filled unit) (body_shallow unit && body_apart unit) rest in
    let head : Environment = (after_head unit env).env in
    stands_by structs env.units unit (made_of constants unit env) keeps passing refl
    (deeper_too (made_of constants unit env).body (unit_shallow shapes constants unit env keeps))
    (shapes.apart constants unit.vars unit.body head (and_second (body_shallow unit) (body_apart unit) inner))
