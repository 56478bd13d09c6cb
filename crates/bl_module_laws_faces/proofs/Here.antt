-- What is known before the items of a file that are still to come, behind any start.
use Rattle.std.proofs.Common.{◌≡◌, suc, ◌+◌, true, List, [], ◌∷◌, ◌++◌, length, map, Some, refl, sym, ap, subst, ◌∙◌, append-nil}
use Rattle.std.specs.List.{list_all}
use Rattle.std.proofs.lemmas.List.{map-append}
use Rattle.bl_tree.proofs.Basics.{and_first, and_second}
use Rattle.bl_module_laws_faces.proofs.Fresh.{Fresh, fresh_first, fresh_second}
use Rattle.bl_names.proofs.FitLemmas.{Fits, fits_first, fits_second}
use Rattle.bl_names.proofs.ItemLemmas.{struct_scopes, unit_scopes}
use Rattle.bl_names.proofs.PastLemmas.{enter-behind}
use Rattle.bl_names.proofs.PlacedExpr.{earlier}
use Rattle.bl_names.proofs.PlacedItem.{UnitHolds, struct_is, unit_holds}
use Rattle.bl_names.proofs.PlacedStmt.{Within, closed_is}
use Rattle.bl_names.proofs.StillLemmas.{after-append, still_value}
use Rattle.bl_names.specs.Named.{along, block_piece, constants_in_unit, constants_of, named_constant, named_struct, named_unit, opened, params_piece}
use Rattle.bl_names.specs.Named.{structs_of, units_of}
use Rattle.bl_names_scopes.specs.declared.kind.Kind.TheVariants as kinds
use Rattle.bl_names_scopes.specs.Marks.{constant_marks, declares, expr_marks, kind_of_unit, marks_of, optional, struct_marks, type_marks, unit_marks}
use Rattle.bl_names_scopes.specs.Scopes.{Scopes, after, enter}
use Rattle.bl_names_tree.specs.declared.item.Item.TheVariants as next_kind
use Rattle.bl_names_tree.specs.declared.item.NamedConstant.{NamedConstant}
use Rattle.bl_names_tree.specs.declared.item.NamedStruct.{NamedStruct}
use Rattle.bl_names_tree.specs.declared.item.NamedUnit.{NamedUnit}
use Rattle.bl_names_tree.specs.declared.named.Named.{Named}
use Rattle.bl_names_tree.specs.Placed.{DeclaredBefore, constant_placed, struct_placed, unit_step}
use Rattle.bl_parse_tree.specs.declared.item.RawItem.{RawItem}
use Rattle.bl_parse_tree.specs.declared.item.RawItem.TheVariants as item
use Rattle.bl_parse_tree.specs.declared.item.RawStruct.{RawStruct}
use Rattle.bl_parse_tree.specs.declared.item.RawUnit.{RawUnit}
use Rattle.bl_parse_tree.specs.declared.stmt.RawConstant.{RawConstant}
use Rattle.bl_parse_tree.specs.Names.{item_stands, unit_stands}
use Rattle.bl_tree.specs.declared.tree.StructDef.{StructDef}
use Rattle.bl_tree.specs.declared.tree.Unit.{Unit as UnitDef}
use Rattle.bl_tree.specs.declared.tree.UnitKind.{UnitKind}
use Rattle.bl_tree.specs.declared.tree.UnitKind.TheVariants as unit
use Rattle.bl_types.specs.declared.environment.Environment.{Environment}
use Rattle.bl_types.specs.Declarations.{after_constant, after_struct, constant_of, initial, struct_of}
use Rattle.bl_types.specs.Programs.{after_item}
use Rattle.bl_types.specs.Units.{after_unit}
use Rattle.bl_types_laws.proofs.Ends.{ends_first, ends_on}
use Rattle.bl_types_laws.proofs.ItemNames.{unit_suits}
use Rattle.bl_types_laws.proofs.Items.{constant_between, struct_between}
use Rattle.bl_types_laws.proofs.Onward.{constant_onward, constant_there, struct_onward, unit_onward}
use Rattle.bl_types_laws.proofs.Reached.{At, constant_next, no_more, one_more, same_counts, struct_next, unit_next}
use Rattle.bl_types_laws.proofs.Standing.{made_of, units_made}
use Rattle.bl_types_laws.proofs.StmtNames.{value_is}
use Rattle.bl_types_laws.proofs.Suits.{Suits}
use Rattle.bl_types_laws.proofs.Told.{Told, kinds_of, told_declared, told_more}
use Rattle.bl_types_laws.proofs.Units.{unit_passes}
use Rattle.bl_types_laws.specs.Standing.{UnitPassed, unit_named}
use Rattle.bl_types_laws.specs.Within.{calls_functions, known_in}
use Rattle.bl_types_laws.proofs.ItemNames.{unit_told}

-- the items that are still to come, whose names pass, and what is known before them
pub record Here (named : Named) (scopes : Scopes) (items : List RawItem) (env : Environment) : Type 0 where
  pub at : At named scopes items env
  pub told : Told (kinds_of env.units) scopes
  pub stand : list_all item_stands items ≡ true
  pub fresh : Fresh scopes (marks_of items)

-- ---- behind a struct

module _ (named : Named) (def : RawStruct) (items : List RawItem) (scopes : Scopes) (env : Environment)
    (here : Here named scopes (item.Struct def ∷ items) env) where
  abbrev new_struct : NamedStruct
  new_struct = named_struct scopes def

  abbrev behind_struct : Scopes
  behind_struct = after scopes (struct_marks def)

  pub struct_chosen : after_item named next_kind.Struct env ≡ after_struct new_struct env
  struct_chosen = struct_next named scopes (item.Struct def ∷ items) env here.at new_struct refl

  pub struct_fits : Fits scopes (struct_marks def)
  struct_fits = fits_first scopes (struct_marks def) (marks_of items) here.at.fits

  pub struct_fresh : Fresh scopes (struct_marks def)
  struct_fresh = fresh_first scopes (struct_marks def) (marks_of items) here.fresh

  struct_there : struct_placed (known_in env) new_struct ≡ true
  struct_there = ap (λ (e : DeclaredBefore). struct_placed e new_struct) here.at.counts ∙ struct_is scopes def here.at.below struct_fits

  pub here_struct : (after_struct new_struct env).failures ≡ [] → Here named behind_struct items (after_struct new_struct env).env
  here_struct none =
      let at = here.at in
      let on = struct_onward scopes def at.below at.none in
      record {
        at = record {
          below = on.below;
          none = on.none;
          fits = fits_second scopes (struct_marks def) (marks_of items) at.fits;
          structs = ends_on named.structs scopes.counts.structs behind_struct.counts.structs (new_struct ∷ []) (along structs_of behind_struct items)
              on.more_structs at.structs;
          constants = ends_on named.constants scopes.counts.constants behind_struct.counts.constants [] (along constants_of behind_struct items)
              on.more_constants at.constants;
          units = ends_on named.units scopes.counts.units behind_struct.counts.units [] (along units_of behind_struct items) on.more_units at.units;
          counts = same_counts (after_struct new_struct env).env behind_struct
              (one_more env.structs (struct_of env new_struct) scopes.counts.structs behind_struct.counts.structs
              (ap (λ (e : DeclaredBefore). e.structs) at.counts) on.more_structs)
              (no_more (length env.constants) scopes.counts.constants behind_struct.counts.constants (ap (λ (e : DeclaredBefore). e.constants) at.counts)
              on.more_constants)
              (no_more (length env.units) scopes.counts.units behind_struct.counts.units (ap (λ (e : DeclaredBefore). e.units) at.counts) on.more_units)
              (ap length at.between.vars ∙ sym on.none);
          between = struct_between new_struct env at.between struct_there none;
          kinds = at.kinds ∙ ap (map (λ (unit : NamedUnit). unit.kind)) (sym (append-nil at.units.before));
        };
        told = subst (Told (kinds_of env.units)) (struct_scopes scopes def) (told_declared (kinds_of env.units) scopes def.name kinds.Struct refl here.told);
        stand = and_second (item_stands (item.Struct def)) (list_all item_stands items) here.stand;
        fresh = fresh_second scopes (struct_marks def) (marks_of items) here.fresh;
      }

-- ---- behind a constant

module _ (named : Named) (def : RawConstant) (items : List RawItem) (scopes : Scopes) (env : Environment)
    (here : Here named scopes (item.Constant def ∷ items) env) where
  abbrev new_constant : NamedConstant
  new_constant = named_constant scopes def

  abbrev behind_constant : Scopes
  behind_constant = after scopes (constant_marks def)

  pub constant_chosen : after_item named next_kind.Constant env ≡ after_constant new_constant env
  constant_chosen = constant_next named scopes (item.Constant def ∷ items) env here.at new_constant refl

  constant_fits : Fits scopes (constant_marks def)
  constant_fits = fits_first scopes (constant_marks def) (marks_of items) here.at.fits

  pub constant_fresh : Fresh scopes (constant_marks def)
  constant_fresh = fresh_first scopes (constant_marks def) (marks_of items) here.fresh

  -- a constant is visible behind its value
  pub constant_scopes : enter scopes (declares def.name kinds.Constant) ≡ behind_constant
  constant_scopes =
      enter-behind scopes (optional type_marks def.ty ++ expr_marks def.value) def.name kinds.Constant (still_value def.ty (Some def.value))

  constant_placed_there : constant_placed (known_in env) new_constant ≡ true
  constant_placed_there = ap (λ (e : DeclaredBefore). constant_placed e new_constant) here.at.counts
      ∙ constant_there named.constants scopes def here.at.below constant_fits
      (ends_first named.constants scopes.counts.constants (new_constant ∷ []) (along constants_of behind_constant items) here.at.constants)

  constant_calls_functions : calls_functions env.units new_constant.value ≡ true
  constant_calls_functions = value_is env.units scopes def here.told
      (fits_first scopes (optional type_marks def.ty ++ expr_marks def.value) (declares def.name kinds.Constant ∷ []) constant_fits)

  pub here_constant : (after_constant new_constant env).failures ≡ [] → Here named behind_constant items (after_constant new_constant env).env
  here_constant none =
      let at = here.at in
      let on = constant_onward scopes def at.below at.none in
      record {
        at = record {
          below = on.below;
          none = on.none;
          fits = fits_second scopes (constant_marks def) (marks_of items) at.fits;
          structs = ends_on named.structs scopes.counts.structs behind_constant.counts.structs [] (along structs_of behind_constant items) on.more_structs
              at.structs;
          constants = ends_on named.constants scopes.counts.constants behind_constant.counts.constants (new_constant ∷ [])
              (along constants_of behind_constant items) on.more_constants at.constants;
          units = ends_on named.units scopes.counts.units behind_constant.counts.units [] (along units_of behind_constant items) on.more_units at.units;
          counts = same_counts (after_constant new_constant env).env behind_constant
              (no_more (length env.structs) scopes.counts.structs behind_constant.counts.structs (ap (λ (e : DeclaredBefore). e.structs) at.counts)
              on.more_structs)
              (one_more env.constants (constant_of new_constant.value (initial env new_constant.ty new_constant.value).valued) scopes.counts.constants
              behind_constant.counts.constants (ap (λ (e : DeclaredBefore). e.constants) at.counts) on.more_constants)
              (no_more (length env.units) scopes.counts.units behind_constant.counts.units (ap (λ (e : DeclaredBefore). e.units) at.counts) on.more_units)
              (ap length at.between.vars ∙ sym on.none);
          between = constant_between new_constant env at.between constant_placed_there constant_calls_functions none;
          kinds = at.kinds ∙ ap (map (λ (unit : NamedUnit). unit.kind)) (sym (append-nil at.units.before));
        };
        told = subst (Told (kinds_of env.units)) constant_scopes (told_declared (kinds_of env.units) scopes def.name kinds.Constant refl here.told);
        stand = and_second (item_stands (item.Constant def)) (list_all item_stands items) here.stand;
        fresh = fresh_second scopes (constant_marks def) (marks_of items) here.fresh;
      }

-- ---- behind a unit

abbrev pub kind_made : UnitDef → UnitKind
kind_made unit = unit.kind

abbrev pub kind_named : NamedUnit → UnitKind
kind_named unit = unit.kind

pub kinds_long : (units : List UnitDef) → length (kinds_of units) ≡ length units
kinds_long [] = refl
kinds_long (unit ∷ units) = ap (λ n. suc n) (kinds_long units)

same_kinds : (units before_units : List UnitDef) (before : List NamedUnit) (made : UnitDef) (unit : NamedUnit) → units ≡ before_units ++ made ∷ [] →
    map kind_made before_units ≡ map kind_named before → made.kind ≡ unit.kind →
    map kind_made units ≡ map kind_named (before ++ unit ∷ [])
same_kinds units before_units before made unit is same kind =
    ap (map kind_made) is ∙ map-append kind_made before_units (made ∷ []) ∙ (λ i. same i ++ kind i ∷ [])
    ∙ sym (map-append kind_named before (unit ∷ []))

module _ (named : Named) (def : RawUnit) (items : List RawItem) (scopes : Scopes) (env : Environment)
    (here : Here named scopes (item.Unit def ∷ items) env) where
  abbrev new_unit : NamedUnit
  new_unit = named_unit scopes def

  abbrev behind_unit : Scopes
  behind_unit = after scopes (unit_marks def)

  abbrev inside : List NamedConstant
  inside = constants_in_unit scopes def

  -- the scopes at the end of the unit
  abbrev pub body_end : Scopes
  body_end = after (after (opened scopes) (params_piece def).marks) (block_piece def.body).marks

  pub unit_chosen : after_item named next_kind.Unit env ≡ after_unit named.constants new_unit env
  unit_chosen = unit_next named scopes (item.Unit def ∷ items) env here.at new_unit refl

  pub unit_fits : Fits scopes (unit_marks def)
  unit_fits = fits_first scopes (unit_marks def) (marks_of items) here.at.fits

  pub unit_fresh : Fresh scopes (unit_marks def)
  unit_fresh = fresh_first scopes (unit_marks def) (marks_of items) here.fresh

  constants_within : Within named.constants scopes.counts.constants inside
  constants_within = ends_first named.constants scopes.counts.constants inside (along constants_of behind_unit items) here.at.constants

  suits : Suits env.units (unit_named named.constants env.units new_unit) (opened scopes) body_end new_unit.vars inside
  suits = unit_suits env.units named.constants scopes def here.told here.at.none unit_fits
      (and_first (unit_stands def) (list_all item_stands items) here.stand) constants_within

  pub outer_still : body_end.outer ≡ scopes.inner ∷ scopes.outer
  outer_still = suits.outer

  -- the unit is visible behind its body
  pub unit_behind : enter (record scopes { counts = body_end.counts }) (declares def.name (kind_of_unit def.kind)) ≡ behind_unit
  unit_behind =
      ap (λ s. enter s (declares def.name (kind_of_unit def.kind))) (sym (closed_is scopes body_end suits.outer))
      ∙ unit_scopes scopes body_end def (sym (after-append (opened scopes) (params_piece def).marks (block_piece def.body).marks))

  holds : UnitHolds (unit_step named.constants new_unit (earlier scopes)) scopes behind_unit inside
  holds = unit_holds scopes def named.constants here.at.below here.at.none unit_fits constants_within

  pub step_there : unit_step named.constants new_unit (known_in env) ≡ Some (earlier behind_unit)
  step_there = ap (λ (e : DeclaredBefore). unit_step named.constants new_unit e) here.at.counts ∙ holds.steps

  pub is_named : unit_named named.constants env.units new_unit ≡ true
  is_named = suits.named

  -- where these structs are known after the whole program
  pub passed : (structs later : List StructDef) → structs ≡ env.structs ++ later → (after_unit named.constants new_unit env).failures ≡ [] →
      UnitPassed structs new_unit env (earlier behind_unit) (after_unit named.constants new_unit env).env
  passed structs later front none = unit_passes named.constants new_unit env structs later front here.at.between is_named (earlier behind_unit) step_there none

  passed_here : (after_unit named.constants new_unit env).failures ≡ [] →
      UnitPassed env.structs new_unit env (earlier behind_unit) (after_unit named.constants new_unit env).env
  passed_here = passed env.structs [] (sym (append-nil env.structs))

  pub structs_still : (after_unit named.constants new_unit env).failures ≡ [] → (after_unit named.constants new_unit env).env.structs ≡ env.structs
  structs_still none = (passed_here none).same_structs

  pub units_are : (after_unit named.constants new_unit env).failures ≡ [] →
      (after_unit named.constants new_unit env).env.units ≡ env.units ++ made_of named.constants new_unit env ∷ []
  units_are none = units_made env.structs named.constants new_unit env (earlier behind_unit) (passed_here none)

  told_behind : Told (kinds_of env.units ++ (def.kind ∷ [])) behind_unit
  told_behind =
      let count : body_end.counts.units ≡ length (kinds_of env.units) =
      suits.same_units ∙ ap (λ (e : DeclaredBefore). e.units) (sym here.at.counts) ∙ sym (kinds_long env.units) in
      subst (Told (kinds_of env.units ++ (def.kind ∷ []))) unit_behind
      (told_declared (kinds_of env.units ++ (def.kind ∷ [])) (record scopes { counts = body_end.counts }) def.name (kind_of_unit def.kind)
      (unit_told (kinds_of env.units) def.kind body_end.counts count) (told_more (kinds_of env.units) (def.kind ∷ []) scopes here.told))

  pub here_unit : (after_unit named.constants new_unit env).failures ≡ [] → Here named behind_unit items (after_unit named.constants new_unit env).env
  here_unit none =
      let at = here.at in
      let on = unit_onward named.constants scopes behind_unit new_unit inside holds in
      let passed_so = passed_here none in
      let new = (after_unit named.constants new_unit env).env in
      record {
        at = record {
          below = on.below;
          none = on.none;
          fits = fits_second scopes (unit_marks def) (marks_of items) at.fits;
          structs = ends_on named.structs scopes.counts.structs behind_unit.counts.structs [] (along structs_of behind_unit items) on.more_structs at.structs;
          constants = ends_on named.constants scopes.counts.constants behind_unit.counts.constants inside (along constants_of behind_unit items)
              on.more_constants at.constants;
          units = ends_on named.units scopes.counts.units behind_unit.counts.units (new_unit ∷ []) (along units_of behind_unit items) on.more_units at.units;
          counts = passed_so.counts_are;
          between = passed_so.between;
          kinds = same_kinds new.units env.units at.units.before (made_of named.constants new_unit env) new_unit (units_are none) at.kinds refl;
        };
        told = subst (λ kinds. Told kinds behind_unit)
            (sym (ap kinds_of (units_are none) ∙ map-append kind_made env.units (made_of named.constants new_unit env ∷ []))) told_behind;
        stand = and_second (item_stands (item.Unit def)) (list_all item_stands items) here.stand;
        fresh = fresh_second scopes (unit_marks def) (marks_of items) here.fresh;
      }
