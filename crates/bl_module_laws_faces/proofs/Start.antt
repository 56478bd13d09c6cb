-- What faces that stand declare, as a text behind them begins with it.
use Rattle.std.proofs.Common.{◌≡◌, ℕ, ◌+◌, ◌<◌, true, List, [], ◌∷◌, ◌++◌, length, map, Option, Some, None, refl, sym, ap, subst, ◌∙◌, append-nil}
use Rattle.std.proofs.Common.{append_assoc, arith}
use Rattle.std.specs.Prelude.{Bool, ℤ, ◌&&◌, nat_le, nat_lt, slice_get, slice_index}
use Rattle.std.specs.List.{list_all}
use Rattle.std.proofs.lemmas.Bool.{le-leb, lt-ltb}
use Rattle.std.proofs.lemmas.List.{length-append, length-map, map-append}
use Rattle.std.proofs.lemmas.List.Folds.{list_all-append}
use Rattle.std.proofs.lemmas.Bool.{and_from}
use Rattle.bl_tree.proofs.Basics.{and_first, and_second, get_seam, none_from, plus_none}
use Rattle.bl_face.specs.declared.item.FaceBase.{FaceBase}
use Rattle.bl_face.specs.declared.item.FaceBase.TheVariants as base
use Rattle.bl_face.specs.declared.item.FaceField.{FaceField}
use Rattle.bl_face.specs.declared.item.FaceItem.{FaceItem}
use Rattle.bl_face.specs.declared.item.FaceItem.TheVariants as shows
use Rattle.bl_face.specs.declared.item.FaceType.{FaceType}
use Rattle.bl_limits_measures.specs.Types.{nesting_by, struct_nestings}
use Rattle.bl_module.specs.Behind.{after_item, after_items, array_of, base_stands, before_items, depth_of, fields_depth, gives_once, heading_of, is_length}
use Rattle.bl_module.specs.Behind.{item_stands, items_stand, outside_text, resolved_base, resolved_field, resolved_head, resolved_param, resolved_struct}
use Rattle.bl_module.specs.Behind.{resolved_type, struct_position, type_depth, type_stands, types_stand}
use Rattle.bl_module.specs.declared.names.Referent.{Referent}
use Rattle.bl_module.specs.declared.names.Referent.TheVariants as referent
use Rattle.bl_module.specs.declared.walk.Walk.{Walk}
use Rattle.bl_module.specs.Names.{DeclaredNames, are_new, is_new, referent_of, with_fields}
use Rattle.bl_module.specs.Rules.{known_at}
use Rattle.bl_module_laws_faces.proofs.Adding.{one_behind}
use Rattle.bl_module_laws_faces.proofs.Constants.{no_constant, no_struct}
use Rattle.bl_module_laws_faces.proofs.Depths.{depth_at}
use Rattle.bl_module_laws_faces.proofs.Here.{kind_made, kind_named, kinds_long}
use Rattle.bl_module_laws_faces.proofs.Lookups.{absent_alike, texts_back}
use Rattle.bl_module_laws_faces.proofs.Scoped.{NamesAgree, names_next}
use Rattle.bl_module_laws_faces.proofs.Types.{DepthsTold, some_struct, type_nests}
use Rattle.bl_module_laws_faces.proofs.Units.{no_kind}
use Rattle.bl_names.proofs.BelowLemmas.{Below, Grown, constant_below, declare_below, struct_below}
use Rattle.bl_names.proofs.StillLemmas.{after-append}
use Rattle.bl_names.specs.Named.{blank_constant, blank_struct, blank_unit, blanks}
use Rattle.bl_names_scopes.specs.declared.heading.Heading.{Heading}
use Rattle.bl_names_scopes.specs.declared.kind.Kind.{Kind}
use Rattle.bl_names_scopes.specs.declared.kind.Kind.TheVariants as kind
use Rattle.bl_names_scopes.specs.declared.scopes.Counts.{Counts}
use Rattle.bl_names_scopes.specs.declared.scopes.Declaration.{Declaration}
use Rattle.bl_names_scopes.specs.Marks.{declares, kind_of_unit}
use Rattle.bl_names_scopes.specs.Scopes.{Scopes, after, counted, enter, file_scope, found, heading_mark, opened_by}
use Rattle.bl_parse_tree.specs.declared.name.Name.{Name}
use Rattle.bl_tree.proofs.ReduceLemmas.{joined-append}
use Rattle.bl_tree.specs.declared.scalar.Scalar.{Scalar as ScalarType}
use Rattle.bl_tree.specs.declared.tree.Field.{Field}
use Rattle.bl_tree.specs.declared.tree.Role.TheVariants as role
use Rattle.bl_tree.specs.declared.tree.StructDef.{StructDef}
use Rattle.bl_tree.specs.declared.tree.Ty.{Ty, fold-roll-Ty}
use Rattle.bl_tree.specs.declared.tree.Ty.TheOpen.{Ty-F}
use Rattle.bl_tree.specs.declared.tree.Unit.{Unit as UnitDef}
use Rattle.bl_tree.specs.declared.tree.UnitKind.{UnitKind}
use Rattle.bl_tree.specs.declared.tree.UnitKind.TheVariants.{Function, Activity}
use Rattle.bl_tree.specs.Reduce.{greatest, joined}
use Rattle.bl_tree.specs.Scalar.{in_range}
use Rattle.bl_tree.specs.Types.{type_stands as typed_stands, type_stands_level}
use Rattle.bl_types.specs.declared.environment.Constant.{Constant as KnownConstant}
use Rattle.bl_types.specs.declared.environment.Variable.{Variable}
use Rattle.bl_types_laws.proofs.Told.{Told, kinds_of, told_declared, told_more}
use Rattle.bl_types_laws.proofs.Turns.{push_further}
use Rattle.bl_types_laws.specs.Standing.{BetweenUnits, VariableKnown}
use Rattle.bl_types_laws.specs.Within.{ConstantStands, has_parameters}
use Rattle.bl_names.proofs.PlacedItem.{unit_counted, unit_declared}
use Rattle.bl_module_laws_faces.proofs.Elements.{length_next}
use Rattle.bl_types_laws.proofs.ItemNames.{unit_told}
use Rattle.bl_types_laws.proofs.ItemTurns.{no_struct as no_struct_there}

-- ---- a heading more

opened_next : (headings : List Heading) (heading : Heading) → enter (opened_by headings) (heading_mark heading) ≡ opened_by (headings ++ heading ∷ [])
opened_next headings heading =
    sym (after-append file_scope (map heading_mark headings) (heading_mark heading ∷ []))
    ∙ ap (after file_scope) (sym (map-append heading_mark headings (heading ∷ [])))

blanks_next : {A : Type 0} (blank : Kind → Name → List A) (headings : List Heading) (heading : Heading) →
    blanks blank (headings ++ heading ∷ []) ≡ blanks blank headings ++ blank heading.kind heading.name
blanks_next {A} blank headings heading =
    let of : Heading → List A = λ heading. blank heading.kind heading.name in
    ap joined (map-append of headings (heading ∷ []))
    ∙ joined-append (map of headings) (of heading ∷ [])
    ∙ ap (λ rest. joined (map of headings) ++ rest) (append-nil (of heading))

abbrev name_at : List ℕ → Name
name_at text = record { text = text; place = outside_text }

-- ---- types that stand

array_stands : (n : ℕ) (lengths : List ℕ) (ty : Ty) → list_all is_length lengths ≡ true → typed_stands n ty ≡ true →
    typed_stands n (array_of lengths ty) ≡ true
array_stands n [] ty are stands = stands
array_stands n (length ∷ lengths) ty are stands =
    fold-roll-Ty Bool (type_stands_level n) (Ty-F.Array length (array_of lengths ty))
    ∙ and_from (is_length length) (typed_stands n (array_of lengths ty)) (and_first (is_length length) (list_all is_length lengths) are)
    (array_stands n lengths ty (and_second (is_length length) (list_all is_length lengths) are) stands)

module _ (nestings : List ℕ) (n : ℕ) (names : DeclaredNames) (told : DepthsTold nestings n names) where
  base_is_there : (of : FaceBase) → base_stands names of ≡ true → typed_stands n (resolved_base names of) ≡ true
  base_is_there (base.Scalar s) stands = fold-roll-Ty Bool (type_stands_level n) (Ty-F.Scalar s)
  base_is_there (base.Struct text) stands =
      let found = some_struct (referent_of names text) stands in
      fold-roll-Ty Bool (type_stands_level n) (Ty-F.Struct (struct_position (referent_of names text)))
      ∙ ap (λ (found : Option Referent). nat_lt (struct_position found) n) found.2
      ∙ lt-ltb found.0 n (told text found.0 found.1 found.2).1

  -- a type of a face that stands names structs that are declared, and is nested as is told
  pub record IsThere (ty : FaceType) : Type 0 where
    pub stands : typed_stands n (resolved_type names ty) ≡ true
    pub nests : nesting_by nestings (resolved_type names ty) ≡ type_depth names ty

  is_there : (ty : FaceType) → type_stands names ty ≡ true → IsThere ty
  is_there ty stands =
      let first = and_first (base_stands names ty.base && list_all is_length ty.lengths) (nat_le (type_depth names ty) 100) stands in
      let based = and_first (base_stands names ty.base) (list_all is_length ty.lengths) first in
      record {
        stands = array_stands n ty.lengths (resolved_base names ty.base) (and_second (base_stands names ty.base) (list_all is_length ty.lengths) first)
            (base_is_there ty.base based);
        nests = type_nests nestings n names told ty based;
      }

  fields_there : (fields : List FaceField) → types_stand names fields ≡ true →
      list_all (λ (field : Field). typed_stands n field.ty) (map (resolved_field names) fields) ≡ true
  fields_there [] stand = refl
  fields_there (field ∷ fields) stand =
      and_from (typed_stands n (resolved_type names field.ty)) (list_all (λ (field : Field). typed_stands n field.ty) (map (resolved_field names) fields))
      (is_there field.ty (and_first (type_stands names field.ty) (types_stand names fields) stand)).stands
      (fields_there fields (and_second (type_stands names field.ty) (types_stand names fields) stand))

  fields_nest : (fields : List FaceField) → types_stand names fields ≡ true →
      map (λ (field : Field). nesting_by nestings field.ty) (map (resolved_field names) fields) ≡ map (λ (field : FaceField). type_depth names field.ty) fields
  fields_nest [] stand = refl
  fields_nest (field ∷ fields) stand = λ i.
      (is_there field.ty (and_first (type_stands names field.ty) (types_stand names fields) stand)).nests i
      ∷ fields_nest fields (and_second (type_stands names field.ty) (types_stand names fields) stand) i

-- ---- what begins a text

-- what a walk over faces declares is what a text begins with, whose scope is this
pub record Begins (nestings : List ℕ) (walk : Walk) (scopes : Scopes) : Type 0 where
  pub names : NamesAgree nestings (length walk.behind.structs) walk.names scopes
  pub below : Below scopes
  pub none : scopes.counts.variables ≡ 0
  pub structs : length walk.behind.structs ≡ scopes.counts.structs
  pub constants : length walk.behind.constants ≡ scopes.counts.constants
  pub units : length walk.behind.units ≡ scopes.counts.units
  pub between : BetweenUnits (known_at walk.behind)
  pub told : Told (kinds_of walk.behind.units) scopes
  pub blank_structs : length (blanks blank_struct walk.behind.headings) ≡ scopes.counts.structs
  pub blank_constants : length (blanks blank_constant walk.behind.headings) ≡ scopes.counts.constants
  pub blank_units : length (blanks blank_unit walk.behind.headings) ≡ scopes.counts.units
  pub kinds : kinds_of walk.behind.units ≡ map kind_named (blanks blank_unit walk.behind.headings)

abbrev pub BeginsWith : List ℕ → Walk → Type 0
BeginsWith nestings walk = Begins nestings walk (opened_by walk.behind.headings)

no_variable : (n k : ℕ) (known : Variable) → slice_get [] k ≡ Some known → VariableKnown n known
no_variable n k known is = absurd (cc)

more_blanks : {A : Type 0} (blank : Kind → Name → List A) (headings : List Heading) (heading : Heading) (n m : ℕ) →
    length (blanks blank headings) ≡ n → m ≡ n + length (blank heading.kind heading.name) → length (blanks blank (headings ++ heading ∷ [])) ≡ m
more_blanks blank headings heading n m one two =
    ap length (blanks_next blank headings heading) ∙ length-append (blanks blank headings) (blank heading.kind heading.name)
    ∙ ap (λ n. n + length (blank heading.kind heading.name)) one ∙ sym two

-- ---- a unit more

unit_grown : (of : UnitKind) (counts : Counts) → counts.variables ≡ 0 → Grown counts (counted counts (kind_of_unit of))
unit_grown Function counts none kind.Struct = omega arith
unit_grown Function counts none kind.Constant = omega arith
unit_grown Function counts none kind.Variable = omega (arith, none)
unit_grown Function counts none kind.Function = omega arith
unit_grown Function counts none kind.Activity = omega arith
unit_grown Function counts none kind.Field = omega arith
unit_grown Activity counts none kind.Struct = omega arith
unit_grown Activity counts none kind.Constant = omega arith
unit_grown Activity counts none kind.Variable = omega (arith, none)
unit_grown Activity counts none kind.Function = omega arith
unit_grown Activity counts none kind.Activity = omega arith
unit_grown Activity counts none kind.Field = omega arith

no_blank_struct : (of : UnitKind) (name : Name) (n : ℕ) → n ≡ n + length (blank_struct (kind_of_unit of) name)
no_blank_struct Function name n = omega arith
no_blank_struct Activity name n = omega arith

no_blank_constant : (of : UnitKind) (name : Name) (n : ℕ) → n ≡ n + length (blank_constant (kind_of_unit of) name)
no_blank_constant Function name n = omega arith
no_blank_constant Activity name n = omega arith

one_blank_unit : (of : UnitKind) (name : Name) (n : ℕ) → n + 1 ≡ n + length (blank_unit (kind_of_unit of) name)
one_blank_unit Function name n = omega arith
one_blank_unit Activity name n = omega arith

blank_kind : (of : UnitKind) (name : Name) → map kind_named (blank_unit (kind_of_unit of) name) ≡ of ∷ []
blank_kind Function name = refl
blank_kind Activity name = refl

module _ (nestings : List ℕ) (walk : Walk) (scopes : Scopes) (begins : Begins nestings walk scopes) where
  absent : (text : List ℕ) → is_new walk.names text ≡ true → found scopes.inner text ≡ None
  absent text new =
      absent_alike text walk.names scopes.inner (texts_back scopes.inner walk.names begins.names.texts) (none_from (referent_of walk.names text) new)

  -- ---- a struct

  module _ (name : List ℕ) (fields : List FaceField) (stands : item_stands walk.names (shows.Struct name fields) ≡ true) where
    abbrev n : ℕ
    n = length walk.behind.structs

    abbrev made : StructDef
    made = resolved_struct walk.names name fields

    abbrev next : Walk
    next = after_item walk (shows.Struct name fields)

    front : (is_new walk.names name && are_new [] fields) ≡ true
    front = and_first (is_new walk.names name && are_new [] fields) (types_stand walk.names fields && nat_le (1 + fields_depth walk.names fields) 100) stands

    back : (types_stand walk.names fields && nat_le (1 + fields_depth walk.names fields) 100) ≡ true
    back = and_second (is_new walk.names name && are_new [] fields) (types_stand walk.names fields && nat_le (1 + fields_depth walk.names fields) 100) stands

    types_are : types_stand walk.names fields ≡ true
    types_are = and_first (types_stand walk.names fields) (nat_le (1 + fields_depth walk.names fields) 100) back

    fields_are : list_all (λ (field : Field). typed_stands n field.ty) made.fields ≡ true
    fields_are = fields_there nestings n walk.names begins.names.told fields types_are

    begins_struct : (whole rest : List StructDef) → nestings ≡ struct_nestings whole → whole ≡ next.behind.structs ++ rest →
        Begins nestings next (enter scopes (declares (name_at name) kind.Struct))
    begins_struct whole rest are first =
        let there : slice_get whole n ≡ Some made =
        ap (λ structs. slice_get structs n) (first ∙ append_assoc walk.behind.structs (made ∷ []) rest) ∙ get_seam walk.behind.structs made rest in
        let deep : slice_index nestings n ≡ 1 + fields_depth walk.names fields =
        ap (λ known. slice_index known n) are ∙ depth_at whole n made there fields_are
        ∙ ap (λ known. 1 + greatest (map (λ (field : Field). nesting_by known field.ty) made.fields)) (sym are)
        ∙ ap (λ depths. 1 + greatest depths) (fields_nest nestings n walk.names begins.names.told fields types_are) in
        let more = one_behind walk.behind.structs made in
        record {
          names = names_next nestings n (length next.behind.structs) walk.names scopes scopes.counts (name_at name) kind.Struct
              (referent.Struct n (1 + fields_depth walk.names fields)) (omega (arith, more)) begins.names
              (absent name (and_first (is_new walk.names name) (are_new [] fields) front))
              (λ suited. (1 + fields_depth walk.names fields, ap (λ n. referent.Struct n (1 + fields_depth walk.names fields)) begins.structs))
              (λ at depth is.
              let is_at : n ≡ at = ap (λ r. struct_position (Some r)) is in
              let is_deep : 1 + fields_depth walk.names fields ≡ depth = ap (λ r. depth_of (Some r)) is in
              (sym is_deep ∙ sym deep ∙ ap (slice_index nestings) is_at, omega (arith, is_at, more)));
          below = struct_below scopes (name_at name) begins.below;
          none = begins.none;
          structs = length_next walk.behind.structs made scopes.counts.structs begins.structs;
          constants = begins.constants;
          units = begins.units;
          between = record {
            vars = refl;
            known = record {
              vars = no_variable (length next.behind.structs);
              fields = push_further (λ (k : ℕ) (def : StructDef). list_all (λ (field : Field). typed_stands k field.ty) def.fields ≡ true) walk.behind.structs
                  made begins.between.known.fields fields_are;
              constants = begins.between.known.constants;
            };
            heads = begins.between.heads;
          };
          told = told_declared (kinds_of walk.behind.units) scopes (name_at name) kind.Struct refl begins.told;
          blank_structs = more_blanks blank_struct walk.behind.headings (heading_of name kind.Struct) scopes.counts.structs (scopes.counts.structs + 1)
              begins.blank_structs refl;
          blank_constants = more_blanks blank_constant walk.behind.headings (heading_of name kind.Struct) scopes.counts.constants scopes.counts.constants
              begins.blank_constants (plus_none scopes.counts.constants);
          blank_units = more_blanks blank_unit walk.behind.headings (heading_of name kind.Struct) scopes.counts.units scopes.counts.units
              begins.blank_units (plus_none scopes.counts.units);
          kinds = begins.kinds ∙ ap (map kind_named) (sym (blanks_next blank_unit walk.behind.headings (heading_of name kind.Struct)
              ∙ append-nil (blanks blank_unit walk.behind.headings)));
        }

  -- ---- a constant

  module _ (name : List ℕ) (of : ScalarType) (value : ℤ) (stands : item_stands walk.names (shows.Constant name of value) ≡ true) where
    abbrev next_constant : Walk
    next_constant = after_item walk (shows.Constant name of value)

    abbrev one : KnownConstant
    one = record { ty = Some of; value = value }

    begins_constant : Begins nestings next_constant (enter scopes (declares (name_at name) kind.Constant))
    begins_constant = record {
      names = names_next nestings (length walk.behind.structs) (length walk.behind.structs) walk.names scopes scopes.counts (name_at name) kind.Constant
          referent.Other (omega arith) begins.names (absent name (and_first (is_new walk.names name) (in_range of value) stands))
          (λ suited. absurd (no_constant suited)) (λ at depth is. absurd (no_struct at depth is));
      below = constant_below scopes (name_at name) begins.below;
      none = begins.none;
      structs = begins.structs;
      constants = length_next walk.behind.constants one scopes.counts.constants begins.constants;
      units = begins.units;
      between = record {
        vars = refl;
        known = record {
          vars = no_variable (length walk.behind.structs);
          fields = begins.between.known.fields;
          constants = push_further (λ (k : ℕ) (constant : KnownConstant). ConstantStands constant) walk.behind.constants one
              begins.between.known.constants
              (record { ty = of; is_typed = refl; is_number = and_second (is_new walk.names name) (in_range of value) stands });
        };
        heads = begins.between.heads;
      };
      told = told_declared (kinds_of walk.behind.units) scopes (name_at name) kind.Constant refl begins.told;
      blank_structs = more_blanks blank_struct walk.behind.headings (heading_of name kind.Constant) scopes.counts.structs scopes.counts.structs
          begins.blank_structs (plus_none scopes.counts.structs);
      blank_constants = more_blanks blank_constant walk.behind.headings (heading_of name kind.Constant) scopes.counts.constants
          (scopes.counts.constants + 1) begins.blank_constants refl;
      blank_units = more_blanks blank_unit walk.behind.headings (heading_of name kind.Constant) scopes.counts.units scopes.counts.units
          begins.blank_units (plus_none scopes.counts.units);
      kinds = begins.kinds ∙ ap (map kind_named) (sym (blanks_next blank_unit walk.behind.headings (heading_of name kind.Constant)
          ∙ append-nil (blanks blank_unit walk.behind.headings)));
    }

  -- ---- a unit

  module _ (of : UnitKind) (name : List ℕ) (ins outs : List FaceField) (result : Option ScalarType)
      (stands : item_stands walk.names (shows.Head of name ins outs result) ≡ true) where
    abbrev next_unit : Walk
    next_unit = after_item walk (shows.Head of name ins outs result)

    abbrev head : UnitDef
    head = resolved_head walk.names of name ins outs result

    abbrev unit_kind : Kind
    unit_kind = kind_of_unit of

    abbrev heading : Heading
    heading = heading_of name unit_kind

    is_new_there : is_new walk.names name ≡ true
    is_new_there =
        and_first (is_new walk.names name) (are_new [] ins && are_new (with_fields [] ins) outs)
        (and_first (is_new walk.names name && (are_new [] ins && are_new (with_fields [] ins) outs))
        ((types_stand walk.names ins && types_stand walk.names outs) && gives_once of outs result) stands)

    counted_is : counted scopes.counts unit_kind ≡ record scopes.counts { units = scopes.counts.units + 1; variables = 0 }
    counted_is = unit_counted of scopes.counts

    long : has_parameters head ≡ true
    long =
        le-leb (length ins + length outs) (length head.vars)
        (let both_long = length-append (map (resolved_param walk.names role.Input) ins) (map (resolved_param walk.names role.Output) outs) in
        let one = length-map ins (resolved_param walk.names role.Input) in
        let two = length-map outs (resolved_param walk.names role.Output) in
        omega (arith, both_long, one, two))

    begins_unit : Begins nestings next_unit (enter scopes (declares (name_at name) unit_kind))
    begins_unit = record {
      names = names_next nestings (length walk.behind.structs) (length walk.behind.structs) walk.names scopes scopes.counts (name_at name) unit_kind
          referent.Other (omega arith) begins.names (absent name is_new_there)
          (λ suited. absurd (no_kind of suited)) (λ at depth is. absurd (no_struct at depth is));
      below = declare_below scopes (name_at name) unit_kind (unit_grown of scopes.counts begins.none) (unit_declared of (name_at name) scopes.counts)
          begins.below;
      none = ap (λ (c : Counts). c.variables) counted_is;
      structs = begins.structs ∙ sym (ap (λ (c : Counts). c.structs) counted_is);
      constants = begins.constants ∙ sym (ap (λ (c : Counts). c.constants) counted_is);
      units = length_next walk.behind.units head scopes.counts.units begins.units ∙ sym (ap (λ (c : Counts). c.units) counted_is);
      between = record {
        vars = refl;
        known = record {
          vars = no_variable (length walk.behind.structs);
          fields = begins.between.known.fields;
          constants = begins.between.known.constants;
        };
        heads = list_all-append has_parameters walk.behind.units (head ∷ [])
            ∙ and_from (list_all has_parameters walk.behind.units) (has_parameters head && true) begins.between.heads (and_from (has_parameters head) true long refl);
      };
      told = subst (λ kinds. Told kinds (enter scopes (declares (name_at name) unit_kind))) (sym (map-append kind_made walk.behind.units (head ∷ [])))
          (told_declared (kinds_of walk.behind.units ++ (of ∷ [])) scopes (name_at name) unit_kind
          (unit_told (kinds_of walk.behind.units) of scopes.counts (sym begins.units ∙ sym (kinds_long walk.behind.units)))
          (told_more (kinds_of walk.behind.units) (of ∷ []) scopes begins.told));
      blank_structs = more_blanks blank_struct walk.behind.headings heading scopes.counts.structs (counted scopes.counts unit_kind).structs
          begins.blank_structs (ap (λ (c : Counts). c.structs) counted_is ∙ no_blank_struct of (name_at name) scopes.counts.structs);
      blank_constants = more_blanks blank_constant walk.behind.headings heading scopes.counts.constants (counted scopes.counts unit_kind).constants
          begins.blank_constants (ap (λ (c : Counts). c.constants) counted_is ∙ no_blank_constant of (name_at name) scopes.counts.constants);
      blank_units = more_blanks blank_unit walk.behind.headings heading scopes.counts.units (counted scopes.counts unit_kind).units
          begins.blank_units (ap (λ (c : Counts). c.units) counted_is ∙ one_blank_unit of (name_at name) scopes.counts.units);
      kinds = map-append kind_made walk.behind.units (head ∷ []) ∙ (λ i. begins.kinds i ++ (of ∷ []))
          ∙ ap (λ l. map kind_named (blanks blank_unit walk.behind.headings) ++ l) (sym (blank_kind of (name_at name)))
          ∙ sym (map-append kind_named (blanks blank_unit walk.behind.headings) (blank_unit unit_kind (name_at name)))
          ∙ ap (map kind_named) (sym (blanks_next blank_unit walk.behind.headings heading));
    }

-- ---- items one after another

structs_grow : (items : List FaceItem) (walk : Walk) → (more : List StructDef) × ((after_items walk items).behind.structs ≡ walk.behind.structs ++ more)
structs_grow [] walk = ([], sym (append-nil walk.behind.structs))
structs_grow (shows.Struct name fields ∷ items) walk =
    let rest = structs_grow items (after_item walk (shows.Struct name fields)) in
    let made : StructDef = resolved_struct walk.names name fields in
    (made ∷ rest.0, rest.1 ∙ append_assoc walk.behind.structs (made ∷ []) rest.0)
structs_grow (shows.Constant name of value ∷ items) walk = structs_grow items (after_item walk (shows.Constant name of value))
structs_grow (shows.Head kind name ins outs result ∷ items) walk = structs_grow items (after_item walk (shows.Head kind name ins outs result))

module _ (nestings : List ℕ) (whole : List StructDef) (are : nestings ≡ struct_nestings whole) where
  one_begins : (one : FaceItem) (walk : Walk) (rest : List StructDef) → whole ≡ (after_item walk one).behind.structs ++ rest →
      item_stands walk.names one ≡ true → BeginsWith nestings walk → BeginsWith nestings (after_item walk one)
  one_begins (shows.Struct name fields) walk rest first stands begins =
      subst (Begins nestings (after_item walk (shows.Struct name fields))) (opened_next walk.behind.headings (heading_of name kind.Struct))
      (begins_struct nestings walk (opened_by walk.behind.headings) begins name fields stands whole rest are first)
  one_begins (shows.Constant name of value) walk rest first stands begins =
      subst (Begins nestings (after_item walk (shows.Constant name of value))) (opened_next walk.behind.headings (heading_of name kind.Constant))
      (begins_constant nestings walk (opened_by walk.behind.headings) begins name of value stands)
  one_begins (shows.Head of name ins outs result) walk rest first stands begins =
      subst (Begins nestings (after_item walk (shows.Head of name ins outs result))) (opened_next walk.behind.headings (heading_of name (kind_of_unit of)))
      (begins_unit nestings walk (opened_by walk.behind.headings) begins of name ins outs result stands)

  items_begin : (items : List FaceItem) (walk : Walk) (rest : List StructDef) → whole ≡ (after_items walk items).behind.structs ++ rest →
      items_stand walk items ≡ true → BeginsWith nestings walk → BeginsWith nestings (after_items walk items)
  items_begin [] walk rest first stand begins = begins
  items_begin (one ∷ items) walk rest first stand begins =
      let next : Walk = after_item walk one in
      let grown = structs_grow items next in
      items_begin items next rest first (and_second (item_stands walk.names one) (items_stand next items) stand)
      (one_begins one walk (grown.0 ++ rest)
      (first ∙ ap (λ structs. structs ++ rest) grown.1 ∙ append_assoc next.behind.structs grown.0 rest)
      (and_first (item_stands walk.names one) (items_stand next items) stand) begins)

nothing_stands : (text : List ℕ) (at depth : ℕ) → None ≡ Some (referent.Struct at depth) → ⊥
nothing_stands text at depth is = absurd (cc)

no_constant_there : (k : ℕ) (constant : KnownConstant) → slice_get [] k ≡ Some constant → ⊥
no_constant_there k constant is = absurd (cc)

nothing_bound : (text : List ℕ) (d : Declaration) → None ≡ Some d → ⊥
nothing_bound text d is = absurd (cc)

at_first : (nestings : List ℕ) → BeginsWith nestings before_items
at_first nestings = record {
  names = record {
    alone = refl;
    texts = tt;
    resolves = λ text d is suited. absurd (nothing_bound text d is);
    told = λ text at depth is. absurd (nothing_stands text at depth is);
  };
  below = (tt, tt);
  none = refl;
  structs = refl;
  constants = refl;
  units = refl;
  between = record {
    vars = refl;
    known = record {
      vars = no_variable 0;
      fields = λ k def is. absurd (no_struct_there k def is);
      constants = λ k constant is. absurd (no_constant_there k constant is);
    };
    heads = refl;
  };
  told = (refl, refl);
  blank_structs = refl;
  blank_constants = refl;
  blank_units = refl;
  kinds = refl;
}

-- what items that stand declare is what a text begins with, where these are all structs in the end
pub begins_behind : (items : List FaceItem) (whole rest : List StructDef) → whole ≡ (after_items before_items items).behind.structs ++ rest →
    items_stand before_items items ≡ true → BeginsWith (struct_nestings whole) (after_items before_items items)
begins_behind items whole rest first stand =
    items_begin (struct_nestings whole) whole refl items before_items rest first stand (at_first (struct_nestings whole))
