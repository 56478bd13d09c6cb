-- The item of a face that shows a struct.
use Rattle.std.proofs.Common.{◌≡◌, ℕ, ◌+◌, ◌≤◌, true, List, [], ◌∷◌, ◌++◌, length, map, Some, None, refl, sym, ap, subst, ◌∙◌, append_assoc, arith}
use Rattle.std.specs.Prelude.{◌&&◌, nat_le, slice_get, slice_index}
use Rattle.std.specs.List.{list_all}
use Rattle.std.proofs.lemmas.Bool.{le-leb}
use Rattle.std.proofs.lemmas.Bool.{and_from}
use Rattle.bl_tree.proofs.Basics.{first_empty, get_seam, second_empty}
use Rattle.bl_face.specs.declared.item.FaceField.{FaceField}
use Rattle.bl_face.specs.declared.item.FaceItem.{FaceItem}
use Rattle.bl_face.specs.declared.item.FaceItem.TheVariants as shows
use Rattle.bl_limits_measures.specs.Types.{nesting_by, struct_nestings}
use Rattle.bl_module.specs.Behind.{after_item as walk_on, depth_of, fields_depth, item_stands, resolved_struct, struct_position, types_stand}
use Rattle.bl_module.specs.declared.names.Referent.TheVariants as referent
use Rattle.bl_module.specs.declared.walk.Walk.{Walk}
use Rattle.bl_module.specs.Names.{are_new, is_new}
use Rattle.bl_module.specs.Own.{fields_known_from, items_from, struct_item}
use Rattle.bl_module_laws_faces.proofs.Depths.{depth_at}
use Rattle.bl_module_laws_faces.proofs.Elements.{fields_are, fields_new, fields_shown, fields_stand, shown_fields, typed_field, typed_fields}
use Rattle.bl_module_laws_faces.proofs.Fresh.{fresh_first, fresh_second}
use Rattle.bl_module_laws_faces.proofs.Goes.{goes}
use Rattle.bl_module_laws_faces.proofs.Here.{Here, here_struct, struct_chosen, struct_fits, struct_fresh}
use Rattle.bl_module_laws_faces.proofs.Scoped.{NamesAgree, names_next, new_alike}
use Rattle.bl_names.proofs.FitLemmas.{Fits, fits_first}
use Rattle.bl_names.proofs.ItemLemmas.{struct_scopes}
use Rattle.bl_names.proofs.StillLemmas.{still_append}
use Rattle.bl_names.specs.Named.{named_field, named_struct, opened}
use Rattle.bl_names.specs.Order.{order_of}
use Rattle.bl_names_scopes.specs.declared.kind.Kind.TheVariants as kind
use Rattle.bl_names_scopes.specs.Marks.{Marks, closes, declares, field_mark, field_type_marks, in_scope, struct_marks}
use Rattle.bl_names_scopes.specs.Scopes.{Scopes, after, found}
use Rattle.bl_names_tree.specs.declared.named.Named.{Named}
use Rattle.bl_names_tree.specs.Placed.{DeclaredBefore}
use Rattle.bl_parse_tree.specs.declared.item.RawField.{RawField}
use Rattle.bl_parse_tree.specs.declared.item.RawItem.{RawItem}
use Rattle.bl_parse_tree.specs.declared.item.RawItem.TheVariants as item
use Rattle.bl_parse_tree.specs.declared.item.RawStruct.{RawStruct}
use Rattle.bl_tree.specs.declared.tree.Field.{Field}
use Rattle.bl_tree.specs.declared.tree.StructDef.{StructDef}
use Rattle.bl_tree.specs.Reduce.{greatest, joined}
use Rattle.bl_tree.specs.Types.{type_stands as typed_stands}
use Rattle.bl_tree_laws_places.specs.Placed.{placed_struct}
use Rattle.bl_types.specs.declared.environment.Environment.{Environment}
use Rattle.bl_types.specs.declared.environment.Known.{Known}
use Rattle.bl_types.specs.Declarations.{Declaring, after_struct, field_of, struct_of}
use Rattle.bl_types.specs.Programs.{after_items}
use Rattle.bl_types_laws_places.specs.Agree.{unplaced}
use Rattle.bl_module_laws_faces.proofs.Adding.{Adding, Adds, Agrees, Shallow, absent_behind, adds_first, by_first, next_at, one_behind, pushed}
use Rattle.bl_module_laws_faces.proofs.Adding.{same_long}
use Rattle.bl_module_laws_faces.proofs.Elements.{FieldsShown}
use Rattle.bl_names.proofs.ItemLemmas.{still_fields, still_types}

known_are : (env : Environment) (scopes : Scopes) (fields : List RawField) →
    map (field_of env) (map (named_field scopes) fields) ≡ typed_fields env.constants scopes fields
known_are env scopes [] = refl
known_are env scopes (field ∷ fields) = ap (λ rest. typed_field env.constants scopes field ∷ rest) (known_are env scopes fields)

module _ (named : Named) (known : Known) (from_structs from_units : ℕ) (shallow : Shallow named known from_structs from_units) (def : RawStruct)
    (items : List RawItem) (scopes : Scopes) (env : Environment) (walk : Walk) (here : Here named scopes (item.Struct def ∷ items) env)
    (agrees : Agrees named known from_structs from_units scopes env walk) where
  abbrev nestings : List ℕ
  nestings = struct_nestings known.structs

  abbrev n : ℕ
  n = length env.structs

  abbrev fields : List FaceField
  fields = shown_fields env.constants scopes def.fields

  abbrev made : StructDef
  made = struct_of env (named_struct scopes def)

  abbrev first : Declaring
  first = after_struct (named_struct scopes def) env

  abbrev types : Marks
  types = joined (map field_type_marks def.fields)

  abbrev inner : Marks
  inner = in_scope (map field_mark def.fields)

  types_fit : Fits scopes types
  types_fit = fits_first scopes types inner
      (fits_first scopes (types ++ inner) (declares def.name kind.Struct ∷ []) (struct_fits named def items scopes env here))

  absent : found scopes.inner def.name.text ≡ None
  absent = absent_behind scopes (types ++ inner) def.name kind.Struct (still_append types inner (still_types def.fields) (still_fields def.fields))
      (struct_fresh named def items scopes env here)

  walk_long : length walk.behind.structs ≡ n
  walk_long = sym (same_long (placed_struct unplaced) env.structs walk.behind.structs agrees.structs)

  counts_are : n ≡ scopes.counts.structs
  counts_are = ap (λ (e : DeclaredBefore). e.structs) here.at.counts

  shown : FieldsShown nestings n walk.names agrees.names.told env.constants scopes def.fields
  shown = fields_shown nestings n walk.names agrees.names.told env.constants scopes agrees.names.resolves def.fields types_fit

  fields_differ : are_new [] fields ≡ true
  fields_differ =
      fields_new env.constants scopes def.fields (opened (after scopes types)) [] tt
      (fresh_first (opened (after scopes types)) (map field_mark def.fields) (closes ∷ [])
      (fresh_second scopes types inner
      (fresh_first scopes (types ++ inner) (declares def.name kind.Struct ∷ []) (struct_fresh named def items scopes env here))).1)

  one_more : n + 1 ≡ length (env.structs ++ made ∷ [])
  one_more = one_behind env.structs made

  module _ (none : first.failures ≡ []) (later : List StructDef) (front : known.structs ≡ first.env.structs ++ later) where
    there : slice_get known.structs n ≡ Some made
    there =
        ap (λ structs. slice_get structs n) (front ∙ append_assoc env.structs (made ∷ []) later)
        ∙ get_seam env.structs made later

    stand : list_all (λ (field : Field). typed_stands n field.ty) made.fields ≡ true
    stand = (here_struct named def items scopes env here none).at.between.known.fields n made (get_seam env.structs made [])

    deep : slice_index nestings n ≡ 1 + fields_depth walk.names fields
    deep = depth_at known.structs n made there stand
        ∙ ap (λ (fields : List Field). 1 + greatest (map (λ (field : Field). nesting_by nestings field.ty) fields)) (known_are env scopes def.fields)
        ∙ ap (λ n. 1 + n) (sym shown.depth)

    not_deep : 1 + fields_depth walk.names fields ≤ 100
    not_deep = subst (λ n. n ≤ 100) deep (shallow.structs n made agrees.own_structs there)

    stand_shown : types_stand walk.names fields ≡ true
    stand_shown =
        fields_stand nestings n walk.names agrees.names.told env.constants scopes agrees.names.resolves n def.fields types_fit
        (ap (list_all (λ (field : Field). typed_stands n field.ty)) (sym (known_are env scopes def.fields)) ∙ stand)
        (let same = shown.depth in omega (arith, not_deep, same))

    abbrev shows_struct : FaceItem
    shows_struct = shows.Struct def.name.text fields

    stands : item_stands walk.names shows_struct ≡ true
    stands =
        and_from (is_new walk.names def.name.text && are_new [] fields) (types_stand walk.names fields && nat_le (1 + fields_depth walk.names fields) 100)
        (and_from (is_new walk.names def.name.text) (are_new [] fields) (new_alike def.name.text scopes.inner walk.names agrees.names.texts absent) fields_differ)
        (and_from (types_stand walk.names fields) (nat_le (1 + fields_depth walk.names fields) 100) stand_shown
        (le-leb (1 + fields_depth walk.names fields) 100 not_deep))

    is_shown : struct_item def (slice_get known.structs n) ≡ shows_struct
    is_shown =
        ap (struct_item def) there
        ∙ ap (λ (known : List Field). shows.Struct def.name.text (fields_known_from 0 known def.fields)) (known_are env scopes def.fields)
        ∙ ap (shows.Struct def.name.text) (fields_are env.constants scopes def.fields [] 0 refl)

    abbrev next : Walk
    next = walk_on walk shows_struct

    names_agree : NamesAgree nestings (length (env.structs ++ made ∷ [])) next.names (after scopes (struct_marks def))
    names_agree =
        subst (NamesAgree nestings (length (env.structs ++ made ∷ [])) next.names) (struct_scopes scopes def)
        (names_next nestings n (length (env.structs ++ made ∷ [])) walk.names scopes scopes.counts def.name kind.Struct
        (referent.Struct (length walk.behind.structs) (1 + fields_depth walk.names fields)) (omega (arith, one_more)) agrees.names absent
        (λ suited. (
          1 + fields_depth walk.names fields,
          ap (λ n. referent.Struct n (1 + fields_depth walk.names fields)) (walk_long ∙ counts_are),
        ))
        (λ at depth is.
        let is_at : length walk.behind.structs ≡ at = ap (λ r. struct_position (Some r)) is in
        let is_deep : 1 + fields_depth walk.names fields ≡ depth = ap (λ r. depth_of (Some r)) is in
        (sym is_deep ∙ sym deep ∙ ap (slice_index nestings) (sym walk_long ∙ is_at), omega (arith, is_at, walk_long, one_more))))

    next_agrees : Agrees named known from_structs from_units (after scopes (struct_marks def)) first.env next
    next_agrees = record {
      names = names_agree;
      structs = sym (pushed (placed_struct unplaced) walk.behind.structs env.structs (resolved_struct walk.names def.name.text fields) made
          (sym agrees.structs)
          (ap (λ (fields : List Field). record { name = def.name.text; place = unplaced def.name.place; fields = fields })
          (shown.same ∙ sym (known_are env scopes def.fields))));
      units = agrees.units;
      own_structs = let own = agrees.own_structs in omega (arith, own, one_more);
      own_units = agrees.own_units;
    }

    items_are : shows_struct ∷ items_from known (next_at first.env next) items ≡ items_from known (next_at env walk) (item.Struct def ∷ items)
    items_are = λ i.
        sym is_shown i
        ∷ items_from known (record { structs = sym one_more i; constants = length walk.behind.constants; units = length env.units }) items

module _ (named : Named) (known : Known) (from_structs from_units : ℕ) (shallow : Shallow named known from_structs from_units) where
  pub struct_adds : (def : RawStruct) (items : List RawItem) → Adding named known from_structs from_units items →
      Adding named known from_structs from_units (item.Struct def ∷ items)
  struct_adds def items rest scopes env walk here agrees =
      let first : Declaring = after_struct (named_struct scopes def) env in
      let behind : Scopes = after scopes (struct_marks def) in
      by_first named known from_structs from_units (item.Struct def) items env walk first (struct_chosen named def items scopes env here)
      (λ none structs units globals.
      let one = first_empty first.failures (after_items named (order_of items) first.env).failures none in
      let more = second_empty first.failures (after_items named (order_of items) first.env).failures none in
      let gone = goes named items behind first.env (here_struct named def items scopes env here one) more in
      let front = structs ∙ gone.structs in
      let it : FaceItem = shows.Struct def.name.text (shown_fields env.constants scopes def.fields) in
      subst (Adds named known from_structs from_units (item.Struct def ∷ items) walk)
      (items_are named known from_structs from_units shallow def items scopes env walk here agrees one gone.later front)
      (adds_first named known from_structs from_units (item.Struct def) items walk it (items_from known (next_at first.env (walk_on walk it)) items)
      (stands named known from_structs from_units shallow def items scopes env walk here agrees one gone.later front) refl
      (rest behind first.env (walk_on walk it) (here_struct named def items scopes env here one)
      (next_agrees named known from_structs from_units shallow def items scopes env walk here agrees one gone.later front) more structs units globals)))
