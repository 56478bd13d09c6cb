-- Members of one struct have different names.
use Rattle.std.proofs.Common.{◌≡◌, ℕ, ◌+◌, Bool, true, false, not, ◌&&◌, ◌||◌, if◌then◌else◌, List, [], ◌∷◌, ◌++◌, map, refl, ap, subst, ◌∙◌}
use Rattle.std.proofs.lemmas.List.Folds.{list_all-append}
use Rattle.std.specs.Prelude.{bytes_eq}
use Rattle.std.specs.List.{list_all}
use Rattle.std.proofs.lemmas.Bool.{and_from}
use Rattle.bl_tree.proofs.Basics.{and_first, and_second}
use Rattle.bl_tree.specs.declared.text.Text.{Text}
use Rattle.bl_tree.specs.declared.c.CStruct.{CStruct}
use Rattle.bl_tree.specs.declared.tree.Field.{Field}
use Rattle.bl_tree.specs.declared.tree.StructDef.{StructDef}
use Rattle.bl_tree.specs.declared.tree.Ty.{Ty, ind-Ty, map-Ty, out-roll-Ty, roll-Ty}
use Rattle.bl_tree.specs.declared.tree.Ty.TheOpen.{Ty-F}
use Rattle.bl_tree.specs.declared.tree.Unit.{Unit as UnitDef}
use Rattle.bl_tree.specs.declared.tree.Var.{Var}
use Rattle.bl_tree.specs.Program.{IsWellTyped, field_names, struct_stands, structs_stand_from}
use Rattle.bl_tree.specs.Reduce.{joined}
use Rattle.bl_tree.specs.Words.{are_distinct, is_among}
use Rattle.bl_emit_acts.specs.Structs.{c_array, c_definition, c_field}
use Rattle.bl_emit_acts.specs.Types.{field_name}
use Rattle.bl_emit_structs.specs.Structs.{arrays_of, each_once, structs_for, structs_for_definition, structs_for_unit}
use Rattle.bl_emit_structs.proofs.Steps.{array_is}
use Rattle.bl_emit_structs_laws_wellformed.specs.Names.{member_names}
use Rattle.bl_emit_structs_laws_wellformed.proofs.OnNames.Needed.{arrays_at_layer}
use Rattle.bl_emit_structs_laws_wellformed.proofs.OnFormed.Faultless.{has}

abbrev differ_in : CStruct → Bool
differ_in s = are_distinct (member_names s)

abbrev all_differ : List CStruct → Bool
all_differ structs = list_all differ_in structs

once_differ : (taken : List Text) (structs : List CStruct) → all_differ structs ≡ true → all_differ (each_once taken structs) ≡ true
once_differ taken [] h = refl
once_differ taken (s ∷ rest) h =
    by (has s.name taken) (once_differ taken rest (and_second (differ_in s) (all_differ rest) h))
    (and_from (differ_in s) (all_differ (each_once (taken ++ s.name ∷ []) rest)) (and_first (differ_in s) (all_differ rest) h)
    (once_differ (taken ++ s.name ∷ []) rest (and_second (differ_in s) (all_differ rest) h)))
  where
    by : (b : Bool) → all_differ (each_once taken rest) ≡ true → all_differ (s ∷ each_once (taken ++ s.name ∷ []) rest) ≡ true
        → all_differ (if b then each_once taken rest else s ∷ each_once (taken ++ s.name ∷ []) rest) ≡ true
    by true old new = old
    by false old new = new

appended : (first second : List CStruct) → all_differ first ≡ true → all_differ second ≡ true → all_differ (first ++ second) ≡ true
appended first second one other = list_all-append differ_in first second ∙ and_from (all_differ first) (all_differ second) one other

joined_differ : {X : Type 0} (needs : X → List CStruct) → ((x : X) → all_differ (needs x) ≡ true) → (xs : List X)
    → all_differ (joined (map needs xs)) ≡ true
joined_differ needs each [] = refl
joined_differ needs each (x ∷ xs) = appended (needs x) (joined (map needs xs)) (each x) (joined_differ needs each xs)

module _ (structs : List StructDef) where
  abbrev Differ : Ty → Type 0
  Differ ty = all_differ (arrays_of structs ty) ≡ true

  differ_by : (layer : Ty-F ((ty : Ty) × Differ ty)) → Differ (roll-Ty (map-Ty ((ty : Ty) × Differ ty) Ty (λ e. e.0) layer))
  differ_by (Ty-F.Scalar s) = ap all_differ (arrays_at_layer structs (roll-Ty (Ty-F.Scalar s)) (Ty-F.Scalar s) (out-roll-Ty (Ty-F.Scalar s)))
  differ_by (Ty-F.Struct k) = ap all_differ (arrays_at_layer structs (roll-Ty (Ty-F.Struct k)) (Ty-F.Struct k) (out-roll-Ty (Ty-F.Struct k)))
  differ_by (Ty-F.Array n e) =
      ap all_differ (array_is structs (roll-Ty (Ty-F.Array n e.0)) n e.0 (out-roll-Ty (Ty-F.Array n e.0)))
      ∙ appended (arrays_of structs e.0) (c_array structs n e.0 ∷ []) e.1 refl

  arrays_differ : (ty : Ty) → Differ ty
  arrays_differ = ind-Ty Differ (λ x y is. subst (λ layer. Differ (roll-Ty layer)) is (differ_by y))

  abbrev names_in_c : List Field → List Text
  names_in_c fields = map (λ m. m.name) (map (c_field structs) fields)

  among_fields : (name : Text) (fields : List Field) → is_among (field_name name) (names_in_c fields) ≡ is_among name (map (λ (f : Field). f.name) fields)
  among_fields name [] = refl
  among_fields name (field ∷ fields) = ap (λ b. bytes_eq name field.name || b) (among_fields name fields)

  fields_differ : (fields : List Field) → are_distinct (names_in_c fields) ≡ are_distinct (map (λ (f : Field). f.name) fields)
  fields_differ [] = refl
  fields_differ (field ∷ fields) = λ i. not (among_fields field.name fields i) && fields_differ fields i

  definition_differs : (k : ℕ) (def : StructDef) → struct_stands k def ≡ true → all_differ (structs_for_definition structs def) ≡ true
  definition_differs k def stands =
      let distinct : are_distinct (field_names def) ≡ true = and_second _ (are_distinct (field_names def)) (and_first _ _ (and_second _ _ stands)) in
      appended (joined (map (λ (field : Field). arrays_of structs field.ty) def.fields)) (c_definition structs def ∷ [])
      (joined_differ (λ (field : Field). arrays_of structs field.ty) (λ field. arrays_differ field.ty) def.fields)
      (and_from (differ_in (c_definition structs def)) true (fields_differ def.fields ∙ distinct) refl)

  definitions_differ : (k : ℕ) (rest : List StructDef) → structs_stand_from k rest ≡ true
      → all_differ (joined (map (structs_for_definition structs) rest)) ≡ true
  definitions_differ k [] h = refl
  definitions_differ k (def ∷ rest) h =
      appended (structs_for_definition structs def) (joined (map (structs_for_definition structs) rest))
      (definition_differs k def (and_first (struct_stands k def) (structs_stand_from (k + 1) rest) h))
      (definitions_differ (k + 1) rest (and_second (struct_stands k def) (structs_stand_from (k + 1) rest) h))

  pub members_apart : (units : List UnitDef) (entry : ℕ) → IsWellTyped structs units entry → all_differ (each_once [] (structs_for structs units)) ≡ true
  members_apart units entry keeps =
      once_differ [] (structs_for structs units)
      (appended (joined (map (structs_for_definition structs) structs)) (joined (map (structs_for_unit structs) units))
      (definitions_differ 0 structs keeps.structs_stand)
      (joined_differ (structs_for_unit structs)
      (λ unit. joined_differ (λ (var : Var). arrays_of structs var.ty) (λ var. arrays_differ var.ty) unit.vars) units))
