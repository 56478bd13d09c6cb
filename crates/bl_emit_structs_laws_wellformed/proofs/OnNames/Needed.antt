-- What a program's types need uses only what stands before it.
use Rattle.std.proofs.Common.{◌≡◌, ℕ, ◌+◌, suc, ◌<◌, ◌≤◌, Bool, true, ◌&&◌, List, [], ◌∷◌, ◌++◌, map, length, Some}
use Rattle.std.proofs.Common.{refl, sym, ap, subst, ◌∙◌, arith, inl, inr}
use Rattle.std.proofs.lemmas.Bool.{cases_lt}
use Rattle.std.proofs.lemmas.Bool.Decides.{nat_tests}
use Rattle.std.proofs.lemmas.List.{append_assoc, map-append}
use Rattle.std.proofs.lemmas.List.Folds.{list_all-map}
use Rattle.std.specs.Prelude.{nat_lt, slice_get, ◌⊎◌}
use Rattle.std.specs.List.{list_all}
use Rattle.std.proofs.lemmas.Bool.{and_from}
use Rattle.bl_tree.proofs.Basics.{all_weaker, and_first, and_second}
use Rattle.bl_tree.specs.declared.text.Text.{Text}
use Rattle.bl_tree.specs.declared.c.CMember.{CMember}
use Rattle.bl_tree.specs.declared.c.CStruct.{CStruct}
use Rattle.bl_tree.specs.declared.c.CType.TheVariants.{Struct as OfStruct}
use Rattle.bl_tree.specs.declared.tree.Field.{Field}
use Rattle.bl_tree.specs.declared.tree.StructDef.{StructDef}
use Rattle.bl_tree.specs.declared.tree.Ty.{Ty, fold-Ty, fold_out-Ty, ind-Ty, map-Ty, out-Ty, out-roll-Ty, roll-Ty}
use Rattle.bl_tree.specs.declared.tree.Ty.TheOpen.{Ty-F}
use Rattle.bl_tree.specs.declared.tree.Unit.{Unit as UnitDef}
use Rattle.bl_tree.specs.declared.tree.Var.{Var}
use Rattle.bl_tree.specs.Program.{IsWellTyped, struct_stands, structs_stand_from, unit_stands, units_stand_after}
use Rattle.bl_tree.specs.Reduce.{joined}
use Rattle.bl_tree.specs.Types.{type_stands, type_stands_level}
use Rattle.bl_emit_acts.specs.Structs.{c_array, c_definition, c_field}
use Rattle.bl_emit_acts.specs.Types.{c_type, definition_name, name_level, name_of_definition, struct_name, type_level, type_name}
use Rattle.bl_emit_structs.specs.Structs.{arrays_level, arrays_of, each_once, structs_for, structs_for_definition, structs_for_unit}
use Rattle.bl_emit_structs.proofs.Steps.{array_is}
use Rattle.bl_emit_structs_laws_wellformed.specs.Names.{are_known, is_known, names_of}
use Rattle.bl_emit_structs_laws_wellformed.proofs.OnNames.Known.{Within, has_front, has_last, known_more}
use Rattle.bl_emit_structs_laws_wellformed.proofs.OnNames.Once.{once_has, once_known}
use Rattle.bl_emit_structs_laws_wellformed.proofs.OnFormed.Whole.{known_both}
use Rattle.bl_emit_structs_laws_wellformed.proofs.OnFormed.Faultless.{has}

abbrev name_of : CStruct → Text
name_of s = s.name

seam : (names : List Text) (first second : List CStruct) → (names ++ names_of first) ++ names_of second ≡ names ++ names_of (first ++ second)
seam names first second = append_assoc names (names_of first) (names_of second) ∙ ap (λ l. names ++ l) (sym (map-append name_of first second))

-- the last of some structs has its name among them
has_own : (names : List Text) (before : List CStruct) (s : CStruct) → has s.name (names ++ names_of (before ++ s ∷ [])) ≡ true
has_own names before s =
    subst (λ l. has s.name l ≡ true) (seam names before (s ∷ [])) (has_last s.name (names ++ names_of before))

-- parts one after another, each of which needs structs
module _ {X : Type 0} (needs : X → List CStruct) (ok : X → Bool) (fine : List Text → X → Bool) (K : List Text → Type 0)
    (fine_more : (xs ys : List Text) → Within xs ys → (x : X) → fine xs x ≡ true → fine ys x ≡ true)
    (K_more : (xs ys : List Text) → Within xs ys → K xs → K ys)
    (step : (x : X) (names : List Text) → K names → ok x ≡ true →
    (are_known names (needs x) ≡ true) × (fine (names ++ names_of (needs x)) x ≡ true)) where
  each : (xs : List X) (names : List Text) → K names → list_all ok xs ≡ true →
      (are_known names (joined (map needs xs)) ≡ true) × (list_all (fine (names ++ names_of (joined (map needs xs)))) xs ≡ true)
  each [] names known h = (refl, refl)
  each (x ∷ xs) names known h =
      let rest : List CStruct = joined (map needs xs) in
      let after : List Text = names ++ names_of (needs x) in
      let own : (are_known names (needs x) ≡ true) × (fine after x ≡ true) = step x names known (and_first (ok x) (list_all ok xs) h) in
      let later : (are_known after rest ≡ true) × (list_all (fine (after ++ names_of rest)) xs ≡ true) =
      each xs after (K_more names after (λ name there. has_front name names (names_of (needs x)) there) known) (and_second (ok x) (list_all ok xs) h) in
      let ends : after ++ names_of rest ≡ names ++ names_of (needs x ++ rest) = seam names (needs x) rest in (
        known_both names (needs x) rest own.0 later.0,
        and_from (fine (names ++ names_of (needs x ++ rest)) x) (list_all (fine (names ++ names_of (needs x ++ rest))) xs)
            (subst (λ l. fine l x ≡ true) ends
            (fine_more after (after ++ names_of rest) (λ name there. has_front name after (names_of rest) there) x own.1))
            (subst (λ l. list_all (fine l) xs ≡ true) ends later.1),
      )

module _ (structs : List StructDef) where
  -- the names of the structs before this one are there
  abbrev Known : ℕ → List Text → Type 0
  Known k names = (j : ℕ) → j < k → has (struct_name (definition_name structs j)) names ≡ true

  known_within : (k : ℕ) (xs ys : List Text) → Within xs ys → Known k xs → Known k ys
  known_within k xs ys within known j less = within (struct_name (definition_name structs j)) (known j less)

  -- ---- one level of a type

  c_type_at : (ty : Ty) (layer : Ty-F Ty) → out-Ty ty ≡ layer → c_type structs ty ≡ type_level (type_name structs ty) layer
  c_type_at ty layer is = ap (type_level (type_name structs ty)) is

  pub name_at : (ty : Ty) (layer : Ty-F Ty) → out-Ty ty ≡ layer → type_name structs ty ≡ name_level structs (map-Ty Ty Text (type_name structs) layer)
  name_at ty layer is = fold_out-Ty Text (name_level structs) ty ∙ ap (λ l. name_level structs (map-Ty Ty Text (type_name structs) l)) is

  pub stands_at : (k : ℕ) (ty : Ty) (layer : Ty-F Ty) → out-Ty ty ≡ layer → type_stands k ty
      ≡ type_stands_level k (map-Ty Ty Bool (type_stands k) layer)
  stands_at k ty layer is = fold_out-Ty Bool (type_stands_level k) ty ∙ ap (λ l. type_stands_level k (map-Ty Ty Bool (type_stands k) l)) is

  abbrev inner : Ty → Ty → List CStruct
  inner = fold-Ty (Ty → List CStruct) (arrays_level structs)

  pub arrays_at_layer : (ty : Ty) (layer : Ty-F Ty) → out-Ty ty ≡ layer
      → arrays_of structs ty ≡ arrays_level structs (map-Ty Ty (Ty → List CStruct) inner layer) ty
  arrays_at_layer ty layer is =
      ap (λ f. f ty) (fold_out-Ty (Ty → List CStruct) (arrays_level structs) ty)
      ∙ ap (λ l. arrays_level structs (map-Ty Ty (Ty → List CStruct) inner l) ty) is

  pub below : (j k : ℕ) → nat_lt j k ≡ true → j < k
  below j k h = grind (arith, nat_tests)

  module _ (k : ℕ) (names : List Text) (known : Known k names) where
    abbrev Declares : Ty → Type 0
    Declares ty = type_stands k ty ≡ true →
        (are_known names (arrays_of structs ty) ≡ true) × (is_known (names ++ names_of (arrays_of structs ty)) (c_type structs ty) ≡ true)

    declares_by : (layer : Ty-F ((ty : Ty) × Declares ty)) → Declares (roll-Ty (map-Ty ((ty : Ty) × Declares ty) Ty (λ e. e.0) layer))
    declares_by (Ty-F.Scalar s) h =
        let ty : Ty = roll-Ty (Ty-F.Scalar s) in
        let is : out-Ty ty ≡ Ty-F.Scalar s = out-roll-Ty (Ty-F.Scalar s) in
        let none : arrays_of structs ty ≡ [] = arrays_at_layer ty (Ty-F.Scalar s) is in
        (ap (are_known names) none, (λ i. is_known (names ++ names_of (none i)) (c_type_at ty (Ty-F.Scalar s) is i)))
    declares_by (Ty-F.Struct j) h =
        let ty : Ty = roll-Ty (Ty-F.Struct j) in
        let is : out-Ty ty ≡ Ty-F.Struct j = out-roll-Ty (Ty-F.Struct j) in
        let none : arrays_of structs ty ≡ [] = arrays_at_layer ty (Ty-F.Struct j) is in
        let name : Text = struct_name (definition_name structs j) in
        let c : c_type structs ty ≡ OfStruct name = c_type_at ty (Ty-F.Struct j) is ∙ ap OfStruct (name_at ty (Ty-F.Struct j) is) in
        let less : nat_lt j k ≡ true = sym (stands_at k ty (Ty-F.Struct j) is) ∙ h in (
          ap (are_known names) none,
          (λ i. is_known (names ++ names_of (none i)) (c i)) ∙ has_front name names [] (known j (below j k less)),
        )
    declares_by (Ty-F.Array n e) h =
        let ty : Ty = roll-Ty (Ty-F.Array n e.0) in
        let is : out-Ty ty ≡ Ty-F.Array n e.0 = out-roll-Ty (Ty-F.Array n e.0) in
        let own : CStruct = c_array structs n e.0 in
        let before : List CStruct = arrays_of structs e.0 in
        let whole : arrays_of structs ty ≡ before ++ own ∷ [] = array_is structs ty n e.0 is in
        let c : c_type structs ty ≡ OfStruct own.name = c_type_at ty (Ty-F.Array n e.0) is ∙ ap OfStruct (name_at ty (Ty-F.Array n e.0) is) in
        let element : (are_known names before ≡ true) × (is_known (names ++ names_of before) (c_type structs e.0) ≡ true) =
        e.1 (and_second _ (type_stands k e.0) (sym (stands_at k ty (Ty-F.Array n e.0) is) ∙ h)) in
        let known_element : Bool = is_known (names ++ names_of before) (c_type structs e.0) in (
          ap (are_known names) whole
              ∙ known_both names before (own ∷ []) element.0 (and_from (known_element && true) true (and_from known_element true element.1 refl) refl),
          (λ i. is_known (names ++ names_of (whole i)) (c i)) ∙ has_own names before own,
        )

    declares : (ty : Ty) → Declares ty
    declares = ind-Ty Declares (λ x y is. subst (λ layer. Declares (roll-Ty layer)) is (declares_by y))

  -- ---- structs and units

  abbrev known_in : List Text → Ty → Bool
  known_in names ty = is_known names (c_type structs ty)

  field_declares : (k : ℕ) (field : Field) (names : List Text) → Known k names → type_stands k field.ty ≡ true →
      (are_known names (arrays_of structs field.ty) ≡ true) × (known_in (names ++ names_of (arrays_of structs field.ty)) field.ty ≡ true)
  field_declares k field names known h = declares k names known field.ty h

  definition_known : (k : ℕ) (def : StructDef) (names : List Text) → Known k names →
      list_all (λ (field : Field). type_stands k field.ty) def.fields ≡ true
      → are_known names (structs_for_definition structs def) ≡ true
  definition_known k def names known h =
      let needs : Field → List CStruct = λ field. arrays_of structs field.ty in
      let before : List CStruct = joined (map needs def.fields) in
      let fields : (are_known names before ≡ true) × (list_all (λ (field : Field). known_in (names ++ names_of before) field.ty) def.fields ≡ true) =
      each needs (λ field. type_stands k field.ty) (λ names field. known_in names field.ty) (Known k)
      (λ xs ys within field. known_more xs ys (c_type structs field.ty) within) (known_within k) (field_declares k) def.fields names known h in
      known_both names before (c_definition structs def ∷ []) fields.0
      (and_from (list_all (λ (m : CMember). is_known (names ++ names_of before) m.ty) (map (c_field structs) def.fields)) true
      (list_all-map (λ (m : CMember). is_known (names ++ names_of before) m.ty) (c_field structs) def.fields ∙ fields.1) refl)

  -- once a struct is declared, it is known too
  known_next : (k : ℕ) (def : StructDef) (names : List Text) → slice_get structs (k + 0) ≡ Some def → Known k names
      → Known (k + 1) (names ++ names_of (structs_for_definition structs def))
  known_next k def names there known j less =
      by (cases_lt j k)
    where
      last : k ≤ j → has (struct_name (definition_name structs j)) (names ++ names_of (structs_for_definition structs def)) ≡ true
      last least =
          let same : j ≡ k + 0 = omega arith in
          let name : struct_name (definition_name structs j) ≡ struct_name def.name =
          ap (λ o. struct_name (name_of_definition o)) (ap (slice_get structs) same ∙ there) in
          subst (λ n. has n (names ++ names_of (structs_for_definition structs def)) ≡ true) (sym name)
          (has_own names (joined (map (λ (field : Field). arrays_of structs field.ty) def.fields)) (c_definition structs def))

      by : (j < k) ⊎ (k ≤ j) → has (struct_name (definition_name structs j)) (names ++ names_of (structs_for_definition structs def)) ≡ true
      by (inl lt) = has_front (struct_name (definition_name structs j)) names (names_of (structs_for_definition structs def)) (known j lt)
      by (inr le) = last le

  definitions_known : (rest : List StructDef) (k : ℕ) (names : List Text) → ((j : ℕ) → slice_get rest j ≡ slice_get structs (k + j)) → Known k names
      → structs_stand_from k rest ≡ true
      → (are_known names (joined (map (structs_for_definition structs) rest)) ≡ true)
      × Known (k + length rest) (names ++ names_of (joined (map (structs_for_definition structs) rest)))
  definitions_known [] k names same known h =
      (refl, λ j less. let lt : j < k = omega arith in has_front (struct_name (definition_name structs j)) names [] (known j lt))
  definitions_known (def ∷ rest) k names same known h =
      let own : List CStruct = structs_for_definition structs def in
      let others : List CStruct = joined (map (structs_for_definition structs) rest) in
      let stands : struct_stands k def ≡ true = and_first (struct_stands k def) (structs_stand_from (k + 1) rest) h in
      let fields : list_all (λ (field : Field). type_stands k field.ty) def.fields ≡ true = and_second _ _ (and_second _ _ stands) in
      let first : are_known names own ≡ true = definition_known k def names known fields in
      let later : (are_known (names ++ names_of own) others ≡ true) × Known ((k + 1) + length rest) ((names ++ names_of own) ++ names_of others) =
      definitions_known rest (k + 1) (names ++ names_of own)
      (λ j. same (suc j) ∙ ap (slice_get structs) (let e : k + suc j ≡ (k + 1) + j = omega arith in e))
      (known_next k def names (sym (same 0)) known) (and_second (struct_stands k def) (structs_stand_from (k + 1) rest) h) in (
        known_both names own others first later.0,
        λ j less.
            let lt : j < (k + 1) + length rest = omega arith in
            subst (λ l. has (struct_name (definition_name structs j)) l ≡ true) (seam names own others) (later.1 j lt),
      )

  abbrev vars_stand : UnitDef → Bool
  vars_stand unit = list_all (λ (var : Var). type_stands (length structs) var.ty) unit.vars

  abbrev vars_known : List Text → UnitDef → Bool
  vars_known names unit = list_all (λ (var : Var). known_in names var.ty) unit.vars

  units_stand : (units earlier : List UnitDef) → units_stand_after structs earlier units ≡ true → list_all vars_stand units ≡ true
  units_stand [] earlier h = refl
  units_stand (unit ∷ units) earlier h =
      let own : unit_stands structs earlier unit ≡ true =
      and_first (unit_stands structs earlier unit) (units_stand_after structs (earlier ++ unit ∷ []) units) h in
      and_from (vars_stand unit) (list_all vars_stand units) (and_first (vars_stand unit) _ (and_second _ _ own))
      (units_stand units (earlier ++ unit ∷ []) (and_second (unit_stands structs earlier unit) _ h))

  unit_known : (unit : UnitDef) (names : List Text) → Known (length structs) names → vars_stand unit ≡ true →
      (are_known names (structs_for_unit structs unit) ≡ true) × (vars_known (names ++ names_of (structs_for_unit structs unit)) unit ≡ true)
  unit_known unit names known h =
      each (λ (var : Var). arrays_of structs var.ty) (λ var. type_stands (length structs) var.ty) (λ names var. known_in names var.ty)
      (Known (length structs))
      (λ xs ys within var. known_more xs ys (c_type structs var.ty) within) (known_within (length structs))
      (λ var names known h. declares (length structs) names known var.ty h) unit.vars names known h

  vars_more : (xs ys : List Text) → Within xs ys → (unit : UnitDef) → vars_known xs unit ≡ true → vars_known ys unit ≡ true
  vars_more xs ys within unit h =
      all_weaker (λ (var : Var). known_in xs var.ty) (λ (var : Var). known_in ys var.ty) (λ var. known_more xs ys (c_type structs var.ty) within) unit.vars h

  -- ---- a whole program

  module _ (units : List UnitDef) (entry : ℕ) (keeps : IsWellTyped structs units entry) where
    abbrev of_definitions : List CStruct
    of_definitions = joined (map (structs_for_definition structs) structs)

    abbrev of_units : List CStruct
    of_units = joined (map (structs_for_unit structs) units)

    from_definitions : (are_known [] of_definitions ≡ true) × Known (0 + length structs) ([] ++ names_of of_definitions)
    from_definitions =
        definitions_known structs 0 [] (λ j. ap (slice_get structs) (let e : j ≡ 0 + j = omega arith in e)) (λ j less. absurd (omega arith))
        keeps.structs_stand

    all_known : Known (length structs) (names_of of_definitions)
    all_known j less = let lt : j < 0 + length structs = omega arith in from_definitions.1 j lt

    from_units : (are_known (names_of of_definitions) of_units ≡ true)
        × (list_all (vars_known (names_of of_definitions ++ names_of of_units)) units ≡ true)
    from_units =
        each (structs_for_unit structs) vars_stand vars_known (Known (length structs)) vars_more (known_within (length structs)) unit_known units
        (names_of of_definitions) all_known (units_stand units [] keeps.units_stand)

    pub earlier_used : are_known [] (each_once [] (structs_for structs units)) ≡ true
    earlier_used = once_known [] (structs_for structs units) (known_both [] of_definitions of_units from_definitions.0 from_units.0)

    pub all_declared : list_all (vars_known (names_of (each_once [] (structs_for structs units)))) units ≡ true
    all_declared =
        all_weaker (vars_known (names_of of_definitions ++ names_of of_units)) (vars_known (names_of (each_once [] (structs_for structs units))))
        (vars_more (names_of of_definitions ++ names_of of_units) (names_of (each_once [] (structs_for structs units)))
        (λ name there. once_has name [] (structs_for structs units) (subst (λ l. has name l ≡ true) (seam [] of_definitions of_units) there)))
        units from_units.1
