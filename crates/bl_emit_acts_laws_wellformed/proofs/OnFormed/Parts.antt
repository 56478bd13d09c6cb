-- Parts of types that are declared in C: fields and elements.
use Rattle.std.proofs.Common.{◌≡◌, ℕ, zero, suc, ◌+◌, Bool, true, false, not, ◌||◌, List, [], ◌∷◌, ◌++◌, map}
use Rattle.std.proofs.Common.{Option, Some, None}
use Rattle.std.proofs.Common.{refl, sym, ap, ◌∙◌, subst, arith}
use Rattle.std.proofs.lemmas.Bool.Decides.{nat_tests}
use Rattle.std.proofs.lemmas.List.Elements.{Contains-append_left, Contains-append_right, Contains-push}
use Rattle.std.proofs.lemmas.Option.{same_Some}
use Rattle.std.proofs.lemmas.Slice.Eq.{bytes_eq-Decides}
use Rattle.std.specs.Prelude.{Contains, bytes_eq, nat_eq, option_and_then, option_map, slice_get, if◌then◌else◌}
use Rattle.bl_tree.proofs.Basics.{and_first, and_second}
use Rattle.bl_tree.specs.declared.text.Text.{Text}
use Rattle.bl_tree.specs.declared.place.Place.{Place}
use Rattle.bl_tree.specs.declared.c.CMember.{CMember}
use Rattle.bl_tree.specs.declared.c.CStruct.{CStruct}
use Rattle.bl_tree.specs.declared.c.CType.{CType}
use Rattle.bl_tree.specs.declared.c.CType.TheVariants.{Scalar as OfScalar, Struct as OfStruct}
use Rattle.bl_tree.specs.declared.scalar.Scalar.{Scalar as ScalarType}
use Rattle.bl_tree.specs.declared.tree.Field.{Field}
use Rattle.bl_tree.specs.declared.tree.StructDef.{StructDef}
use Rattle.bl_tree.specs.declared.tree.Ty.{Ty, fold_out-Ty, map-Ty, out-Ty}
use Rattle.bl_tree.specs.declared.tree.Ty.TheOpen.{Ty-F}
use Rattle.bl_tree.specs.Program.{field_names, struct_stands, structs_stand_from}
use Rattle.bl_tree.specs.Reduce.{joined}
use Rattle.bl_tree.specs.Types.{scalar_at, scalar_in}
use Rattle.bl_tree.specs.Typing.{field_in}
use Rattle.bl_tree.specs.Words.{are_distinct, is_among}
use Rattle.bl_ctext_semantics.specs.Faults.{Context, indices, judge_into, judge_member, member_of, member_table}
use Rattle.bl_ctext_semantics.specs.Tables.{found}
use Rattle.bl_emit_acts.specs.Expressions.{field_at, field_of_struct, name_of_field}
use Rattle.bl_emit_acts.specs.Structs.{c_array, c_definition, c_field}
use Rattle.bl_emit_acts.specs.Types.{array_name, c_scalar, c_type, definition_name, elements_name, field_name, name_level, name_of_definition, struct_name}
use Rattle.bl_emit_acts.specs.Types.{type_level, type_name}
use Rattle.bl_emit_structs.specs.Structs.{arrays_of, structs_for_definition}
use Rattle.bl_emit_structs.proofs.Steps.{array_is}
use Rattle.bl_emit_acts_laws_wellformed.specs.Formed.Declared.{AreDeclared, plain_member}
use Rattle.bl_emit_acts_laws_wellformed.specs.Formed.Formed.{sound}
use Rattle.bl_emit_acts_laws_wellformed.proofs.OnFormed.Judged.{kept}

-- ---- lists

-- what is made of an element stands in what is made of all
pub joined_has : {X Y : Type 0} (make : X → List Y) (xs : List X) (k : ℕ) (x : X) (y : Y) → slice_get xs k ≡ Some x → Contains (make x) y →
    Contains (joined (map make xs)) y
joined_has make [] k x y there has = absurd (cc)
joined_has make (first ∷ rest) zero x y there has =
    Contains-append_left (make first) (joined (map make rest)) y (subst (λ z. Contains (make z) y) (sym (same_Some first x there)) has)
joined_has make (first ∷ rest) (suc k) x y there has =
    Contains-append_right (make first) (joined (map make rest)) y (joined_has make rest k x y there has)

-- ---- structs that stand

pub struct_at : (structs : List StructDef) (before s : ℕ) (def : StructDef) → structs_stand_from before structs ≡ true →
    slice_get structs s ≡ Some def → struct_stands (before + s) def ≡ true
struct_at [] before s def stand there = absurd (cc)
struct_at (first ∷ rest) before zero def stand there =
    let here : before ≡ before + 0 = omega arith in
    subst (λ n. struct_stands n def ≡ true) here
    (subst (λ def. struct_stands before def ≡ true) (same_Some first def there)
    (and_first (struct_stands before first) (structs_stand_from (before + 1) rest) stand))
struct_at (first ∷ rest) before (suc s) def stand there =
    let later : (before + 1) + s ≡ before + suc s = omega arith in
    subst (λ n. struct_stands n def ≡ true) later
    (struct_at rest (before + 1) s def (and_second (struct_stands before first) (structs_stand_from (before + 1) rest) stand) there)

distinct_fields : (before : ℕ) (def : StructDef) → struct_stands before def ≡ true → are_distinct (field_names def) ≡ true
distinct_fields before def stands = and_second _ (are_distinct (field_names def)) (and_first _ _ (and_second _ _ stands))

-- ---- members by name

module _ (structs : List StructDef) where
  abbrev names : List Field → List Text
  names fields = map (λ (f : Field). f.name) fields

  -- the members of fields by name
  abbrev members : List Field → List (Text × CMember)
  members fields = map (λ (m : CMember). (m.name, m)) (map (c_field structs) fields)

  or_true : (a b : Bool) → b ≡ true → (a || b) ≡ true
  or_true true b h = refl
  or_true false b h = h

  or_first : (a b : Bool) → a ≡ true → (a || b) ≡ true
  or_first true b h = refl
  or_first false b h = absurd (cc)

  among_at : (fields : List Field) (k : ℕ) (field : Field) (name : Text) → slice_get fields k ≡ Some field → bytes_eq name field.name ≡ true →
      is_among name (names fields) ≡ true
  among_at [] k field name there same = absurd (cc)
  among_at (f ∷ fields) zero field name there same =
      or_first (bytes_eq name f.name) (is_among name (names fields))
      (subst (λ (field : Field). bytes_eq name field.name ≡ true) (sym (same_Some f field there)) same)
  among_at (f ∷ fields) (suc k) field name there same =
      or_true (bytes_eq name f.name) (is_among name (names fields)) (among_at fields k field name there same)

  not_both : (b : Bool) → not b ≡ true → b ≡ true → ⊥
  not_both true h k = let x : false ≡ true = h in cc
  not_both false h k = let x : false ≡ true = k in cc

  -- the member of the field at a position is the first of its name
  pub member_found : (fields : List Field) (k : ℕ) (field : Field) → are_distinct (names fields) ≡ true → slice_get fields k ≡ Some field →
      found (field_name field.name) (members fields) ≡ Some (c_field structs field)
  member_found [] k field distinct there = absurd (cc)
  member_found (f ∷ fields) zero field distinct there =
      let same : f ≡ field = same_Some f field there in
      subst (λ (field : Field). found (field_name field.name) (members (f ∷ fields)) ≡ Some (c_field structs field)) same
      (ap (λ b. if b then Some (c_field structs f) else found (field_name f.name) (members fields)) ((bytes_eq-Decides f.name f.name).1 refl))
  member_found (f ∷ fields) (suc k) field distinct there =
      ap (λ b. if b then Some (c_field structs f) else found (field_name field.name) (members fields)) (differs (bytes_eq f.name field.name) refl)
      ∙ member_found fields k field (and_second (not (is_among f.name (names fields))) (are_distinct (names fields)) distinct) there
    where
      differs : (b : Bool) → bytes_eq f.name field.name ≡ b → b ≡ false
      differs true is =
          absurd (not_both (is_among f.name (names fields)) (and_first _ (are_distinct (names fields)) distinct)
          (among_at fields k field f.name there is))
      differs false is = refl

-- ---- levels of types

module _ (structs : List StructDef) where
  pub name_at : (ty : Ty) (layer : Ty-F Ty) → out-Ty ty ≡ layer → type_name structs ty ≡ name_level structs (map-Ty Ty Text (type_name structs) layer)
  name_at ty layer is = fold_out-Ty Text (name_level structs) ty ∙ ap (λ l. name_level structs (map-Ty Ty Text (type_name structs) l)) is

  pub c_struct : (ty : Ty) (s : ℕ) → out-Ty ty ≡ Ty-F.Struct s → c_type structs ty ≡ OfStruct (struct_name (definition_name structs s))
  c_struct ty s is = ap (type_level (type_name structs ty)) is ∙ ap OfStruct (name_at ty (Ty-F.Struct s) is)

  pub c_array_type : (ty : Ty) (n : ℕ) (element : Ty) → out-Ty ty ≡ Ty-F.Array n element →
      c_type structs ty ≡ OfStruct (array_name n (type_name structs element))
  c_array_type ty n element is = ap (type_level (type_name structs ty)) is ∙ ap OfStruct (name_at ty (Ty-F.Array n element) is)

  scalar_layer : (layer : Ty-F Ty) (s : ScalarType) (name : Text) → scalar_at layer ≡ Some s → type_level name layer ≡ OfScalar (c_scalar s)
  scalar_layer (Ty-F.Scalar t) s name is = ap (λ s. OfScalar (c_scalar s)) (same_Some t s is)
  scalar_layer (Ty-F.Struct k) s name is = absurd (cc)
  scalar_layer (Ty-F.Array n element) s name is = absurd (cc)

  pub c_scalar_type : (ty : Ty) (s : ScalarType) → scalar_in ty ≡ Some s → c_type structs ty ≡ OfScalar (c_scalar s)
  c_scalar_type ty s is = scalar_layer (out-Ty ty) s (type_name structs ty) is

-- ---- steps

module _ (context : Context) where
  -- a step to a member that is no array
  pub into_member : (name : Text) (struct : CType) (ty : CType) (at : Place) → member_of context struct name ≡ Some (plain_member name ty) →
      judge_into context name None at (Some struct) ≡ sound ty
  into_member name struct ty at is = ap (λ o. judge_member o None at) is

  same_number : (n : ℕ) → nat_eq n n ≡ true
  same_number n = grind (arith, nat_tests)

  -- and to an element of one that is
  pub into_element : (name : Text) (struct : CType) (ty : CType) (n : ℕ) (at : Place) →
      member_of context struct name ≡ Some (record { ty = ty; name = name; length = Some n }) →
      judge_into context name (Some n) at (Some struct) ≡ sound ty
  into_element name struct ty n at is =
      ap (λ o. judge_member o (Some n) at) is
      ∙ ap (λ faults. record { ty = Some ty; faults = faults }) (kept (nat_eq n n) indices at (same_number n))

module _ (structs : List StructDef) (stand : structs_stand_from 0 structs ≡ true) (context : Context)
    (definitions : AreDeclared context.structs (joined (map (structs_for_definition structs) structs))) where
  -- the arrays of a type are declared
  abbrev pub Known : Ty → Type 0
  Known ty = AreDeclared context.structs (arrays_of structs ty)

  -- a field: its type, its member in C, and that its arrays are declared
  abbrev pub FieldIs : Ty → Ty → ℕ → Type 0
  FieldIs a c k = (option_map (λ (field : Field). field.ty) (field_at structs k (Some a)) ≡ Some c)
      × ((at : Place) → judge_into context (field_name (name_of_field (field_at structs k (Some a)))) None at
      (Some (c_type structs a)) ≡ sound (c_type structs c))
      × Known c

  module _ (a c : Ty) (k : ℕ) where
    field_found : (s : ℕ) (def : StructDef) (field : Field) → out-Ty a ≡ Ty-F.Struct s → slice_get structs s ≡ Some def →
        slice_get def.fields k ≡ Some field → field.ty ≡ c → FieldIs a c k
    field_found s def field is there has same =
        let at_field : field_at structs k (Some a) ≡ Some field =
        ap (field_of_struct structs k) is ∙ ap (option_and_then (λ (def : StructDef). slice_get def.fields k)) there ∙ has in
        let struct : c_type structs a ≡ OfStruct (struct_name def.name) =
        c_struct structs a s is ∙ ap (λ o. OfStruct (struct_name (name_of_definition o))) there in
        let own : Contains (structs_for_definition structs def) (c_definition structs def) =
        Contains-push (joined (map (λ (field : Field). arrays_of structs field.ty) def.fields)) (c_definition structs def) in
        let known : context.structs (struct_name def.name) ≡ Some (member_table (c_definition structs def)) =
        definitions (c_definition structs def) (joined_has (structs_for_definition structs) structs s def (c_definition structs def) there own) in
        let member : member_of context (OfStruct (struct_name def.name)) (field_name field.name) ≡ Some
        (plain_member (field_name field.name) (c_type structs c)) =
        ap (option_and_then (λ members. members (field_name field.name))) known
        ∙ member_found structs def.fields k field (distinct_fields (0 + s) def (struct_at structs 0 s def stand there)) has
        ∙ ap (λ ty. Some (plain_member (field_name field.name) (c_type structs ty))) same in (
          ap (option_map (λ (field : Field). field.ty)) at_field ∙ ap Some same,
          λ at. (λ i. judge_into context (field_name (name_of_field (at_field i))) None at (Some (struct i)))
              ∙ into_member context (field_name field.name) (OfStruct (struct_name def.name)) (c_type structs c) at member,
          λ x has_x. definitions x
              (joined_has (structs_for_definition structs) structs s def x there
              (Contains-append_left (joined (map (λ (field : Field). arrays_of structs field.ty) def.fields)) (c_definition structs def ∷ []) x
              (joined_has (λ (field : Field). arrays_of structs field.ty) def.fields k field x has
              (subst (λ ty. Contains (arrays_of structs ty) x) (sym same) has_x)))),
        )

    by_field : (s : ℕ) (def : StructDef) (o : Option Field) → out-Ty a ≡ Ty-F.Struct s
        → slice_get structs s ≡ Some def → slice_get def.fields k ≡ o →
        option_map (λ (field : Field). field.ty) o ≡ Some c → FieldIs a c k
    by_field s def None is there has typed = absurd (cc)
    by_field s def (Some field) is there has typed = field_found s def field is there has (same_Some field.ty c typed)

    by_def : (s : ℕ) (o : Option StructDef) → out-Ty a ≡ Ty-F.Struct s → slice_get structs s ≡ o →
        option_and_then (λ (def : StructDef). option_map (λ (field : Field). field.ty) (slice_get def.fields k)) o ≡ Some c → FieldIs a c k
    by_def s None is there typed = absurd (cc)
    by_def s (Some def) is there typed = by_field s def (slice_get def.fields k) is there refl typed

    by_layer : (layer : Ty-F Ty) → out-Ty a ≡ layer → field_in structs k layer ≡ Some c → FieldIs a c k
    by_layer (Ty-F.Scalar s) is typed = absurd (cc)
    by_layer (Ty-F.Struct s) is typed = by_def s (slice_get structs s) is refl typed
    by_layer (Ty-F.Array n inner) is typed = absurd (cc)

    pub field_is : field_in structs k (out-Ty a) ≡ Some c → FieldIs a c k
    field_is typed = by_layer (out-Ty a) refl typed

    -- an element: how a step to it is judged, and that its arrays are declared
    pub element_known : (n : ℕ) → out-Ty a ≡ Ty-F.Array n c → Known a →
        ((at : Place) → judge_into context elements_name (Some n) at (Some (c_type structs a)) ≡ sound (c_type structs c)) × Known c
    element_known n is known =
        let all : arrays_of structs a ≡ arrays_of structs c ++ (c_array structs n c ∷ []) = array_is structs a n c is in
        let inside : (x : CStruct) → Contains (arrays_of structs c ++ (c_array structs n c ∷ [])) x → context.structs x.name ≡ Some (member_table x) =
        subst (AreDeclared context.structs) all known in
        let own : context.structs (array_name n (type_name structs c)) ≡ Some (member_table (c_array structs n c)) =
        inside (c_array structs n c) (Contains-push (arrays_of structs c) (c_array structs n c)) in (
          λ at. ap (λ ty. judge_into context elements_name (Some n) at (Some ty)) (c_array_type structs a n c is)
              ∙ into_element context elements_name (OfStruct (array_name n (type_name structs c))) (c_type structs c) n at
              (ap (option_and_then (λ members. members elements_name)) own),
          λ x has_x. inside x (Contains-append_left (arrays_of structs c) (c_array structs n c ∷ []) x has_x),
        )
