-- Which type of a program each of its C structs is.
use Rattle.std.proofs.Common.{◌≡◌, ℕ, zero, suc, ◌+◌, ◌<◌, ◌≤◌, true, ◌&&◌, List, [], ◌∷◌}
use Rattle.std.proofs.Common.{map, length, Option, Some, None}
use Rattle.std.proofs.Common.{refl, sym, ap, ◌∙◌, subst, arith, ⊎_elim}
use Rattle.std.proofs.lemmas.List.Elements.{Contains-append_cases, Contains-push_cases}
use Rattle.std.proofs.lemmas.Option.{slice_get_within}
use Rattle.std.specs.Prelude.{Contains, get_or, nat_le, slice_get, slice_index}
use Rattle.bl_tree.proofs.Basics.{and_second, contains_one, less_test}
use Rattle.bl_tree.specs.declared.c.CMember.{CMember}
use Rattle.bl_tree.specs.declared.c.CStruct.{CStruct}
use Rattle.bl_tree.specs.declared.tree.Field.{Field}
use Rattle.bl_tree.specs.declared.tree.StructDef.{StructDef}
use Rattle.bl_tree.specs.declared.tree.Ty.{Ty, ind-Ty, map-Ty, out-Ty, out-roll-Ty, roll-Ty}
use Rattle.bl_tree.specs.declared.tree.Ty.TheOpen.{Ty-F}
use Rattle.bl_tree.specs.declared.tree.Unit.{Unit as UnitDef}
use Rattle.bl_tree.specs.declared.tree.Var.{Var}
use Rattle.bl_tree.specs.Program.{IsWellTyped, structs_stand_from}
use Rattle.bl_tree.specs.Reduce.{joined}
use Rattle.bl_tree.specs.Types.{type_stands}
use Rattle.bl_eval.proofs.FitLemmas.{structs_at}
use Rattle.bl_eval.proofs.PassLemmas.{all_at}
use Rattle.bl_limits_measures.specs.Types.{nesting, struct_nestings}
use Rattle.bl_emit_acts.specs.Structs.{c_array, c_definition, c_elements, c_field}
use Rattle.bl_emit_acts.specs.Trees.{nowhere}
use Rattle.bl_emit_acts.specs.Types.{c_type, name_of_definition, struct_name, type_name}
use Rattle.bl_emit_structs.specs.Structs.{arrays_level, arrays_of, structs_for, structs_for_definition, structs_for_unit}
use Rattle.bl_emit_structs.proofs.Steps.{array_is}
use Rattle.bl_emit_acts_laws_wellformed.proofs.OnFormed.Parts.{name_at}
use Rattle.bl_emit_acts_laws_wellformed.proofs.OnFormed.Units.{vars_stand}
use Rattle.bl_emit_structs_laws_wellformed.specs.Formed.{NestsAtMost}
use Rattle.bl_emit_structs_laws_wellformed.proofs.OnFormed.Levels.{field_nesting, nesting_at, stands_at, stands_more, struct_some}
use Rattle.bl_tree.specs.declared.tree.Ty.{fold_out-Ty, fold-Ty}

-- ---- what stands in joined lists

-- an element of joined lists is one of a list
pub record Among {X Y : Type 0} (make : X → List Y) (xs : List X) (y : Y) : Type 0 where
  pub k : ℕ
  pub x : X
  pub there : slice_get xs k ≡ Some x
  pub has : Contains (make x) y

pub among : {X Y : Type 0} (make : X → List Y) (xs : List X) (y : Y) → Contains (joined (map make xs)) y → Among make xs y
among make [] y has = absurd (let lt = has.1 in omega arith)
among make (x ∷ xs) y has =
    ⊎_elim (λ here. record { k = 0; x = x; there = refl; has = here })
    (λ later. let found = among make xs y later in record { k = suc found.k; x = found.x; there = found.there; has = found.has })
    (Contains-append_cases (make x) (joined (map make xs)) y has)

-- ---- the struct of a type

-- the C struct of a definition that may be there
abbrev pub defined : List StructDef → Option StructDef → CStruct
defined structs (Some def) = c_definition structs def
defined structs None = record { place = nowhere; name = []; members = [] }

-- the C struct of a level of a type
abbrev pub struct_level : List StructDef → Ty-F Ty → CStruct
struct_level structs (Ty-F.Scalar s) = record { place = nowhere; name = []; members = [] }
struct_level structs (Ty-F.Struct k) = defined structs (slice_get structs k)
struct_level structs (Ty-F.Array n element) = c_array structs n element

-- a member is of a type that is nested less deep
pub record PartOf (structs : List StructDef) (ty : Ty) (m : CMember) : Type 0 where
  pub part : Ty
  pub is : m.ty ≡ c_type structs part
  pub stands : type_stands (length structs) part ≡ true
  pub deep : nesting structs part + 1 ≤ nesting structs ty

-- a C struct is that of a type, which is nested no deeper than so
pub record StructOf (structs : List StructDef) (most : ℕ) (s : CStruct) : Type 0 where
  pub ty : Ty
  pub made : s ≡ struct_level structs (out-Ty ty)
  pub named : s.name ≡ type_name structs ty
  pub stands : type_stands (length structs) ty ≡ true
  pub few : nesting structs ty ≤ most
  pub some : 1 ≤ nesting structs ty
  pub parts : (m : CMember) → Contains s.members m → PartOf structs ty m

-- a member is that of a field
record OfField (structs : List StructDef) (fields : List Field) (m : CMember) : Type 0 where
  j : ℕ
  field : Field
  there : slice_get fields j ≡ Some field
  is : c_field structs field ≡ m

mapped : (structs : List StructDef) (fields : List Field) (m : CMember) → Contains (map (c_field structs) fields) m → OfField structs fields m
mapped structs [] m has = absurd (let lt = has.1 in omega arith)
mapped structs (field ∷ fields) m has = by (mapped structs fields m) has.0 has.1 has.2
  where
    by : (Contains (map (c_field structs) fields) m → OfField structs fields m) → (k : ℕ) → k < length (map (c_field structs) (field ∷ fields)) →
        get_or (map (c_field structs) (field ∷ fields)) k m ≡ m → OfField structs (field ∷ fields) m
    by rest zero lt is = record { j = 0; field = field; there = refl; is = is }
    by rest (suc k) lt is =
        let found = rest (k, omega (arith, lt), is) in record { j = suc found.j; field = found.field; there = found.there; is = found.is }

module _ (structs : List StructDef) (most : ℕ) where
  -- ---- arrays

  abbrev n_structs : ℕ
  n_structs = length structs

  pub array_struct : (ty : Ty) (n : ℕ) (element : Ty) → out-Ty ty ≡ Ty-F.Array n element → type_stands n_structs ty ≡ true →
      nesting structs ty ≤ most → StructOf structs most (c_array structs n element)
  array_struct ty n element is stands few =
      let deep : nesting structs ty ≡ 1 + nesting structs element = nesting_at (struct_nestings structs) ty (Ty-F.Array n element) is in
      let inner : type_stands n_structs element ≡ true =
      and_second (nat_le 1 n && nat_le n 65536) (type_stands n_structs element) (sym (stands_at n_structs ty (Ty-F.Array n element) is) ∙ stands) in
      record {
        ty = ty;
        made = ap (struct_level structs) (sym is);
        named = sym (name_at structs ty (Ty-F.Array n element) is);
        stands = stands;
        few = few;
        some = omega (arith, deep);
        parts = λ m has. record {
          part = element;
          is = ap (λ (m : CMember). m.ty) (sym (contains_one (c_elements structs n element) m has));
          stands = inner;
          deep = omega (arith, deep);
        };
      }

  abbrev inner_arrays : Ty → Ty → List CStruct
  inner_arrays = fold-Ty (Ty → List CStruct) (arrays_level structs)

  arrays_at_layer : (ty : Ty) (layer : Ty-F Ty) → out-Ty ty ≡ layer → arrays_of structs ty ≡ arrays_level structs
      (map-Ty Ty (Ty → List CStruct) inner_arrays layer) ty
  arrays_at_layer ty layer is =
      ap (λ f. f ty) (fold_out-Ty (Ty → List CStruct) (arrays_level structs) ty)
      ∙ ap (λ l. arrays_level structs (map-Ty Ty (Ty → List CStruct) inner_arrays l) ty) is

  none_has : {X : Type 0} (xs : List X) (x : X) → xs ≡ [] → Contains xs x → ⊥
  none_has xs x none has = let lt = subst (λ l. has.0 < length l) none has.1 in omega arith

  abbrev ArraysAre : Ty → Type 0
  ArraysAre ty = type_stands n_structs ty ≡ true → nesting structs ty ≤ most → (s : CStruct) → Contains (arrays_of structs ty) s →
      StructOf structs most s

  arrays_by : (layer : Ty-F ((ty : Ty) × ArraysAre ty)) → ArraysAre (roll-Ty (map-Ty ((ty : Ty) × ArraysAre ty) Ty (λ e. e.0) layer))
  arrays_by (Ty-F.Scalar t) stands few s has =
      absurd (none_has (arrays_of structs (roll-Ty (Ty-F.Scalar t))) s
      (arrays_at_layer (roll-Ty (Ty-F.Scalar t)) (Ty-F.Scalar t) (out-roll-Ty (Ty-F.Scalar t))) has)
  arrays_by (Ty-F.Struct k) stands few s has =
      absurd (none_has (arrays_of structs (roll-Ty (Ty-F.Struct k))) s
      (arrays_at_layer (roll-Ty (Ty-F.Struct k)) (Ty-F.Struct k) (out-roll-Ty (Ty-F.Struct k))) has)
  arrays_by (Ty-F.Array n e) stands few s has =
      let ty : Ty = roll-Ty (Ty-F.Array n e.0) in
      let is : out-Ty ty ≡ Ty-F.Array n e.0 = out-roll-Ty (Ty-F.Array n e.0) in
      let deep : nesting structs ty ≡ 1 + nesting structs e.0 = nesting_at (struct_nestings structs) ty (Ty-F.Array n e.0) is in
      let inner : type_stands n_structs e.0 ≡ true =
      and_second (nat_le 1 n && nat_le n 65536) (type_stands n_structs e.0) (sym (stands_at n_structs ty (Ty-F.Array n e.0) is) ∙ stands) in
      let less : nesting structs e.0 ≤ most = omega (arith, deep, few) in
      ⊎_elim (λ before. e.1 inner less s before)
      (λ own. subst (StructOf structs most) own (array_struct ty n e.0 is stands few))
      (Contains-push_cases (arrays_of structs e.0) (c_array structs n e.0) s (subst (λ l. Contains l s) (array_is structs ty n e.0 is) has))

  pub arrays_are : (ty : Ty) → ArraysAre ty
  arrays_are = ind-Ty ArraysAre (λ x y is. subst (λ layer. ArraysAre (roll-Ty layer)) is (arrays_by y))

  -- ---- definitions

  module _ (stand : structs_stand_from 0 structs ≡ true) (few : (k : ℕ) → slice_index (struct_nestings structs) k ≤ most) where
    within : (k : ℕ) (def : StructDef) → slice_get structs k ≡ Some def → k < n_structs
    within k def there = slice_get_within structs k def there

    field_stands : (k j : ℕ) (def : StructDef) (field : Field) → slice_get structs k ≡ Some def → slice_get def.fields j ≡ Some field →
        type_stands k field.ty ≡ true
    field_stands k j def field there has =
        all_at (λ (field : Field). type_stands k field.ty) def.fields j field (structs_at structs 0 k k def stand there (omega arith)) has

    definition_struct : (k : ℕ) (def : StructDef) → slice_get structs k ≡ Some def → StructOf structs most (c_definition structs def)
    definition_struct k def there =
        let ty : Ty = roll-Ty (Ty-F.Struct k) in
        let is : out-Ty ty ≡ Ty-F.Struct k = out-roll-Ty (Ty-F.Struct k) in
        let deep : nesting structs ty ≡ slice_index (struct_nestings structs) k = nesting_at (struct_nestings structs) ty (Ty-F.Struct k) is in
        let less : k < n_structs = within k def there in
        record {
          ty = ty;
          made = ap (defined structs) (sym there) ∙ ap (struct_level structs) (sym is);
          named = ap (λ o. struct_name (name_of_definition o)) (sym there) ∙ sym (name_at structs ty (Ty-F.Struct k) is);
          stands = stands_at n_structs ty (Ty-F.Struct k) is ∙ less_test k n_structs less;
          few = omega (arith, deep, few k);
          some = omega (arith, deep, struct_some structs k def there);
          parts = λ m has.
              let found = mapped structs def.fields m has in
              let own = field_stands k found.j def found.field there found.there in
              let one = field_nesting structs k found.j def found.field there found.there own in
              let le : k ≤ n_structs = omega (arith, less) in
              record {
                part = found.field.ty;
                is = ap (λ (m : CMember). m.ty) (sym found.is);
                stands = stands_more k n_structs le found.field.ty own;
                deep = omega (arith, one, deep);
              };
        }

    pub definitions_are : (s : CStruct) → Contains (joined (map (structs_for_definition structs) structs)) s → StructOf structs most s
    definitions_are s has =
        let d = among (structs_for_definition structs) structs s has in
        ⊎_elim
        (λ arrays. let f = among (λ (field : Field). arrays_of structs field.ty) d.x.fields s arrays in
        let stands : type_stands d.k f.x.ty ≡ true = field_stands d.k f.k d.x f.x d.there f.there in
        let le : d.k ≤ n_structs = (let less = within d.k d.x d.there in omega (arith, less)) in
        let one = field_nesting structs d.k f.k d.x f.x d.there f.there stands in
        let low : nesting structs f.x.ty ≤ most = omega (arith, one, few d.k) in
        arrays_are f.x.ty (stands_more d.k n_structs le f.x.ty stands) low s f.has)
        (λ own. subst (StructOf structs most) own (definition_struct d.k d.x d.there))
        (Contains-push_cases (joined (map (λ (field : Field). arrays_of structs field.ty) d.x.fields)) (c_definition structs d.x) s d.has)

    -- ---- a whole program

    pub all_are : (units : List UnitDef) (entry : ℕ) → IsWellTyped structs units entry → NestsAtMost most structs units → (s : CStruct) →
        Contains (structs_for structs units) s → StructOf structs most s
    all_are units entry keeps nests s has =
        ⊎_elim (definitions_are s)
        (λ of_units. let u = among (structs_for_unit structs) units s of_units in
        let v = among (λ (var : Var). arrays_of structs var.ty) u.x.vars s u.has in
        arrays_are v.x.ty
        (all_at (λ (var : Var). type_stands n_structs var.ty) u.x.vars v.k v.x (vars_stand structs units entry keeps u.k u.x u.there) v.there)
        (nests.variables u.k v.k u.x v.x u.there v.there) s v.has)
        (Contains-append_cases (joined (map (structs_for_definition structs) structs)) (joined (map (structs_for_unit structs) units)) s has)
