-- How deep the types of structs are nested.
use Rattle.std.proofs.Common.{◌≡◌, ℕ, ◌+◌, true, List, [], ◌∷◌, map, take, nat_lt, refl, sym, ap, ◌∙◌, Some}
use Rattle.std.specs.Prelude.{Bool, ◌&&◌, nat_le, slice_get, slice_index}
use Rattle.std.specs.List.{list_all}
use Rattle.std.proofs.lemmas.Bool.{ltb-true}
use Rattle.std.proofs.lemmas.List.{get_or-take}
use Rattle.bl_tree.proofs.Basics.{and_first, and_second}
use Rattle.bl_limits_measures.proofs.TableLemmas.{answer_at}
use Rattle.bl_limits_measures.proofs.TypeLemmas.{induct}
use Rattle.bl_limits_measures.specs.Types.{fields_nesting, nesting_by, struct_nestings}
use Rattle.bl_tree.specs.declared.tree.Field.{Field}
use Rattle.bl_tree.specs.declared.tree.StructDef.{StructDef}
use Rattle.bl_tree.specs.declared.tree.Ty.{Ty, fold-roll-Ty, roll-Ty}
use Rattle.bl_tree.specs.declared.tree.Ty.TheOpen.{Ty-F}
use Rattle.bl_tree.specs.Reduce.{greatest}
use Rattle.bl_tree.specs.Types.{type_stands, type_stands_level}
use Rattle.bl_limits_measures.proofs.TypeLemmas.{nesting_array, nesting_scalar, nesting_struct}

stands_struct : (n k : ℕ) → type_stands n (roll-Ty (Ty-F.Struct k)) ≡ nat_lt k n
stands_struct n k = fold-roll-Ty Bool (type_stands_level n) (Ty-F.Struct k)

stands_array : (n length : ℕ) (element : Ty) → type_stands n (roll-Ty (Ty-F.Array length element))
    ≡ ((nat_le 1 length && nat_le length 65536) && type_stands n element)
stands_array n length element = fold-roll-Ty Bool (type_stands_level n) (Ty-F.Array length element)

-- a type that names the first structs alone is nested as it is by what is known of these
first_nesting : (known : List ℕ) (n : ℕ) (ty : Ty) → type_stands n ty ≡ true → nesting_by (take n known) ty ≡ nesting_by known ty
first_nesting known n =
    induct (λ ty. type_stands n ty ≡ true → nesting_by (take n known) ty ≡ nesting_by known ty)
    (λ s stands. nesting_scalar (take n known) s ∙ sym (nesting_scalar known s))
    (λ k stands. nesting_struct (take n known) k
    ∙ get_or-take n known k 0 (ltb-true k n (sym (stands_struct n k) ∙ stands))
    ∙ sym (nesting_struct known k))
    (λ length element inner stands.
    let both = sym (stands_array n length element) ∙ stands in
    nesting_array (take n known) length element
    ∙ ap (λ m. 1 + m) (inner (and_second (nat_le 1 length && nat_le length 65536) (type_stands n element) both))
    ∙ sym (nesting_array known length element))

first_nestings : (known : List ℕ) (n : ℕ) (fields : List Field) → list_all (λ (field : Field). type_stands n field.ty) fields ≡ true →
    map (λ (field : Field). nesting_by (take n known) field.ty) fields ≡ map (λ (field : Field). nesting_by known field.ty) fields
first_nestings known n [] stand = refl
first_nestings known n (field ∷ fields) stand = λ i.
    first_nesting known n field.ty (and_first (type_stands n field.ty) (list_all (λ (field : Field). type_stands n field.ty) fields) stand) i
    ∷ first_nestings known n fields (and_second (type_stands n field.ty) (list_all (λ (field : Field). type_stands n field.ty) fields) stand) i

-- a struct is nested one deeper than its fields, as all structs are known
pub depth_at : (structs : List StructDef) (k : ℕ) (def : StructDef) → slice_get structs k ≡ Some def →
    list_all (λ (field : Field). type_stands k field.ty) def.fields ≡ true →
    slice_index (struct_nestings structs) k ≡ fields_nesting (struct_nestings structs) def
depth_at structs k def there stand =
    answer_at fields_nesting structs k def 0 there
    ∙ ap (λ (all : List ℕ). 1 + greatest all) (first_nestings (struct_nestings structs) k def.fields stand)
