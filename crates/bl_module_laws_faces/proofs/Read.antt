-- The numbers of a face that stands fit, so what is printed of it is read as it.
use Rattle.std.proofs.Common.{◌≡◌, ℕ, ◌≤◌, ◌^◌, ◌+◌, true, List, [], ◌∷◌, ◌++◌, length, refl, sym, ap, subst, ◌∙◌, arith}
use Rattle.std.specs.Prelude.{ℤ, pos, negsuc, ◌&&◌, nat_abs, nat_le, unsigned_abs}
use Rattle.std.specs.List.{list_all}
use Rattle.std.proofs.lemmas.Bool.{leb-true}
use Rattle.bl_tree.proofs.Basics.{and_first, and_second}
use Rattle.bl_face.specs.declared.face.Face.{Face}
use Rattle.bl_face.specs.declared.item.FaceField.{FaceField}
use Rattle.bl_face.specs.declared.item.FaceItem.{FaceItem}
use Rattle.bl_face.specs.declared.item.FaceItem.TheVariants.{Struct, Constant, Head}
use Rattle.bl_face.specs.Reading.{ReadsAs, most_bytes}
use Rattle.bl_face.specs.Text.{face_text}
use Rattle.bl_face_laws.specs.Fits.{FieldsFit, ItemFits, ItemsFit, LengthsFit}
use Rattle.bl_module.proofs.FaceLemmas.{stand-append}
use Rattle.bl_module.specs.Behind.{after_item, after_items, base_stands, before_items, fields_depth, gives_once, is_length, item_stands, items_stand}
use Rattle.bl_module.specs.Behind.{type_depth, type_stands, types_stand}
use Rattle.bl_module.specs.declared.walk.Walk.{Walk}
use Rattle.bl_module.specs.Faces.{FacesStand, all_items}
use Rattle.bl_module.specs.Names.{DeclaredNames, are_new, is_new, with_fields}
use Rattle.bl_module_laws_faces.proofs.Whole.{faces_next}
use Rattle.bl_module_laws_faces.specs.Laws.{FaceDeclares, GoodFacesAreRead}
use Rattle.bl_tree.proofs.NumberLemmas.{in_range_holds, magnitude_le}
use Rattle.bl_tree.specs.declared.scalar.Scalar.{Scalar as ScalarType}
use Rattle.bl_tree.specs.Scalar.{in_range}

-- ---- numbers

lengths_fit : (lengths : List ℕ) → list_all is_length lengths ≡ true → LengthsFit lengths
lengths_fit [] are = tt
lengths_fit (n ∷ lengths) are = (
  let most : n ≤ 65_536 = leb-true n 65_536 (and_second (nat_le 1 n) (nat_le n 65_536) (and_first (is_length n) (list_all is_length lengths) are)) in
      omega (arith, most),
  lengths_fit lengths (and_second (is_length n) (list_all is_length lengths) are),
)

fields_fit : (names : DeclaredNames) (fields : List FaceField) → types_stand names fields ≡ true → FieldsFit fields
fields_fit names [] stand = tt
fields_fit names (field ∷ fields) stand =
    let ty = field.ty in
    let first = and_first (type_stands names ty) (types_stand names fields) stand in
    let inner = and_first (base_stands names ty.base && list_all is_length ty.lengths) (nat_le (type_depth names ty) 100) first in (
      lengths_fit ty.lengths (and_second (base_stands names ty.base) (list_all is_length ty.lengths) inner),
      fields_fit names fields (and_second (type_stands names ty) (types_stand names fields) stand),
    )

same_size : (value : ℤ) → nat_abs value ≡ unsigned_abs value
same_size (pos n) = refl
same_size (negsuc n) = refl

value_fits : (of : ScalarType) (value : ℤ) → in_range of value ≡ true → nat_abs value ≤ 2 ^ 64
value_fits of value is = subst (λ n. n ≤ 2 ^ 64) (sym (same_size value)) (magnitude_le of value (in_range_holds of value is))

-- ---- items

item_fits : (names : DeclaredNames) (item : FaceItem) → item_stands names item ≡ true → ItemFits item
item_fits names (Struct name fields) stands =
    fields_fit names fields
    (and_first (types_stand names fields) (nat_le (1 + fields_depth names fields) 100)
    (and_second (is_new names name && are_new [] fields) (types_stand names fields && nat_le (1 + fields_depth names fields) 100) stands))
item_fits names (Constant name of value) stands = value_fits of value (and_second (is_new names name) (in_range of value) stands)
item_fits names (Head kind name inputs outputs result) stands =
    let types = and_first (types_stand names inputs && types_stand names outputs) (gives_once kind outputs result)
    (and_second (is_new names name && (are_new [] inputs && are_new (with_fields [] inputs) outputs))
    ((types_stand names inputs && types_stand names outputs) && gives_once kind outputs result) stands) in (
      fields_fit names inputs (and_first (types_stand names inputs) (types_stand names outputs) types),
      fields_fit names outputs (and_second (types_stand names inputs) (types_stand names outputs) types),
    )

items_fit : (walk : Walk) (items : List FaceItem) → items_stand walk items ≡ true → ItemsFit items
items_fit walk [] stand = tt
items_fit walk (item ∷ items) stand = (
  item_fits walk.names item (and_first (item_stands walk.names item) (items_stand (after_item walk item) items) stand),
  items_fit (after_item walk item) items (and_second (item_stands walk.names item) (items_stand (after_item walk item) items) stand),
)

-- ---- faces

face_fits : (faces : List Face) (face : Face) → FacesStand (faces ++ face ∷ []) → ItemsFit face.items
face_fits faces face stand =
    let walk : Walk = after_items before_items (all_items faces) in
    items_fit walk face.items
    (and_second (items_stand before_items (all_items faces)) (items_stand walk face.items)
    (sym (stand-append before_items (all_items faces) face.items) ∙ ap (items_stand before_items) (sym (faces_next faces face)) ∙ stand))

abbrev pub PrintedIsRead : Type 0
PrintedIsRead = (face : Face) → ItemsFit face.items → length (face_text face) ≤ most_bytes → ReadsAs (face_text face) face

pub good_is_read : FaceDeclares → PrintedIsRead → GoodFacesAreRead
good_is_read declare read faces taken text face good short =
    read face (face_fits faces face (declare faces taken text face good.is_face.raw good good.is_face.parses).stand) short
