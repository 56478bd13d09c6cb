-- Faces whose numbers fit their places.
use Rattle.std.specs.Prelude.{ℕ, ℤ, ◌-◌, ◌^◌, ◌≤◌, nat_abs, List, [], ◌∷◌, ⊤}
use Rattle.bl_face.specs.declared.item.FaceField.{FaceField}
use Rattle.bl_face.specs.declared.item.FaceItem.{FaceItem}
use Rattle.bl_face.specs.declared.item.FaceItem.TheVariants.{Struct, Constant, Head}

-- each length is at most 2^32 - 1, as every length in memory is
abbrev pub LengthsFit : List ℕ → Type 0
LengthsFit [] = ⊤
LengthsFit (n ∷ lengths) = (n ≤ 2 ^ 32 - 1) × LengthsFit lengths

-- the lengths in the types of the fields or parameters fit
abbrev pub FieldsFit : List FaceField → Type 0
FieldsFit [] = ⊤
FieldsFit (field ∷ fields) = LengthsFit field.ty.lengths × FieldsFit fields

-- lengths fit, and a constant is at most 2^64 in size, as which tokens keep every greater number
abbrev pub ItemFits : FaceItem → Type 0
ItemFits (Struct name fields) = FieldsFit fields
ItemFits (Constant name of value) = nat_abs value ≤ 2 ^ 64
ItemFits (Head kind name inputs outputs result) = FieldsFit inputs × FieldsFit outputs

-- the numbers of each item fit
abbrev pub ItemsFit : List FaceItem → Type 0
ItemsFit [] = ⊤
ItemsFit (item ∷ items) = ItemFits item × ItemsFit items
