-- Whether a part fits where it stands.
use Rattle.std.proofs.Common.{◌≡◌, ℕ, ◌+◌, ◌-◌, ◌<◌, ◌≤◌, List, length, take, get_or, refl, sym, ap, ◌∙◌, subst, inl, inr, arith}
use Rattle.std.proofs.lemmas.Bool.{cases_lt}
use Rattle.std.proofs.lemmas.List.{take_all}
use Rattle.std.proofs.lemmas.Option.{slice_get-map, slice_get_read}
use Rattle.std.specs.Prelude.{IfSome, Option, Some, option_map, slice_get}
use Rattle.bl_tree.proofs.Basics.{get_taken}
use Rattle.bl_face.specs.declared.face.Face.{Face}
use Rattle.bl_face.specs.declared.item.FaceItem.{FaceItem}
use Rattle.bl_link.proofs.Lists.{agree-at, agree-next, take-map}
use Rattle.bl_link.specs.Fits.{FaceFits, IsFirstMisfit, faces_of}
use Rattle.bl_module.specs.Faces.{items_of}
use Rattle.bl_module.specs.Parts.{SeenPart}

abbrev items : Face → List FaceItem
items face = face.items

abbrev face_of : SeenPart → Face
face_of part = part.face

-- the first faces that a part uses are those of the first parts
abbrev pub SameFaces : List Face → List SeenPart → ℕ → Type 0
SameFaces uses parts k = items_of (take k uses) ≡ items_of (take k (faces_of parts))

part_read : (parts : List SeenPart) (k : ℕ) (part : SeenPart) → k < length parts → part ≡ get_or parts k part → slice_get parts k ≡ Some part
part_read parts k part within is = slice_get_read parts (length parts) k part refl within is

face_read : (parts : List SeenPart) (k : ℕ) (part : SeenPart) → k < length parts → part ≡ get_or parts k part →
    slice_get (faces_of parts) k ≡ Some part.face
face_read parts k part within is = slice_get-map face_of parts k ∙ ap (option_map face_of) (part_read parts k part within is)

-- one face more
pub same_next : (uses : List Face) (parts : List SeenPart) (k : ℕ) (one : Face) (part : SeenPart) → k < length uses → k < length parts →
    one ≡ get_or uses k one → part ≡ get_or parts k part → one.items ≡ part.face.items → SameFaces uses parts k → SameFaces uses parts (k + 1)
same_next uses parts k one part inside within is at same before =
    agree-next items items uses (faces_of parts) k one part.face (slice_get_read uses (length uses) k one refl inside is) (face_read parts k part within at)
    same before

-- a part at its position
module _ (parts : List SeenPart) (k : ℕ) (part : SeenPart) (within : k < length parts) (is : part ≡ get_or parts k part) where
  abbrev Uses : Option SeenPart → Type 0
  Uses o = IfSome o (λ it. items_of it.uses ≡ items_of (faces_of (take k parts)))

  fits_same : FaceFits parts k → items_of part.uses ≡ items_of (take k (faces_of parts))
  fits_same fits = subst Uses (part_read parts k part within is) fits ∙ ap items_of (sym (take-map face_of k parts))

  pub same_fits : items_of part.uses ≡ items_of (take k (faces_of parts)) → FaceFits parts k
  same_fits same = subst Uses (sym (part_read parts k part within is)) (same ∙ ap items_of (take-map face_of k parts))

  -- all faces that it uses are the same
  pub all_fit : length part.uses ≡ k → SameFaces part.uses parts k → FaceFits parts k
  all_fit size same =
      let most : length part.uses ≤ k = omega (arith, size) in
      same_fits (ap items_of (sym (take_all k part.uses most)) ∙ same)

  -- one of the faces that it uses is another
  pub no_face : (j : ℕ) (one : Face) (other : SeenPart) → j < k → length part.uses ≡ k → one ≡ get_or part.uses j one → other ≡ get_or parts j other →
      (one.items ≡ other.face.items → ⊥) → ¬ FaceFits parts k
  no_face j one other less size at there differ fits =
      let inside : j < length part.uses = omega (arith, size, less) in
      let below : j < length parts = omega (arith, within, less) in
      differ
      (agree-at items items part.uses (take k (faces_of parts)) j one other.face (fits_same fits)
      (slice_get_read part.uses (length part.uses) j one refl inside at)
      (get_taken (faces_of parts) k j less ∙ face_read parts j other below there))

-- ---- all parts

-- there is one first
pub one_misfit : (Fits : ℕ → Type 0) (parts n m : ℕ) → IsFirstMisfit Fits parts n → IsFirstMisfit Fits parts m → n ≡ m
one_misfit Fits parts n m one other = elim (cases_lt n m) [
  | inl less ↦
      let sooner : n - 1 + 1 < m = omega (arith, less, one.counted) in
      absurd (one.fails (other.earlier (n - 1) sooner))
  | inr most ↦ elim (cases_lt m n) [
    | inl less ↦
        let sooner : m - 1 + 1 < n = omega (arith, less, other.counted) in
        absurd (other.fails (one.earlier (m - 1) sooner))
    | inr least ↦ omega (arith, most, least)
  ]
]
