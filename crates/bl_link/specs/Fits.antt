-- Whether parts fit together as the files of one program.
use Rattle.std.specs.Prelude.{◌≡◌, ℕ, ◌+◌, ◌-◌, ◌<◌, ◌≤◌, nat_eq, List, map, take, length, slice_get, IfSome}
use Rattle.bl_face.specs.declared.face.Face.{Face}
use Rattle.bl_module.specs.Faces.{items_of}
use Rattle.bl_module.specs.Parts.{SeenPart}

-- the texts of parts
abbrev pub part_texts : List SeenPart → List (List ℕ)
part_texts parts = map (λ part. part.text) parts

-- the faces of parts
abbrev pub faces_of : List SeenPart → List Face
faces_of parts = map (λ part. part.face) parts

-- the part at a position, if there is one, was judged behind the faces of the parts before it
abbrev pub FaceFits : List SeenPart → ℕ → Type 0
FaceFits parts k = IfSome (slice_get parts k) (λ part. items_of part.uses ≡ items_of (faces_of (take k parts)))

-- the part at a position, if there is one, was judged as the last file exactly if no part follows
abbrev pub LastFits : List SeenPart → ℕ → Type 0
LastFits parts k = IfSome (slice_get parts k) (λ part. part.last ≡ nat_eq (k + 1) (length parts))

-- each part was judged behind the faces of the parts before it
abbrev pub FacesFit : List SeenPart → Type 0
FacesFit parts = (k : ℕ) → FaceFits parts k

-- the last part was judged as the last file, and no other part was
abbrev pub LastsFit : List SeenPart → Type 0
LastsFit parts = (k : ℕ) → LastFits parts k

-- parts are the files of one program, in order
pub record PartsFit (parts : List SeenPart) : Type 0 where
  pub faces : FacesFit parts
  pub lasts : LastsFit parts

-- of so many parts the one with this number, counted from 1, is the first at whose position the condition doesn't hold
pub record IsFirstMisfit (Fits : ℕ → Type 0) (parts number : ℕ) : Type 0 where
  pub counted : 1 ≤ number
  pub is_there : number ≤ parts
  pub earlier : (k : ℕ) → k + 1 < number → Fits k
  pub fails : ¬ Fits (number - 1)
