-- One interface file, read.
use Rattle.std.specs.Prelude.{◌≡◌, ℕ, List, Option, ⊤}
use Rattle.bl_io.specs.Count.{Rose}
use Rattle.bl_io.specs.declared.fault.IoFault.{IoFault}
use Rattle.bl_io.specs.declared.fault.IoFault.TheVariants as io
use Rattle.bl_face.specs.declared.face.Face.{Face}
use Rattle.bl_face.specs.Reading.{NotFaceAt, ReadsAs}
use Rattle.bl_module_files.specs.declared.fault.FilesFault.{FilesFault}
use Rattle.bl_module_files.specs.declared.fault.FilesFault.TheVariants as fault
use Rattle.bl_module_files.specs.Turns.{IsText, Left, WasRead}

-- the file of this name has a text that spells this face
pub record IsFaceIn (name : List ℕ) (face : Face) (before after : Left) : Type 0 where
  pub text : List ℕ
  pub read : WasRead name text before after
  pub spells : ReadsAs text face

-- the text of a file is no face, and this place tells it
pub record IsNoFaceIn (left : Option (List ℕ)) (at : ℕ) : Type 0 where
  pub text : List ℕ
  pub is_text : IsText left text
  pub shows : NotFaceAt text at

-- why there is no face of the file with this number, by its count of faults before and after
abbrev pub FaceStops : ℕ → Option (List ℕ) → ℕ → ℕ → FilesFault → Type 0
FaceStops number left before after fault.Unread = Rose before after
FaceStops number left before after (fault.NotFace file at) = (file ≡ number) × IsNoFaceIn left at
FaceStops number left before after (fault.NoPart part) = ⊥
FaceStops number left before after fault.NoMemory = ⊤

-- what a failed read comes to
abbrev pub IsUnreadOr : IoFault → FilesFault → Type 0
IsUnreadOr io.Failed told = told ≡ fault.Unread
IsUnreadOr io.NoMemory told = told ≡ fault.NoMemory
