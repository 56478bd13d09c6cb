-- The face of a source file behind interface files, and why there is none.
use Rattle.std.specs.Prelude.{ℕ, List, ⊤}
use Rattle.bl_io.specs.Count.{Rose}
use Rattle.bl_face.specs.declared.face.Face.{Face}
use Rattle.bl_tree.specs.declared.place.Place.{Place}
use Rattle.bl_tree.specs.declared.rule.Rule.{Rule}
use Rattle.bl_module.specs.declared.fault.PartFault.{PartFault}
use Rattle.bl_module.specs.declared.fault.PartFault.TheVariants as part
use Rattle.bl_module.specs.declared.taken.Taken.TheVariants.{AsMarked}
use Rattle.bl_module.specs.Faces.{IsBadFace}
use Rattle.bl_module.specs.Parts.{FailsBehindFaces, IsGoodBehind}
use Rattle.bl_module_files.specs.declared.fault.FilesFault.{FilesFault}
use Rattle.bl_module_files.specs.declared.fault.FilesFault.TheVariants as fault
use Rattle.bl_module_files.specs.Faces.{AreFaces, IsNoFace, IsUnread}
use Rattle.bl_module_files.specs.Turns.{Left, WasRead}

-- the source file has this text, and the interface files, read behind it, have these faces
pub record AreRead (left : Left) (source : List ℕ) (names : List (List ℕ)) : Type 0 where
  pub text : List ℕ
  pub between : Left
  pub source_read : WasRead source text left between
  pub faces : List Face
  pub after : Left
  pub are_faces : AreFaces between names faces after

-- the face is that of the source file behind the interface files: their faces stand, and no rule fails for the source behind them
pub record IsFaceOfFile (left : Left) (source : List ℕ) (names : List (List ℕ)) (face : Face) : Type 0 where
  pub read : AreRead left source names
  pub good : IsGoodBehind read.faces AsMarked read.text face

-- the source was read, and the interface file of this number is the first that is no face, which this place tells
pub record NoFaceBehind (left : Left) (source : List ℕ) (names : List (List ℕ)) (number at : ℕ) : Type 0 where
  pub text : List ℕ
  pub between : Left
  pub source_read : WasRead source text left between
  pub no_face : IsNoFace between names number at

-- the face of the interface file of this number is the first that can't stand
pub record BadFaceBehind (left : Left) (source : List ℕ) (names : List (List ℕ)) (number : ℕ) : Type 0 where
  pub read : AreRead left source names
  pub bad : IsBadFace read.faces number

-- the faces stand, and the rule is the first that fails for the source behind them
pub record FailsBehindFiles (left : Left) (source : List ℕ) (names : List (List ℕ)) (rule : Rule) (place : Place) (also : List Place) : Type 0 where
  pub read : AreRead left source names
  pub fails : FailsBehindFaces read.faces AsMarked read.text rule place also

-- the count of faults of the source rose; or the source was read, and so with an interface file behind files that are faces
pub data UnreadBehind (left : Left) (before after : List ℕ → ℕ) (source : List ℕ) (names : List (List ℕ)) : Type 0 where
  source_unread : Rose (before source) (after source) → UnreadBehind left before after source names
  face_unread : (text : List ℕ) (between : Left) → WasRead source text left between → IsUnread between before after names →
      UnreadBehind left before after source names

-- why the source has no part behind the faces; want of memory has no cause in the files
abbrev pub HasNoPart : Left → List ℕ → List (List ℕ) → PartFault → Type 0
HasNoPart left source names (part.BadFace number) = BadFaceBehind left source names number
HasNoPart left source names (part.Rule rule place also) = FailsBehindFiles left source names rule place also
HasNoPart left source names part.NoMemory = ⊤

-- why the source has no face behind the interface files, by the counts of faults before and after; want of memory has no cause in the files
abbrev pub FilesStop : Left → (List ℕ → ℕ) → (List ℕ → ℕ) → List ℕ → List (List ℕ) → FilesFault → Type 0
FilesStop left before after source names fault.Unread = UnreadBehind left before after source names
FilesStop left before after source names (fault.NotFace number at) = NoFaceBehind left source names number at
FilesStop left before after source names (fault.NoPart part) = HasNoPart left source names part
FilesStop left before after source names fault.NoMemory = ⊤
