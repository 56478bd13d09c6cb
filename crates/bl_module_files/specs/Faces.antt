-- Interface files that are read in turn, and why there are no faces of them.
use Rattle.std.specs.Prelude.{◌≡◌, ℕ, ◌+◌, List, [], ◌∷◌, ◌++◌, length, ⊤}
use Rattle.bl_io.specs.Count.{Rose}
use Rattle.bl_face.specs.declared.face.Face.{Face}
use Rattle.bl_face.specs.Reading.{NotFaceAt, ReadsAs}
use Rattle.bl_module_files.specs.declared.fault.FilesFault.{FilesFault}
use Rattle.bl_module_files.specs.declared.fault.FilesFault.TheVariants as fault
use Rattle.bl_module_files.specs.Turns.{IsText, Left, WereRead}

-- the texts spell these faces, in order
abbrev pub AreSpelled : List (List ℕ) → List Face → Type 0
AreSpelled [] [] = ⊤
AreSpelled [] (face ∷ faces) = ⊥
AreSpelled (text ∷ texts) [] = ⊥
AreSpelled (text ∷ texts) (face ∷ faces) = ReadsAs text face × AreSpelled texts faces

-- the files of these names were read in turn, and their texts spell these faces
pub record AreFaces (left : Left) (names : List (List ℕ)) (faces : List Face) (after : Left) : Type 0 where
  pub texts : List (List ℕ)
  pub read : WereRead left names texts after
  pub spelled : AreSpelled texts faces

-- one of the names is this, with this number, counted from 1. The files before it are faces, and this is left of each file behind them
pub record ComesTo (left : Left) (names : List (List ℕ)) (number : ℕ) (name : List ℕ) (now : Left) : Type 0 where
  pub earlier : List (List ℕ)
  pub later : List (List ℕ)
  pub names_are : names ≡ earlier ++ name ∷ later
  pub number_is : number ≡ length earlier + 1
  pub faces : List Face
  pub are_faces : AreFaces left earlier faces now

-- the file of this number is the first that is no face, and this place tells it
pub record IsNoFace (left : Left) (names : List (List ℕ)) (number at : ℕ) : Type 0 where
  pub name : List ℕ
  pub now : Left
  pub comes : ComesTo left names number name now
  pub text : List ℕ
  pub is_text : IsText (now name) text
  pub shows : NotFaceAt text at

-- the files before one of them are faces, and its count of faults rose
pub record IsUnread (left : Left) (before after : List ℕ → ℕ) (names : List (List ℕ)) : Type 0 where
  pub number : ℕ
  pub name : List ℕ
  pub now : Left
  pub comes : ComesTo left names number name now
  pub rose : Rose (before name) (after name)

-- why there are no faces of these files, by their counts of faults before and after; want of memory has no cause in the files
abbrev pub FacesStop : Left → (List ℕ → ℕ) → (List ℕ → ℕ) → List (List ℕ) → FilesFault → Type 0
FacesStop left before after names fault.Unread = IsUnread left before after names
FacesStop left before after names (fault.NotFace number at) = IsNoFace left names number at
FacesStop left before after names (fault.NoPart part) = ⊥
FacesStop left before after names fault.NoMemory = ⊤
