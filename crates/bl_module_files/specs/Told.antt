-- Files whose texts are told, and what can come of them.
use Rattle.std.specs.Prelude.{◌≡◌, ℕ, List, [], ◌∷◌, ◌++◌, length, take, Some, ⊤}
use Rattle.bl_face.specs.declared.face.Face.{Face}
use Rattle.bl_module.specs.declared.behind.Behind.{Behind}
use Rattle.bl_module.specs.declared.taken.Taken.{Taken}
use Rattle.bl_module.specs.Faces.{FacesStand, IsBadFace, items_of}
use Rattle.bl_module.specs.Rules.{FirstFailingIn, PassesIn}
use Rattle.bl_module_files.specs.Faces.{AreSpelled}
use Rattle.bl_module_files.specs.Judged.{AreRead, NoFaceBehind}
use Rattle.bl_module_files.specs.Turns.{Left, WasRead, WereRead, file_limit}
use Rattle.bl_tree.specs.declared.place.Place.{Place}
use Rattle.bl_tree.specs.declared.rule.Rule.{Rule}

-- these are the texts of the files of these names, read in turn: each is told, and is all that the files before it left of its file
abbrev pub AreTold : Left → List (List ℕ) → List (List ℕ) → Type 0
AreTold left [] [] = ⊤
AreTold left [] (text ∷ texts) = ⊥
AreTold left (name ∷ names) [] = ⊥
AreTold left (name ∷ names) (text ∷ texts) =
    (left name ≡ Some text) × ((between : Left) → WasRead name text left between → AreTold between names texts)

-- files whose texts are told were read with these texts
abbrev pub ToldTextsAreRead : Type 0
ToldTextsAreRead = (left after : Left) (names texts found : List (List ℕ)) → AreTold left names texts → WereRead left names found after → found ≡ texts

-- there are as many texts as files, where all are told
abbrev pub ToldFilesHaveATextEach : Type 0
ToldFilesHaveATextEach = (left : Left) (names texts : List (List ℕ)) → AreTold left names texts → length texts ≡ length names

-- the first of files whose texts are told were read with the first of these texts
abbrev pub FirstToldTextsAreRead : Type 0
FirstToldTextsAreRead = (left after : Left) (names later texts found : List (List ℕ)) → AreTold left (names ++ later) texts →
    WereRead left names found after → (rest : List (List ℕ)) × (texts ≡ found ++ rest)

-- what was read of files whose texts are told: the text of the source, and the faces that the others spell
abbrev pub ToldFilesAreRead : Type 0
ToldFilesAreRead = (left : Left) (source text : List ℕ) (names texts : List (List ℕ)) → AreTold left (source ∷ names) (text ∷ texts) →
    (read : AreRead left source names) → (read.text ≡ text) × AreSpelled texts read.faces

-- no place is told at which a file stops being a face, where all texts spell faces
abbrev pub SpelledFacesAreTaken : Type 0
SpelledFacesAreTaken = (left : Left) (source text : List ℕ) (names texts : List (List ℕ)) (faces : List Face) (number at : ℕ) →
    AreTold left (source ∷ names) (text ∷ texts) → AreSpelled texts faces → ¬ NoFaceBehind left source names number at

-- texts spell the same items, whichever faces they spell
abbrev pub TextsHaveOneFaceEach : Type 0
TextsHaveOneFaceEach = (texts : List (List ℕ)) (faces others : List Face) → AreSpelled texts faces → AreSpelled texts others →
    items_of faces ≡ items_of others

-- faces of which one can't stand behind those before it don't stand
abbrev pub BadFacesDontStand : Type 0
BadFacesDontStand = (faces : List Face) (number : ℕ) → IsBadFace faces number → ¬ FacesStand faces

-- what fails first for a front that was read of a text fails first for the text
abbrev pub FrontsFailAsWholes : Type 0
FrontsFailAsWholes = (behind : Behind) (taken : Taken) (whole got : List ℕ) (rule : Rule) (place : Place) (also : List Place) →
    got ≡ take file_limit whole → FirstFailingIn behind taken got rule place also → FirstFailingIn behind taken whole rule place also

-- a front that was read of a text, and for which no rule fails, is the whole text
abbrev pub FrontsThatPassAreWhole : Type 0
FrontsThatPassAreWhole = (behind : Behind) (taken : Taken) (whole got : List ℕ) → got ≡ take file_limit whole → PassesIn behind taken got → whole ≡ got
