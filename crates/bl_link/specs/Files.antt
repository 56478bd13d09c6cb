-- The files of a program, judged one after another.
use Rattle.std.specs.Prelude.{◌≡◌, ℕ, ◌+◌, List, [], ◌∷◌, ◌++◌, length, take, slice_get, Some, ⊤}
use Rattle.bl_face.specs.declared.face.Face.{Face}
use Rattle.bl_link.specs.declared.fault.LinkFault.{LinkFault}
use Rattle.bl_link.specs.declared.fault.LinkFault.TheVariants as fault
use Rattle.bl_link.specs.Linked.{FailJoined, HaveProgram}
use Rattle.bl_module.specs.declared.fault.PartFault.{PartFault}
use Rattle.bl_module.specs.declared.fault.PartFault.TheVariants as part
use Rattle.bl_module.specs.Parts.{FailsBehindFaces}
use Rattle.bl_module_laws.specs.Files.{AreGoodFiles, taken_at}
use Rattle.bl_tree.specs.declared.place.Place.{Place}
use Rattle.bl_tree.specs.declared.program.Program.{Program}
use Rattle.bl_tree.specs.declared.rule.Rule.{Rule}

-- of so many files those before the one with this number, counted from 1, are good. The rule is the first that fails for this one behind their faces
pub record FailsAtFile (count : ℕ) (texts : List (List ℕ)) (file : ℕ) (rule : Rule) (place : Place) (also : List Place) : Type 0 where
  pub position : ℕ
  pub counted : file ≡ position + 1
  pub text : List ℕ
  pub is_there : slice_get texts position ≡ Some text
  pub faces : List Face
  pub before : AreGoodFiles count (take position texts) faces
  pub fails : FailsBehindFaces faces (taken_at count position) text rule place also

-- all files are good, and their joined texts have this program
pub record AreFilesOf (texts : List (List ℕ)) (program : Program) : Type 0 where
  pub faces : List Face
  pub good : AreGoodFiles (length texts) texts faces
  pub have : HaveProgram texts program

-- all files are good. The rule is Frames or Cells, the first that fails for their joined texts, at this place of the file with the number
pub record FailTogether (texts : List (List ℕ)) (file : ℕ) (rule : Rule) (place : Place) : Type 0 where
  pub faces : List Face
  pub good : AreGoodFiles (length texts) texts faces
  pub fail : FailJoined texts file rule place

-- the fault is a rule that fails for the joined texts of good files; want of memory has no cause in them, and nothing else is a fault of theirs
abbrev pub JoinedStops : List (List ℕ) → LinkFault → Type 0
JoinedStops texts (fault.Rule file rule place) = FailTogether texts file rule place
JoinedStops texts fault.NoMemory = ⊤
JoinedStops texts _ = ⊥

-- why the next of so many files stops behind good ones: the first rule that fails for it; want of memory has no cause, and nothing else is a fault of it
abbrev pub NextStops : ℕ → List (List ℕ) → List ℕ → PartFault → Type 0
NextStops count texts text (part.Rule rule place also) = FailsAtFile count (texts ++ text ∷ []) (length texts + 1) rule place also
NextStops count texts text part.NoMemory = ⊤
NextStops count texts text _ = ⊥

-- ---- what contracts see

-- the first files of a program: how many it has, and the texts of these with their faces
pub record SeenFiles : Type 0 where
  pub count : ℕ
  pub texts : List (List ℕ)
  pub faces : List Face

-- the files with these
abbrev pub files_with : ℕ → List (List ℕ) → List Face → SeenFiles
files_with count texts faces = record { count = count; texts = texts; faces = faces }
