-- The program of source files that are read in turn, and why they have none.
use Rattle.std.specs.Prelude.{◌≡◌, ℕ, List, ◌∷◌, ◌++◌, length, ⊤}
use Rattle.bl_face.specs.declared.face.Face.{Face}
use Rattle.bl_io.specs.Count.{Rose}
use Rattle.bl_link.specs.Files.{AreFilesOf, FailTogether, FailsAtFile}
use Rattle.bl_link_files.specs.declared.fault.ProgramFault.{ProgramFault}
use Rattle.bl_link_files.specs.declared.fault.ProgramFault.TheVariants as fault
use Rattle.bl_module_files.specs.Turns.{Left, WereRead}
use Rattle.bl_module_laws.specs.Files.{AreGoodFiles}
use Rattle.bl_tree.specs.declared.place.Place.{Place}
use Rattle.bl_tree.specs.declared.program.Program.{Program}
use Rattle.bl_tree.specs.declared.rule.Rule.{Rule}

-- the files of these names were read in turn, and their texts have this program
pub record IsProgramOfFiles (left : Left) (names : List (List ℕ)) (program : Program) : Type 0 where
  pub texts : List (List ℕ)
  pub after : Left
  pub read : WereRead left names texts after
  pub are : AreFilesOf texts program

-- the files up to the one with this number, counted from 1, were read in turn. Those before it are good, and the rule is the first that fails for this one
-- behind their faces
pub record FailsInTurn (left : Left) (names : List (List ℕ)) (file : ℕ) (rule : Rule) (place : Place) (also : List Place) : Type 0 where
  pub earlier : List (List ℕ)
  pub later : List (List ℕ)
  pub names_are : names ≡ earlier ++ later
  pub counted : file ≡ length earlier
  pub texts : List (List ℕ)
  pub now : Left
  pub read : WereRead left earlier texts now
  pub fails : FailsAtFile (length names) texts file rule place also

-- all files were read in turn and are good. The rule is Frames or Cells, the first that fails for their joined texts, at this place of the file
pub record FilesFailTogether (left : Left) (names : List (List ℕ)) (file : ℕ) (rule : Rule) (place : Place) : Type 0 where
  pub texts : List (List ℕ)
  pub after : Left
  pub read : WereRead left names texts after
  pub fail : FailTogether texts file rule place

-- the files before one of them were read in turn and are good, and its count of faults rose
pub record IsUnreadInTurn (left : Left) (before after : List ℕ → ℕ) (names : List (List ℕ)) : Type 0 where
  pub earlier : List (List ℕ)
  pub name : List ℕ
  pub later : List (List ℕ)
  pub names_are : names ≡ earlier ++ name ∷ later
  pub texts : List (List ℕ)
  pub now : Left
  pub read : WereRead left earlier texts now
  pub faces : List Face
  pub good : AreGoodFiles (length names) texts faces
  pub rose : Rose (before name) (after name)

-- why these files have no program, by their counts of faults before and after; want of memory has no cause in the files
abbrev pub HaveNoProgram : Left → (List ℕ → ℕ) → (List ℕ → ℕ) → List (List ℕ) → ProgramFault → Type 0
HaveNoProgram left before after names fault.Unread = IsUnreadInTurn left before after names
HaveNoProgram left before after names (fault.InTurn file rule place also) = FailsInTurn left names file rule place also
HaveNoProgram left before after names (fault.Together file rule place) = FilesFailTogether left names file rule place
HaveNoProgram left before after names fault.NoMemory = ⊤
