-- Texts of files, judged in turn.
use Rattle.std.specs.Prelude.{◌≡◌, ℕ, ◌+◌, List, [], ◌∷◌, ◌++◌, length, take, ⊤}
use Rattle.bl_face.specs.declared.face.Face.{Face}
use Rattle.bl_link.specs.Files.{FailTogether, FailsAtFile}
use Rattle.bl_link_files.specs.declared.fault.ProgramFault.{ProgramFault}
use Rattle.bl_link_files.specs.declared.fault.ProgramFault.TheVariants as fault
use Rattle.bl_module_laws.specs.Files.{AreGoodFiles}

-- the texts are good files, the first of so many
pub record AreFirstGood (count : ℕ) (texts : List (List ℕ)) : Type 0 where
  pub faces : List Face
  pub good : AreGoodFiles count texts faces

-- why the next of so many texts isn't good behind these: the first rule that fails for it behind their faces
abbrev pub NextTextStops : ℕ → List (List ℕ) → List ℕ → ProgramFault → Type 0
NextTextStops count texts text fault.Unread = ⊥
NextTextStops count texts text (fault.InTurn file rule place also) =
    (file ≡ length texts + 1) × FailsAtFile count (texts ++ text ∷ []) file rule place also
NextTextStops count texts text (fault.Together file rule place) = ⊥
NextTextStops count texts text fault.NoMemory = ⊤

-- why one of these first texts of so many isn't good: the first rule that fails for it behind the faces of those before it
abbrev pub StopsInTurn : ℕ → List (List ℕ) → ProgramFault → Type 0
StopsInTurn count texts fault.Unread = ⊥
StopsInTurn count texts (fault.InTurn file rule place also) = FailsAtFile count (take file texts) file rule place also
StopsInTurn count texts (fault.Together file rule place) = ⊥
StopsInTurn count texts fault.NoMemory = ⊤

-- why so many files stop of which these were read and the next can't be: one of these isn't good, or all are
abbrev pub IsStopOf : ℕ → List (List ℕ) → ProgramFault → Type 0
IsStopOf count texts fault.Unread = AreFirstGood count texts
IsStopOf count texts (fault.InTurn file rule place also) = FailsAtFile count (take file texts) file rule place also
IsStopOf count texts (fault.Together file rule place) = ⊥
IsStopOf count texts fault.NoMemory = ⊤

-- why these texts have no program: one of them isn't good, or all are and fail together
abbrev pub TextsStop : List (List ℕ) → ProgramFault → Type 0
TextsStop texts fault.Unread = ⊥
TextsStop texts (fault.InTurn file rule place also) = FailsAtFile (length texts) (take file texts) file rule place also
TextsStop texts (fault.Together file rule place) = FailTogether texts file rule place
TextsStop texts fault.NoMemory = ⊤
