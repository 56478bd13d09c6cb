-- Ends of jobs as values of the program, before their line is written.
use Rattle.std.specs.Prelude.{◌≡◌, ℕ, ◌⊎◌, List, [], ◌++◌}
use Rattle.bl_top_commands.specs.Notes.{bad_face_line, bad_rows_line, bad_state_line, line_of, no_face_line, not_subset_line, too_large_line}
use Rattle.bl_top_commands.specs.Refusals.{file_line, refusal_line}
use Rattle.bl_top_commands.specs.declared.answer.Answer.{Answer}
use Rattle.bl_top_commands.specs.declared.outcome.Outcome.{Outcome}
use Rattle.bl_top_commands.specs.declared.status.Status.{Status}
use Rattle.bl_top_commands.specs.declared.status.Status.TheVariants as status
use Rattle.bl_link_files.specs.declared.fault.ProgramFault.{ProgramFault}
use Rattle.bl_link_files.specs.declared.fault.ProgramFault.TheVariants as program
use Rattle.bl_module.specs.declared.fault.PartFault.{PartFault}
use Rattle.bl_module.specs.declared.fault.PartFault.TheVariants as part
use Rattle.bl_module_files.specs.declared.fault.FilesFault.{FilesFault}
use Rattle.bl_module_files.specs.declared.fault.FilesFault.TheVariants as files
use Rattle.bl_cparse.specs.declared.refusal.CRefusal.{CRefusal}
use Rattle.bl_cparse.specs.declared.refusal.CRefusal.TheVariants as text
use Rattle.bl_crun.specs.declared.fault.LoadFault.{LoadFault}
use Rattle.bl_crun.specs.declared.fault.LoadFault.TheVariants as load
use Rattle.bl_save.specs.declared.fault.StateFault.{StateFault}
use Rattle.bl_save.specs.declared.fault.StateFault.TheVariants as state
use Rattle.bl_rows_stream.specs.declared.finish.Finish.{Finish}
use Rattle.bl_rows_stream.specs.declared.finish.Finish.TheVariants as finish
use Rattle.bl_tree.specs.declared.rule.Refusal.{Refusal}
use Rattle.bl_tree.specs.declared.rule.Refusal.TheVariants as refusal

-- some statuses have a line of the job's own
abbrev pub chosen_line : Status → List ℕ → List ℕ
chosen_line status.Refused own = own
chosen_line status.BadRows own = own
chosen_line status.NotSubset own = own
chosen_line status.PlantFault own = own
chosen_line status.PlantShape own = own
chosen_line status.TooLarge own = own
chosen_line status.BadState own = own
chosen_line status.NotFace own = own
chosen_line ended own = line_of ended

-- the line of an outcome
abbrev pub line_in : Outcome → List ℕ
line_in outcome = chosen_line outcome.status outcome.line.items

-- all lines of an answer, that of its status last
abbrev pub lines_in : Answer → List ℕ
lines_in answer = answer.told.items ++ line_in answer.outcome

-- the outcome has the status and the job's own line, or memory was refused for the line
abbrev pub IsTold : Status → List ℕ → Outcome → Type 0
IsTold ended line outcome = ((outcome.status ≡ ended) × (outcome.line.items ≡ line)) ⊎ (outcome.status ≡ status.NoMemory)

-- the outcome is that of a source that is refused for this reason
abbrev pub IsRefusedBy : Refusal → Outcome → Type 0
IsRefusedBy (refusal.Rule rule place also) outcome = IsTold status.Refused (refusal_line rule place also) outcome
IsRefusedBy refusal.NoMemory outcome = outcome.status ≡ status.NoMemory

-- the outcome is that of a source that has no part behind faces for this fault
abbrev pub IsEndAtPart : PartFault → Outcome → Type 0
IsEndAtPart (part.BadFace file) outcome = IsTold status.NotFace (bad_face_line file) outcome
IsEndAtPart (part.Rule rule place also) outcome = IsTold status.Refused (refusal_line rule place also) outcome
IsEndAtPart part.NoMemory outcome = outcome.status ≡ status.NoMemory

-- the outcome is that of a source that has no face behind interface files for this fault
abbrev pub IsEndAtFiles : FilesFault → Outcome → Type 0
IsEndAtFiles files.Unread outcome = outcome.status ≡ status.ReadFault
IsEndAtFiles (files.NotFace file at) outcome = IsTold status.NotFace (no_face_line file at) outcome
IsEndAtFiles (files.NoPart fault) outcome = IsEndAtPart fault outcome
IsEndAtFiles files.NoMemory outcome = outcome.status ≡ status.NoMemory

-- the outcome is that of source files that have no program for this fault
abbrev pub IsEndAtProgram : ProgramFault → Outcome → Type 0
IsEndAtProgram program.Unread outcome = outcome.status ≡ status.ReadFault
IsEndAtProgram (program.InTurn file rule place also) outcome = IsTold status.Refused (file_line file (refusal_line rule place also)) outcome
IsEndAtProgram (program.Together file rule place) outcome = IsTold status.Refused (file_line file (refusal_line rule place [])) outcome
IsEndAtProgram program.NoMemory outcome = outcome.status ≡ status.NoMemory

-- the outcome is that of a C text that is refused so
abbrev pub IsEndAtText : CRefusal → Outcome → Type 0
IsEndAtText (text.NotSubset at) outcome = IsTold status.NotSubset (not_subset_line at) outcome
IsEndAtText text.NoMemory outcome = outcome.status ≡ status.NoMemory

-- the outcome is that of a file that isn't loaded for this fault
abbrev pub IsEndAtLoad : LoadFault → Outcome → Type 0
IsEndAtLoad (load.IllFormed at) outcome = IsTold status.NotSubset (not_subset_line at.start) outcome
IsEndAtLoad (load.TooLarge cells) outcome = IsTold status.TooLarge (too_large_line cells) outcome
IsEndAtLoad load.NoMemory outcome = outcome.status ≡ status.NoMemory

-- the outcome is that of bytes that are no saved state for this fault
abbrev pub IsEndAtState : StateFault → Outcome → Type 0
IsEndAtState (state.BadState at) outcome = IsTold status.BadState (bad_state_line at) outcome

-- the status of a run with this end
abbrev pub status_of : Finish → Status
status_of finish.Done = status.Ok
status_of finish.Trapped = status.Trapped
status_of (finish.BadRows line) = status.BadRows
status_of finish.ReadFault = status.ReadFault
status_of finish.WriteFault = status.WriteFault
status_of finish.NoMemory = status.NoMemory

-- the outcome is that of a run that ended so, or memory was refused for its line
abbrev pub IsEndOf : Finish → Outcome → Type 0
IsEndOf (finish.BadRows line) outcome = IsTold status.BadRows (bad_rows_line line) outcome
IsEndOf ended outcome = outcome.status ≡ status_of ended
