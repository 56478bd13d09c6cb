-- The number and the line on `notes` that go with each status, and what a call writes there.
use Rattle.std.specs.Prelude.{◌≢◌, ℕ, List, [], ◌∷◌, ◌++◌, codes, decimal}
use Rattle.bl_top_commands.specs.Calls.{HasRisen, Output}
use Rattle.bl_top_commands.specs.declared.status.Status.{Status}
use Rattle.bl_top_commands.specs.declared.status.Status.TheVariants as status
use Rattle.bl_io.specs.Held.{Appends, AppendsPart}
use Rattle.bl_top_args.specs.Usage.{usage_line}

-- the number that the process ends with
abbrev pub exit_code_of : Status → ℕ
exit_code_of status.Ok = 0
exit_code_of status.Refused = 1
exit_code_of status.Usage = 2
exit_code_of status.ReadFault = 3
exit_code_of status.WriteFault = 4
exit_code_of status.BadRows = 5
exit_code_of status.Trapped = 6
exit_code_of status.NoMemory = 7
exit_code_of status.NotSubset = 8
exit_code_of status.PlantFault = 9
exit_code_of status.PlantShape = 10
exit_code_of status.TooLarge = 11
exit_code_of status.SaveEnded = 14
exit_code_of status.BadState = 15
exit_code_of status.NotFace = 13

-- ---- lines, each with its line feed

-- the line of a status; none where it has none, or where what the job read decides it
abbrev pub line_of : Status → List ℕ
line_of status.Ok = []
line_of status.Refused = []
line_of status.Usage = usage_line
line_of status.ReadFault = codes "read fault" ++ 10 ∷ []
line_of status.WriteFault = []
line_of status.BadRows = []
line_of status.Trapped = []
line_of status.NoMemory = codes "no memory" ++ 10 ∷ []
line_of status.NotSubset = []
line_of status.PlantFault = []
line_of status.PlantShape = []
line_of status.TooLarge = []
line_of status.SaveEnded = codes "ended" ++ 10 ∷ []
line_of status.BadState = []
line_of status.NotFace = []

-- words and a number
abbrev pub numbered_line : List ℕ → ℕ → List ℕ
numbered_line words number = words ++ (decimal number ++ (10 ∷ []))

-- the first bad line of a file of rows
abbrev pub bad_rows_line : ℕ → List ℕ
bad_rows_line line = numbered_line (codes "rows: line ") line

-- the line with the offset at which a text leaves the C subset
abbrev pub not_subset_line : ℕ → List ℕ
not_subset_line at = numbered_line (codes "not subset: at ") at

-- how long a text is as far as it was read, how many cells a file needs, or how many stages a program would have
abbrev pub too_large_line : ℕ → List ℕ
too_large_line size = numbered_line (codes "too large: ") size

-- the line with the offset at which bytes are no saved state
abbrev pub bad_state_line : ℕ → List ℕ
bad_state_line at = numbered_line (codes "bad state: at ") at

-- the line with the number of an interface file that is no face, counted from 1, and the offset at which it stops being one
abbrev pub no_face_line : ℕ → ℕ → List ℕ
no_face_line file at = codes "not face: file " ++ (decimal file ++ (codes " at " ++ (decimal at ++ (10 ∷ []))))

-- the line with the number of an interface file that can't stand behind those before it, counted from 1
abbrev pub bad_face_line : ℕ → List ℕ
bad_face_line file = numbered_line (codes "not face: file ") file

-- ---- on `notes`

-- the lines of a job with this status were written, or a write failed or wanted memory after a prefix, with the status for that
pub data WritesLines (notes : Output) (lines : List ℕ) (meant : Status) : Status → Type 0 where
  whole : Appends notes.before lines notes.after → WritesLines notes lines meant meant
  fault : lines ≢ [] → AppendsPart notes.before lines notes.after → HasRisen notes.faults → WritesLines notes lines meant status.WriteFault
  want : lines ≢ [] → AppendsPart notes.before lines notes.after → WritesLines notes lines meant status.NoMemory
