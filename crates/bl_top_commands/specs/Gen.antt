-- How `gen` ends.
use Rattle.std.specs.Prelude.{ℕ, ◌<◌, ◌≤◌, List, Some}
use Rattle.bl_top_commands.specs.Calls.{Call}
use Rattle.bl_top_commands.specs.Notes.{WritesLines, line_of, too_large_line}
use Rattle.bl_top_commands.specs.Refusals.{RefusedText}
use Rattle.bl_top_commands.specs.declared.status.Status.{Status}
use Rattle.bl_top_commands.specs.declared.status.Status.TheVariants as status
use Rattle.bl_gen.specs.Text.{most_stages, program_text}
use Rattle.bl_gen_run.specs.Runs.{IsGeneratedRun}
use Rattle.bl_io.specs.Left.{IsKept}
use Rattle.bl_tree.specs.declared.row.Last.{Last}
use Rattle.bl_tree.specs.declared.row.Last.TheVariants.{Open, Ended, Trap}

-- the status of a run that stands so after its rows
abbrev pub last_status : Last → Status
last_status Open = status.Ok
last_status Ended = status.Ok
last_status Trap = status.Trapped

-- why no program of so many stages is run, with the status and the line
pub data IsNotRun (stages : ℕ) : Status → List ℕ → Type 0 where
  too_large : most_stages < stages → IsNotRun stages status.TooLarge (too_large_line stages)
  -- a rule fails for the text
  refused : {line : List ℕ} → stages ≤ most_stages → RefusedText (Some (program_text stages)) line → IsNotRun stages status.Refused line
  short : IsNotRun stages status.NoMemory (line_of status.NoMemory)

-- the status with which the program of so many stages is made and run, and the line for `notes`
pub data GenEnds (c : Call) (stages : ℕ) : Status → List ℕ → Type 0 where
  -- the program ran with its one trace, and what is told of the trace was to be written on `out`
  ran : {ended : Status} (text : List ℕ) (last : Last) → IsGeneratedRun stages text last → WritesLines c.out text (last_status last) ended →
      GenEnds c stages ended (line_of ended)
  stopped : {ended : Status} {line : List ℕ} → IsNotRun stages ended line → IsKept c.out.before c.out.after → GenEnds c stages ended line
