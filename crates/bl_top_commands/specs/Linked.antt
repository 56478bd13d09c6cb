-- Why a job stops at the source files that it links.
use Rattle.std.specs.Prelude.{ℕ, List, []}
use Rattle.bl_link_files.specs.Programs.{FailsInTurn, FilesFailTogether, IsUnreadInTurn}
use Rattle.bl_top_args.specs.Jobs.{Word}
use Rattle.bl_top_commands.specs.Calls.{Call}
use Rattle.bl_top_commands.specs.Notes.{line_of}
use Rattle.bl_top_commands.specs.Refusals.{file_line, refusal_line}
use Rattle.bl_top_commands.specs.declared.status.Status.{Status}
use Rattle.bl_top_commands.specs.declared.status.Status.TheVariants as status
use Rattle.bl_tree.specs.declared.place.Place.{Place}
use Rattle.bl_tree.specs.declared.rule.Rule.{Rule}

-- why source files aren't linked, with the status and the line
pub data AreNotLinked (c : Call) (sources : List Word) : Status → List ℕ → Type 0 where
  -- the files before this one are good, and this is the first rule that fails for it behind their faces
  refused_in : (file : ℕ) (rule : Rule) (place : Place) (also : List Place) → FailsInTurn c.left sources file rule place also →
      AreNotLinked c sources status.Refused (file_line file (refusal_line rule place also))
  -- all files are good, and this is the first rule that fails for their joined texts: Frames or Cells
  refused_together : (file : ℕ) (rule : Rule) (place : Place) → FilesFailTogether c.left sources file rule place →
      AreNotLinked c sources status.Refused (file_line file (refusal_line rule place []))
  unread : IsUnreadInTurn c.left (λ name. (c.file name).before) (λ name. (c.file name).after) sources →
      AreNotLinked c sources status.ReadFault (line_of status.ReadFault)
  short : AreNotLinked c sources status.NoMemory (line_of status.NoMemory)
