-- How `link` ends.
use Rattle.std.specs.Prelude.{ℕ, List}
use Rattle.bl_io.specs.Left.{IsKept}
use Rattle.bl_link_files.specs.Programs.{IsProgramOfFiles}
use Rattle.bl_module_files.specs.Turns.{Left}
use Rattle.bl_top.specs.Build.{IsBuiltOfProgram}
use Rattle.bl_top_args.specs.Jobs.{Word}
use Rattle.bl_top_commands.specs.Calls.{Call}
use Rattle.bl_top_commands.specs.Linked.{AreNotLinked}
use Rattle.bl_top_commands.specs.Notes.{line_of}
use Rattle.bl_top_commands.specs.Results.{WritesResult}
use Rattle.bl_top_commands.specs.declared.status.Status.{Status}
use Rattle.bl_tree.specs.declared.program.Program.{Program}

-- the bytes are a C text of the program of source files, with its functions, counters and `if`s
pub record IsBuiltOfFiles (left : Left) (sources : List Word) (text : List ℕ) : Type 0 where
  pub program : Program
  pub of_files : IsProgramOfFiles left sources program
  pub is : IsBuiltOfProgram program.structs program.units program.entry text

-- the status with which a C text of source files is built, and the lines for `notes`
pub data LinkEnds (c : Call) (sources : List Word) : Status → List ℕ → Type 0 where
  written : {ended : Status} → WritesResult (IsBuiltOfFiles c.left sources) c.out ended → LinkEnds c sources ended (line_of ended)
  stopped : {ended : Status} {line : List ℕ} → AreNotLinked c sources ended line → IsKept c.out.before c.out.after → LinkEnds c sources ended line
