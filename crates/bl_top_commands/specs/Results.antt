-- What is written on `out` of a command that writes one result: `build`, `check`, `bound` and `save`.
use Rattle.std.specs.Prelude.{ℕ, List}
use Rattle.bl_top_commands.specs.Calls.{HasRisen, Output}
use Rattle.bl_top_commands.specs.declared.status.Status.{Status}
use Rattle.bl_top_commands.specs.declared.status.Status.TheVariants as status
use Rattle.bl_io.specs.Held.{Appends, AppendsPart}
use Rattle.bl_io.specs.Left.{IsKept}

-- a result was written: all of it grew, or a prefix where a write failed or wanted memory, or memory was refused before
pub data WritesResult (IsResult : List ℕ → Type 0) (out : Output) : Status → Type 0 where
  whole : (text : List ℕ) → IsResult text → Appends out.before text out.after → WritesResult IsResult out status.Ok
  fault : (text : List ℕ) → IsResult text → AppendsPart out.before text out.after → HasRisen out.faults → WritesResult IsResult out status.WriteFault
  want : (text : List ℕ) → IsResult text → AppendsPart out.before text out.after → WritesResult IsResult out status.NoMemory
  nothing : IsKept out.before out.after → WritesResult IsResult out status.NoMemory
