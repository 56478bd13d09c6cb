-- The files of a job that were read, and those that were left as they are.
use Rattle.std.proofs.Common.{ℕ, List, [], ◌∷◌}
use Rattle.std.specs.Prelude.{Option}
use Rattle.bl_top_commands.specs.Laws.{KeptFilesAreWithinLimits}
use Rattle.bl_top_commands.specs.Reads.{FileRead, Reads, StandsWithin}
use Rattle.bl_io.specs.Left.{KeepsOthers}
use Rattle.bl_top_args.specs.Jobs.{Word}
use Rattle.bl_rows_stream.proofs.Takings.{kept-same}

-- one file, and then nothing
pub reads_first : KeptFilesAreWithinLimits → (file : FileRead) (files : List FileRead) (before after : Word → Option (List ℕ)) →
    StandsWithin file.limit (before file.name) (after file.name) → KeepsOthers file.name before after → Reads (file ∷ files) before after
reads_first kept file files before after within others = (after, within, others, kept files after)

-- one file, and there is no other
pub reads_one : (file : FileRead) (before after : Word → Option (List ℕ)) →
    StandsWithin file.limit (before file.name) (after file.name) → KeepsOthers file.name before after → Reads (file ∷ []) before after
reads_one file before after within others = (after, within, others, λ name. kept-same (after name))
