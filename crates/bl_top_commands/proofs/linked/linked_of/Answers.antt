-- Why the job stops, and what is left of its files.
use Rattle.std.proofs.Common.{map, string_bytes}
use Rattle.bl_top_commands.proofs.Cuts.{reads_sources}
use Rattle.bl_top_commands.proofs.NotLinked.{not_linked}
use Rattle.bl_top_commands.proofs.linked.linked_of.Goals as goal

pub returns-in-Ok-clause-reads : goal.returns-in-Ok-clause-reads
returns-in-Ok-clause-reads g c =
    reads_sources (map string_bytes c.args.sources.now) (g.F.Files.left c.args.files.now) (g.F.Files.left c.program_of_files.new.files)
    c.program_of_files.ensures.reads

pub returns-in-Err-clause-stopped : goal.returns-in-Err-clause-stopped
returns-in-Err-clause-stopped g c = λ out notes. not_linked _ _ c.in-Err.fault _ c.in-Err.ensures.fault c.end_at_program.ensures

pub returns-in-Err-clause-reads : goal.returns-in-Err-clause-reads
returns-in-Err-clause-reads g c =
    reads_sources (map string_bytes c.args.sources.now) (g.F.Files.left c.args.files.now) (g.F.Files.left c.program_of_files.new.files)
    c.program_of_files.ensures.reads
