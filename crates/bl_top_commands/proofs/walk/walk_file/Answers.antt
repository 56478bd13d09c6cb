-- What was gathered for the columns of the program is walked.
use Rattle.std.proofs.Common.{subst}
use Rattle.std.proofs.lemmas.Result.{IfOk-weaker}
use Rattle.bl_top_commands.specs.inner.Walked.{ArePorts}
use Rattle.bl_top_commands.specs.Reads.{most_rows}
use Rattle.bl_tree.specs.declared.program.Program.{Program}
use Rattle.bl_top_commands.proofs.Walks.{is_walk, walk_read_failed}
use Rattle.bl_top_commands.proofs.walk.walk_file.Goals as goal
use Rattle.bl_rows_stream.proofs.Steps.{reads-none}

pub returns-in_err-ports-clause-reads : goal.returns-in_err-ports-clause-reads
returns-in_err-ports-clause-reads g c = reads-none most_rows (g.F.Files.left c.args.files.now c.args.rows.now)

pub returns-clause-walk : goal.returns-clause-walk
returns-clause-walk g c =
    let ports =
    subst (λ (p : Program). ArePorts p.units p.entry c.in_ok-ports.ports.ins c.in_ok-ports.ports.outs) c.program.ensures c.in_ok-ports.ensures in
    IfOk-weaker c.walk_rows.result _ _
    (λ w walks. is_walk _ _ _ _ _ _ _ _ _ _ _ _ _ ports c.in_ok-gathering.ensures.gathers walks) c.walk_rows.ensures

pub returns-clause-read_fault : goal.returns-clause-read_fault
returns-clause-read_fault g c =
    IfOk-weaker c.walk_rows.result _ _
    (λ w walks e. c.in_ok-gathering.ensures.read_fault (walk_read_failed _ _ _ _ _ _ _ _ _ _ walks e)) c.walk_rows.ensures
