use Rattle.std.proofs.Common.{subst}
use Rattle.bl_rows_stream.specs.Streams.{Streamed, course_from}
use Rattle.bl_top_commands.specs.Calls.{output_of}
use Rattle.bl_top_commands.specs.Rows.{IsInStep}
use Rattle.bl_top_commands.proofs.Streams.{streams_end, trace_in_step}
use Rattle.bl_top_commands.proofs.rows.run_over.Goals as goal

pub returns-clause-streams : goal.returns-clause-streams
returns-clause-streams g c =
    streams_end _ _ _ _ _ c.stream-finish.result c.end_of.result c.end_of.ensures
    (subst (λ r. Streamed (course_from r) (g.F.Files.left c.args.files.now c.args.rows.now)
    (g.F.Files.left c.stream-finish.new.files c.args.rows.now) (g.O.Sink.held c.args.out.now)
    (g.O.Sink.held c.stream-finish.new.out) c.stream-finish.result) c.requires.fresh c.stream-finish.ensures.streamed)
    c.stream-finish.ensures.read_fault c.stream-finish.ensures.write_fault

pub returns-clause-in_step : goal.returns-clause-in_step
returns-clause-in_step g c =
    let out = output_of (g.O.Sink.faults c.args.out.now) (g.O.Sink.faults c.stream-finish.new.out) (g.O.Sink.held c.args.out.now)
    (g.O.Sink.held c.stream-finish.new.out) in
    subst (λ r. IsInStep (course_from r) (g.F.Files.left c.args.files.now c.args.rows.now) (g.F.Files.left c.stream-finish.new.files c.args.rows.now) out)
    c.requires.fresh
    (trace_in_step c.args.runner (g.F.Files.left c.args.files.now c.args.rows.now) (g.F.Files.left c.stream-finish.new.files c.args.rows.now) out
    c.stream-finish.ensures.in_step)
