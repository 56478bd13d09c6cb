use Rattle.bl_top_commands.specs.Calls.{output_of}
use Rattle.bl_top_commands.proofs.Streams.{streams_end, trace_in_step}
use Rattle.bl_top_commands.proofs.rows.go_over.Goals as goal

pub returns-clause-streams : goal.returns-clause-streams
returns-clause-streams g c =
    streams_end _ _ _ _ _ c.stream-finish.result c.end_of.result c.end_of.ensures c.stream-finish.ensures.streamed
    c.stream-finish.ensures.read_fault c.stream-finish.ensures.write_fault

pub returns-clause-in_step : goal.returns-clause-in_step
returns-clause-in_step g c =
    trace_in_step c.args.runner (g.F.Files.left c.args.files.now c.args.rows.now) (g.F.Files.left c.stream-finish.new.files c.args.rows.now)
    (output_of (g.O.Sink.faults c.args.out.now) (g.O.Sink.faults c.stream-finish.new.out) (g.O.Sink.held c.args.out.now)
    (g.O.Sink.held c.stream-finish.new.out)) c.stream-finish.ensures.in_step
