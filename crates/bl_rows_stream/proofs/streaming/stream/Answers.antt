use Rattle.bl_rows_stream.proofs.Steps.{streamed-by}
use Rattle.bl_rows_stream.proofs.streaming.stream.Goals as goal

pub returns-clause-streamed : goal.returns-clause-streamed
returns-clause-streamed g c = streamed-by c.args.runner.now _ _ _ _ _ c.run_report.result c.run_report.ensures.reported
