use Rattle.bl_ctext_semantics.specs.Cells.{outputs_of}
use Rattle.bl_rows_stream.proofs.RowLoop.{long-after}
use Rattle.bl_rows_stream.proofs.ticks.tick.Goals as goal

pub returns-clause-long : goal.returns-clause-long
returns-clause-long c =
    long-after (outputs_of c.args.runner.now.parts) c.args.runner.now c.args.ins.now c.tick_counted-answer.new.outs c.args.ticks.now.outputs
    c.tick_counted-answer.result c.tick_counted-answer.ensures.answer c.tick_counted-answer.ensures.outputs c.tick_counted-answer.ensures.fit c.requires.long
