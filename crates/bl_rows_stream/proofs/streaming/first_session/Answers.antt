use Rattle.std.proofs.Common.{ap, ◌∙◌}
use Rattle.bl_ctext_semantics.specs.Cells.{inputs_of}
use Rattle.bl_rows.specs.Reading.{empty_reading, rows_of}
use Rattle.bl_rows_stream.proofs.Readers.{fed-first}
use Rattle.bl_rows_stream.proofs.streaming.first_session.Goals as goal

pub returns-clause-fed : goal.returns-clause-fed
returns-clause-fed c =
    fed-first (inputs_of c.args.runner.now.parts) c.in_ok-new.field-0 (c.in_ok-new.ensures.begun ∙ ap empty_reading c.inputs.ensures)
    (λ bytes. c.in_ok-new.ensures.told bytes ∙ ap (rows_of bytes) c.inputs.ensures)

pub returns-clause-begun : goal.returns-clause-begun
returns-clause-begun c = c.in_ok-new.ensures.begun ∙ ap empty_reading c.inputs.ensures
