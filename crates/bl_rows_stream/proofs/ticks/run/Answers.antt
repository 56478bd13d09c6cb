use Rattle.std.proofs.Common.{ap, ◌∙◌}
use Rattle.bl_tree.proofs.Basics.{drop_next}
use Rattle.bl_tree.specs.Ports.{row_fits}
use Rattle.bl_ctext_semantics.specs.Cells.{inputs_of}
use Rattle.bl_rows_stream.proofs.RowLoop.{next-fits}
use Rattle.bl_rows_stream.proofs.ticks.run.Goals as goal

pub tick-requires-clause-fits : goal.tick-requires-clause-fits
tick-requires-clause-fits c =
    let row = c.row-item.result in
    let next = drop_next c.args.rows.now c.rows.row-index row c.rows-test.true c.row-item.is in
    ap (λ file. row_fits (inputs_of file) row) c.rows.invariant.parts
    ∙ (next-fits (inputs_of c.args.runner.now.parts) c.args.rows.now c.rows.row-index row next c.rows.invariant.fit).0
