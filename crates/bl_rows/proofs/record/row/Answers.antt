use Rattle.std.proofs.Common.{arith}
use Rattle.csv.specs.Records.{fields_of}
use Rattle.bl_rows.proofs.Records.{row_length}
use Rattle.bl_rows.proofs.record.row.Goals as goal

pub returns-then-len : goal.returns-then-len
returns-then-len c = row_length c.args.columns.now c.args.tick (fields_of c.args.fields.now)
    (λ e. c.if-len.true (omega (arith, c.len.ensures, c.len-2.ensures, e)))
