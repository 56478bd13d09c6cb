use Rattle.bl_rows.proofs.PlainRows.{ReadUpTo}
use Rattle.bl_rows.proofs.in_place.plain_row.Given as goal

abbrev pub invariant-columns : goal.invariant-columns
invariant-columns l = ReadUpTo l.columns l.tick l.bytes l.k l.end l.row
