use Rattle.std.proofs.Common.{◌≡◌, take}
use Rattle.bl_rows.proofs.rows.copy_columns.Given as goal

abbrev pub invariant-columns : goal.invariant-columns
invariant-columns l = l.copies ≡ take l.column-index l.columns
