use Rattle.std.proofs.Common.{◌≡◌, ◌+◌, drop, take, length}
use Rattle.csv.specs.Records.{fields_of}
use Rattle.bl_rows.specs.Fields.{values_of}
use Rattle.bl_rows.proofs.Records.{after_front}
use Rattle.bl_rows.proofs.record.values.Given as goal

abbrev pub invariant-columns : goal.invariant-columns
invariant-columns l = record {
  length : length l.row ≡ length l.columns;
  values : values_of l.columns (drop 1 (fields_of l.fields))
      ≡ after_front (take l.k l.row) (values_of (drop l.k l.columns) (drop (l.k + 1) (fields_of l.fields)));
}
