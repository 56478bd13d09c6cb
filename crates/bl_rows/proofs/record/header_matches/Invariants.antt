use Rattle.std.proofs.Common.{◌≡◌, ◌+◌, drop}
use Rattle.csv.specs.Records.{fields_of}
use Rattle.bl_rows.specs.Fields.{is_header, are_names}
use Rattle.bl_rows.proofs.record.header_matches.Given as goal

abbrev pub invariant-columns : goal.invariant-columns
invariant-columns l = is_header l.columns (fields_of l.fields) ≡ are_names (drop l.k l.columns) (drop (l.k + 1) (fields_of l.fields))
