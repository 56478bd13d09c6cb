use Rattle.csv.specs.Records.{fields_of, partial_of}
use Rattle.bl_rows.proofs.Plain.{Split}
use Rattle.bl_rows.proofs.found.split_plain.Given as goal

abbrev pub invariant-bytes : goal.invariant-bytes
invariant-bytes l = Split l.line l.start l.i (fields_of l.fields) (partial_of l.fields)
