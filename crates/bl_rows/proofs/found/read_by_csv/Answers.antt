use Rattle.std.proofs.Common.{List, ℕ, [], Bor, Some}
use Rattle.csv.specs.Records.{fields_of}
use Rattle.bl_rows.proofs.Csv.{line_none, line_one, line_several}
use Rattle.bl_rows.proofs.found.read_by_csv.Goals as goal

pub returns-then-not-branch : goal.returns-then-not-branch
returns-then-not-branch c = line_none {R = Bor (List ℕ)}
    (λ r. Some r.now) c.line_reader-reader.result c.next_record.new.reader c.args.line.now c.in_ok-next_record.field-0 (fields_of c.next_record.new.fields)
    (record { config = c.line_reader-reader.ensures.config; state = c.line_reader-reader.ensures.state; source = c.line_reader-reader.ensures.source })
    c.in_ok-next_record.ensures.reads c.if-not-branch.true

pub returns-then-branch : goal.returns-then-branch
returns-then-branch c = line_several {R = Bor (List ℕ)}
    (λ r. Some r.now) c.line_reader-reader.result c.next_record.new.reader c.next_record-2.new.reader c.args.line.now
    c.in_ok-next_record.field-0 c.in_ok-next_record-2.field-0 (fields_of c.next_record.new.fields) (fields_of c.next_record-2.new.fields)
    (record { config = c.line_reader-reader.ensures.config; state = c.line_reader-reader.ensures.state; source = c.line_reader-reader.ensures.source })
    c.in_ok-next_record.ensures.reads c.if-not-branch.false c.in_ok-next_record-2.ensures.reads c.if-branch.true []

pub returns : goal.returns
returns c = line_one {R = Bor (List ℕ)} (λ r. Some r.now) c.line_reader-reader.result c.next_record.new.reader
    c.next_record-2.new.reader c.args.line.now c.in_ok-next_record.field-0 c.in_ok-next_record-2.field-0
    (fields_of c.next_record.new.fields) (fields_of c.next_record-2.new.fields)
    (record { config = c.line_reader-reader.ensures.config; state = c.line_reader-reader.ensures.state; source = c.line_reader-reader.ensures.source })
    c.in_ok-next_record.ensures.reads c.if-not-branch.false c.in_ok-next_record-2.ensures.reads c.if-branch.false
