use Rattle.std.proofs.Common.{arith, ◌+◌}
use Rattle.csv.specs.Records.{fields_of, partial_of}
use Rattle.bl_rows.proofs.Plain.{split_start, split_comma, split_plain, split_end, split_same, differs}
use Rattle.bl_rows.proofs.found.split_plain.Goals.{then-line-i-eq44+in_ok-push_field, else-line-i-eq44}
use Rattle.bl_rows.proofs.found.split_plain.Goals as goal

pub bytes-init : goal.bytes-init
bytes-init c = split_start c.args.line.now (fields_of c.clear.new.self) (partial_of c.clear.new.self) c.clear.ensures.fields c.clear.ensures.partial

pub bytes-preserved : goal.bytes-preserved
bytes-preserved c = elim c.if-line-i-eq44.branch [
  | then-line-i-eq44+in_ok-push_field w ↦ split_same c.args.line.now (c.bytes.i + 1) _ _ _ _ w.start-is w.fields-is
      (split_comma c.args.line.now c.bytes.start c.bytes.i (fields_of c.bytes.fields) (fields_of w.push_field.new.self)
      (partial_of c.bytes.fields) (partial_of w.push_field.new.self)
      c.bytes.invariant c.bytes-test.true w.if-line-i-eq44.true w.in_ok-push_field.ensures.fields w.in_ok-push_field.ensures.partial)
  | else-line-i-eq44 w ↦ split_same c.args.line.now (c.bytes.i + 1) _ _ _ _ w.start-is w.fields-is
      (split_plain c.args.line.now c.bytes.start c.bytes.i (fields_of c.bytes.fields)
      (partial_of c.bytes.fields) c.is_special.result c.bytes.invariant c.bytes-test.true
      c.is_special.ensures c.if-is_special.false (differs _ _ w.if-line-i-eq44.false))
]

pub returns : goal.returns
returns c = λ _. split_end c.args.line.now c.bytes.start c.bytes.i (fields_of c.bytes.fields) (fields_of c.push_field-2.new.self)
    (partial_of c.bytes.fields) c.bytes.invariant
    c.requires (differs _ _ c.if-line.false) (omega arith) c.in_ok-push_field-2.ensures.fields
