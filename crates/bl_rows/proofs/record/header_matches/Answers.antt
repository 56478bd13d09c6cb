use Rattle.std.proofs.Common.{arith}
use Rattle.csv.specs.Records.{fields_of}
use Rattle.bl_rows.proofs.Records.{header_length, names_differ, names_agree}
use Rattle.bl_rows.proofs.record.header_matches.Goals as goal

pub returns-then-len : goal.returns-then-len
returns-then-len c = header_length c.args.columns.now (fields_of c.args.fields.now) (λ e. c.if-len.true (omega (arith, c.len.ensures, c.len-2.ensures, e)))

pub returns-then-not-field_is-2 : goal.returns-then-not-field_is-2
returns-then-not-field_is-2 c = names_differ c.args.columns.now c.deref.result.now
    (fields_of c.args.fields.now) c.columns.k c.index-deref-k.result c.as_bytes.result.now c.as_str.result.now
    c.field_is-in-columns.result _ c.deref.ensures (omega arith) c.index-deref-k.is c.as_bytes.ensures.value c.as_str.ensures
    c.field_is-in-columns.ensures c.columns.invariant c.if-not-field_is-2.true

pub columns-preserved : goal.columns-preserved
columns-preserved c = names_agree c.args.columns.now c.deref.result.now
    (fields_of c.args.fields.now) c.columns.k c.index-deref-k.result c.as_bytes.result.now c.as_str.result.now
    c.field_is-in-columns.result _ c.deref.ensures (omega arith) c.index-deref-k.is c.as_bytes.ensures.value c.as_str.ensures
    c.field_is-in-columns.ensures c.columns.invariant c.if-not-field_is-2.false
