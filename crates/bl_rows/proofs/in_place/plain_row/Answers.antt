use Rattle.std.proofs.Common.{◌∙◌, ap, arith, rules, slice_set, sym}
use Rattle.std.specs.Int.{w128}
use Rattle.std.proofs.lemmas.Grind.{common_steps}
use Rattle.std.proofs.lemmas.Int.{to_z-of_z}
use Rattle.bl_tree.specs.declared.row.Column.{Column}
use Rattle.bl_rows.proofs.PlainRows.{read_all, read_more, read_start}
use Rattle.bl_rows.proofs.in_place.plain_row.Goals as goal

pub columns-init : goal.columns-init
columns-init c = read_start c.args.columns.now c.args.tick c.args.bytes.now c.in-Some.first.number c.in-Some.first.end c.in_ok-row.row
    c.in-Some.ensures c.if-first-tick.false (grind (arith, common_steps, c.in_ok-row.ensures, c.len.ensures))

pub columns-preserved : goal.columns-preserved
columns-preserved c = read_more c.args.columns.now c.args.tick c.args.bytes.now c.columns.k c.columns.end c.in-Some-value_behind.field.end
    c.columns.row c.set.new.self c.index-deref-k.result _ c.in-Some-value_behind.field.number c.columns.invariant (omega arith)
    (rw c.deref.ensures at c.index-deref-k.is) (ap (λ (q : Column). q.ty) (sym c.index-deref-k.is)) c.in-Some-value_behind.ensures
    (c.set.ensures ∙ ap (λ z. slice_set c.columns.row c.columns.k z) (to_z-of_z w128 c.in-Some-value_behind.field.number (search rules)))

pub returns : goal.returns
returns c = read_all c.args.columns.now c.args.tick c.args.bytes.now c.columns.k c.columns.end c.columns.row c.columns.invariant (omega arith)
    (c.has_byte.ensures.inside c.if-not-has_byte.false) (c.has_byte.ensures.byte c.if-not-has_byte.false)
