use Rattle.std.proofs.Common.{sym, subst, ◌∙◌, length}
use Rattle.bl_cause.specs.inner.Lists.{Rows, RowsWithin, edges_into}
use Rattle.bl_cause.proofs.RowLemmas.{rows_within}
use Rattle.bl_cause.proofs.numbering.numbers.Goals as goal

pub lower-requires-clause-rows : goal.lower-requires-clause-rows
lower-requires-clause-rows c =
    subst (RowsWithin (length c.loop-number.numbers)) (sym c.deref.ensures)
    (subst (λ n. RowsWithin n c.in_ok-rows.rows) (sym c.loop-number.invariant.one_each)
    (rows_within (λ edge. edge.to) c.args.edges.now c.args.count c.in_ok-rows.rows c.requires.ends c.in_ok-rows.ensures))

pub loop-number-preserved : goal.loop-number-preserved
loop-number-preserved c = record {
  one_each = c.in_ok-lower.ensures.length ∙ c.loop-number.invariant.one_each;
  fall = c.in_ok-lower.ensures.fall c.args.edges.now
      (subst (Rows (edges_into c.args.edges.now) (length c.loop-number.numbers)) (sym c.deref.ensures)
      (subst (λ n. Rows (edges_into c.args.edges.now) n c.in_ok-rows.rows) (sym c.loop-number.invariant.one_each) c.in_ok-rows.ensures))
      c.loop-number.invariant.fall;
}
