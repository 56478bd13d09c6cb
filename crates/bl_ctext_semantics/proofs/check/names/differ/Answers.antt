use Rattle.std.proofs.Common.{[]}
use Rattle.bl_ctext_semantics.specs.inner.Maps.{text_at}
use Rattle.bl_ctext_semantics.proofs.NameLemmas.{differ-next}
use Rattle.bl_ctext_semantics.proofs.check.names.differ.Goals as goal

pub loop-name-preserved : goal.loop-name-preserved
loop-name-preserved c =
    rw (c.both-answer.ensures, c.has.ensures)
    (differ-next (text_at c.loop-name.seen) (text_at c.add.new.map) c.args.names.now c.loop-name.name-index (record { ref_ptr = (0, 0); now = [] })
    c.loop-name.answer _ c.loop-name-test.true c.in_ok-add.ensures c.loop-name.invariant)
