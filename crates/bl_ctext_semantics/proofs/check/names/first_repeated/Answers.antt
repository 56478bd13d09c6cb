use Rattle.bl_ctext_semantics.specs.Faults.{distinct_names}
use Rattle.bl_ctext_semantics.specs.inner.Maps.{text_at}
use Rattle.bl_ctext_semantics.proofs.NameLemmas.{repeated-next}
use Rattle.bl_ctext_semantics.proofs.check.names.first_repeated.Goals as goal

pub loop-name-preserved : goal.loop-name-preserved
loop-name-preserved c =
    rw (c.earlier-first.ensures, c.unless.ensures distinct_names, c.has.ensures)
    (repeated-next (text_at c.loop-name.seen) (text_at c.add.new.map) c.args.entries.now c.loop-name.name-index _ c.loop-name.first _ c.loop-name-test.true
    c.in_ok-add.ensures c.loop-name.invariant)
