use Rattle.bl_cause.proofs.ListedLemmas.{edges_more, writers_more}
use Rattle.bl_cause.proofs.listed.listed.Goals as goal

pub loop-access-preserved : goal.loop-access-preserved
loop-access-preserved c =
    record {
      writers = writers_more c.args.kept.accesses.now c.loop-access.access-index _ c.loop-access-test.true c.loop-access.writers c.deref.result.now
          c.push-in-loop-access.new.self c.in_ok-own.own c.loop-access.invariant.writers c.deref.ensures c.in_ok-own.ensures c.in_ok-push-2.ensures.ok;
      edges = edges_more c.args.kept.accesses.now c.loop-access.access-index _ c.loop-access-test.true c.args.kept.control.now c.loop-access.edges
          c.link.new.edges c.loop-access.writers c.deref-in-loop-access.result.now c.loop-access.invariant.writers c.loop-access.invariant.edges c.deref-in-loop-access.ensures
          c.in_ok-link.ensures;
    }
