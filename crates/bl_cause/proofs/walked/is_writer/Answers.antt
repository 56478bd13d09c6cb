use Rattle.std.proofs.Common.{◌<◌, arith, subst, suc, sym}
use Rattle.std.specs.Prelude.{Contains}
use Rattle.bl_graph.specs.Accesses.{writers_at, writers_of}
use Rattle.bl_cause.specs.inner.Walked.{up_to}
use Rattle.bl_cause.proofs.walked.is_writer.Goals as goal

pub returns-then-writes : goal.returns-then-writes
returns-then-writes c is =
    c.loop-at.invariant c.args.node
    (subst (λ at. Contains (writers_at (writers_of c.args.accesses.now) at) c.args.node) (sym c.in-Some.is) (c.writes.ensures c.if-writes.true))

pub loop-at-smaller : goal.loop-at-smaller
loop-at-smaller c =
    subst (λ at. up_to c.write_before-at.result < up_to at) (sym c.in-Some.is)
    (let earlier = c.write_before-at.ensures.earlier in let less : up_to c.write_before-at.result < suc c.in-Some.k = omega arith in less)

pub loop-at-preserved : goal.loop-at-preserved
loop-at-preserved c = λ node there.
    c.loop-at.invariant node
    (subst (λ at. Contains (writers_at (writers_of c.args.accesses.now) at) node) (sym c.in-Some.is) (c.write_before-at.ensures.stays node there))
