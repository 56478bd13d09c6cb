use Rattle.std.proofs.Common.{[], ap, sym}
use Rattle.bl_graph.specs.Accesses.{links, writers_at, writers_of}
use Rattle.bl_graph.proofs.AccessLemmas.{gains_none, gains_read, gains_same}
use Rattle.bl_graph.proofs.flow.found.link.Goals as goal

pub returns-in_ok-push-in-Some : goal.returns-in_ok-push-in-Some
returns-in_ok-push-in-Some c =
    gains_same c.args.accesses.now c.push.new.self _ _
    (ap (λ found. links c.args.to (writers_at (writers_of c.args.accesses.now) found)) (sym c.in-Some.is))
    (gains_read c.args.accesses.now c.push.new.self c.args.to c.in-Some.from c.in_ok-push-in-Some.ensures.ok)

pub returns-in-None : goal.returns-in-None
returns-in-None c =
    gains_same c.args.accesses.now c.args.accesses.now [] _
    (ap (λ found. links c.args.to (writers_at (writers_of c.args.accesses.now) found)) (sym c.in-None.is))
    (gains_none c.args.accesses.now)
