use Rattle.std.proofs.Common.{take, take_all}
use Rattle.bl_graph.proofs.AccessLemmas.{gains_none}
use Rattle.bl_graph.proofs.FoundLemmas.{met_end, met_step}
use Rattle.bl_graph.proofs.NoteLemmas.{tables_kept}
use Rattle.bl_graph.proofs.flow.found.link_all_met.Goals as goal

pub loop-path-init : goal.loop-path-init
loop-path-init c ns tells = gains_none c.args.accesses.now

pub loop-path-preserved : goal.loop-path-preserved
loop-path-preserved c ns tells =
    met_step c.args.accesses.now c.loop-path.accesses c.link_met.new.accesses ns c.args.to c.args.paths.now c.loop-path.path-index c.path-item.result
    c.loop-path-test.true c.path-item.is (c.loop-path.invariant ns tells)
    (c.in_ok-link_met.ensures ns (tables_kept c.args.accesses.now c.loop-path.accesses _ (c.loop-path.invariant ns tells) c.args.notes.now ns tells))

pub returns : goal.returns
returns c ns tells =
    met_end c.args.accesses.now c.loop-path.accesses ns c.args.to (take c.loop-path.path-index c.args.paths.now) c.args.paths.now
    (take_all c.loop-path.path-index c.args.paths.now c.loop-path-test.false) (c.loop-path.invariant ns tells)
