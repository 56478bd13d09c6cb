use Rattle.std.proofs.Common.{◌<◌, subst}
use Rattle.std.specs.Prelude.{All, slice_index}
use Rattle.std.proofs.lemmas.List.{take_all}
use Rattle.bl_tree.specs.declared.graph.Edge.{Edge}
use Rattle.bl_cause.proofs.RankLemmas.{rise_of_all, rises_more}
use Rattle.bl_cause.proofs.rising.rises.Goals as goal

pub loop-edge-preserved : goal.loop-edge-preserved
loop-edge-preserved c =
    rises_more c.args.edges.now c.args.lows.now c.args.highs.now c.loop-edge.edge-index _ c.number_in.result c.number_in-in-loop-edge.result
    c.loop-edge-test.true c.loop-edge.invariant c.number_in.ensures c.number_in-in-loop-edge.ensures c.if-number_in.false

pub returns-clause-rise : goal.returns-clause-rise
returns-clause-rise c = λ is.
    rise_of_all c.args.edges.now c.args.lows.now c.args.highs.now
    (subst (All (λ (edge : Edge). slice_index c.args.lows.now edge.from < slice_index c.args.highs.now edge.to))
    (take_all c.loop-edge.edge-index c.args.edges.now c.loop-edge-test.false) c.loop-edge.invariant)
