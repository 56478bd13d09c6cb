use Rattle.std.proofs.Common.{◌≡◌, ◌-◌, arith}
use Rattle.bl_graph.proofs.AccessLemmas.{gains_none}
use Rattle.bl_graph.proofs.FoundLemmas.{nodes_end, nodes_step}
use Rattle.bl_graph.proofs.NoteLemmas.{tables_kept}
use Rattle.bl_graph.proofs.flow.find_all.Goals as goal

pub loop-i-init : goal.loop-i-init
loop-i-init c ns tells =
    let none : 0 ≡ c.args.span.first - c.args.span.first = omega arith in
    nodes_end c.args.accesses.now c.args.accesses.now ns c.args.nodes.now c.args.deep c.args.span.first 0 (c.args.span.first - c.args.span.first) none
    (gains_none c.args.accesses.now)

pub loop-i-preserved : goal.loop-i-preserved
loop-i-preserved c ns tells =
    nodes_step c.args.accesses.now c.loop-i.accesses c.find.new.accesses ns c.args.nodes.now c.args.deep c.args.span.first c.loop-i.i
    c.index-nodes-i.result c.loop-i.auto.i (omega arith) c.index-nodes-i.is (c.loop-i.invariant ns tells)
    (c.in_ok-find.ensures ns (tables_kept c.args.accesses.now c.loop-i.accesses _ (c.loop-i.invariant ns tells) c.args.notes.now ns tells))

pub returns : goal.returns
returns c ns tells =
    let last : c.loop-i.i - c.args.span.first ≡ c.args.span.end - c.args.span.first = omega arith in
    nodes_end c.args.accesses.now c.loop-i.accesses ns c.args.nodes.now c.args.deep c.args.span.first (c.loop-i.i - c.args.span.first)
    (c.args.span.end - c.args.span.first) last (c.loop-i.invariant ns tells)
