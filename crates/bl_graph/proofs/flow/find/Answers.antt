use Rattle.std.proofs.Common.{sym, ◌∙◌}
use Rattle.std.proofs.lemmas.Result.{on_ok_weaker}
use Rattle.bl_graph.specs.inner.Found.{is_reached, links_met}
use Rattle.bl_graph.proofs.FoundLemmas.{linked_elsewhere, linked_where, met_end}
use Rattle.bl_graph.proofs.flow.find.Goals as goal

pub returns-then-is_reached : goal.returns-then-is_reached
returns-then-is_reached c =
    on_ok_weaker c.link_all_met.result (λ met ns tells. linked_where c.args.accesses.now c.link_all_met.new.accesses
    (is_reached c.args.deep c.args.node.now.mark) (links_met ns c.args.i c.args.node.now.reads) (sym c.is_reached.ensures ∙ c.if-is_reached.true)
    (met_end c.args.accesses.now c.link_all_met.new.accesses ns c.args.i c.deref.result.now c.args.node.now.reads c.deref.ensures (met ns tells)))
    c.link_all_met.ensures

pub returns : goal.returns
returns c ns tells =
    linked_elsewhere c.args.accesses.now (is_reached c.args.deep c.args.node.now.mark) (links_met ns c.args.i c.args.node.now.reads)
    (sym c.is_reached.ensures ∙ c.if-is_reached.false)
