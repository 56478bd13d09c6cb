use Rattle.std.proofs.lemmas.Result.{on_ok_weaker}
use Rattle.bl_graph.proofs.FoundLemmas.{met_both}
use Rattle.bl_graph.proofs.flow.found.link_met.Goals as goal

pub returns : goal.returns
returns c =
    on_ok_weaker c.link_fronts.result (λ fronts ns tells. met_both c.args.accesses.now c.link.new.accesses c.link_fronts.new.accesses c.args.to
    c.args.notes.now ns c.args.path.now c.at.result c.at.ensures tells c.in_ok-link.ensures (fronts ns)) c.link_fronts.ensures
