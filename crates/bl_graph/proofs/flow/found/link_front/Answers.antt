use Rattle.std.proofs.lemmas.Result.{on_ok_weaker}
use Rattle.bl_graph.specs.inner.Noted.{front}
use Rattle.bl_graph.proofs.FoundLemmas.{front_linked}
use Rattle.bl_graph.proofs.flow.found.link_front.Goals as goal

pub returns : goal.returns
returns c =
    on_ok_weaker c.link.result (λ linked ns tells. front_linked c.args.accesses.now c.link.new.accesses c.args.to c.args.notes.now ns
    c.in_ok-front.front (front c.args.path.now c.args.count) c.at.result c.in_ok-front.ensures c.at.ensures tells linked) c.link.ensures
