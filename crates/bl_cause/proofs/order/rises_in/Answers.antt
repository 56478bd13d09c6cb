use Rattle.std.proofs.lemmas.Bool.{and_parts}
use Rattle.bl_graph.specs.Accesses.{flows}
use Rattle.bl_cause.proofs.LimitLemmas.{rise_both}
use Rattle.bl_cause.proofs.order.rises_in.Goals as goal

pub returns : goal.returns
returns c is =
    let both = and_parts c.rises.result c.in_ok-by_data.by_data is in
    rise_both c.args.kept.control.now (flows c.args.kept.accesses.now) c.args.ranks.now c.args.ranks.now (c.rises.ensures.rise both.0)
    (c.in_ok-by_data.ensures both.1)
