use Rattle.std.proofs.lemmas.List.Elements.{Contains-append_left, Contains-append_right}
use Rattle.bl_graph.specs.Accesses.{flows}
use Rattle.bl_cause.proofs.walked.is_edge.Goals as goal

pub returns-then-passed : goal.returns-then-passed
returns-then-passed c is =
    Contains-append_right c.args.kept.control.now (flows c.args.kept.accesses.now) c.args.passed.edge (c.is_made.ensures is)

pub returns-else-passed : goal.returns-else-passed
returns-else-passed c is =
    Contains-append_left c.args.kept.control.now (flows c.args.kept.accesses.now) c.args.passed.edge (c.is_control.ensures is)
