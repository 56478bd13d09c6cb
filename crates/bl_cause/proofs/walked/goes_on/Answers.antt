use Rattle.std.proofs.Common.{nat_eq}
use Rattle.std.proofs.lemmas.Bool.{and_parts}
use Rattle.bl_tree.proofs.Basics.{same_number}
use Rattle.bl_cause.proofs.walked.goes_on.Goals as goal

pub returns-clause-from : goal.returns-clause-from
returns-clause-from c is =
    let both = and_parts (nat_eq c.args.passed.edge.from c.args.at) c.is_edge.result is in
    same_number c.args.passed.edge.from c.args.at both.0

pub returns-clause-there : goal.returns-clause-there
returns-clause-there c is =
    let both = and_parts (nat_eq c.args.passed.edge.from c.args.at) c.is_edge.result is in
    c.is_edge.ensures both.1
